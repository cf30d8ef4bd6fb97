mod Trials
mod Setups
mod TwoColumns
mod Losing
