mod SmallSetups
mod SmallRebuilds
mod ShortTraces
