mod ListInTurn
mod LooksInTurn
mod Printed
mod MembersInTurn
mod Nearest
mod OwnColumns
mod Here
mod Refusals
