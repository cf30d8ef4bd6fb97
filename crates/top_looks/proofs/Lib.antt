mod LinesFrom
mod ShortNames
mod OwnOrSpare
