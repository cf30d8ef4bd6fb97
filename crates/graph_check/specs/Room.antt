-- What the room of a check keeps of the last one.
use Rattle.std.specs.Prelude.{ℕ}
use Rattle.graph_check.specs.declared.scratch.Scratch.{Scratch}

-- the number of cover pieces that were looked at
abbrev pub pieces_in : Scratch → ℕ
pieces_in room = room.pieces
