use Rattle.std.proofs.Common.{◌≡◌, ◌++◌, take, codes, flat_map}
use Rattle.top_hints.specs.Line.{piece_text}
use Rattle.top_hints.proofs.piece.line.Given as goal

-- the pieces so far stand behind the program's name
abbrev pub invariant-loop-piece : goal.invariant-loop-piece
invariant-loop-piece l = record {
  line : l.line.items ≡ codes "raidctl: " ++ flat_map piece_text (take l.piece-index l.pieces);
}
