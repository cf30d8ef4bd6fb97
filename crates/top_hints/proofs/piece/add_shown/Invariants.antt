use Rattle.std.proofs.Common.{◌≡◌, ◌++◌, take}
use Rattle.top_hints.specs.Line.{shown}
use Rattle.top_hints.proofs.piece.add_shown.Given as goal

-- the bytes so far stand behind what there was
abbrev pub invariant-loop-byte : goal.invariant-loop-byte
invariant-loop-byte l = record {
  line : l.line.items ≡ l.initial.line.items ++ shown (take l.byte-index l.text);
}
