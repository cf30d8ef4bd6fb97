use Rattle.std.proofs.Common.{◌≡◌, ◌≤◌, ◌+◌, ◌*◌, ◌++◌, length, take, codes, decimal, flat_map}
use Rattle.top_looks.proofs.label.set_numbers.Given as goal

-- the numbers so far stand behind the word
abbrev pub invariant-loop-number : goal.invariant-loop-number
invariant-loop-number l = record {
  text : l.line ≡ codes "label" ++ flat_map (λ number. codes " " ++ decimal number) (take l.number-index l.numbers);
  short : length l.line ≤ 5 + 41 * l.number-index;
}
