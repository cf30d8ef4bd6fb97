use Rattle.std.proofs.Common.{◌≡◌, ◌≤◌, ◌+◌, ◌*◌, ◌++◌, length, take}
use Rattle.raid_script.specs.Steps.{numbers_text}
use Rattle.raid_script.proofs.causes.push_numbers.Given as goal

-- the numbers so far stand behind what there was
abbrev pub invariant-loop-number : goal.invariant-loop-number
invariant-loop-number l = record {
  text : l.line ≡ l.fn.line ++ numbers_text (take l.number-index l.numbers);
  short : length l.line ≤ length l.fn.line + 41 * l.number-index;
}
