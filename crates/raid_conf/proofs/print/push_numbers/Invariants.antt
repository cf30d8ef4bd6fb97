use Rattle.std.proofs.Common.{◌≡◌, ◌++◌, drop, map}
use Rattle.raid_conf.specs.Form.{Number}
use Rattle.raid_conf.specs.Printing.{spaced}
use Rattle.raid_conf.proofs.print.push_numbers.Given as goal

-- what was appended, and what is still to be, is all
abbrev pub invariant-loop-number : goal.invariant-loop-number
invariant-loop-number l = l.text.items ++ spaced (map Number (drop l.number-index l.numbers)) ≡ l.fn.text.items ++ spaced (map Number l.numbers)
