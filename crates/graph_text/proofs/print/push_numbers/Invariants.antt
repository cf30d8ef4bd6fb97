use Rattle.std.proofs.Common.{◌≡◌, ◌++◌, drop}
use Rattle.graph_text.specs.Printing.{spaced}
use Rattle.graph_text.specs.FormatForm.{number_places}
use Rattle.graph_text.proofs.print.push_numbers.Given as goal

-- what was appended, and what is still to be, is all
abbrev pub invariant-loop-number : goal.invariant-loop-number
invariant-loop-number l = l.text.items ++ spaced (number_places (drop l.number-index l.numbers)) ≡ l.fn.text.items ++ spaced (number_places l.numbers)
