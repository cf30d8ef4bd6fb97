use Rattle.std.proofs.Common.{◌≡◌, ◌++◌, ◌-◌, ◌*◌, length}
use Rattle.raid_conf.specs.Form.{tuple_places}
use Rattle.raid_conf.specs.Printing.{lines_text}
use Rattle.raid_conf.proofs.print.push_tuples.Given as goal

-- what was appended, and what is still to be, is all
abbrev pub invariant-loop : goal.invariant-loop
invariant-loop l = record {
  count : length l.rest ≡ (l.b - l.counter) * l.k;
  lines : l.text.items ++ lines_text (tuple_places (l.b - l.counter) l.k l.rest) ≡ l.fn.text.items ++ lines_text (tuple_places l.b l.k l.tuples);
}
