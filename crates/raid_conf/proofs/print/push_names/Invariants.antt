use Rattle.std.proofs.Common.{◌≡◌, ◌++◌, drop, map}
use Rattle.raid_conf.specs.Form.{name_places}
use Rattle.raid_conf.specs.Printing.{lines_text}
use Rattle.raid_conf.proofs.print.push_names.Given as goal

-- what was appended, and what is still to be, is all
abbrev pub invariant-loop-i : goal.invariant-loop-i
invariant-loop-i l = l.text.items ++ lines_text (map name_places (drop l.i l.names)) ≡ l.fn.text.items ++ lines_text (map name_places l.names)
