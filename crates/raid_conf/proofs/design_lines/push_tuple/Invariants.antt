use Rattle.std.proofs.Common.{◌≡◌, ◌-◌}
use Rattle.raid_text.specs.Seen.{words_left}
use Rattle.raid_conf.specs.Sections.{tuple_behind}
use Rattle.text_steps.specs.Steps.{at_line}
use Rattle.raid_conf.proofs.design_lines.push_tuple.Given as goal

abbrev pub invariant-loop-i : goal.invariant-loop-i
invariant-loop-i l = at_line l.line (tuple_behind (l.count - l.i) l.tuples (words_left l.words)) ≡ at_line l.line (tuple_behind l.count l.fn.tuples (words_left l.fn.words))
