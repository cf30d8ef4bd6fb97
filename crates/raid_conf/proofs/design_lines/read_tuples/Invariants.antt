use Rattle.std.proofs.Common.{◌≡◌, ◌-◌, []}
use Rattle.raid_conf.specs.Format.{tuples_in}
use Rattle.text_steps.specs.Steps.{rest_of}
use Rattle.raid_conf.proofs.design_lines.read_tuples.Given as goal

abbrev pub invariant-loop-i : goal.invariant-loop-i
invariant-loop-i l = tuples_in (l.b - l.i) l.k l.tuples (rest_of l.lines) ≡ tuples_in l.b l.k [] (rest_of l.fn.lines)
