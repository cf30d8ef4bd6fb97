use Rattle.std.proofs.Common.{◌≡◌, map, take}
use Rattle.top_duty.specs.Steps.{is_named}
use Rattle.top_duty.proofs.plan.present_of.Given as goal

abbrev pub invariant-loop-c : goal.invariant-loop-c
invariant-loop-c l = l.present.items ≡ map is_named (take l.c l.conf.disks)
