use Rattle.std.proofs.Common.{◌≡◌, ◌+◌, None}
use Rattle.top_duty.specs.First.{first_of}
use Rattle.top_duty.specs.Steps.{is_free}
use Rattle.top_duty.proofs.start.free_spare.Given as goal

-- none of the spares so far is free
abbrev pub invariant-loop-spare : goal.invariant-loop-spare
invariant-loop-spare l = first_of (λ j. is_free l.needs l.sizes l.fronts l.opened.seats.items (l.conf.columns + j)) l.spare ≡ None
