use Rattle.top_scan.specs.Places.{IsNextIn}
use Rattle.top_scan.proofs.members.next_member.Given as goal

-- so far as the list was looked at
abbrev pub invariant-loop-place : goal.invariant-loop-place
invariant-loop-place l = IsNextIn l.places l.set l.from l.place l.found
