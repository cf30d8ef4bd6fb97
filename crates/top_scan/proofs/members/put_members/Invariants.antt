use Rattle.std.proofs.Common.{◌≤◌, ◌-◌, Bool, List, ℕ}
use Rattle.raid_bay.specs.Sink.{Puts}
use Rattle.top_scan.specs.Lines.{member_text}
use Rattle.top_scan.specs.Steps.{members_text}
use Rattle.top_scan.proofs.Printed.{from_place}
use Rattle.top_scan.proofs.members.put_members.Given as goal

abbrev pub decreases-loop-found : goal.decreases-loop-found
decreases-loop-found g l = l.columns - l.from

-- whatever comes of the members that are left comes of all of them
abbrev pub invariant-loop-found : goal.invariant-loop-found
invariant-loop-found g l = record {
  rest : g.K.Sink.tells → (b : Bool) (new : List ℕ)
      → Puts b (g.K.Sink.output l.out) (from_place (member_text l.names l.places l.set) l.from l.columns) new
      → Puts b (g.K.Sink.output l.fn.out) (members_text l.names l.places l.set l.columns) new;
  low : l.from ≤ l.columns;
  later : g.K.Sink.faults l.fn.out ≤ g.K.Sink.faults l.out;
}
