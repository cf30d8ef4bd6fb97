use Rattle.std.proofs.Common.{◌≤◌, Bool, List, ℕ, length}
use Rattle.raid_bay.specs.Sink.{Puts}
use Rattle.top_scan.specs.Lines.{set_text}
use Rattle.top_scan.specs.Steps.{sets_text}
use Rattle.top_scan.proofs.Printed.{from_place}
use Rattle.top_scan.proofs.sets.put_sets.Given as goal

-- whatever comes of the sets that are left comes of all of them
abbrev pub invariant-loop-set : goal.invariant-loop-set
invariant-loop-set g l = record {
  rest : g.K.Sink.tells → (b : Bool) (new : List ℕ)
      → Puts b (g.K.Sink.output l.out) (from_place (set_text l.names l.places l.sets) l.set (length l.sets)) new
      → Puts b (g.K.Sink.output l.fn.out) (sets_text l.names l.places l.sets) new;
  later : g.K.Sink.faults l.fn.out ≤ g.K.Sink.faults l.out;
}
