use Rattle.std.proofs.Common.{◌≤◌, Bool, List, ℕ, length}
use Rattle.raid_bay.specs.Sink.{Puts}
use Rattle.top_scan.specs.Lines.{bare_text}
use Rattle.top_scan.specs.Steps.{bares_text}
use Rattle.top_scan.proofs.Printed.{from_place}
use Rattle.top_scan.proofs.lines.put_bares.Given as goal

-- whatever comes of the places that are left comes of all of them
abbrev pub invariant-loop-place : goal.invariant-loop-place
invariant-loop-place g l = record {
  rest : g.K.Sink.tells → (b : Bool) (new : List ℕ)
      → Puts b (g.K.Sink.output l.out) (from_place (bare_text l.names l.places l.fronts) l.place (length l.places)) new
      → Puts b (g.K.Sink.output l.fn.out) (bares_text l.names l.places l.fronts) new;
  later : g.K.Sink.faults l.fn.out ≤ g.K.Sink.faults l.out;
}
