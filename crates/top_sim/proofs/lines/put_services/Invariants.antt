use Rattle.std.proofs.Common.{◌≤◌, List, ℕ, Bool, flat_map, drop}
use Rattle.raid_bay.specs.Sink.{Puts}
use Rattle.top_sim.specs.Steps.{served_line}
use Rattle.top_sim.proofs.lines.put_services.Given as goal

-- whatever comes of the services that are left comes of all of them
abbrev pub invariant-loop-served : goal.invariant-loop-served
invariant-loop-served g l = record {
  rest : g.K.Sink.tells → (b : Bool) (new : List ℕ)
      → Puts b (g.K.Sink.output l.out) (flat_map served_line (drop l.served-index l.services)) new
      → Puts b (g.K.Sink.output l.fn.out) (flat_map served_line l.services) new;
  later : g.K.Sink.faults l.fn.out ≤ g.K.Sink.faults l.out;
}
