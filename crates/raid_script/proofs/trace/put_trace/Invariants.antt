use Rattle.std.proofs.Common.{◌≤◌, List, ℕ, Bool, flat_map, drop}
use Rattle.raid_bay.specs.Sink.{Puts}
use Rattle.raid_script.specs.Trace.{event_line}
use Rattle.raid_script.proofs.trace.put_trace.Given as goal

-- whatever comes of the items that are left comes of all of them
abbrev pub invariant-loop-event : goal.invariant-loop-event
invariant-loop-event g l = record {
  rest : g.K.Sink.tells → (b : Bool) (new : List ℕ) → Puts b (g.K.Sink.output l.out) (flat_map event_line (drop l.event-index l.trace)) new → Puts b (g.K.Sink.output l.fn.out) (flat_map event_line l.trace) new;
  later : g.K.Sink.faults l.fn.out ≤ g.K.Sink.faults l.out;
}
