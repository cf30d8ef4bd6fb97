use Rattle.std.proofs.Common.{◌≤◌, List, ℕ, Bool, length}
use Rattle.raid_bay.specs.Sink.{Puts}
use Rattle.raid_script.proofs.Printed.{from_place}
use Rattle.top_sim.specs.Lines.{number_text}
use Rattle.top_sim.specs.Steps.{replies_text}
use Rattle.top_sim.proofs.lines.put_replies.Given as goal

-- whatever comes of the requests that are left comes of all of them
abbrev pub invariant-loop-number : goal.invariant-loop-number
invariant-loop-number g l = record {
  rest : g.K.Sink.tells → (b : Bool) (new : List ℕ)
      → Puts b (g.K.Sink.output l.out)
      (from_place (number_text l.requests l.replies) l.number (length l.requests)) new
      → Puts b (g.K.Sink.output l.fn.out) (replies_text l.requests l.replies) new;
  later : g.K.Sink.faults l.fn.out ≤ g.K.Sink.faults l.out;
}
