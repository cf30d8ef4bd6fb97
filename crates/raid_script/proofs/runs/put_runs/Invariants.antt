use Rattle.std.proofs.Common.{◌+◌, ◌<◌, ◌≤◌, ◌^◌, List, ℕ, Bool, length}
use Rattle.raid_bay.specs.Sink.{Puts}
use Rattle.raid_script.specs.Blocks.{blocks_text}
use Rattle.raid_script.proofs.runs.put_runs.Given as goal

-- whatever comes of the sectors that are left comes of all of them
abbrev pub invariant-loop-rest : goal.invariant-loop-rest
invariant-loop-rest g l = record {
  rest : g.K.Sink.tells → (b : Bool) (new : List ℕ) → Puts b (g.K.Sink.output l.out) (blocks_text l.block l.rest) new → Puts b (g.K.Sink.output l.fn.out) (blocks_text l.fn.first l.fn.sectors) new;
  later : g.K.Sink.faults l.fn.out ≤ g.K.Sink.faults l.out;
  fits : l.block + length l.rest < 2 ^ 128;
}

abbrev pub decreases-loop-rest : goal.decreases-loop-rest
decreases-loop-rest g l = length l.rest
