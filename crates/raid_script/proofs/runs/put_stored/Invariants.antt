use Rattle.std.proofs.Common.{◌+◌, ◌*◌, ◌<◌, ◌≤◌, ◌^◌, List, ℕ, Bool, length}
use Rattle.raid_bay.specs.Sink.{Puts}
use Rattle.raid_script.specs.Blocks.{blocks_text}
use Rattle.raid_script.proofs.StoredSectors.{part}
use Rattle.raid_script.proofs.runs.put_stored.Given as goal

-- whatever comes of the sectors that are left comes of all of them
abbrev pub invariant-loop-left : goal.invariant-loop-left
invariant-loop-left g l = record {
  rest : g.K.Sink.tells → (b : Bool) (new : List ℕ) → Puts b (g.K.Sink.output l.out) (blocks_text l.block (part l.sectors l.at l.left)) new → Puts b (g.K.Sink.output l.fn.out) (blocks_text l.fn.first (part l.sectors l.fn.from l.fn.count)) new;
  later : g.K.Sink.faults l.fn.out ≤ g.K.Sink.faults l.out;
  there : 512 * l.at + 512 * l.left ≤ length l.sectors;
  fits : l.block + l.left < 2 ^ 128;
}

abbrev pub decreases-loop-left : goal.decreases-loop-left
decreases-loop-left g l = l.left
