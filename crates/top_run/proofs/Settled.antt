-- What was served, once its devices are settled.
use Rattle.std.proofs.Common.{◌≡◌, ◌++◌, ℕ, List, length, take, drop, Option, None, subst}
use Rattle.std.proofs.Math.Seq.{take-append_seam}
use Rattle.blk_disk.specs.declared.disk.Disk.{Ghosts as DiskGhosts}
use Rattle.blk_disk.specs.Devices.{calls_of}
use Rattle.lay_core.specs.Layout.{IsLayout}
use Rattle.lay_core.specs.declared.layout.Layout.{Ghosts as LayoutGhosts}
use Rattle.eng_parts.specs.declared.setup.Closed.{Closed}
use Rattle.top_close.specs.Calls.{EndsSettled}
use Rattle.top_close.specs.Settled.{AreSettled}
use Rattle.eng_cols.specs.Stripes.{states_of}
use Rattle.top_close.specs.Ended.{IsLossBy}
use Rattle.top_run.specs.Work.{Service}
use Rattle.top_run.specs.Works.{service_of}
use Rattle.top_run.specs.Ends.{RunIsEnded}
use Rattle.eng_cols.specs.Cols.{HasDeviceOn}

-- a list that was lent whole
pub lent-back : {X : Type 0} (old new : List X) (len : ℕ) → length new ≡ len → take len (new ++ drop (length new) old) ≡ new
lent-back old new len e = subst (λ n. take n (new ++ drop (length new) old) ≡ new) e (take-append_seam new (drop (length new) old))

pub is-ended : {L D : Type 0} (lay : LayoutGhosts L) (closed : Closed L D) (disk : DiskGhosts D) (v : Service) (lent back : List (Option D))
    → IsLayout (lay.shape closed.layout) → v ≡ service_of closed None v.ending → lent ≡ closed.devices.items
    → AreSettled disk (length closed.columns.items) closed.columns.items v.ending.columns lent back
    → ((c d : ℕ) → HasDeviceOn v.ending.columns c d → EndsSettled (calls_of disk back d))
    → IsLossBy (lay.shape closed.layout) closed.lost (states_of (lay.shape closed.layout) v.ending.columns) v.ending.lost
    → RunIsEnded lay closed disk v back
is-ended lay closed disk v lent back law told given settled last lost = record {
  law = law;
  told = told;
  settled = subst (λ ds. AreSettled disk (length closed.columns.items) closed.columns.items v.ending.columns ds back) given settled;
  last = last;
  lost = lost;
}
