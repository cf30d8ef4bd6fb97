-- An operation that waits while none runs can be taken, where its buffers are free.
use Rattle.std.proofs.Common.{◌≡◌, ◌≢◌, ℕ, sym, ◌∙◌, Option, Some, None}
use Rattle.blk_plain.specs.declared.op.Op.{Op}
use Rattle.blk_disk.specs.declared.disk.Disk.{Ghosts as DiskGhosts}
use Rattle.lay_core.specs.declared.layout.Layout.{Ghosts as LayoutGhosts}
use Rattle.eng_clients.specs.declared.stage.Stage.TheVariants.{Waits, Runs}
use Rattle.eng_state.specs.declared.array.Array.{Array}
use Rattle.eng_clients.specs.Desk.{desk_at}
use Rattle.eng_state.specs.Serves.{Serves, CanTake}
use Rattle.eng_state.specs.Sound.{IsSound}
use Rattle.eng_choice.proofs.TakeParts.{Fits, take-from}

pub take-alone : {L D : Type 0} (lay : LayoutGhosts L) (disk : DiskGhosts D) (core : Array L D) (c : ℕ) (op : Op) (file : Option ℕ) (serves : Serves core.graphs.items (lay.shape core.layout) (desk_at core.clients c) op file) → IsSound lay disk core → core.lost ≡ None → (desk_at core.clients c).stage ≡ Waits
    → ((k : ℕ) → (desk_at core.clients k).stage ≢ Runs) → Fits lay core c op file serves → CanTake lay core c
take-alone lay disk core c op file serves sound not_lost waits none fits =
    take-from lay core c op file serves not_lost waits
    (λ k s m ne concerns held. let z : None ≡ Some m = sym (sound.locked.idle k (none k) s) ∙ held in absurd (let u : ⊥ = cc in u))
    fits
