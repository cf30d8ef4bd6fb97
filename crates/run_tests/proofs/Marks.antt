-- One device, which is that of one column, can be marked.
use Rattle.std.proofs.Common.{◌≡◌, ◌∙◌, ℕ, zero, suc, ◌≤◌, ◌∷◌, [], List, Option, Some, None, refl, sym, subst}
use Rattle.blk_disk.specs.declared.disk.Disk.{Ghosts}
use Rattle.eng_cols.specs.declared.column.Column.{Column}
use Rattle.eng_cols.specs.declared.column.Column.TheVariants as column
use Rattle.blk_disk.specs.Devices.{device_at, size_of}
use Rattle.raid_map.specs.Marking.{CanBeMarked}
use Rattle.eng_cols.specs.Cols.{HasDeviceOn}

only : (c d : ℕ) → HasDeviceOn (column.Live 0 ∷ []) c d → (c ≡ 0) × (0 ≡ d)
only zero d on = (refl, (let same : 0 ≡ d = cc in same))
only (suc c) d on = absurd (let u : ⊥ = cc in u)

pub one_can : {D : Type 0} (g : Ghosts D) (disk : D) → 2 ≤ g.size disk → CanBeMarked g (column.Live 0 ∷ []) (Some disk ∷ [])
unfolding device_at
one_can g disk long = record {
  sized = λ c d on. subst (λ k. 2 ≤ size_of g (Some disk ∷ []) k) (only c d on).1 long;
  apart = λ c k d one two. (only c d one).0 ∙ sym (only k d two).0;
}
