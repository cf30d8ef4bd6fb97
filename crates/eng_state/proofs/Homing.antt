-- A device that came home.
use Rattle.std.proofs.Common.{◌≡◌, ◌≢◌, ℕ, List, [], ◌∷◌, ◌++◌, sym, ap, ◌∙◌, Option, Some, None, false}
use Rattle.std.proofs.lemmas.List.{get_or-set_same, get_or-set_other}
use Rattle.blk_disk.specs.declared.disk.Call.{Call}
use Rattle.blk_disk.specs.declared.disk.Disk.{Ghosts as DiskGhosts}
use Rattle.blk_disk.specs.Disk.{Tells}
use Rattle.eng_parts.specs.Shelf.{Seen, Shelved, seen_at, come_home}
use Rattle.eng_state.specs.Shows.{AreTold}
use Rattle.eng_state.proofs.Leaving.{seen-below}

module _ {D : Type 0} (s : Shelved D) (d : ℕ) where
  pub home-here : (a : Seen D) (x : D) → seen_at s d ≡ Some a → seen_at (come_home s d x) d ≡ Some (record { out = false; device = x })
  home-here a x is = get_or-set_same s.slots d _ None (seen-below s d a is)

  pub home-else : (x : D) (j : ℕ) → j ≢ d → seen_at (come_home s d x) j ≡ seen_at s j
  home-else x j ne = get_or-set_other s.slots d j _ None ne

-- a call that is told stands behind those that were
pub tells-more : {D : Type 0} → (disk : DiskGhosts D) (before now : Option (List Call)) (calls : List Call) (call : Call) → Tells before now call → AreTold disk before calls → AreTold disk now (calls ++ call ∷ [])
tells-more disk before None calls call t told = tt
tells-more disk None (Some now) calls call t told = absurd t
tells-more disk (Some old) (Some now) calls call t told = ap (λ (l : List Call). l ++ call ∷ []) told ∙ sym t
