-- The sectors that patches write.
use Rattle.std.proofs.Common.{◌≡◌, ℕ, ◌<◌, List, [], ◌∷◌, get_or, inl, inr, refl, sym, ap, ◌∙◌}
use Rattle.std.proofs.lemmas.Bool.{cases_Bool, cond-true, cond-false}
use Rattle.std.proofs.lemmas.List.{get_or-replicate}
use Rattle.blk_plain.specs.declared.op.Patch.{Patch}
use Rattle.blk_plain.specs.declared.op.Patches.{Patches}
use Rattle.blk_plain.specs.declared.op.Op.{Op}
use Rattle.blk_plain.specs.declared.op.Op.TheVariants.{Write, Writes, Read, Rebuild, Sync}
use Rattle.blk_plain.specs.Plain.{sector_of, zero_sector, is_in, patched_sector}
use Rattle.eng_world.specs.Plain.{filled_by}
use Rattle.eng_world.specs.Planning.{fresh}
use Rattle.eng_log.specs.Filled.{same_sector}
use Rattle.eng_log.proofs.Repeating.{pattern-sector}

-- a byte of it
pub patched-zero : (ps : List Patch) (b k : ℕ) → k < 512 → get_or (patched_sector ps b zero_sector) k 0 ≡ filled_by ps b k
unfolding zero_sector
patched-zero [] b k l = get_or-replicate 512 k 0 0 l
patched-zero (p ∷ ps) b k l = elim (cases_Bool (is_in p.span b)) [
  | inl e ↦ ap (λ s. get_or s k 0) (cond-true (is_in p.span b) _ _ e) ∙ (pattern-sector p.pattern (sector_of p.pattern) k refl l ∙ sym (cond-true (is_in p.span b) _ _ e))
  | inr e ↦ ap (λ s. get_or s k 0) (cond-false (is_in p.span b) _ _ e) ∙ (patched-zero ps b k l ∙ sym (cond-false (is_in p.span b) _ _ e))
]

-- a byte of the sector of an operation that writes the same to each of its blocks
pub same-fresh : (op : Op) (block k : ℕ) → ((patches : Patches) → op ≡ Writes patches → ⊥) → k < 512 → get_or (same_sector op) k 0 ≡ fresh op block k
unfolding zero_sector
same-fresh (Write span pattern) block k same l = pattern-sector pattern (sector_of pattern) k refl l
same-fresh (Writes patches) block k same l = absurd (same patches refl)
same-fresh (Read span) block k same l = get_or-replicate 512 k 0 0 l
same-fresh (Rebuild stripe) block k same l = get_or-replicate 512 k 0 0 l
same-fresh (Sync stripe) block k same l = get_or-replicate 512 k 0 0 l
