-- What is kept behind others leaves each item as it was.
use Rattle.std.specs.Prelude.{slice_get}
use Rattle.std.proofs.Common.{◌≡◌, ◌∙◌, ℕ, zero, suc, ◌<◌, ◌≤◌, List, [], ◌∷◌, ◌++◌, Option, Some, All, length, map, refl, ap, arith, length-append}
use Rattle.std.proofs.lemmas.List.Elements.{All-push}
use Rattle.blk_plain.specs.declared.op.Patch.{Patch}
use Rattle.blk_plain.specs.declared.op.Patches.{Patches}
use Rattle.eng_world.specs.declared.item.Item.{Item}
use Rattle.item_list.specs.declared.slot.Slot.{Slot}
use Rattle.item_list.specs.declared.slot.Slot.TheVariants as slot
use Rattle.item_list.specs.Kept.{written, patched, item_of, IsWithin, KeepsAll}

module _ {A : Type 0} where
  front : (xs ys : List A) (at : ℕ) → at < length xs → slice_get (xs ++ ys) at ≡ slice_get xs at
  front [] ys at lt = absurd (omega (arith, lt))
  front (x ∷ xs) ys zero lt = refl
  front (x ∷ xs) ys (suc at) lt = front xs ys at (omega (arith, lt))

  -- what is put behind the others stands at the place that their number is
  pub behind : (xs : List A) (x : A) → slice_get (xs ++ x ∷ []) (length xs) ≡ Some x
  behind [] x = refl
  behind (y ∷ xs) x = behind xs x

  -- and the others are kept
  pub keeps_push : (xs : List A) (x : A) → KeepsAll xs (xs ++ x ∷ [])
  keeps_push xs x = record {
    longer = omega (arith, length-append xs (x ∷ []));
    same = λ at lt. front xs (x ∷ []) at lt;
  }

module _ (long lengthened : List Patch) (old new : List Patches) (longer : KeepsAll long lengthened) (keeps : KeepsAll old new) where
  same-item : (s : Slot) → IsWithin (length long) (length old) s → item_of lengthened new s ≡ item_of long old s
  same-item (slot.Fill first count byte graph) within = refl
  same-item (slot.Write at graph) within = ap (λ (o : Option Patch). written o graph) (longer.same at within)
  same-item (slot.Writes at graph) within = ap (λ (o : Option Patches). patched o graph) (keeps.same at within)
  same-item (slot.Read first count graph) within = refl
  same-item (slot.Rebuild stripe graph) within = refl
  same-item (slot.Sync stripe graph) within = refl
  same-item (slot.Fail column) within = refl

  pub same-items : (slots : List Slot) → All (IsWithin (length long) (length old)) slots → map (item_of lengthened new) slots ≡ map (item_of long old) slots
  same-items [] within = refl
  same-items (s ∷ slots) within =
      ap (λ (i : Item). i ∷ map (item_of lengthened new) slots) (same-item s (within 0 s (omega arith)))
      ∙ ap (λ (l : List Item). item_of long old s ∷ l) (same-items slots (λ k d lt. within (suc k) d (omega (arith, lt))))

-- what stays as it is keeps all
pub keeps_same : {A : Type 0} (xs : List A) → KeepsAll xs xs
keeps_same xs = record { longer = omega arith; same = λ at lt. refl }

-- a slot that is within so many is within more
within-more : (long more count : ℕ) → long ≤ more → (s : Slot) → IsWithin long count s → IsWithin more count s
within-more long more count le (slot.Fill first blocks byte graph) within = within
within-more long more count le (slot.Write at graph) within = omega (arith, le, within)
within-more long more count le (slot.Writes at graph) within = within
within-more long more count le (slot.Read first blocks graph) within = within
within-more long more count le (slot.Rebuild stripe graph) within = within
within-more long more count le (slot.Sync stripe graph) within = within
within-more long more count le (slot.Fail column) within = within

pub within-push : (long more count : ℕ) (slots : List Slot) (s : Slot) → long ≤ more → All (IsWithin long count) slots → IsWithin more count s → All (IsWithin more count) (slots ++ s ∷ [])
within-push long more count slots s le all one = All-push (IsWithin more count) slots s (λ k d lt. within-more long more count le _ (all k d lt)) one
