-- Devices that are seen through their slots.
use Rattle.std.proofs.Common.{◌≡◌, ℕ, ◌<◌, List, length, get_or, map, sym, ap, ◌∙◌, Bool, Option, Some, None, true}
use Rattle.std.specs.Prelude.{slice_set as set}
use Rattle.std.proofs.lemmas.List.{get_or-map, map-set}
use Rattle.std.specs.declared.snapshot.Snapshot.{Snapshot}
use Rattle.eng_parts.specs.declared.slot.Slot.{Slot}
use Rattle.eng_parts.specs.declared.slot.Slot.TheVariants.{Home, Out}
use Rattle.eng_parts.specs.Shelf.{Seen, Shelved, shown, seen_in, seen_at, left, come_home}

pub seen_read : {D : Type 0} → (slots : List (Slot D)) (failed : List Bool) (k : ℕ) (x : Slot D) → k < length slots → x ≡ get_or slots k x → seen_at (shown slots failed) k ≡ seen_in x
seen_read slots failed k x below is = get_or-map seen_in slots k x None below ∙ ap seen_in (sym is)

-- a slot that is written
pub seen_set : {D : Type 0} → (slots : List (Slot D)) (failed : List Bool) (k : ℕ) (x : Slot D) → shown (set slots k x) failed ≡ record (shown slots failed) { slots = set (map seen_in slots) k (seen_in x) }
seen_set {D} slots failed k x = ap (λ (l : List (Option (Seen D))). let s : Shelved D = record { slots = l; failed = failed } in s) (map-set seen_in slots k x)

-- a slot whose device left
pub leaves : {D : Type 0} → (slots : List (Slot D)) (failed : List Bool) (k : ℕ) (dest : Slot D) (copy : Snapshot D) (d : D) → dest ≡ Out copy → copy.value ≡ d → shown (set slots k dest) failed ≡ left (shown slots failed) k d
leaves {D} slots failed k dest copy d is same =
    seen_set slots failed k dest
    ∙ ap (λ (x : Option (Seen D)). let s : Shelved D = record { slots = set (map seen_in slots) k x; failed = failed } in s)
    (ap seen_in is ∙ ap (λ (y : D). let o : Option (Seen D) = Some (record { out = true; device = y }) in o) same)

-- and one whose device came home
pub comes_home : {D : Type 0} → (slots : List (Slot D)) (failed : List Bool) (k : ℕ) (dest : Slot D) (d : D) → dest ≡ Home d → shown (set slots k dest) failed ≡ come_home (shown slots failed) k d
comes_home {D} slots failed k dest d is =
    seen_set slots failed k dest
    ∙ ap (λ (x : Option (Seen D)). let s : Shelved D = record { slots = set (map seen_in slots) k x; failed = failed } in s) (ap seen_in is)
