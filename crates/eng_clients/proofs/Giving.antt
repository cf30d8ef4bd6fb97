-- Items that leave what is given.
use Rattle.std.proofs.Common.{◌≡◌, ◌≢◌, ◌<◌, ◌≤◌, ◌+◌, ◌++◌, ◌∙◌, ℕ, zero, suc, List, [], ◌∷◌, Option, Some, None, length, take, drop, get_or, ap, sym, refl, arith, inl, inr}
use Rattle.std.proofs.lemmas.Bool.{cases_eq}
use Rattle.std.proofs.lemmas.List.{get_or_push, get_or_append_left, take_at}
use Rattle.std.specs.Prelude.{slice_get, slice_set}
use Rattle.std.proofs.lemmas.Option.{slice_get_past, slice_get_read}
use Rattle.item_list.specs.ItemList.{ItemList}
use Rattle.eng_log.specs.Given.{items_in, items_at}

get-set-other : {X : Type 0} (xs : List X) (c k : ℕ) (y : X) → k ≢ c → slice_get (slice_set xs c y) k ≡ slice_get xs k
get-set-other [] c k y ne = refl
get-set-other (x ∷ xs) zero zero y ne = absurd (ne refl)
get-set-other (x ∷ xs) zero (suc k) y ne = refl
get-set-other (x ∷ xs) (suc c) zero y ne = refl
get-set-other (x ∷ xs) (suc c) (suc k) y ne = get-set-other xs c k y (λ e. ne (ap suc e))

-- those of one client leave
pub given-here : (given : List ItemList) (c : ℕ) (items : ItemList) → c < length given → items ≡ get_or given c items → items_at given c ≡ items.items
given-here given c items lt is = ap items_in (slice_get_read given (length given) c items refl lt is)

-- and those of the others stay
pub given-others : (given : List ItemList) (c k : ℕ) (none : ItemList) → k ≢ c → items_at (slice_set given c none) k ≡ items_at given k
given-others given c k none ne = ap items_in (get-set-other given c k none ne)

-- past the last client there are none
pub given-past : (given : List ItemList) (c : ℕ) → length given ≤ c → items_at given c ≡ []
given-past given c le = ap items_in (slice_get_past given c le)

-- what a slice of all items leaves in their place
pub back : {X : Type 0} (n : ℕ) (new old : List X) → length new ≡ n → take n (new ++ drop (length new) old) ≡ new
back n new old is = take_at new (drop (length new) old) n is

-- room for one client more
pub more-rooms : (list : List (Option ℕ)) (most : ℕ → ℕ) (n m : ℕ) → length list ≡ n → ((c : ℕ) → c < n → get_or list c None ≡ Some (most c)) → m ≡ most n → (c : ℕ) → c < n + 1 → get_or (list ++ Some m ∷ []) c None ≡ Some (most c)
more-rooms list most n m count each is c lt = elim (cases_eq c n) [
  | inl e ↦ get_or_push list (Some m) None c (count ∙ sym e) ∙ (ap Some is ∙ ap (λ (k : ℕ). Some (most k)) (sym e))
  | inr ne ↦ let low : c < n = omega (arith, lt, ne) in get_or_append_left list (Some m ∷ []) None c (omega (arith, low, count)) ∙ each c low
]
