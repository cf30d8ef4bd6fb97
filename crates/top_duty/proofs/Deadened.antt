-- Columns of which one is made dead, or may be.
use Rattle.std.specs.Prelude.{◌≡◌, ◌⊎◌, ◌<◌, ◌≤◌, ℕ, zero, suc, Bool, true, false, List, [], ◌∷◌, length, cond, count_by, Option, Some, None, if◌then◌else◌, nat_le, nat_lt, slice_get, slice_index, slice_index_or, slice_set, ◌==◌}
use Rattle.std.proofs.Common.{arith, refl, sym, ap, inl, inr, ◌∙◌}
use Rattle.std.proofs.lemmas.Bool.{eqb-false, eqb-true, leb-true, ltb-true}
use Rattle.std.proofs.lemmas.List.Sums.{sum_by-cons}
use Rattle.eng_cols.specs.declared.column.Column.{Column}
use Rattle.eng_cols.specs.declared.column.Column.TheVariants as column
use Rattle.eng_cols.specs.Cols.{device_set, HasDeviceOn}
use Rattle.eng_cols.proofs.Lists.{get_set_either, get_set_other, get_set_same}
use Rattle.top_open.specs.Seats.{is_same}
use Rattle.top_duty.specs.Steps.{with_dead, left_at, without_small, kept_if_large}
use Rattle.top_open.specs.Steps.{kept_if_left}
use Rattle.lay_core.specs.Layout.{Shape}
use Rattle.top_duty.specs.Opening.{stripes_on}

-- ## A column is made dead

pub length-slice_set : {X : Type 0} (xs : List X) (i : ℕ) (x : X) → length (slice_set xs i x) ≡ length xs
length-slice_set [] i x = refl
length-slice_set (y ∷ xs) zero x = refl
length-slice_set (y ∷ xs) (suc i) x = ap suc (length-slice_set xs i x)

pub dead_length : (e : Option ℕ) (columns : List Column) → length (with_dead e columns) ≡ length columns
dead_length None columns = refl
dead_length (Some c) columns = length-slice_set columns c column.Dead

-- a column that isn't dead is what it was, and another
pub dead_get : (e : Option ℕ) (columns : List Column) (c : ℕ) (x : Column) → slice_get (with_dead e columns) c ≡ Some x → (x ≡ column.Dead) ⊎ ((slice_get columns c ≡ Some x) × (is_same e c ≡ false))
dead_get None columns c x h = inr (h, refl)
dead_get (Some i) columns c x h = go (i == c) refl
  where
    here : i ≡ c → (slice_get (slice_set columns i column.Dead) c ≡ Some column.Dead) ⊎ (slice_get (slice_set columns i column.Dead) c ≡ slice_get columns c) → x ≡ column.Dead
    here same (inl e) = cc (e, h)
    here same (inr e) =
        let was : slice_get columns i ≡ Some x = ap (λ (j : ℕ). slice_get columns j) same ∙ (sym e ∙ h) in
        let dead : slice_get (slice_set columns i column.Dead) i ≡ Some column.Dead = get_set_same columns i x column.Dead was in
        let now : slice_get (slice_set columns i column.Dead) i ≡ Some x = ap (λ (j : ℕ). slice_get (slice_set columns i column.Dead) j) same ∙ h in
        cc (dead, now)

    go : (b : Bool) → (i == c) ≡ b → (x ≡ column.Dead) ⊎ ((slice_get columns c ≡ Some x) × (is_same (Some i) c ≡ false))
    go true e = inl (here (eqb-true i c e) (get_set_either columns i c column.Dead))
    go false e = inr (sym (get_set_other columns i c column.Dead (λ f. eqb-false i c e (sym f))) ∙ h, e)

pub dead_live : (e : Option ℕ) (columns : List Column) (c d : ℕ) → HasDeviceOn (with_dead e columns) c d → HasDeviceOn columns c d × (is_same e c ≡ false)
dead_live e columns c d h = go (slice_get (with_dead e columns) c) refl h
  where
    by : (x : Column) → device_set (Some x) ≡ Some d → (x ≡ column.Dead) ⊎ ((slice_get columns c ≡ Some x) × (is_same e c ≡ false)) → HasDeviceOn columns c d × (is_same e c ≡ false)
    by x on (inl dead) = let z : None ≡ Some d = sym (ap (λ (y : Column). device_set (Some y)) dead) ∙ on in cc z
    by x on (inr at) = (ap device_set at.0 ∙ on, at.1)

    go : (o : Option Column) → slice_get (with_dead e columns) c ≡ o → device_set o ≡ Some d → HasDeviceOn columns c d × (is_same e c ≡ false)
    go None is on = cc on
    go (Some x) is on = by x on (dead_get e columns c x is)

-- no more of them pass a test that a dead one doesn't
fewer : (p : Column → Bool) (columns : List Column) (i : ℕ) → p column.Dead ≡ false → count_by p (slice_set columns i column.Dead) ≤ count_by p columns
fewer p [] i dead = omega arith
fewer p (x ∷ xs) zero dead = omega (arith, sum_by-cons (λ (y : Column). cond (p y) 1 0) x xs, sum_by-cons (λ (y : Column). cond (p y) 1 0) column.Dead xs, ap (λ (b : Bool). cond {A = ℕ} b 1 0) dead)
fewer p (x ∷ xs) (suc i) dead = omega (arith, fewer p xs i dead, sum_by-cons (λ (y : Column). cond (p y) 1 0) x xs, sum_by-cons (λ (y : Column). cond (p y) 1 0) x (slice_set xs i column.Dead))

pub dead_fewer : (p : Column → Bool) (e : Option ℕ) (columns : List Column) → p column.Dead ≡ false → count_by p (with_dead e columns) ≤ count_by p columns
dead_fewer p None columns dead = omega arith
dead_fewer p (Some i) columns dead = fewer p columns i dead

-- ## A column may be, by the size of its device

-- what is there is put there
set_back : {X : Type 0} (xs : List X) (i : ℕ) (d : X) → slice_set xs i (slice_index_or xs i d) ≡ xs
set_back [] i d = refl
set_back (x ∷ xs) zero d = refl
set_back {X} (x ∷ xs) (suc i) d = ap (λ (l : List X). x ∷ l) (set_back xs i d)

there_or : {X : Type 0} (xs : List X) (i : ℕ) (d x : X) → slice_get xs i ≡ Some x → slice_index_or xs i d ≡ x
there_or [] i d x h = cc h
there_or (y ∷ xs) zero d x h = cc h
there_or (y ∷ xs) (suc i) d x h = there_or xs i d x h

-- the device of the column, if it has one, has so many sectors
abbrev pub IsLarge : Option ℕ → List ℕ → ℕ → List Column → Type 0
IsLarge e sizes needs columns = (c d : ℕ) → is_same e c ≡ true → HasDeviceOn columns c d → needs ≤ slice_index sizes d

-- either nothing has changed, or it is dead
pub small_or : (e : Option ℕ) (sizes : List ℕ) (needs : ℕ) (columns : List Column) → ((without_small e sizes needs columns ≡ columns) × IsLarge e sizes needs columns) ⊎ (without_small e sizes needs columns ≡ with_dead e columns)
small_or None sizes needs columns = inl (refl, λ c d same at. cc same)
small_or (Some i) sizes needs columns = go (slice_index_or columns i column.Dead) refl
  where
    device_there : (e : ℕ) (x : Column) → slice_index_or columns i column.Dead ≡ x → (o : Option Column) → slice_get columns i ≡ o → device_set o ≡ Some e → device_set (Some x) ≡ Some e
    device_there e x is None at on = cc on
    device_there e x is (Some z) at on = let same : x ≡ z = sym is ∙ there_or columns i column.Dead z at in ap (λ (y : Column). device_set (Some y)) same ∙ on

    same_one : (c e : ℕ) (x : Column) → slice_index_or columns i column.Dead ≡ x → is_same (Some i) c ≡ true → HasDeviceOn columns c e → device_set (Some x) ≡ Some e
    same_one c e x is same at =
        let one : i ≡ c = eqb-true i c same in
        device_there e x is (slice_get columns i) refl (ap (λ (j : ℕ). device_set (slice_get columns j)) one ∙ at)

    back : (x : Column) → slice_index_or columns i column.Dead ≡ x → slice_set columns i x ≡ columns
    back x is = ap (λ (z : Column). slice_set columns i z) (sym is) ∙ set_back columns i column.Dead

    by_size : (x : Column) (d : ℕ) → device_set (Some x) ≡ Some d → (b : Bool) → nat_le needs (slice_index sizes d) ≡ b → slice_index_or columns i column.Dead ≡ x
        → ((slice_set columns i (if b then x else column.Dead) ≡ columns) × IsLarge (Some i) sizes needs columns) ⊎ (slice_set columns i (if b then x else column.Dead) ≡ with_dead (Some i) columns)
    by_size x d on true size is = inl (
      back x is,
      λ c e same at.
          let z : Some d ≡ Some e = sym on ∙ same_one c e x is same at in
          let one : d ≡ e = cc z in
          let enough : needs ≤ slice_index sizes d = leb-true needs (slice_index sizes d) size in
          omega (arith, enough, ap (λ (n : ℕ). slice_index sizes n) one),
    )
    by_size x d on false size is = inr refl

    go : (x : Column) → slice_index_or columns i column.Dead ≡ x
        → ((slice_set columns i (kept_if_large sizes needs (slice_index_or columns i column.Dead)) ≡ columns) × IsLarge (Some i) sizes needs columns) ⊎ (slice_set columns i (kept_if_large sizes needs (slice_index_or columns i column.Dead)) ≡ with_dead (Some i) columns)
    go (column.Live d) is = rw is (by_size (column.Live d) d refl (nat_le needs (slice_index sizes d)) refl is)
    go column.Dead is = rw is (inr refl)
    go (column.Filling d m) is = rw is (by_size (column.Filling d m) d refl (nat_le needs (slice_index sizes d)) refl is)
    go column.Spread is = rw is (inl (back column.Spread is, λ c e same at. let z : None ≡ Some e = same_one c e column.Spread is same at in cc z))

module _ (e : Option ℕ) (sizes : List ℕ) (needs : ℕ) (columns : List Column) where
  pub small_length : length (without_small e sizes needs columns) ≡ length columns
  small_length = go (small_or e sizes needs columns)
    where
      go : ((without_small e sizes needs columns ≡ columns) × IsLarge e sizes needs columns) ⊎ (without_small e sizes needs columns ≡ with_dead e columns) → length (without_small e sizes needs columns) ≡ length columns
      go (inl h) = ap (λ (l : List Column). length l) h.0
      go (inr h) = ap (λ (l : List Column). length l) h ∙ dead_length e columns

  pub small_fewer : (p : Column → Bool) → p column.Dead ≡ false → count_by p (without_small e sizes needs columns) ≤ count_by p columns
  small_fewer p dead = go (small_or e sizes needs columns)
    where
      go : ((without_small e sizes needs columns ≡ columns) × IsLarge e sizes needs columns) ⊎ (without_small e sizes needs columns ≡ with_dead e columns) → count_by p (without_small e sizes needs columns) ≤ count_by p columns
      go (inl h) = omega (arith, ap (λ (l : List Column). count_by p l) h.0)
      go (inr h) = omega (arith, ap (λ (l : List Column). count_by p l) h, dead_fewer p e columns dead)

  -- a column that isn't dead is what it was
  pub small_get : (c : ℕ) (x : Column) → slice_get (without_small e sizes needs columns) c ≡ Some x → (x ≡ column.Dead) ⊎ (slice_get columns c ≡ Some x)
  small_get c x h = go (small_or e sizes needs columns)
    where
      dead : (x ≡ column.Dead) ⊎ ((slice_get columns c ≡ Some x) × (is_same e c ≡ false)) → (x ≡ column.Dead) ⊎ (slice_get columns c ≡ Some x)
      dead (inl is) = inl is
      dead (inr is) = inr is.0

      go : ((without_small e sizes needs columns ≡ columns) × IsLarge e sizes needs columns) ⊎ (without_small e sizes needs columns ≡ with_dead e columns) → (x ≡ column.Dead) ⊎ (slice_get columns c ≡ Some x)
      go (inl is) = inr (ap (λ (l : List Column). slice_get l c) (sym is.0) ∙ h)
      go (inr is) = dead (dead_get e columns c x (ap (λ (l : List Column). slice_get l c) (sym is) ∙ h))

  -- a live one was so, and its device has so many sectors, where those of the others have
  pub small_live : ((c d : ℕ) → HasDeviceOn columns c d → is_same e c ≡ false → needs ≤ slice_index sizes d) → (c d : ℕ) → HasDeviceOn (without_small e sizes needs columns) c d → HasDeviceOn columns c d × (needs ≤ slice_index sizes d)
  small_live others c d h = go (small_or e sizes needs columns)
    where
      by_same : (b : Bool) → is_same e c ≡ b → IsLarge e sizes needs columns → HasDeviceOn columns c d → needs ≤ slice_index sizes d
      by_same true same large at = large c d same at
      by_same false same large at = others c d at same

      go : ((without_small e sizes needs columns ≡ columns) × IsLarge e sizes needs columns) ⊎ (without_small e sizes needs columns ≡ with_dead e columns) → HasDeviceOn columns c d × (needs ≤ slice_index sizes d)
      go (inl is) =
          let at : HasDeviceOn columns c d = ap (λ (l : List Column). device_set (slice_get l c)) (sym is.0) ∙ h in
          (at, by_same (is_same e c) refl is.1 at)
      go (inr is) =
          let was = dead_live e columns c d (ap (λ (l : List Column). device_set (slice_get l c)) (sym is) ∙ h) in
          (was.0, others c d was.0 was.1)

-- ## The column that is filling, by how many stripes it has

left_or : (n : ℕ) (x : Column) → (kept_if_left n x ≡ x) ⊎ (kept_if_left n x ≡ column.Dead)
left_or n (column.Live d) = inl refl
left_or n column.Dead = inl refl
left_or n (column.Filling d m) = go (nat_lt m n)
  where
    go : (b : Bool) → ((if b then column.Filling d m else column.Dead) ≡ column.Filling d m) ⊎ ((if b then column.Filling d m else column.Dead) ≡ column.Dead)
    go true = inl refl
    go false = inr refl
left_or n column.Spread = inl refl

-- either nothing has changed, or it is dead
pub left_is : (y : Shape) (columns : List Column) (c : Option ℕ) → (left_at y columns c ≡ columns) ⊎ (left_at y columns c ≡ with_dead c columns)
left_is y columns None = inl refl
left_is y columns (Some c) = elim (left_or (stripes_on y columns c) (slice_index_or columns c column.Dead)) [
  | inl same ↦ inl (ap (λ (x : Column). slice_set columns c x) same ∙ set_back columns c column.Dead)
  | inr dead ↦ inr (ap (λ (x : Column). slice_set columns c x) dead)
]

pub left_length : (y : Shape) (columns : List Column) (c : Option ℕ) → length (left_at y columns c) ≡ length columns
left_length y columns c = elim (left_is y columns c) [
  | inl same ↦ ap (λ (l : List Column). length l) same
  | inr dead ↦ ap (λ (l : List Column). length l) dead ∙ dead_length c columns
]

pub left_fewer : (y : Shape) (columns : List Column) (c : Option ℕ) (p : Column → Bool) → p column.Dead ≡ false → count_by p (left_at y columns c) ≤ count_by p columns
left_fewer y columns c p none = elim (left_is y columns c) [
  | inl same ↦ omega (arith, ap (λ (l : List Column). count_by p l) same)
  | inr dead ↦ omega (arith, ap (λ (l : List Column). count_by p l) dead, dead_fewer p c columns none)
]

pub left_live : (y : Shape) (columns : List Column) (e : Option ℕ) (c d : ℕ) → HasDeviceOn (left_at y columns e) c d → HasDeviceOn columns c d
left_live y columns e c d h = elim (left_is y columns e) [
  | inl same ↦ ap (λ (l : List Column). device_set (slice_get l c)) (sym same) ∙ h
  | inr dead ↦ (dead_live e columns c d (ap (λ (l : List Column). device_set (slice_get l c)) (sym dead) ∙ h)).0
]

-- a column that isn't dead was so
pub left_get : (y : Shape) (columns : List Column) (e : Option ℕ) (c : ℕ) (x : Column) → slice_get (left_at y columns e) c ≡ Some x → (x ≡ column.Dead) ⊎ (slice_get columns c ≡ Some x)
left_get y columns e c x h = elim (left_is y columns e) [
  | inl same ↦ inr (ap (λ (l : List Column). slice_get l c) (sym same) ∙ h)
  | inr dead ↦ elim (dead_get e columns c x (ap (λ (l : List Column). slice_get l c) (sym dead) ∙ h)) [ inl is ↦ inl is | inr at ↦ inr at.0 ]
]

-- one that is filling still has stripes left
pub left_few : (y : Shape) (columns : List Column) (c d m : ℕ) → slice_get columns c ≡ Some (column.Filling d m) → slice_get (left_at y columns (Some c)) c ≡ Some (column.Filling d m)
    → (m < stripes_on y columns c) × (left_at y columns (Some c) ≡ columns)
left_few y columns c d m was now = go (nat_lt m (stripes_on y columns c)) refl
  where
    there : slice_index_or columns c column.Dead ≡ column.Filling d m
    there = there_or columns c column.Dead (column.Filling d m) was

    is : (b : Bool) → nat_lt m (stripes_on y columns c) ≡ b → left_at y columns (Some c) ≡ slice_set columns c (if b then column.Filling d m else column.Dead)
    is b e =
        ap (λ (x : Column). slice_set columns c (kept_if_left (stripes_on y columns c) x)) there
        ∙ ap (λ (b : Bool). slice_set columns c (if b then column.Filling d m else column.Dead)) e

    go : (b : Bool) → nat_lt m (stripes_on y columns c) ≡ b → (m < stripes_on y columns c) × (left_at y columns (Some c) ≡ columns)
    go true e = (ltb-true m (stripes_on y columns c) e, is true e ∙ (ap (λ (x : Column). slice_set columns c x) (sym there) ∙ set_back columns c column.Dead))
    go false e =
        let dead : slice_get (left_at y columns (Some c)) c ≡ Some column.Dead = ap (λ (l : List Column). slice_get l c) (is false e) ∙ get_set_same columns c (column.Filling d m) column.Dead was in
        let other : Some column.Dead ≡ Some (column.Filling d m) = sym dead ∙ now in
        absurd (let z : ⊥ = cc other in z)
