-- The tests' arrays are arrays.
use Rattle.std.proofs.Common.{◌≡◌, ℕ, zero, suc, ◌+◌, ◌*◌, ◌<◌, ◌≤◌, List, [], ◌∷◌, length, true, false, Option, Some, None, slice_get, inl, inr, refl, sym, ap, ◌∙◌, subst, arith}
use Rattle.std.specs.Prelude.{option_map, Bool, cond, count_by}
use Rattle.std.proofs.lemmas.Bool.{cond-false}
use Rattle.std.proofs.lemmas.List.Sums.{sum_by-cons}
use Rattle.std.proofs.lemmas.Option.{slice_get-map}
use Rattle.blk_disk.specs.declared.disk.Disk.{Ghosts}
use Rattle.blk_disk.specs.Devices.{size_of}
use Rattle.lay_core.specs.Layout.{Shape}
use Rattle.eng_cols.specs.declared.column.Column.{Column}
use Rattle.eng_cols.specs.declared.column.Column.TheVariants as column
use Rattle.eng_cols.specs.Cols.{Live, Filling, Spread, state_set, HasDevice, is_set_filling, is_set_spread, passes}
use Rattle.eng_cols.specs.Settable.{IsSettable}
use Rattle.eng_cols.specs.Stripes.{filled_in, states_of}
use Rattle.raid_recon.specs.Array.{IsArray}
use Rattle.raid_recon.specs.Samples.{Fits, FitsAt}

inside : (xs : List Column) (c : ℕ) (x : Column) → slice_get xs c ≡ Some x → c < length xs
inside [] c x h = absurd (let u : ⊥ = cc in u)
inside (y ∷ xs) zero x h = omega arith
inside (y ∷ xs) (suc c) x h = omega (arith, inside xs c x h)

live-of : (n d : ℕ) (l : List Bool) (o : Option Column) → option_map (state_set n l) o ≡ Some (Live d) → o ≡ Some (column.Live d)
live-of n d l (Some (column.Live e)) h = let same : e ≡ d = cc in ap (λ k. Some (column.Live k)) same
live-of n d l (Some column.Dead) h = absurd (let u : ⊥ = cc in u)
live-of n d l (Some (column.Filling e m)) h = absurd (let u : ⊥ = cc in u)
live-of n d l (Some column.Spread) h = absurd (let u : ⊥ = cc in u)
live-of n d l None h = absurd (let u : ⊥ = cc in u)

filling-of : (n d : ℕ) (done l : List Bool) (o : Option Column) → option_map (state_set n l) o ≡ Some (Filling d done) → (m : ℕ) × (o ≡ Some (column.Filling d m))
filling-of n d done l (Some (column.Live e)) h = absurd (let u : ⊥ = cc in u)
filling-of n d done l (Some column.Dead) h = absurd (let u : ⊥ = cc in u)
filling-of n d done l (Some (column.Filling e m)) h = let same : e ≡ d = cc in (m, ap (λ k. Some (column.Filling k m)) same)
filling-of n d done l (Some column.Spread) h = absurd (let u : ⊥ = cc in u)
filling-of n d done l None h = absurd (let u : ⊥ = cc in u)

spread-of : (n : ℕ) (done l : List Bool) (o : Option Column) → option_map (state_set n l) o ≡ Some (Spread done) → o ≡ Some column.Spread
spread-of n done l (Some (column.Live e)) h = absurd (let u : ⊥ = cc in u)
spread-of n done l (Some column.Dead) h = absurd (let u : ⊥ = cc in u)
spread-of n done l (Some (column.Filling e m)) h = absurd (let u : ⊥ = cc in u)
spread-of n done l (Some column.Spread) h = refl
spread-of n done l None h = absurd (let u : ⊥ = cc in u)

pub fitting : {D : Type 0} (g : Ghosts D) (y : Shape) (columns : List Column) (devices : List (Option D)) → length columns ≡ y.columns → ((c : ℕ) → c < length columns → FitsAt g y columns devices c) → IsArray g y columns devices
fitting g y columns devices many each = record {
  entries = many;
  order = record {
    one_column = λ c k d h j. sym (has c d h).0 ∙ (has k d j).0;
    one_filling = λ c k d e done other h j. absurd (filling c d done h);
    one_spread = λ c k done other h j. spread c done h ∙ sym (spread k other j);
  };
  there = λ c d h. let of = has c d h in omega (arith, of.1, ap (size_of g devices) of.0);
}
  where
    at : (c : ℕ) (x : Column) → slice_get columns c ≡ Some x → Fits g y devices c (Some x)
    at c x h = subst (Fits g y devices c) h (each c (inside columns c x h))

    filling : (c d : ℕ) (done : List Bool) → slice_get (states_of y columns) c ≡ Some (Filling d done) → ⊥
    filling c d done h = let of = filling-of y.stripes d done (filled_in y columns) (slice_get columns c) (sym (slice_get-map (state_set y.stripes (filled_in y columns)) columns c) ∙ h) in at c (column.Filling d of.0) of.1

    spread : (c : ℕ) (done : List Bool) → slice_get (states_of y columns) c ≡ Some (Spread done) → c ≡ 0
    spread c done h = at c column.Spread (spread-of y.stripes done (filled_in y columns) (slice_get columns c) (sym (slice_get-map (state_set y.stripes (filled_in y columns)) columns c) ∙ h))

    has : (c d : ℕ) → HasDevice (states_of y columns) c d → (d ≡ c) × (64 + y.rows * y.unit_sectors ≤ size_of g devices c)
    has c d (inl h) = at c (column.Live d) (live-of y.stripes d (filled_in y columns) (slice_get columns c) (sym (slice_get-map (state_set y.stripes (filled_in y columns)) columns c) ∙ h))
    has c d (inr h) = absurd (filling c d h.0 h.1)

-- ## And may be set

counted : (p : Column → Bool) (x : Column) (xs : List Column) → count_by p (x ∷ xs) ≡ cond (p x) 1 0 + count_by p xs
counted p x xs = sum_by-cons (λ y. cond (p y) 1 0) x xs

none-counted : (p : Column → Bool) (xs : List Column) → ((c : ℕ) → passes p (slice_get xs c) ≡ false) → count_by p xs ≡ 0
none-counted p [] none = refl
none-counted p (x ∷ xs) none = omega (arith, counted p x xs, cond-false {A = ℕ} (p x) 1 0 (none 0), none-counted p xs (λ c. none (suc c)))

-- the first alone passes, if one does
one-counted : (p : Column → Bool) (xs : List Column) → ((c : ℕ) → passes p (slice_get xs (suc c)) ≡ false) → count_by p xs ≤ 1
one-counted p [] none = omega arith
one-counted p (x ∷ xs) none = omega (arith, counted p x xs, one (p x), none-counted p xs none)
  where
    one : (b : Bool) → cond b 1 0 ≤ 1
    one true = omega arith
    one false = omega arith

pub settable : {D : Type 0} (g : Ghosts D) (y : Shape) (columns : List Column) (devices : List (Option D)) → length columns ≡ y.columns → ((c : ℕ) → c < length columns → FitsAt g y columns devices c) → IsSettable y columns
settable g y columns devices many each = record {
  entries = many;
  filling = omega (arith, none-counted is_set_filling columns (λ c. unfilled c (slice_get columns c) refl));
  spread = one-counted is_set_spread columns (λ c. unspread (suc c) (slice_get columns (suc c)) refl (λ e. omega (arith, e)));
}
  where
    at : (c : ℕ) (x : Column) → slice_get columns c ≡ Some x → Fits g y devices c (Some x)
    at c x h = subst (Fits g y devices c) h (each c (inside columns c x h))

    unfilled : (c : ℕ) (o : Option Column) → slice_get columns c ≡ o → passes is_set_filling o ≡ false
    unfilled c (Some (column.Live d)) h = refl
    unfilled c (Some column.Dead) h = refl
    unfilled c (Some (column.Filling d m)) h = absurd (at c (column.Filling d m) h)
    unfilled c (Some column.Spread) h = refl
    unfilled c None h = refl

    unspread : (c : ℕ) (o : Option Column) → slice_get columns c ≡ o → (c ≡ 0 → ⊥) → passes is_set_spread o ≡ false
    unspread c (Some (column.Live d)) h ne = refl
    unspread c (Some column.Dead) h ne = refl
    unspread c (Some (column.Filling d m)) h ne = refl
    unspread c (Some column.Spread) h ne = absurd (ne (at c column.Spread h))
    unspread c None h ne = refl
