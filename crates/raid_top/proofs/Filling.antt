-- The column that is filling as an array is opened.
use Rattle.std.specs.Prelude.{◌≡◌, ℕ, zero, suc, Bool, true, false, List, [], ◌∷◌, length, if◌then◌else◌, Option, Some, None, nat_le, nat_lt, slice_get, slice_index, slice_index_or, slice_set}
use Rattle.std.proofs.Common.{refl, sym, ap, ◌∙◌}
use Rattle.eng_cols.specs.Cols.{is_set_filling, passes}
use Rattle.eng_cols.specs.declared.column.Column.{Column}
use Rattle.eng_cols.specs.declared.column.Column.TheVariants as column
use Rattle.lay_core.specs.Layout.{Shape}
use Rattle.top_duty.specs.First.{first_of}
use Rattle.top_duty.specs.Opening.{filling_at, stripes_on}
use Rattle.top_duty.specs.Steps.{left_at, without_small, kept_if_large}
use Rattle.top_open.specs.Steps.{kept_if_left}
use Rattle.std.specs.Option.{option_or}

-- ## It is filling

-- one that was found passes
first_passes : (p : ℕ → Bool) (n j : ℕ) → first_of p n ≡ Some j → p j ≡ true
unfolding first_of
first_passes p zero j h = absurd (let z : ⊥ = cc h in z)
first_passes p (suc n) j h = go (λ e. first_passes p n j e) (first_of p n) refl (p n) refl h
  where
    go : (first_of p n ≡ Some j → p j ≡ true) → (o : Option ℕ) → first_of p n ≡ o → (b : Bool) → p n ≡ b → option_or o (if b then Some n else None) ≡ Some j → p j ≡ true
    go rest (Some i) e b f h = rest (e ∙ h)
    go rest None e true f h = let same : n ≡ j = cc h in ap p (sym same) ∙ f
    go rest None e false f h = absurd (let z : ⊥ = cc h in z)

pub filling_passes : (columns : List Column) (c : ℕ) → filling_at columns ≡ Some c → passes is_set_filling (slice_get columns c) ≡ true
unfolding filling_at
filling_passes columns c h = first_passes (λ i. passes is_set_filling (slice_get columns i)) (length columns) c h

-- ## It was so before columns were judged

-- a judgement makes no column filling
was_filling : (f : Column → Column) → ((x : Column) (d m : ℕ) → f x ≡ column.Filling d m → x ≡ column.Filling d m) → (xs : List Column) (i c d m : ℕ)
    → slice_get (slice_set xs i (f (slice_index_or xs i column.Dead))) c ≡ Some (column.Filling d m) → slice_get xs c ≡ Some (column.Filling d m)
was_filling f law [] i c d m h = h
was_filling f law (x ∷ xs) zero zero d m h = let e : f x ≡ column.Filling d m = cc h in ap (λ (z : Column). Some z) (law x d m e)
was_filling f law (x ∷ xs) zero (suc c) d m h = h
was_filling f law (x ∷ xs) (suc i) zero d m h = h
was_filling f law (x ∷ xs) (suc i) (suc c) d m h = was_filling f law xs i c d m h

either_filling : (x : Column) (d m : ℕ) (b : Bool) → (if b then x else column.Dead) ≡ column.Filling d m → x ≡ column.Filling d m
either_filling x d m true h = h
either_filling x d m false h = absurd (let z : ⊥ = cc h in z)

if_left : (n : ℕ) (x : Column) (d m : ℕ) → kept_if_left n x ≡ column.Filling d m → x ≡ column.Filling d m
if_left n (column.Live e) d m h = h
if_left n column.Dead d m h = h
if_left n (column.Filling e k) d m h = either_filling (column.Filling e k) d m (nat_lt k n) h
if_left n column.Spread d m h = h

if_large : (sizes : List ℕ) (needs : ℕ) (x : Column) (d m : ℕ) → kept_if_large sizes needs x ≡ column.Filling d m → x ≡ column.Filling d m
if_large sizes needs (column.Live e) d m h = either_filling (column.Live e) d m (nat_le needs (slice_index sizes e)) h
if_large sizes needs column.Dead d m h = h
if_large sizes needs (column.Filling e k) d m h = either_filling (column.Filling e k) d m (nat_le needs (slice_index sizes e)) h
if_large sizes needs column.Spread d m h = h

pub left_filling : (y : Shape) (columns : List Column) (i : Option ℕ) (c d m : ℕ) → slice_get (left_at y columns i) c ≡ Some (column.Filling d m) → slice_get columns c ≡ Some (column.Filling d m)
left_filling y columns None c d m h = h
left_filling y columns (Some i) c d m h = was_filling (kept_if_left (stripes_on y columns i)) (if_left (stripes_on y columns i)) columns i c d m h

pub large_filling : (i : Option ℕ) (sizes : List ℕ) (needs : ℕ) (columns : List Column) (c d m : ℕ) → slice_get (without_small i sizes needs columns) c ≡ Some (column.Filling d m) → slice_get columns c ≡ Some (column.Filling d m)
large_filling None sizes needs columns c d m h = h
large_filling (Some i) sizes needs columns c d m h = was_filling (kept_if_large sizes needs) (if_large sizes needs) columns i c d m h
