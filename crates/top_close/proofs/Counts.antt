-- Deaths of columns make none filling, and none spread.
use Rattle.std.proofs.Common.{◌≡◌, ◌⊎◌, ℕ, zero, suc, ◌+◌, ◌≤◌, Bool, true, false, cond, List, [], ◌∷◌, length, Option, Some, None, refl, ap, inl, inr, arith}
use Rattle.std.specs.Prelude.{count_by, slice_get}
use Rattle.std.proofs.lemmas.List.Sums.{sum_by-cons}
use Rattle.eng_cols.specs.declared.column.Column.{Column}
use Rattle.eng_cols.specs.declared.column.Column.TheVariants as column
use Rattle.eng_cols.specs.Cols.{passes}
use Rattle.eng_cols.specs.Deaths.{Dies}

-- what stands there, or else this
or_else : Column → Option Column → Column
or_else d None = d
or_else d (Some x) = x

-- one where the column passes
pub one_if : Bool → ℕ
one_if b = cond b 1 0

pub nothing : (b : Bool) → b ≡ false → one_if b ≡ 0
unfolding one_if
nothing false h = refl
nothing true h = let z : true ≡ false = h in absurd (let u : ⊥ = cc in u)

pub some : (b : Bool) → b ≡ true → one_if b ≡ 1
unfolding one_if
some true h = refl
some false h = let z : false ≡ true = h in absurd (let u : ⊥ = cc in u)

pub counted : (p : Column → Bool) (x : Column) (xs : List Column) → count_by p (x ∷ xs) ≡ one_if (p x) + count_by p xs
unfolding one_if
counted p x xs = sum_by-cons (λ y. cond (p y) 1 0) x xs

one_le : (p : Column → Bool) → p column.Dead ≡ false → (x y : Column) → (Some y ≡ Some x) ⊎ (Some y ≡ Some column.Dead) → one_if (p y) ≤ one_if (p x)
unfolding or_else
one_le p none x y h = elim h [
  | inl same ↦ let e : one_if (p y) ≡ one_if (p x) = ap (λ o. one_if (p (or_else x o))) same in omega (arith, e)
  | inr dead ↦ let e : one_if (p y) ≡ one_if (p column.Dead) = ap (λ o. one_if (p (or_else x o))) dead in omega (arith, e, nothing (p column.Dead) none)
]

lists_le : (p : Column → Bool) → p column.Dead ≡ false → (old new : List Column) → length new ≡ length old → ((c : ℕ) → (slice_get new c ≡ slice_get old c) ⊎ (slice_get new c ≡ Some column.Dead)) → count_by p new ≤ count_by p old
lists_le p none [] [] long each = omega arith
lists_le p none [] (y ∷ ys) long each = absurd (omega (arith, long))
lists_le p none (x ∷ xs) [] long each = absurd (omega (arith, long))
lists_le p none (x ∷ xs) (y ∷ ys) long each =
    omega (arith, counted p x xs, counted p y ys, one_le p none x y (each 0), lists_le p none xs ys (omega (arith, long)) (λ c. each (suc c)))

-- of columns that pass there are no more behind deaths
pub deaths_pass_less : (cause : ℕ → Type 0) (p : Column → Bool) (old new : List Column) → p column.Dead ≡ false → Dies cause old new → count_by p new ≤ count_by p old
deaths_pass_less cause p old new none dies = lists_le p none old new dies.count (λ c. elim (dies.each c) [ inl same ↦ inl same | inr dead ↦ inr dead.0 ])

-- where none passes none does at any place
pub none_passes : (p : Column → Bool) (xs : List Column) → count_by p xs ≡ 0 → (c : ℕ) → passes p (slice_get xs c) ≡ false
none_passes p [] none c = refl
none_passes p (x ∷ xs) none zero = first (p x) refl
  where
    first : (b : Bool) → p x ≡ b → p x ≡ false
    first false e = e
    first true e = let one : one_if (p x) ≡ 1 = some (p x) e in absurd (omega (arith, none, one, counted p x xs))
none_passes p (x ∷ xs) none (suc c) = none_passes p xs (omega (arith, none, counted p x xs)) c
