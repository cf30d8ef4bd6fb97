-- The arrays that the tests have.
use Rattle.std.proofs.Common.{◌≡◌, ◌∙◌, ℕ, suc, ◌<◌, ◌≤◌, Bool, false, cond, List, [], ◌∷◌, length, get_or, Option, Some, None, refl, sym, ap, subst, inl, inr, arith}
use Rattle.std.specs.Prelude.{IsSome, count_by, slice_get}
use Rattle.std.proofs.lemmas.Bool.{cases_lt}
use Rattle.std.proofs.lemmas.List.Elements.{All-from_get_or}
use Rattle.std.proofs.lemmas.List.Sums.{sum_by-cons}
use Rattle.std.proofs.lemmas.Option.{slice_get-get_or, slice_get_past}
use Rattle.blk_disk.specs.declared.disk.Disk.{Ghosts}
use Rattle.blk_disk.specs.Devices.{device_at, size_of}
use Rattle.eng_cols.specs.declared.column.Column.{Column}
use Rattle.eng_cols.specs.declared.column.Column.TheVariants as column
use Rattle.eng_cols.specs.Cols.{device_set, is_set_filling, is_set_spread}
use Rattle.top_close.specs.Settled.{HaveDevices}
use Rattle.top_rounds.specs.Labels.{IsNumbered}
use Rattle.top_rounds.specs.Passes.{CanBeLabelled}
use Rattle.act_tests.specs.RoundSamples.{Fits, FitsAt}

-- neither filling nor spread
abbrev IsPlain : Option Column → Type 0
IsPlain (Some (column.Live d)) = Unit {0}
IsPlain (Some column.Dead) = Unit {0}
IsPlain (Some (column.Filling d m)) = ⊥
IsPlain (Some column.Spread) = ⊥
IsPlain None = Unit {0}

not_filling : (x : Column) → IsPlain (Some x) → is_set_filling x ≡ false
not_filling (column.Live d) h = refl
not_filling column.Dead h = refl
not_filling (column.Filling d m) h = absurd h
not_filling column.Spread h = absurd h

not_spread : (x : Column) → IsPlain (Some x) → is_set_spread x ≡ false
not_spread (column.Live d) h = refl
not_spread column.Dead h = refl
not_spread (column.Filling d m) h = absurd h
not_spread column.Spread h = absurd h

count_none : (p : Column → Bool) → ((x : Column) → IsPlain (Some x) → p x ≡ false) → (xs : List Column) → ((c : ℕ) → IsPlain (slice_get xs c)) → count_by p xs ≡ 0
count_none p none [] each = refl
count_none p none (x ∷ xs) each =
    let here : ◌≡◌ {A = ℕ} (cond (p x) 1 0) 0 = ap (λ b. cond b 1 0) (none x (each 0)) in
    omega (arith, sum_by-cons (λ y. cond (p y) 1 0) x xs, here, count_none p none xs (λ c. each (suc c)))

module _ {D : Type 0} (g : Ghosts D) (columns : List Column) (ds : List (Option D)) where
  -- a column past the last fits
  pub fits_all : ((c : ℕ) → c < length columns → FitsAt g columns ds c) → (c : ℕ) → FitsAt g columns ds c
  fits_all below c = elim (cases_lt c (length columns)) [
    | inl lt ↦ below c lt
    | inr le ↦ subst (λ o. Fits g ds c o) (sym (slice_get_past columns c le)) tt
  ]

  -- a column that has a device is live on it
  on_live : (c d : ℕ) (o : Option Column) → Fits g ds c o → device_set o ≡ Some d → Fits g ds c (Some (column.Live d))
  on_live c d (Some (column.Live e)) f on = let same : e ≡ d = cc on in subst (λ k. Fits g ds c (Some (column.Live k))) same f
  on_live c d (Some column.Dead) f on = let z : None ≡ Some d = on in absurd (let u : ⊥ = cc in u)
  on_live c d (Some (column.Filling e m)) f on = absurd f
  on_live c d (Some column.Spread) f on = let z : None ≡ Some d = on in absurd (let u : ⊥ = cc in u)
  on_live c d None f on = let z : None ≡ Some d = on in absurd (let u : ⊥ = cc in u)

  have : ((c : ℕ) → FitsAt g columns ds c) → HaveDevices columns ds
  have fits = record {
    there = λ c d live. let f : Fits g ds c (Some (column.Live d)) = on_live c d (slice_get columns c) (fits c) live in subst (λ k. IsSome (device_at ds k)) (sym f.0) f.1;
    apart = λ c k d one two.
        let f : Fits g ds c (Some (column.Live d)) = on_live c d (slice_get columns c) (fits c) one in
        let h : Fits g ds k (Some (column.Live d)) = on_live k d (slice_get columns k) (fits k) two in
        sym f.0 ∙ h.0;
  }

  numbered : (c : ℕ) (x : Column) → c < length columns → Fits g ds c (Some x) → IsNumbered (length columns) x
  numbered c (column.Live d) within f = omega (arith, within, f.0)
  numbered c column.Dead within f = tt
  numbered c (column.Filling d m) within f = absurd f
  numbered c column.Spread within f = tt

  pub can : length columns ≤ 32 → ((c : ℕ) → FitsAt g columns ds c) → CanBeLabelled g columns ds
  can few fits = record {
    have = have fits;
    sized = λ c d live.
        let f : Fits g ds c (Some (column.Live d)) = on_live c d (slice_get columns c) (fits c) live in
        subst (λ k. 1 ≤ size_of g ds k) (sym f.0) f.2;
    columns_most = few;
    numbered = All-from_get_or (IsNumbered (length columns)) columns column.Dead (λ i within. numbered i (get_or columns i column.Dead) within (subst (λ o. Fits g ds i o) (slice_get-get_or columns i column.Dead within) (fits i)));
  }

  plain : (c : ℕ) (o : Option Column) → Fits g ds c o → IsPlain o
  plain c (Some (column.Live d)) f = tt
  plain c (Some column.Dead) f = tt
  plain c (Some (column.Filling d m)) f = f
  plain c (Some column.Spread) f = f
  plain c None f = tt

  pub none_filling : ((c : ℕ) → FitsAt g columns ds c) → count_by is_set_filling columns ≡ 0
  none_filling fits = count_none is_set_filling not_filling columns (λ c. plain c (slice_get columns c) (fits c))

  pub none_spread : ((c : ℕ) → FitsAt g columns ds c) → count_by is_set_spread columns ≡ 0
  none_spread fits = count_none is_set_spread not_spread columns (λ c. plain c (slice_get columns c) (fits c))
