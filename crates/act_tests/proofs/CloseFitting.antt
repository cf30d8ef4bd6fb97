-- The arrays that the tests have.
use Rattle.std.proofs.Common.{◌≡◌, ◌∙◌, ℕ, suc, ◌<◌, Bool, false, List, [], ◌∷◌, length, Option, Some, None, refl, sym, subst, inl, inr, arith}
use Rattle.std.specs.Prelude.{IsSome, count_by, slice_get}
use Rattle.std.proofs.lemmas.Bool.{cases_lt}
use Rattle.std.proofs.lemmas.Option.{slice_get_past}
use Rattle.blk_disk.specs.Devices.{device_at}
use Rattle.eng_cols.specs.declared.column.Column.{Column}
use Rattle.eng_cols.specs.declared.column.Column.TheVariants as column
use Rattle.eng_cols.specs.Cols.{device_set, is_set_filling, is_set_spread}
use Rattle.top_close.proofs.Counts.{nothing, counted}
use Rattle.act_tests.specs.CloseSamples.{Fits, FitsAt}
use Rattle.top_close.specs.Settled.{HaveDevices}

module _ {D : Type 0} (columns : List Column) (ds : List (Option D)) where
  -- a column past the last fits
  pub fits_all : ((c : ℕ) → c < length columns → FitsAt columns ds c) → (c : ℕ) → FitsAt columns ds c
  fits_all below c = elim (cases_lt c (length columns)) [
    | inl lt ↦ below c lt
    | inr le ↦ subst (λ o. Fits ds c o) (sym (slice_get_past columns c le)) tt
  ]

  -- a column that has a device is live on it
  on_live : (c d : ℕ) (o : Option Column) → Fits ds c o → device_set o ≡ Some d → Fits ds c (Some (column.Live d))
  on_live c d (Some (column.Live e)) f on = let same : e ≡ d = cc on in subst (λ k. Fits ds c (Some (column.Live k))) same f
  on_live c d (Some column.Dead) f on = let z : None ≡ Some d = on in absurd (let u : ⊥ = cc in u)
  on_live c d (Some (column.Filling e m)) f on = absurd f
  on_live c d (Some column.Spread) f on = let z : None ≡ Some d = on in absurd (let u : ⊥ = cc in u)
  on_live c d None f on = let z : None ≡ Some d = on in absurd (let u : ⊥ = cc in u)

  pub have : ((c : ℕ) → FitsAt columns ds c) → HaveDevices columns ds
  have fits = record {
    there = λ c d live. let f : Fits ds c (Some (column.Live d)) = on_live c d (slice_get columns c) (fits c) live in subst (λ k. IsSome (device_at ds k)) (sym f.0) f.1;
    apart = λ c k d one two.
        let f : Fits ds c (Some (column.Live d)) = on_live c d (slice_get columns c) (fits c) one in
        let h : Fits ds k (Some (column.Live d)) = on_live k d (slice_get columns k) (fits k) two in
        sym f.0 ∙ h.0;
  }

-- neither filling nor spread
IsPlain : Option Column → Type 0
IsPlain (Some (column.Live d)) = Unit {0}
IsPlain (Some column.Dead) = Unit {0}
IsPlain (Some (column.Filling d m)) = ⊥
IsPlain (Some column.Spread) = ⊥
IsPlain None = Unit {0}

plain : {D : Type 0} (ds : List (Option D)) (c : ℕ) (o : Option Column) → Fits ds c o → IsPlain o
unfolding IsPlain
plain ds c (Some (column.Live d)) f = tt
plain ds c (Some column.Dead) f = tt
plain ds c (Some (column.Filling d m)) f = f
plain ds c (Some column.Spread) f = f
plain ds c None f = tt

not_filling : (x : Column) → IsPlain (Some x) → is_set_filling x ≡ false
unfolding IsPlain
not_filling (column.Live d) h = refl
not_filling column.Dead h = refl
not_filling (column.Filling d m) h = absurd h
not_filling column.Spread h = absurd h

not_spread : (x : Column) → IsPlain (Some x) → is_set_spread x ≡ false
unfolding IsPlain
not_spread (column.Live d) h = refl
not_spread column.Dead h = refl
not_spread (column.Filling d m) h = absurd h
not_spread column.Spread h = absurd h

count_none : (p : Column → Bool) → ((x : Column) → IsPlain (Some x) → p x ≡ false) → (xs : List Column) → ((c : ℕ) → IsPlain (slice_get xs c)) → count_by p xs ≡ 0
count_none p none [] each = refl
count_none p none (x ∷ xs) each =
    omega (arith, counted p x xs, nothing (p x) (none x (each 0)), count_none p none xs (λ c. each (suc c)))

pub none_filling : {D : Type 0} (columns : List Column) (ds : List (Option D)) → ((c : ℕ) → FitsAt columns ds c) → count_by is_set_filling columns ≡ 0
none_filling columns ds fits = count_none is_set_filling not_filling columns (λ c. plain ds c (slice_get columns c) (fits c))

pub none_spread : {D : Type 0} (columns : List Column) (ds : List (Option D)) → ((c : ℕ) → FitsAt columns ds c) → count_by is_set_spread columns ≡ 0
none_spread columns ds fits = count_none is_set_spread not_spread columns (λ c. plain ds c (slice_get columns c) (fits c))
