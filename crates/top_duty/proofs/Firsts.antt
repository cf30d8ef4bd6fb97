-- The first of some numbers that passes: the column that is filling, and the first spare that is free.
use Rattle.std.specs.Prelude.{◌≡◌, ◌<◌, ◌≤◌, ◌+◌, ◌*◌, ℕ, zero, suc, Bool, true, false, List, length, count_by, Option, Some, None, if◌then◌else◌, option_map, slice_get}
use Rattle.std.proofs.Common.{arith, refl, sym, ap, subst, inl, inr, ◌∙◌}
use Rattle.std.proofs.lemmas.Bool.{cases_order}
use Rattle.std.proofs.lemmas.Option.{slice_get_within}
use Rattle.eng_cols.specs.declared.column.Column.{Column}
use Rattle.eng_cols.specs.declared.column.Column.TheVariants as column
use Rattle.eng_cols.specs.Cols.{is_set_filling, passes}
use Rattle.eng_cols.proofs.Lists.{count_at_most}
use Rattle.raid_conf.specs.declared.conf.Conf.{Conf}
use Rattle.top_open.specs.declared.fronts.Front.{Front}
use Rattle.top_open.specs.Opening.{Opened}
use Rattle.top_duty.specs.First.{first_of}
use Rattle.top_duty.specs.Opening.{filling_at}
use Rattle.top_duty.specs.Start.{free_spare}
use Rattle.top_duty.specs.Steps.{is_free}
use Rattle.std.specs.Option.{option_or}

-- one that was found passes
pub first_is : (p : ℕ → Bool) (n j : ℕ) → first_of p n ≡ Some j → (p j ≡ true) × (j < n)
unfolding first_of
first_is p zero j h = absurd (let z : ⊥ = cc h in z)
first_is p (suc n) j h = go (λ e. first_is p n j e) (first_of p n) refl (p n) refl h
  where
    go : (first_of p n ≡ Some j → (p j ≡ true) × (j < n)) → (o : Option ℕ) → first_of p n ≡ o → (b : Bool) → p n ≡ b → option_or o (if b then Some n else None) ≡ Some j → (p j ≡ true) × (j < suc n)
    go rest (Some i) e b f h = let r = rest (e ∙ h) in (r.0, omega (arith, r.1))
    go rest None e true f h = let same : n ≡ j = cc h in (ap p (sym same) ∙ f, omega (arith, same))
    go rest None e false f h = absurd (let z : ⊥ = cc h in z)

-- none of no numbers does
pub first_zero : (p : ℕ → Bool) → first_of p 0 ≡ None
unfolding first_of
first_zero p = refl

-- and none of one more, which doesn't
first_suc : (p : ℕ → Bool) (n : ℕ) → first_of p n ≡ None → p n ≡ false → first_of p (suc n) ≡ None
unfolding first_of
first_suc p n none e = ap (λ (o : Option ℕ). option_or o (if p n then Some n else None)) none ∙ ap (λ (b : Bool). if b then Some n else None) e

pub first_more : (p : ℕ → Bool) (n : ℕ) → first_of p n ≡ None → p n ≡ false → first_of p (n + 1) ≡ None
first_more p n none e = let next : n + 1 ≡ suc n = omega arith in ap (first_of p) next ∙ first_suc p n none e

-- the one behind those of which none does
first_here : (p : ℕ → Bool) (j : ℕ) → first_of p j ≡ None → p j ≡ true → first_of p (suc j) ≡ Some j
unfolding first_of
first_here p j none e = ap (λ (o : Option ℕ). option_or o (if p j then Some j else None)) none ∙ ap (λ (b : Bool). if b then Some j else None) e

first_stays : (p : ℕ → Bool) (n j : ℕ) → first_of p n ≡ Some j → first_of p (suc n) ≡ Some j
unfolding first_of
first_stays p n j h = ap (λ (o : Option ℕ). option_or o (if p n then Some n else None)) h

first_at : (p : ℕ → Bool) (n j : ℕ) → first_of p j ≡ None → p j ≡ true → j < n → first_of p n ≡ Some j
first_at p zero j none e lt = absurd (omega (arith, lt))
first_at p (suc n) j none e lt = elim (cases_order j n) [
  | inl same ↦ subst (λ (i : ℕ). first_of p (suc i) ≡ Some j) same (first_here p j none e)
  | inr order ↦ elim order [
    | inl less ↦ first_stays p n j (first_at p n j none e less)
    | inr more ↦ absurd (omega (arith, lt, more))
  ]
]

-- where none was found, none passes
pub first_none : (p : ℕ → Bool) (n j : ℕ) → first_of p n ≡ None → j < n → p j ≡ false
unfolding first_of
first_none p zero j h lt = absurd (omega (arith, lt))
first_none p (suc n) j h lt = go (λ e less. first_none p n j e less) (first_of p n) refl (p n) refl h
  where
    here : (b : Bool) → p n ≡ b → b ≡ false → (first_of p n ≡ None → j < n → p j ≡ false) → first_of p n ≡ None → p j ≡ false
    here b f e rest none = elim (cases_order j n) [
      | inl same ↦ ap p same ∙ (f ∙ e)
      | inr order ↦ elim order [
        | inl less ↦ rest none less
        | inr more ↦ absurd (omega (arith, lt, more))
      ]
    ]

    go : (first_of p n ≡ None → j < n → p j ≡ false) → (o : Option ℕ) → first_of p n ≡ o → (b : Bool) → p n ≡ b → option_or o (if b then Some n else None) ≡ None → p j ≡ false
    go rest (Some i) e b f h = absurd (let z : ⊥ = cc h in z)
    go rest None e true f h = absurd (let z : ⊥ = cc h in z)
    go rest None e false f h = here false f refl rest e

-- ## The column that is filling

-- the one that was found is
pub filling_is : (columns : List Column) (c : ℕ) → filling_at columns ≡ Some c → (c < length columns) × (d : ℕ) × (m : ℕ) × (slice_get columns c ≡ Some (column.Filling d m))
unfolding filling_at
filling_is columns c h = let first = first_is (λ i. passes is_set_filling (slice_get columns i)) (length columns) c h in go (slice_get columns c) refl first.0 first.1
  where
    go : (o : Option Column) → slice_get columns c ≡ o → passes is_set_filling o ≡ true → c < length columns → (c < length columns) × (d : ℕ) × (m : ℕ) × (slice_get columns c ≡ Some (column.Filling d m))
    go None e is lt = absurd (let z : ⊥ = cc is in z)
    go (Some (column.Live d)) e is lt = absurd (let z : ⊥ = cc is in z)
    go (Some column.Dead) e is lt = absurd (let z : ⊥ = cc is in z)
    go (Some (column.Filling d m)) e is lt = (lt, d, m, e)
    go (Some column.Spread) e is lt = absurd (let z : ⊥ = cc is in z)

-- the one that is was found, where no two are
pub filling_found : (columns : List Column) (c d m : ℕ) → count_by is_set_filling columns ≤ 1 → slice_get columns c ≡ Some (column.Filling d m) → filling_at columns ≡ Some c
unfolding filling_at
filling_found columns c d m few at = go (first_of p (length columns)) refl
  where
    p : ℕ → Bool
    p i = passes is_set_filling (slice_get columns i)

    here : p c ≡ true
    here = ap (passes is_set_filling) at

    go : (o : Option ℕ) → first_of p (length columns) ≡ o → first_of p (length columns) ≡ Some c
    go None e =
        let none : p c ≡ false = first_none p (length columns) c e (slice_get_within columns c (column.Filling d m) at) in
        let other : true ≡ false = sym here ∙ none in
        absurd (let z : ⊥ = cc other in z)
    go (Some j) e =
        let same : j ≡ c = count_at_most is_set_filling columns few j c (first_is p (length columns) j e).0 here in
        e ∙ ap (λ (i : ℕ). Some i) same

-- behind columns that aren't
pub filling_here : (columns : List Column) (j : ℕ) → first_of (λ i. passes is_set_filling (slice_get columns i)) j ≡ None → passes is_set_filling (slice_get columns j) ≡ true → j < length columns → Some j ≡ filling_at columns
unfolding filling_at
filling_here columns j none e lt = sym (first_at (λ i. passes is_set_filling (slice_get columns i)) (length columns) j none e lt)

pub filling_none : (columns : List Column) (n : ℕ) → first_of (λ i. passes is_set_filling (slice_get columns i)) n ≡ None → n ≡ length columns → None ≡ filling_at columns
unfolding filling_at
filling_none columns n none e = sym (ap (first_of (λ i. passes is_set_filling (slice_get columns i))) (sym e) ∙ none)

-- ## The first spare that is free

module _ (conf : Conf) (o : Opened) (sizes : List ℕ) (fronts : List Front) (needs : ℕ) (same : needs ≡ 64 + o.rows * conf.unit) where
  pub spare_found : (j : ℕ) → first_of (λ i. is_free needs sizes fronts o.seats (conf.columns + i)) j ≡ None → is_free needs sizes fronts o.seats (conf.columns + j) ≡ true → j < conf.spares
      → Some (conf.columns + j) ≡ free_spare conf o sizes fronts
  unfolding free_spare
  spare_found j none e lt =
      sym (ap (λ (r : Option ℕ). option_map (λ (i : ℕ). conf.columns + i) r)
      (subst (λ (n : ℕ). first_of (λ i. is_free n sizes fronts o.seats (conf.columns + i)) conf.spares ≡ Some j) same
      (first_at (λ i. is_free needs sizes fronts o.seats (conf.columns + i)) conf.spares j none e lt)))
