-- An opening with the column that is filling, by how the array is judged.
use Rattle.std.proofs.Common.{◌≡◌, ◌∙◌, ap, sym, subst, ℕ, zero, suc, ◌+◌, ◌-◌, ◌≤◌, ◌==◌, ◌⊎◌, inl, inr, Bool, true, false, List, [], ◌∷◌, length, refl, arith, Option, Some, None, slice_get, slice_set, length-set}
use Rattle.std.specs.Prelude.{if◌then◌else◌, Result, Ok, Err, count_by, slice_index_or}
use Rattle.std.proofs.lemmas.Bool.{cases_eq, eqb-true, eqb-false}
use Rattle.eng_cols.specs.declared.column.Column.{Column}
use Rattle.eng_cols.specs.declared.column.Column.TheVariants as column
use Rattle.eng_cols.specs.Cols.{is_set_filling, is_set_spread, device_set}
use Rattle.eng_cols.proofs.Lists.{get_set_other}
use Rattle.raid_label.specs.declared.label.Label.{Label}
use Rattle.top_open.specs.declared.fronts.Front.{Front}
use Rattle.top_open.specs.declared.fault.OpenFault.{OpenFault}
use Rattle.top_open.specs.declared.fault.OpenFault.TheVariants as fault
use Rattle.top_open.specs.declared.opened.Opened as declared_opened
use Rattle.top_open.specs.declared.plan.Plan.{Plan}
use Rattle.top_open.specs.declared.plan.Needs.{Needs}
use Rattle.top_open.specs.Opening.{Opened, OpensAs, judged_in, opened_in, opened_seen, with_filling, filled_by}
use Rattle.top_open.specs.Steps.{as_filled, filled_if, filling_of}
use Rattle.top_open.proofs.Counting.{count_one}
use Rattle.top_open.proofs.Columns.{columns_count, no_filling}
use Rattle.top_open.proofs.OneSpread.{one_spread}

-- ## The code

module _ (q : Needs) (p : Plan) (present : List Bool) (sizes : List ℕ) (fronts : List Front) where
  pub opens-filled : (opened filled : declared_opened.Opened) (result : Result declared_opened.Opened OpenFault) → result ≡ Ok opened → OpensAs result (judged_in q p present sizes fronts) → opened_seen filled ≡ as_filled (opened_seen opened)
      → opened_in q p present sizes fronts ≡ Ok (opened_seen filled)
  unfolding opened_in
  opens-filled opened filled result is opens e =
      let judged : judged_in q p present sizes fronts ≡ Ok (opened_seen opened) = subst (λ r. OpensAs r (judged_in q p present sizes fronts)) is opens in
      ap filled_if judged ∙ ap Ok (sym e)

  pub opens-refused : (f : OpenFault) (result : Result declared_opened.Opened OpenFault) → result ≡ Err f → OpensAs result (judged_in q p present sizes fronts)
      → (f ≡ fault.Memory) ⊎ (opened_in q p present sizes fronts ≡ Err f)
  unfolding opened_in
  opens-refused f result is opens = go (subst (λ r. OpensAs r (judged_in q p present sizes fronts)) is opens)
    where
      go : (f ≡ fault.Memory) ⊎ (judged_in q p present sizes fronts ≡ Err f) → (f ≡ fault.Memory) ⊎ (filled_if (judged_in q p present sizes fronts) ≡ Err f)
      go (inl h) = inl h
      go (inr h) = inr (ap filled_if h)

  -- ## How it was judged

  pub record WasJudged (o : Opened) : Type 0 where
    pub judged : Opened
    pub is : judged_in q p present sizes fronts ≡ Ok judged
    pub filled : as_filled judged ≡ o

  pub was-judged : (o : Opened) → opened_in q p present sizes fronts ≡ Ok o → WasJudged o
  unfolding opened_in
  was-judged o h = go (judged_in q p present sizes fronts) refl h
    where
      go : (r : Result Opened OpenFault) → judged_in q p present sizes fronts ≡ r → filled_if r ≡ Ok o → WasJudged o
      go (Ok j) e h = record { judged = j; is = e; filled = cc }
      go (Err f) e h = cc

-- ## The columns

-- what stands at c
Stands : (xs : List Column) (c : ℕ) (x : Column) → Type 0
Stands xs c x = slice_get xs c ≡ Some x

index-of : (xs : List Column) (c : ℕ) (x : Column) → slice_get xs c ≡ Some x → slice_index_or xs c column.Dead ≡ x
index-of [] c x h = let z : None ≡ Some x = h in absurd (let u : ⊥ = cc in u)
index-of (z ∷ xs) zero x h = cc
index-of (z ∷ xs) (suc c) x h = index-of xs c x h

some-is : {x y : Column} → Some x ≡ Some y → x ≡ y
some-is h = cc

set-there : (xs : List Column) (c : ℕ) (x y : Column) → slice_get (slice_set xs c x) c ≡ Some y → (w : Column) × (slice_get xs c ≡ Some w) × (x ≡ y)
set-there [] c x y h = let z : None ≡ Some y = h in absurd (let u : ⊥ = cc in u)
set-there (z ∷ xs) zero x y h = (z, refl, some-is h)
set-there (z ∷ xs) (suc c) x y h = set-there xs c x y h

-- a column stands as it was, or it is the one that the label names
data Became (l : Label) (columns : List Column) (c : ℕ) (x : Column) : Type 0 where
  same : slice_get columns c ≡ Some x → Became l columns c x
  named : (was : Column) → slice_get columns c ≡ Some was → l.filling ≡ c + 1 → filling_of l was ≡ x → Became l columns c x

became : (l : Label) (columns : List Column) (c : ℕ) (x : Column) → slice_get (with_filling l columns) c ≡ Some x → Became l columns c x
unfolding with_filling
became l columns c x h = go (l.filling == 0) refl h
  where
    k : ℕ
    k = l.filling - 1

    go : (b : Bool) → (l.filling == 0) ≡ b → slice_get (if b then columns else slice_set columns (l.filling - 1) (filling_of l (slice_index_or columns (l.filling - 1) column.Dead))) c ≡ Some x → Became l columns c x
    go true e h = same h
    go false e h = elim (cases_eq c (l.filling - 1)) [
      | inr ne ↦ same (sym (get_set_other columns (l.filling - 1) c _ ne) ∙ h)
      | inl at ↦
          let t = set-there columns (l.filling - 1) (filling_of l (slice_index_or columns (l.filling - 1) column.Dead)) x (ap (λ j. slice_get (slice_set columns (l.filling - 1) (filling_of l (slice_index_or columns (l.filling - 1) column.Dead))) j) (sym at) ∙ h) in
          named t.0 (ap (slice_get columns) at ∙ t.1) (omega (arith, at, eqb-false l.filling 0 e)) (ap (filling_of l) (sym (index-of columns (l.filling - 1) t.0 t.1)) ∙ t.2)
    ]

abbrev none-filling : List Column → Type 0
none-filling columns = (c d m : ℕ) → slice_get columns c ≡ Some (column.Filling d m) → ⊥

module _ (l : Label) (columns : List Column) (plain : none-filling columns) where
  -- a column that has a device had it, and was live
  was-live : (c d : ℕ) (x : Column) → slice_get (with_filling l columns) c ≡ Some x → device_set (Some x) ≡ Some d → slice_get columns c ≡ Some (column.Live d)
  was-live c d x h on = go (became l columns c x h)
    where
      by-same : (x : Column) → slice_get columns c ≡ Some x → device_set (Some x) ≡ Some d → slice_get columns c ≡ Some (column.Live d)
      by-same (column.Live e) is on = let q : e ≡ d = cc in is ∙ ap (λ j. Some (column.Live j)) q
      by-same column.Dead is on = cc
      by-same (column.Filling e m) is on = absurd (plain c e m is)
      by-same column.Spread is on = cc

      by-named : (was : Column) → slice_get columns c ≡ Some was → filling_of l was ≡ x → slice_get columns c ≡ Some (column.Live d)
      by-named (column.Live e) is f = by-clean (l.clean == 1) f
        where
          by-clean : (b : Bool) → (if b then column.Filling e l.done else column.Dead) ≡ x → slice_get columns c ≡ Some (column.Live d)
          by-clean true f = let z : Some e ≡ Some d = ap (λ y. device_set (Some y)) f ∙ on in let q : e ≡ d = cc in is ∙ ap (λ j. Some (column.Live j)) q
          by-clean false f = let z : None ≡ Some d = ap (λ y. device_set (Some y)) f ∙ on in absurd (let u : ⊥ = cc in u)
      by-named column.Dead is f = let z : None ≡ Some d = ap (λ y. device_set (Some y)) f ∙ on in absurd (let u : ⊥ = cc in u)
      by-named (column.Filling e m) is f = absurd (plain c e m is)
      by-named column.Spread is f = let z : None ≡ Some d = ap (λ y. device_set (Some y)) f ∙ on in absurd (let u : ⊥ = cc in u)

      go : Became l columns c x → slice_get columns c ≡ Some (column.Live d)
      go (same is) = by-same x is on
      go (named was is at f) = by-named was is f

  -- a spread one was spread
  was-spread : (c : ℕ) → slice_get (with_filling l columns) c ≡ Some column.Spread → slice_get columns c ≡ Some column.Spread
  was-spread c h = go (became l columns c column.Spread h)
    where
      by-named : (was : Column) → slice_get columns c ≡ Some was → filling_of l was ≡ column.Spread → slice_get columns c ≡ Some column.Spread
      by-named (column.Live e) is f = by-clean (l.clean == 1) f
        where
          by-clean : (b : Bool) → (if b then column.Filling e l.done else column.Dead) ≡ column.Spread → slice_get columns c ≡ Some column.Spread
          by-clean true f = cc f
          by-clean false f = cc f
      by-named column.Dead is f = cc f
      by-named (column.Filling e m) is f = cc f
      by-named column.Spread is f = is

      go : Became l columns c column.Spread → slice_get columns c ≡ Some column.Spread
      go (same is) = is
      go (named was is at f) = by-named was is f

  -- a filling one is the one that the label names, clean, with its done stripes
  is-named : (c d m : ℕ) → slice_get (with_filling l columns) c ≡ Some (column.Filling d m) → (l.filling ≡ c + 1) × (l.done ≡ m) × (l.clean ≡ 1)
  is-named c d m h = go (became l columns c (column.Filling d m) h)
    where
      by-named : (was : Column) → slice_get columns c ≡ Some was → l.filling ≡ c + 1 → filling_of l was ≡ column.Filling d m → (l.filling ≡ c + 1) × (l.done ≡ m) × (l.clean ≡ 1)
      by-named (column.Live e) is at f = by-clean (l.clean == 1) refl f
        where
          by-clean : (b : Bool) → (l.clean == 1) ≡ b → (if b then column.Filling e l.done else column.Dead) ≡ column.Filling d m → (l.filling ≡ c + 1) × (l.done ≡ m) × (l.clean ≡ 1)
          by-clean true one f = (at, (let q : l.done ≡ m = cc f in q), eqb-true l.clean 1 one)
          by-clean false one f = cc f
      by-named column.Dead is at f = cc f
      by-named (column.Filling e n) is at f = absurd (plain c e n is)
      by-named column.Spread is at f = cc f

      go : Became l columns c (column.Filling d m) → (l.filling ≡ c + 1) × (l.done ≡ m) × (l.clean ≡ 1)
      go (same is) = absurd (plain c d m is)
      go (named was is at f) = by-named was is at f

-- ## By the newest label, if there is one

module _ (columns : List Column) (plain : none-filling columns) where
  device-there : (xs : List Column) (c d : ℕ) → device_set (slice_get xs c) ≡ Some d → (x : Column) × (slice_get xs c ≡ Some x) × (device_set (Some x) ≡ Some d)
  device-there xs c d h = go (slice_get xs c) refl h
    where
      go : (o : Option Column) → slice_get xs c ≡ o → device_set o ≡ Some d → (x : Column) × (slice_get xs c ≡ Some x) × (device_set (Some x) ≡ Some d)
      go None e h = cc h
      go (Some x) e h = (x, e, h)

  live-before : (n : Option Label) (c d : ℕ) → device_set (slice_get (filled_by n columns) c) ≡ Some d → slice_get columns c ≡ Some (column.Live d)
  live-before (Some l) c d h = let t = device-there (with_filling l columns) c d h in was-live l columns plain c d t.0 t.1 t.2
  live-before None c d h = let t = device-there columns c d h in go t.0 t.1 t.2
    where
      go : (x : Column) → slice_get columns c ≡ Some x → device_set (Some x) ≡ Some d → slice_get columns c ≡ Some (column.Live d)
      go (column.Live e) is on = let q : e ≡ d = cc in is ∙ ap (λ j. Some (column.Live j)) q
      go column.Dead is on = cc on
      go (column.Filling e m) is on = absurd (plain c e m is)
      go column.Spread is on = cc on

  spread-before : (n : Option Label) (c : ℕ) → slice_get (filled_by n columns) c ≡ Some column.Spread → slice_get columns c ≡ Some column.Spread
  spread-before (Some l) c h = was-spread l columns plain c h
  spread-before None c h = h

  filling-before : (n : Option Label) (c d m : ℕ) → slice_get (filled_by n columns) c ≡ Some (column.Filling d m) → (l : Label) × (n ≡ Some l) × (l.filling ≡ c + 1) × (l.done ≡ m) × (l.clean ≡ 1)
  filling-before (Some l) c d m h = let n = is-named l columns plain c d m h in (l, refl, n.0, n.1, n.2)
  filling-before None c d m h = absurd (plain c d m h)

  filled-length : (n : Option Label) → length (filled_by n columns) ≡ length columns
  unfolding with_filling
  filled-length None = refl
  filled-length (Some l) = go (l.filling == 0)
    where
      go : (b : Bool) → length (if b then columns else slice_set columns (l.filling - 1) (filling_of l (slice_index_or columns (l.filling - 1) column.Dead))) ≡ length columns
      go true = refl
      go false = length-set columns (l.filling - 1) _

  few-filling : (n : Option Label) → count_by is_set_filling (filled_by n columns) ≤ 1
  few-filling n = count_one is_set_filling (filled_by n columns) column.Dead (λ c k x y at here one other. together c k x y at here one other)
    where
      together : (c k : ℕ) (x y : Column) → slice_get (filled_by n columns) c ≡ Some x → slice_get (filled_by n columns) k ≡ Some y → is_set_filling x ≡ true → is_set_filling y ≡ true → c ≡ k
      together c k (column.Filling d m) (column.Filling e j) at here one other =
          let a = filling-before n c d m at in
          let b = filling-before n k e j here in
          let same : Some a.0 ≡ Some b.0 = sym a.1 ∙ b.1 in
          let one : a.0 ≡ b.0 = cc in
          omega (arith, sym a.2 ∙ ap (λ (l : Label). l.filling) one ∙ b.2)
      together c k (column.Live d) y at here one other = cc one
      together c k column.Dead y at here one other = cc one
      together c k column.Spread y at here one other = cc one
      together c k (column.Filling d m) (column.Live e) at here one other = cc other
      together c k (column.Filling d m) column.Dead at here one other = cc other
      together c k (column.Filling d m) column.Spread at here one other = cc other

-- ## Of an opening

module _ (q : Needs) (p : Plan) (present : List Bool) (sizes : List ℕ) (fronts : List Front) (o : Opened) (opens : opened_in q p present sizes fronts ≡ Ok o) where
  pub was : WasJudged q p present sizes fronts o
  was = was-judged q p present sizes fronts o opens

  plain : (c d m : ℕ) → slice_get was.judged.columns c ≡ Some (column.Filling d m) → ⊥
  plain = no_filling q p present sizes fronts was.judged was.is

  columns-are : filled_by was.judged.newest was.judged.columns ≡ o.columns
  columns-are = ap (λ (x : Opened). x.columns) was.filled

  pub newest-is : was.judged.newest ≡ o.newest
  newest-is = ap (λ (x : Opened). x.newest) was.filled

  pub rows-are : was.judged.rows ≡ o.rows
  rows-are = ap (λ (x : Opened). x.rows) was.filled

  pub live : (c d : ℕ) → device_set (slice_get o.columns c) ≡ Some d → slice_get was.judged.columns c ≡ Some (column.Live d)
  live c d h = live-before was.judged.columns plain was.judged.newest c d (ap (λ l. device_set (slice_get l c)) columns-are ∙ h)

  pub spread : (c : ℕ) → slice_get o.columns c ≡ Some column.Spread → slice_get was.judged.columns c ≡ Some column.Spread
  spread c h = spread-before was.judged.columns plain was.judged.newest c (ap (λ l. slice_get l c) columns-are ∙ h)

  pub filling : (c d m : ℕ) → slice_get o.columns c ≡ Some (column.Filling d m) → (l : Label) × (o.newest ≡ Some l) × (l.filling ≡ c + 1) × (l.done ≡ m) × (l.clean ≡ 1)
  filling c d m h =
      let f = filling-before was.judged.columns plain was.judged.newest c d m (ap (λ l. slice_get l c) columns-are ∙ h) in
      (f.0, sym newest-is ∙ f.1, f.2, f.3, f.4)

  pub entries : length o.columns ≡ length present
  entries = ap (λ (l : List Column). length l) (sym columns-are) ∙ filled-length was.judged.columns plain was.judged.newest ∙ columns_count q p present sizes fronts was.judged was.is

  pub one-filling : count_by is_set_filling o.columns ≤ 1
  one-filling = subst (λ (l : List Column). count_by is_set_filling l ≤ 1) columns-are (few-filling was.judged.columns plain was.judged.newest)

  pub few-spread : count_by is_set_spread o.columns ≤ 1
  few-spread = count_one is_set_spread o.columns column.Dead
      (λ c k x y at here one other. (one_spread q p present sizes fronts was.judged was.is c k (spread c (at ∙ ap (λ (z : Column). Some z) (is-spread x one))) (spread k (here ∙ ap (λ (z : Column). Some z) (is-spread y other)))).0)
    where
      is-spread : (x : Column) → is_set_spread x ≡ true → x ≡ column.Spread
      is-spread (column.Live d) e = cc e
      is-spread column.Dead e = cc e
      is-spread (column.Filling d m) e = cc e
      is-spread column.Spread e = refl
