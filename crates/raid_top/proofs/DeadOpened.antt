-- Why a column is dead as an array is opened, from its last column back to the labels.
use Rattle.std.specs.Prelude.{◌≡◌, ◌≢◌, ◌⊎◌, ◌<◌, ◌≤◌, ◌+◌, ◌*◌, ◌-◌, ◌==◌, ◌&&◌, ℕ, zero, suc, Bool, true, false, not, List, [], ◌∷◌, length, get_or, Option, Some, None, Result, Ok, if◌then◌else◌, is_none, nat_le, nat_lt, slice_get, slice_index, slice_index_or, slice_set}
use Rattle.std.proofs.Common.{arith, refl, sym, ap, ap₂, subst, inl, inr, length-set, ◌∙◌}
use Rattle.std.proofs.lemmas.Bool.{eqb-false, eqb-true, leb-false, ltb-false}
use Rattle.std.proofs.lemmas.Option.{slice_get-get_or, slice_get_within}
use Rattle.lay_core.specs.Layout.{Shape}
use Rattle.eng_cols.specs.declared.column.Column.{Column}
use Rattle.eng_cols.specs.declared.column.Column.TheVariants as column
use Rattle.eng_cols.proofs.Lists.{get_set_either, get_set_other}
use Rattle.raid_conf.specs.Layouts.{shape_of}
use Rattle.raid_label.specs.Judged.{fault_in}
use Rattle.raid_label.specs.declared.fault.LabelFault.{LabelFault}
use Rattle.raid_label.specs.declared.label.Label.{Label}
use Rattle.top_bay.specs.Asked.{Asked}
use Rattle.top_open.specs.declared.fault.OpenFault.{OpenFault}
use Rattle.top_open.specs.declared.fronts.Front.{Front}
use Rattle.top_open.specs.declared.fronts.Front.TheVariants as front
use Rattle.top_open.specs.declared.plan.Plan.{Plan}
use Rattle.top_open.specs.declared.plan.Needs.{Needs}
use Rattle.top_open.specs.First.{first_below}
use Rattle.top_open.specs.Labels.{label_at, newest_below, shape_refusal}
use Rattle.top_open.specs.Opening.{floored, Opened, columns_in, counter_refusal, filled_by, judged_in, labelled_in, own_seats, seats_in, small_in, unlabelled_in, unlabelled_refusal, with_filling}
use Rattle.top_open.specs.Steps.{filling_of, is_unlabelled, labelled_if, is_spread_below, kept_if_sound, read_disk, seat_at, wanted, kept_if_left}
use Rattle.top_open.specs.Plan.{is_present, sectors_for, tables_below}
use Rattle.top_open.specs.Seats.{columns_below, is_sound, is_unread, judged_at, seat_of}
use Rattle.top_open.proofs.Below.{length-columns_below}
use Rattle.top_open.proofs.Columns.{columns_count}
use Rattle.top_open.proofs.Filled.{WasJudged, entries, filling, was}
use Rattle.top_open.proofs.LargeEnough.{get_there}
use Rattle.top_open.proofs.OwnDevices.{columns_below-get, not_refused}
use Rattle.top_duty.specs.Opening.{filling_at, needs_of, opened_by, plan_of, stripes_on}
use Rattle.top_duty.specs.Steps.{left_at, present_of, without_small, kept_if_large}
use Rattle.top_duty.proofs.Opens.{Stages, stages}
use Rattle.raid_top.specs.Opened.{IsCutOff, IsDeadFor, IsUnfilled, LacksDevice, LacksDisk, LacksLabel, LacksSeat, LacksSectors}

-- ## A column is set

there_or : (xs : List Column) (i : ℕ) (x : Column) → slice_get xs i ≡ Some x → slice_index_or xs i column.Dead ≡ x
there_or [] i x h = cc h
there_or (y ∷ xs) zero x h = cc h
there_or (y ∷ xs) (suc i) x h = there_or xs i x h

-- it was dead, or the one that is set is
set_dead : (xs : List Column) (i c : ℕ) (y : Column) → slice_get (slice_set xs i y) c ≡ Some column.Dead → (slice_get xs c ≡ Some column.Dead) ⊎ ((i ≡ c) × (y ≡ column.Dead))
set_dead xs i c y h = go (i == c) refl
  where
    here : i ≡ c → (slice_get (slice_set xs i y) c ≡ Some y) ⊎ (slice_get (slice_set xs i y) c ≡ slice_get xs c) → (slice_get xs c ≡ Some column.Dead) ⊎ ((i ≡ c) × (y ≡ column.Dead))
    here same (inl e) = inr (same, (let z : Some y ≡ Some column.Dead = sym e ∙ h in cc z))
    here same (inr e) = inl (sym e ∙ h)

    go : (b : Bool) → (i == c) ≡ b → (slice_get xs c ≡ Some column.Dead) ⊎ ((i ≡ c) × (y ≡ column.Dead))
    go true e = here (eqb-true i c e) (get_set_either xs i c y)
    go false e = inl (sym (get_set_other xs i c y (λ f. eqb-false i c e (sym f))) ∙ h)

-- what is set twice is what it is set to last
set_twice : (xs : List Column) (c : ℕ) (x y : Column) → slice_set (slice_set xs c y) c x ≡ slice_set xs c x
set_twice [] c x y = refl
set_twice (z ∷ xs) zero x y = refl
set_twice (z ∷ xs) (suc c) x y = ap (λ (l : List Column). z ∷ l) (set_twice xs c x y)

set_back : (xs : List Column) (c : ℕ) (x : Column) → slice_get xs c ≡ Some x → slice_set xs c x ≡ xs
set_back [] c x h = refl
set_back (z ∷ xs) zero x h = (let same : z ≡ x = cc h in ap (λ (w : Column). w ∷ xs) (sym same))
set_back (z ∷ xs) (suc c) x h = ap (λ (l : List Column). z ∷ l) (set_back xs c x h)

-- ## By how many stripes it has

abbrev LeftDead : Shape → List Column → Option ℕ → ℕ → Column → Type 0
LeftDead y xs e c x = (x ≡ column.Dead) ⊎ ((d : ℕ) × (m : ℕ) × (x ≡ column.Filling d m) × (stripes_on y xs c ≤ m) × (left_at y xs e ≡ slice_set xs c column.Dead))

left_dead : (y : Shape) (xs : List Column) (e : Option ℕ) (c : ℕ) (x : Column) → slice_get xs c ≡ Some x → slice_get (left_at y xs e) c ≡ Some column.Dead → LeftDead y xs e c x
left_dead y xs None c x at h = inl (let z : Some x ≡ Some column.Dead = sym at ∙ h in cc z)
left_dead y xs (Some i) c x at h = elim (set_dead xs i c (kept_if_left (stripes_on y xs i) (slice_index_or xs i column.Dead)) h) [
  | inl dead ↦ inl (let z : Some x ≡ Some column.Dead = sym at ∙ dead in cc z)
  | inr set ↦ by x at set.0 set.1
]
  where
    kept : (x : Column) → slice_get xs c ≡ Some x → i ≡ c → kept_if_left (stripes_on y xs i) (slice_index_or xs i column.Dead) ≡ kept_if_left (stripes_on y xs c) x
    kept x at same =
        ap (λ (j : ℕ). kept_if_left (stripes_on y xs j) (slice_index_or xs j column.Dead)) same
        ∙ ap (λ (z : Column). kept_if_left (stripes_on y xs c) z) (there_or xs c x at)

    by : (x : Column) → slice_get xs c ≡ Some x → i ≡ c → kept_if_left (stripes_on y xs i) (slice_index_or xs i column.Dead) ≡ column.Dead → LeftDead y xs (Some i) c x
    by (column.Live d) at same dead = (let z : column.Live d ≡ column.Dead = sym (kept (column.Live d) at same) ∙ dead in cc z)
    by column.Dead at same dead = inl refl
    by (column.Filling d m) at same dead = go (nat_lt m (stripes_on y xs c)) refl (sym (kept (column.Filling d m) at same) ∙ dead)
      where
        go : (b : Bool) → nat_lt m (stripes_on y xs c) ≡ b → (if b then column.Filling d m else column.Dead) ≡ column.Dead → LeftDead y xs (Some i) c (column.Filling d m)
        go true lt e = cc e
        go false lt e = inr (d, m, refl, ltb-false m (stripes_on y xs c) lt, ap₂ (λ (j : ℕ) (z : Column). slice_set xs j z) same dead)
    by column.Spread at same dead = (let z : column.Spread ≡ column.Dead = sym (kept column.Spread at same) ∙ dead in cc z)

left_length : (y : Shape) (xs : List Column) (e : Option ℕ) → length (left_at y xs e) ≡ length xs
left_length y xs None = refl
left_length y xs (Some i) = length-set xs i _

-- ## By the size of its device

small_dead : (e : Option ℕ) (sizes : List ℕ) (needs : ℕ) (xs : List Column) (c : ℕ) (x : Column) → slice_get xs c ≡ Some x → slice_get (without_small e sizes needs xs) c ≡ Some column.Dead
    → (x ≡ column.Dead) ⊎ LacksSectors e sizes needs c
small_dead None sizes needs xs c x at h = inl (let z : Some x ≡ Some column.Dead = sym at ∙ h in cc z)
small_dead (Some i) sizes needs xs c x at h = elim (set_dead xs i c (kept_if_large sizes needs (slice_index_or xs i column.Dead)) h) [
  | inl dead ↦ inl (let z : Some x ≡ Some column.Dead = sym at ∙ dead in cc z)
  | inr set ↦ by x at set.0 set.1
]
  where
    kept : (x : Column) → slice_get xs c ≡ Some x → i ≡ c → kept_if_large sizes needs (slice_index_or xs i column.Dead) ≡ kept_if_large sizes needs x
    kept x at same = ap (λ (j : ℕ). kept_if_large sizes needs (slice_index_or xs j column.Dead)) same ∙ ap (λ (z : Column). kept_if_large sizes needs z) (there_or xs c x at)

    small : (d : ℕ) (z : Column) (b : Bool) → i ≡ c → (z ≡ column.Dead → ⊥) → nat_le needs (slice_index sizes d) ≡ b → (if b then z else column.Dead) ≡ column.Dead → LacksSectors (Some i) sizes needs c
    small d z true same alive le e = absurd (alive e)
    small d z false same alive le e = (ap (λ (j : ℕ). Some j) same, d, leb-false needs (slice_index sizes d) le)

    by : (x : Column) → slice_get xs c ≡ Some x → i ≡ c → kept_if_large sizes needs (slice_index_or xs i column.Dead) ≡ column.Dead → (x ≡ column.Dead) ⊎ LacksSectors (Some i) sizes needs c
    by (column.Live d) at same dead = inr (small d (column.Live d) (nat_le needs (slice_index sizes d)) same (λ f. cc f) refl (sym (kept (column.Live d) at same) ∙ dead))
    by column.Dead at same dead = inl refl
    by (column.Filling d m) at same dead = inr (small d (column.Filling d m) (nat_le needs (slice_index sizes d)) same (λ f. cc f) refl (sym (kept (column.Filling d m) at same) ∙ dead))
    by column.Spread at same dead = (let z : column.Spread ≡ column.Dead = sym (kept column.Spread at same) ∙ dead in cc z)

small_length : (e : Option ℕ) (sizes : List ℕ) (needs : ℕ) (xs : List Column) → length (without_small e sizes needs xs) ≡ length xs
small_length None sizes needs xs = refl
small_length (Some i) sizes needs xs = length-set xs i _

-- one that is filling was so
large_filling : (sizes : List ℕ) (needs d m : ℕ) (x : Column) → kept_if_large sizes needs x ≡ column.Filling d m → x ≡ column.Filling d m
large_filling sizes needs d m (column.Live e) h = go (nat_le needs (slice_index sizes e)) h
  where
    go : (b : Bool) → (if b then column.Live e else column.Dead) ≡ column.Filling d m → column.Live e ≡ column.Filling d m
    go true h = h
    go false h = cc h
large_filling sizes needs d m column.Dead h = cc h
large_filling sizes needs d m (column.Filling e n) h = go (nat_le needs (slice_index sizes e)) h
  where
    go : (b : Bool) → (if b then column.Filling e n else column.Dead) ≡ column.Filling d m → column.Filling e n ≡ column.Filling d m
    go true h = h
    go false h = cc h
large_filling sizes needs d m column.Spread h = cc h

small_filling : (e : Option ℕ) (sizes : List ℕ) (needs : ℕ) (xs : List Column) (c d m : ℕ) (x : Column) → slice_get xs c ≡ Some x → slice_get (without_small e sizes needs xs) c ≡ Some (column.Filling d m) → x ≡ column.Filling d m
small_filling None sizes needs xs c d m x at h = (let z : Some x ≡ Some (column.Filling d m) = sym at ∙ h in cc z)
small_filling (Some i) sizes needs xs c d m x at h = go (i == c) refl
  where
    was_so : slice_get (slice_set xs i (kept_if_large sizes needs (slice_index_or xs i column.Dead))) c ≡ slice_get xs c → x ≡ column.Filling d m
    was_so e = let z : Some x ≡ Some (column.Filling d m) = sym at ∙ (sym e ∙ h) in cc z

    here : i ≡ c → (slice_get (slice_set xs i (kept_if_large sizes needs (slice_index_or xs i column.Dead))) c ≡ Some (kept_if_large sizes needs (slice_index_or xs i column.Dead)))
        ⊎ (slice_get (slice_set xs i (kept_if_large sizes needs (slice_index_or xs i column.Dead))) c ≡ slice_get xs c) → x ≡ column.Filling d m
    here same (inr e) = was_so e
    here same (inl e) =
        let z : Some (kept_if_large sizes needs (slice_index_or xs i column.Dead)) ≡ Some (column.Filling d m) = sym e ∙ h in
        let kept : kept_if_large sizes needs (slice_index_or xs i column.Dead) ≡ column.Filling d m = cc z in
        large_filling sizes needs d m x
        (ap (λ (w : Column). kept_if_large sizes needs w) (sym (ap (λ (j : ℕ). slice_index_or xs j column.Dead) same ∙ there_or xs c x at)) ∙ kept)

    go : (b : Bool) → (i == c) ≡ b → x ≡ column.Filling d m
    go true e = here (eqb-true i c e) (get_set_either xs i c (kept_if_large sizes needs (slice_index_or xs i column.Dead)))
    go false e = was_so (get_set_other xs i c (kept_if_large sizes needs (slice_index_or xs i column.Dead)) (λ f. eqb-false i c e (sym f)))

-- ## By what the newest label says of it

filled_dead : (n : Option Label) (xs : List Column) (c : ℕ) (x : Column) → slice_get xs c ≡ Some x → slice_get (filled_by n xs) c ≡ Some column.Dead
    → (x ≡ column.Dead) ⊎ ((l : Label) × (n ≡ Some l) × IsCutOff l c)
unfolding with_filling
filled_dead None xs c x at h = inl (let z : Some x ≡ Some column.Dead = sym at ∙ h in cc z)
filled_dead (Some l) xs c x at h = go (l.filling == 0) refl h
  where
    kept : (x : Column) → slice_get xs c ≡ Some x → l.filling - 1 ≡ c → filling_of l (slice_index_or xs (l.filling - 1) column.Dead) ≡ filling_of l x
    kept x at same = ap (λ (j : ℕ). filling_of l (slice_index_or xs j column.Dead)) same ∙ ap (λ (z : Column). filling_of l z) (there_or xs c x at)

    by : (x : Column) → slice_get xs c ≡ Some x → l.filling ≢ 0 → l.filling - 1 ≡ c → filling_of l (slice_index_or xs (l.filling - 1) column.Dead) ≡ column.Dead → (x ≡ column.Dead) ⊎ ((m : Label) × (Some l ≡ Some m) × IsCutOff m c)
    by (column.Live d) at some same dead = clean (l.clean == 1) refl (sym (kept (column.Live d) at same) ∙ dead)
      where
        clean : (b : Bool) → (l.clean == 1) ≡ b → (if b then column.Filling d l.done else column.Dead) ≡ column.Dead → (column.Live d ≡ column.Dead) ⊎ ((m : Label) × (Some l ≡ Some m) × IsCutOff m c)
        clean true is e = cc e
        clean false is e = inr (l, refl, (omega (arith, some, same), eqb-false l.clean 1 is))
    by column.Dead at some same dead = inl refl
    by (column.Filling d m) at some same dead = (let z : column.Filling d m ≡ column.Dead = sym (kept (column.Filling d m) at same) ∙ dead in cc z)
    by column.Spread at some same dead = (let z : column.Spread ≡ column.Dead = sym (kept column.Spread at same) ∙ dead in cc z)

    go : (b : Bool) → (l.filling == 0) ≡ b → slice_get (if b then xs else slice_set xs (l.filling - 1) (filling_of l (slice_index_or xs (l.filling - 1) column.Dead))) c ≡ Some column.Dead
        → (x ≡ column.Dead) ⊎ ((m : Label) × (Some l ≡ Some m) × IsCutOff m c)
    go true e h = inl (let z : Some x ≡ Some column.Dead = sym at ∙ h in cc z)
    go false e h = elim (set_dead xs (l.filling - 1) c (filling_of l (slice_index_or xs (l.filling - 1) column.Dead)) h) [
      | inl dead ↦ inl (let z : Some x ≡ Some column.Dead = sym at ∙ dead in cc z)
      | inr set ↦ by x at (eqb-false l.filling 0 e) set.0 set.1
    ]

-- ## By the labels

unread_is : (f : Option Front) → is_unread f ≡ true → f ≡ Some front.Unread
unread_is None h = cc h
unread_is (Some front.Away) h = cc h
unread_is (Some front.Unread) h = refl
unread_is (Some (front.Held bytes)) h = cc h

disk_dead : (present : List Bool) (fronts : List Front) (c : ℕ) → read_disk present fronts c ≡ column.Dead → LacksDisk present fronts c
disk_dead present fronts c h = go (is_unread (slice_get fronts c)) (is_present present c) refl refl h
  where
    go : (a b : Bool) → is_unread (slice_get fronts c) ≡ a → is_present present c ≡ b → (if a then column.Dead else (if b then column.Live c else column.Dead)) ≡ column.Dead → LacksDisk present fronts c
    go true b unread is h = inr (unread_is (slice_get fronts c) unread)
    go false true unread is h = cc h
    go false false unread is h = inl is

seat_dead : (p : Plan) (present : List Bool) (n c : ℕ) (l : Label) → seat_at p present n l c ≡ column.Dead → LacksSeat p present l c
unfolding seat_of
seat_dead p present n c l h = go (slice_index l.seats c == 0) (slice_index l.seats c == 254) (is_present present c) (p.level == 68) (is_spread_below l c) (nat_le (slice_index l.seats c) p.spares) refl refl refl refl refl refl h
  where
    go : (own places there level spread spare : Bool)
        → (slice_index l.seats c == 0) ≡ own → (slice_index l.seats c == 254) ≡ places → is_present present c ≡ there → (p.level == 68) ≡ level → is_spread_below l c ≡ spread → nat_le (slice_index l.seats c) p.spares ≡ spare
        → (if own then (if there then column.Live c else column.Dead) else (if places then (if level && not spread then column.Spread else column.Dead) else (if spare then column.Live (n + (slice_index l.seats c - 1)) else column.Dead))) ≡ column.Dead
        → LacksSeat p present l c
    go true places true level spread spare a b d e f g h = cc h
    go true places false level spread spare a b d e f g h = inl (eqb-true (slice_index l.seats c) 0 a, d)
    go false true there true true spare a b d e f g h = inr (inl (eqb-true (slice_index l.seats c) 254 b, inr f))
    go false true there true false spare a b d e f g h = cc h
    go false true there false spread spare a b d e f g h = inr (inl (eqb-true (slice_index l.seats c) 254 b, inl (eqb-false p.level 68 e)))
    go false false there level spread true a b d e f g h = cc h
    go false false there level spread false a b d e f g h = inr (inr (eqb-false (slice_index l.seats c) 254 b, leb-false (slice_index l.seats c) p.spares g))

seat_unfilled : (p : Plan) (present : List Bool) (n c d m : ℕ) (spread : Bool) (seat : ℕ) → seat_of p present n c spread seat ≡ column.Filling d m → ⊥
unfolding seat_of
seat_unfilled p present n c d m spread seat h = go (seat == 0) (seat == 254) (is_present present c) (p.level == 68 && not spread) (nat_le seat p.spares) h
  where
    go : (a b there e f : Bool) → (if a then (if there then column.Live c else column.Dead) else (if b then (if e then column.Spread else column.Dead) else (if f then column.Live (n + (seat - 1)) else column.Dead))) ≡ column.Filling d m → ⊥
    go true b true e f h = cc h
    go true b false e f h = cc h
    go false true there true f h = cc h
    go false true there false f h = cc h
    go false false there e true h = cc h
    go false false there e false h = cc h

-- a device whose label isn't sound
label_unsound : (l : Label) (c : ℕ) (o : Option Label) → is_sound l c o ≡ false
    → (o ≡ None) ⊎ ((own : Label) × (o ≡ Some own) × ((own.counter < l.counter) ⊎ ((fault : LabelFault) × (fault_in (Some own) 1 (wanted l c) ≡ Some fault))))
label_unsound l c None h = inl refl
label_unsound l c (Some own) h = inr (own, refl, go (fault_in (Some own) 1 (wanted l c)) (nat_le l.counter own.counter) refl refl h)
  where
    go : (f : Option LabelFault) (b : Bool) → fault_in (Some own) 1 (wanted l c) ≡ f → nat_le l.counter own.counter ≡ b → (is_none f && b) ≡ false
        → (own.counter < l.counter) ⊎ ((fault : LabelFault) × (fault_in (Some own) 1 (wanted l c) ≡ Some fault))
    go (Some fault) b is le h = inr (fault, is)
    go None true is le h = cc h
    go None false is le h = inl (leb-false l.counter own.counter le)

-- nor by the newest label with a lesser counter
label_lacking : (adopts : Bool) (l : Label) (c : ℕ) (o : Option Label) → is_sound (floored adopts l) c o ≡ false
    → (o ≡ None) ⊎ ((own : Label) × (o ≡ Some own) × ((own.counter < l.counter) ⊎ ((fault : LabelFault) × (fault_in (Some own) 1 (wanted l c) ≡ Some fault))))
unfolding fault_in
label_lacking adopts l c o h = elim (label_unsound (floored adopts l) c o h) [
  | inl none ↦ inl none
  | inr own ↦ inr (own.0, own.1, elim own.2 [ inl older ↦ inl (below adopts older) | inr fault ↦ inr fault ])
]
  where
    below : {n : ℕ} (b : Bool) → n < (if b then 0 else l.counter) → n < l.counter
    below true lt = absurd (omega (arith, lt))
    below false lt = lt

module _ (q : Needs) (p : Plan) (present : List Bool) (sizes : List ℕ) (fronts : List Front) (o : Opened) (c : ℕ) (dead : slice_get o.columns c ≡ Some column.Dead) where
  -- by what the opening is made of
  carry : (x : Opened) → ◌≡◌ {A = Result Opened OpenFault} (Ok x) (Ok o) → (slice_get x.columns c ≡ Some column.Dead → LacksDevice p present fronts x.seats x.newest c) → LacksDevice p present fronts o.seats o.newest c
  carry x e by =
      let same : x ≡ o = cc e in
      subst (λ (z : Opened). LacksDevice p present fronts z.seats z.newest c) same (by (ap (λ (z : Opened). slice_get z.columns c) same ∙ dead))

  unlabelled_dead : unlabelled_in q p present sizes fronts ≡ Ok o → LacksDevice p present fronts o.seats o.newest c
  unfolding unlabelled_in
  unlabelled_dead h =
      carry (record { rows = p.step * tables_below p present sizes (length present); seats = own_seats present; columns = columns_below (read_disk present fronts) (length present); newest = None })
      (not_refused (small_in None false sizes (sectors_for p p.step) (own_seats present) (length present)) _ o (not_refused (unlabelled_refusal q) _ o h))
      (λ here. disk_dead present fronts c (columns_below-get (read_disk present fronts) (length present) c column.Dead here))

  module _ (l : Label) where
    abbrev seats : List Column
    seats = columns_below (seat_at p present (length present) l) (length present)

    by : (x : Column) → slice_get seats c ≡ Some x → kept_if_sound (floored q.adopts l) fronts c x ≡ column.Dead → LacksSeat p present l c ⊎ LacksLabel fronts seats l c
    by (column.Live d) at e = go (is_sound (floored q.adopts l) c (label_at fronts d)) refl e
      where
        go : (b : Bool) → is_sound (floored q.adopts l) c (label_at fronts d) ≡ b → (if b then column.Live d else column.Dead) ≡ column.Dead → LacksSeat p present l c ⊎ LacksLabel fronts seats l c
        go true is e = cc e
        go false is e = inr (d, at, label_lacking q.adopts l c (label_at fronts d) is)
    by column.Dead at e = inl (seat_dead p present (length present) c l (columns_below-get (seat_at p present (length present) l) (length present) c column.Dead at))
    by (column.Filling d m) at e = absurd (seat_unfilled p present (length present) c d m (is_spread_below l c) (slice_index l.seats c) (columns_below-get (seat_at p present (length present) l) (length present) c (column.Filling d m) at))
    by column.Spread at e = cc e

    by_seat : (f : ℕ → Column) → ((i : ℕ) → f i ≡ kept_if_sound (floored q.adopts l) fronts i (slice_index_or seats i column.Dead)) → slice_get (columns_below f (length seats)) c ≡ Some column.Dead → LacksSeat p present l c ⊎ LacksLabel fronts seats l c
    by_seat f is here =
        let inside : c < length seats = omega (arith, slice_get_within (columns_below f (length seats)) c column.Dead here, length-columns_below f (length seats)) in
        by (slice_index_or seats c column.Dead) (get_there seats c (slice_index_or seats c column.Dead) inside refl) (sym (is c) ∙ columns_below-get f (length seats) c column.Dead here)

    labelled_dead : labelled_in q p present sizes fronts l ≡ Ok o → LacksDevice p present fronts o.seats o.newest c
    unfolding labelled_in columns_in seats_in
    labelled_dead h =
        carry (record { rows = l.rows; seats = seats_in p present l; columns = columns_in (floored q.adopts l) fronts (seats_in p present l); newest = Some l })
        (not_refused (counter_refusal q l) _ o (not_refused (first_below (judged_at q.excused l fronts (seats_in p present l)) (length present)) _ o (not_refused (small_in q.excused q.own sizes (sectors_for p l.rows) (seats_in p present l) (length present)) _ o (not_refused (shape_refusal p (length present) l) _ o h))))
        (λ here. by_seat (λ i. kept_if_sound (floored q.adopts l) fronts i (slice_index_or seats i column.Dead)) (λ i. refl) here)

  pub judged_dead : judged_in q p present sizes fronts ≡ Ok o → LacksDevice p present fronts o.seats o.newest c
  unfolding judged_in
  judged_dead h = go (is_unlabelled q (length present) fronts) (newest_below fronts (length fronts)) h
    where
      go : (b : Bool) (n : Option Label) → (if b then unlabelled_in q p present sizes fronts else labelled_if q p present sizes fronts n) ≡ Ok o → LacksDevice p present fronts o.seats o.newest c
      go true n h = unlabelled_dead h
      go false None h = cc h
      go false (Some l) h = labelled_dead l h

-- ## As it is opened

module _ (k : Asked) (sizes : List ℕ) (fronts : List Front) (o : Opened) (opens : opened_by k sizes fronts ≡ Ok o) (c : ℕ) (dead : slice_get o.columns c ≡ Some column.Dead) where
  abbrev st : Stages k sizes fronts o
  st = stages k sizes fronts o opens

  abbrev q : Needs
  q = needs_of k

  abbrev p : Plan
  p = plan_of k.conf

  abbrev present : List Bool
  present = present_of k.conf

  abbrev was_so : WasJudged q p present sizes fronts st.filled
  was_so = was q p present sizes fronts st.filled st.is_filled

  abbrev y : Shape
  y = shape_of k.conf st.fronted.rows

  rows_are : st.filled.rows ≡ o.rows
  rows_are = ap (λ (x : Opened). x.rows) st.is_fronted ∙ ap (λ (x : Opened). x.rows) st.is

  newest_are : was_so.judged.newest ≡ o.newest
  newest_are = ap (λ (x : Opened). x.newest) was_so.filled ∙ (ap (λ (x : Opened). x.newest) st.is_fronted ∙ ap (λ (x : Opened). x.newest) st.is)

  seats_are : was_so.judged.seats ≡ o.seats
  seats_are = ap (λ (x : Opened). x.seats) was_so.filled ∙ (ap (λ (x : Opened). x.seats) st.is_fronted ∙ ap (λ (x : Opened). x.seats) st.is)

  at_stage : (xs : List Column) → c < length xs → (x : Column) × (slice_get xs c ≡ Some x)
  at_stage xs lt = (get_or xs c column.Dead, slice_get-get_or xs c column.Dead lt)

  here : slice_get (left_at y st.fronted.columns (filling_at st.fronted.columns)) c ≡ Some column.Dead
  here = ap (λ (x : Opened). slice_get x.columns c) st.is ∙ dead

  within_fronted : c < length st.fronted.columns
  within_fronted = omega (arith, slice_get_within (left_at y st.fronted.columns (filling_at st.fronted.columns)) c column.Dead here, left_length y st.fronted.columns (filling_at st.fronted.columns))

  small_there : (x : Column) → slice_get st.fronted.columns c ≡ Some x → slice_get (without_small q.excused sizes (sectors_for p st.filled.rows) st.filled.columns) c ≡ Some x
  small_there x at = ap (λ (z : Opened). slice_get z.columns c) st.is_fronted ∙ at

  within_filled : c < length st.filled.columns
  within_filled =
      let x = at_stage st.fronted.columns within_fronted in
      omega (arith, slice_get_within (without_small q.excused sizes (sectors_for p st.filled.rows) st.filled.columns) c x.0 (small_there x.0 x.1), small_length q.excused sizes (sectors_for p st.filled.rows) st.filled.columns)

  within_judged : c < length was_so.judged.columns
  within_judged = omega (arith, within_filled, entries q p present sizes fronts st.filled st.is_filled, columns_count q p present sizes fronts was_so.judged was_so.is)

  -- the newest label is that of the array
  newest_of : (l : Label) → st.filled.newest ≡ Some l → o.newest ≡ Some l
  newest_of l e = sym (ap (λ (x : Opened). x.newest) st.is_fronted ∙ ap (λ (x : Opened). x.newest) st.is) ∙ e

  by_label : slice_get was_so.judged.columns c ≡ Some column.Dead → IsDeadFor k sizes fronts o c
  by_label at =
      inl (subst (λ (s : List Column). LacksDevice p present fronts s o.newest c) seats_are
      (subst (λ (n : Option Label). LacksDevice p present fronts was_so.judged.seats n c) newest_are
      (judged_dead q p present sizes fronts was_so.judged c at was_so.is)))

  cut_off : (l : Label) → o.newest ≡ Some l → IsCutOff l c → IsDeadFor k sizes fronts o c
  cut_off l e cut = inr (inl (subst (λ (n : Option Label). IsUnfilled (shape_of k.conf o.rows) o.columns n c) (sym e) (inl cut)))

  by_filled : slice_get st.filled.columns c ≡ Some column.Dead → IsDeadFor k sizes fronts o c
  by_filled at =
      let x = at_stage was_so.judged.columns within_judged in
      elim (filled_dead was_so.judged.newest was_so.judged.columns c x.0 x.1 (ap (λ (z : Opened). slice_get z.columns c) was_so.filled ∙ at)) [
        | inl is ↦ by_label (x.1 ∙ ap (λ (z : Column). Some z) is)
        | inr cut ↦ cut_off cut.0 (sym newest_are ∙ cut.1) cut.2
      ]

  by_size : slice_get st.fronted.columns c ≡ Some column.Dead → IsDeadFor k sizes fronts o c
  by_size at =
      let x = at_stage st.filled.columns within_filled in
      elim (small_dead q.excused sizes (sectors_for p st.filled.rows) st.filled.columns c x.0 x.1 (small_there column.Dead at)) [
        | inl is ↦ by_filled (x.1 ∙ ap (λ (z : Column). Some z) is)
        | inr small ↦ inr (inr (subst (λ (r : ℕ). LacksSectors q.excused sizes (sectors_for p r) c) rows_are small))
      ]

  -- as many of its stripes are done as it has
  too_far : (d m : ℕ) → slice_get st.fronted.columns c ≡ Some (column.Filling d m) → stripes_on y st.fronted.columns c ≤ m
      → left_at y st.fronted.columns (filling_at st.fronted.columns) ≡ slice_set st.fronted.columns c column.Dead → IsDeadFor k sizes fronts o c
  too_far d m at few same =
      let x = at_stage st.filled.columns within_filled in
      let is : x.0 ≡ column.Filling d m = small_filling q.excused sizes (sectors_for p st.filled.rows) st.filled.columns c d m x.0 x.1 (small_there (column.Filling d m) at) in
      let f = filling q p present sizes fronts st.filled st.is_filled c d m (x.1 ∙ ap (λ (z : Column). Some z) is) in
      inr (inl (subst (λ (n : Option Label). IsUnfilled (shape_of k.conf o.rows) o.columns n c) (sym (newest_of f.0 f.1)) (inr (f.2, d, by f.0 f.3))))
    where
      by : (l : Label) → l.done ≡ m → stripes_on (shape_of k.conf o.rows) (slice_set o.columns c (column.Filling d l.done)) c ≤ l.done
      by l done =
          let columns : slice_set o.columns c (column.Filling d l.done) ≡ st.fronted.columns =
          ap (λ (n : ℕ). slice_set o.columns c (column.Filling d n)) done
          ∙ (ap (λ (xs : List Column). slice_set xs c (column.Filling d m)) (sym (ap (λ (x : Opened). x.columns) st.is) ∙ same)
          ∙ (set_twice st.fronted.columns c (column.Filling d m) column.Dead ∙ set_back st.fronted.columns c (column.Filling d m) at)) in
          subst (λ (r : ℕ). stripes_on (shape_of k.conf r) (slice_set o.columns c (column.Filling d l.done)) c ≤ l.done) (ap (λ (x : Opened). x.rows) st.is)
          (subst (λ (xs : List Column). stripes_on y xs c ≤ l.done) (sym columns) (subst (λ (n : ℕ). stripes_on y st.fronted.columns c ≤ n) (sym done) few))

  pub dead_for : IsDeadFor k sizes fronts o c
  dead_for =
      let x = at_stage st.fronted.columns within_fronted in
      elim (left_dead y st.fronted.columns (filling_at st.fronted.columns) c x.0 x.1 here) [
        | inl is ↦ by_size (x.1 ∙ ap (λ (z : Column). Some z) is)
        | inr left ↦ too_far left.0 left.1 (x.1 ∙ ap (λ (z : Column). Some z) left.2) left.3 left.4
      ]
