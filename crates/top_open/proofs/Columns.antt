-- What the columns of an opening are: dead, spread, or on a device that is a disk or a spare, and whose sector 0 was read where there are labels.
use Rattle.std.proofs.Common.{◌≡◌, ◌∙◌, ap, sym, subst, ℕ, zero, suc, ◌+◌, ◌-◌, ◌<◌, ◌≤◌, ◌==◌, ◌&&◌, Bool, true, false, List, [], ◌∷◌, length, refl, arith, Option, Some, None, option_and_then}
use Rattle.std.specs.Prelude.{count_by, slice_get, slice_index, slice_index_or, if◌then◌else◌, Result, Ok, Err, not, nat_le}
use Rattle.std.proofs.lemmas.Bool.{eqb-false, leb-true}
use Rattle.std.proofs.lemmas.Option.{slice_get_within}
use Rattle.eng_cols.specs.Cols.{is_set_filling, is_set_spread}
use Rattle.eng_cols.specs.declared.column.Column.{Column}
use Rattle.eng_cols.specs.declared.column.Column.TheVariants as column
use Rattle.raid_label.specs.declared.label.Label.{Label}
use Rattle.top_open.specs.declared.fronts.Front.{Front}
use Rattle.top_open.specs.declared.fronts.Front.TheVariants.{Away, Unread, Held}
use Rattle.top_open.specs.declared.fault.OpenFault.{OpenFault}
use Rattle.top_open.specs.declared.plan.Plan.{Plan}
use Rattle.top_open.specs.declared.plan.Needs.{Needs}
use Rattle.top_open.specs.First.{first_below}
use Rattle.top_open.specs.Plan.{is_present, sectors_for}
use Rattle.top_open.specs.Labels.{label_at, newest_below, shape_refusal, label_of}
use Rattle.top_open.specs.Seats.{columns_below, own_disk, is_unread, is_sound, judged_at, seat_of}
use Rattle.top_open.specs.Opening.{Opened, judged_in, unlabelled_in, labelled_in, unlabelled_refusal, counter_refusal, small_in, seats_in, columns_in, floored}
use Rattle.top_open.specs.Steps.{labelled_if, is_unlabelled, read_disk, kept_if_sound, seat_at, is_spread_below}
use Rattle.top_open.proofs.Below.{length-columns_below}
use Rattle.top_open.proofs.Counting.{count_none, count_one}
use Rattle.top_open.proofs.OneSpread.{one_spread}
use Rattle.top_open.proofs.OwnDevices.{not_refused, columns_below-get}
use Rattle.top_open.proofs.LargeEnough.{columns_below-at, columns_of}

-- sector 0 of device d was read
abbrev pub WasHeld : List Front → ℕ → Type 0
WasHeld fronts d = (bytes : List ℕ) × (slice_get fronts d ≡ Some (Held bytes))

-- a column is one of these, its device one of so many
abbrev IsColumn : ℕ → List Front → Bool → Column → Type 0
IsColumn most fronts labelled (column.Live d) = (d < most) × (labelled ≡ true → WasHeld fronts d)
IsColumn most fronts labelled column.Dead = Unit {0}
IsColumn most fronts labelled (column.Filling d m) = ⊥
IsColumn most fronts labelled column.Spread = Unit {0}

abbrev is_labelled : Option Label → Bool
is_labelled None = false
is_labelled (Some l) = true

unfoldable newest_of : Result Opened OpenFault → Option Label
newest_of (Ok x) = x.newest
newest_of (Err f) = None

-- so each column is made by its number
record AreMade (n most : ℕ) (fronts : List Front) (labelled : Bool) (columns : List Column) : Type 0 where
  make : ℕ → Column
  are : columns_below make n ≡ columns
  each : (c : ℕ) → c < n → IsColumn most fronts labelled (make c)

-- ## Without labels

disk_is : (present : List Bool) (fronts : List Front) (c n m : ℕ) → c < n → IsColumn (n + m) fronts false (read_disk present fronts c)
disk_is present fronts c n m lt = go (is_unread (slice_get fronts c)) (is_present present c)
  where
    go : (a b : Bool) → IsColumn (n + m) fronts false (if a then column.Dead else (if b then column.Live c else column.Dead))
    go true b = tt
    go false true = (omega (arith, lt), λ e. cc e)
    go false false = tt

-- ## With labels

own_is : (present : List Bool) (c n m : ℕ) → c < n → (d : ℕ) → own_disk present c ≡ column.Live d → d < n + m
own_is present c n m lt d e = go (is_present present c) e
  where
    go : (b : Bool) → (if b then column.Live c else column.Dead) ≡ column.Live d → d < n + m
    go true e = let same : c ≡ d = cc e in omega (arith, same, lt)
    go false e = cc e

-- a seat's device is a disk or a spare
seat_is : (p : Plan) (present : List Bool) (n c : ℕ) (spread : Bool) (seat : ℕ) → c < n → (d : ℕ) → seat_of p present n c spread seat ≡ column.Live d → d < n + p.spares
unfolding seat_of
seat_is p present n c spread seat lt d h = go (seat == 0) refl (seat == 254) (p.level == 68 && not spread) (nat_le seat p.spares) refl h
  where
    go : (a : Bool) → (seat == 0) ≡ a → (b s t : Bool) → nat_le seat p.spares ≡ t
        → (if a then own_disk present c else (if b then (if s then column.Spread else column.Dead) else (if t then column.Live (n + (seat - 1)) else column.Dead))) ≡ column.Live d → d < n + p.spares
    go true e b s t f h = own_is present c n p.spares lt d h
    go false e true true t f h = cc h
    go false e true false t f h = cc h
    go false e false s false f h = cc h
    go false e false s true f h =
        let same : n + (seat - 1) ≡ d = cc h in
        omega (arith, same, leb-true seat p.spares f, eqb-false seat 0 e)

held_of : (fronts : List Front) (d : ℕ) (l : Label) → label_at fronts d ≡ Some l → WasHeld fronts d
held_of fronts d l h = go (slice_get fronts d) refl h
  where
    go : (f : Option Front) → slice_get fronts d ≡ f → option_and_then label_of f ≡ Some l → WasHeld fronts d
    go None e h = cc h
    go (Some Away) e h = cc h
    go (Some Unread) e h = cc h
    go (Some (Held bytes)) e h = (bytes, e)

sound_held : (newest : Label) (c : ℕ) (fronts : List Front) (d : ℕ) → is_sound newest c (label_at fronts d) ≡ true → WasHeld fronts d
sound_held newest c fronts d h = go (label_at fronts d) refl h
  where
    go : (o : Option Label) → label_at fronts d ≡ o → is_sound newest c o ≡ true → WasHeld fronts d
    go None e h = cc h
    go (Some l) e h = held_of fronts d l e

kept_is : (newest : Label) (fronts : List Front) (c most : ℕ) (seat : Column) → ((d : ℕ) → seat ≡ column.Live d → d < most) → IsColumn most fronts true (kept_if_sound newest fronts c seat)
kept_is newest fronts c most (column.Live d) below = go (is_sound newest c (label_at fronts d)) refl
  where
    go : (b : Bool) → is_sound newest c (label_at fronts d) ≡ b → IsColumn most fronts true (if b then column.Live d else column.Dead)
    go true e = (below d refl, λ _. sound_held newest c fronts d e)
    go false e = tt
kept_is newest fronts c most column.Dead below = tt
kept_is newest fronts c most (column.Filling d m) below = tt
kept_is newest fronts c most column.Spread below = tt

-- a seat is there, or stands for a dead column
seat_there : (f : ℕ → Column) (n c : ℕ) → c < n → slice_index_or (columns_below f n) c column.Dead ≡ f c
seat_there f n c lt = index_of (columns_below f n) c (f c) (columns_below-at f n c lt)
  where
    index_of : (xs : List Column) (c : ℕ) (x : Column) → slice_get xs c ≡ Some x → slice_index_or xs c column.Dead ≡ x
    index_of [] c x h = cc h
    index_of (y ∷ xs) zero x h = cc h
    index_of (y ∷ xs) (suc c) x h = index_of xs c x h

-- ## Either

module _ (q : Needs) (p : Plan) (present : List Bool) (sizes : List ℕ) (fronts : List Front) (o : Opened) where
  made_unlabelled : unlabelled_in q p present sizes fronts ≡ Ok o → AreMade (length present) (length present + p.spares) fronts (is_labelled o.newest) o.columns
  unfolding unlabelled_in columns_of newest_of
  made_unlabelled h =
      let made = not_refused (small_in None false sizes _ _ _) _ o (not_refused (unlabelled_refusal q) _ o h) in
      let none : None ≡ o.newest = ap newest_of made in
      record {
        make = read_disk present fronts;
        are = ap columns_of made;
        each = λ c lt. subst (λ (k : Option Label). IsColumn (length present + p.spares) fronts (is_labelled k) (read_disk present fronts c)) none (disk_is present fronts c (length present) p.spares lt);
      }

  made_labelled : (l : Label) → labelled_in q p present sizes fronts l ≡ Ok o → AreMade (length present) (length present + p.spares) fronts (is_labelled o.newest) o.columns
  unfolding labelled_in columns_in seats_in columns_of newest_of
  made_labelled l h =
      let n = length present in
      let seats = columns_below (seat_at p present n l) n in
      let made = not_refused (counter_refusal q l) _ o (not_refused (first_below (judged_at q.excused l fronts seats) n) _ o (not_refused (small_in q.excused q.own sizes (sectors_for p l.rows) seats n) _ o (not_refused (shape_refusal p n l) _ o h))) in
      let some : Some l ≡ o.newest = ap newest_of made in
      let f : ℕ → Column = λ i. kept_if_sound (floored q.adopts l) fronts i (slice_index_or seats i column.Dead) in
      let many : length seats ≡ n = length-columns_below (seat_at p present n l) n in
      record {
        make = f;
        are = ap (columns_below f) (sym many) ∙ ap columns_of made;
        each = λ c lt. subst (λ (k : Option Label). IsColumn (n + p.spares) fronts (is_labelled k) (f c)) some
            (kept_is (floored q.adopts l) fronts c (n + p.spares) (slice_index_or seats c column.Dead)
            (λ d e. seat_is p present n c (is_spread_below l c) (slice_index l.seats c) lt d (sym (seat_there (seat_at p present n l) n c lt) ∙ e)));
      }

  made : judged_in q p present sizes fronts ≡ Ok o → AreMade (length present) (length present + p.spares) fronts (is_labelled o.newest) o.columns
  unfolding judged_in
  made h = go (is_unlabelled q (length present) fronts) (newest_below fronts (length fronts)) h
    where
      go : (b : Bool) (l : Option Label) → (if b then unlabelled_in q p present sizes fronts else labelled_if q p present sizes fronts l) ≡ Ok o → AreMade (length present) (length present + p.spares) fronts (is_labelled o.newest) o.columns
      go true l h = made_unlabelled h
      go false None h = cc
      go false (Some l) h = made_labelled l h

  -- ## What follows of it

  column_is : judged_in q p present sizes fronts ≡ Ok o → (c : ℕ) (x : Column) → slice_get o.columns c ≡ Some x → IsColumn (length present + p.spares) fronts (is_labelled o.newest) x
  column_is h c x at =
      let m = made h in
      let there : slice_get (columns_below m.make (length present)) c ≡ Some x = ap (λ (s : List Column). slice_get s c) m.are ∙ at in
      let inside : c < length present = omega (arith, slice_get_within (columns_below m.make (length present)) c x there, length-columns_below m.make (length present)) in
      subst (λ (y : Column). IsColumn (length present + p.spares) fronts (is_labelled o.newest) y) (columns_below-get m.make (length present) c x there) (m.each c inside)

  pub columns_count : judged_in q p present sizes fronts ≡ Ok o → length o.columns ≡ length present
  columns_count h = let m = made h in ap (λ (l : List Column). length l) (sym m.are) ∙ length-columns_below m.make (length present)

  pub no_filling : judged_in q p present sizes fronts ≡ Ok o → (c d m : ℕ) → slice_get o.columns c ≡ Some (column.Filling d m) → ⊥
  no_filling h c d m at = column_is h c (column.Filling d m) at

  pub none_filling : judged_in q p present sizes fronts ≡ Ok o → count_by is_set_filling o.columns ≡ 0
  none_filling h = count_none is_set_filling o.columns column.Dead (λ c x at. go x (column_is h c x at))
    where
      go : (x : Column) → IsColumn (length present + p.spares) fronts (is_labelled o.newest) x → is_set_filling x ≡ false
      go (column.Live d) is = refl
      go column.Dead is = refl
      go (column.Filling d m) is = absurd is
      go column.Spread is = refl

  pub few_spread : judged_in q p present sizes fronts ≡ Ok o → count_by is_set_spread o.columns ≤ 1
  few_spread h = count_one is_set_spread o.columns column.Dead
      (λ c k x y at here spread other. (one_spread q p present sizes fronts o h c k (at ∙ ap (λ (z : Column). Some z) (is_spread x spread)) (here ∙ ap (λ (z : Column). Some z) (is_spread y other))).0)
    where
      is_spread : (x : Column) → is_set_spread x ≡ true → x ≡ column.Spread
      is_spread (column.Live d) e = cc e
      is_spread column.Dead e = cc e
      is_spread (column.Filling d m) e = cc e
      is_spread column.Spread e = refl

  pub numbered_devices : judged_in q p present sizes fronts ≡ Ok o → (c d : ℕ) → slice_get o.columns c ≡ Some (column.Live d) → d < length present + p.spares
  numbered_devices h c d at = (column_is h c (column.Live d) at).0

  pub held_devices : judged_in q p present sizes fronts ≡ Ok o → (l : Label) → o.newest ≡ Some l → (c d : ℕ) → slice_get o.columns c ≡ Some (column.Live d) → WasHeld fronts d
  held_devices h l e c d at = (column_is h c (column.Live d) at).1 (ap is_labelled e)
