-- An opening that adopts isn't refused where each device in use has a label of its column, and is large enough.
use Rattle.std.proofs.Common.{◌≡◌, ◌∙◌, ap, sym, ℕ, zero, suc, ◌<◌, ◌≤◌, Bool, true, false, List, [], ◌∷◌, length, refl, arith, inl, inr, Option, Some, None, option_and_then, option_map}
use Rattle.std.specs.Prelude.{if◌then◌else◌, nat_lt, slice_get, slice_index, Result, Ok, Err}
use Rattle.std.specs.Option.{option_or}
use Rattle.std.proofs.lemmas.Bool.{le-ltb}
use Rattle.std.proofs.lemmas.Option.{slice_get_within}
use Rattle.eng_cols.specs.declared.column.Column.{Column}
use Rattle.eng_cols.specs.declared.column.Column.TheVariants as column
use Rattle.eng_cols.specs.Cols.{HasDeviceOn, device_set}
use Rattle.raid_label.specs.declared.label.Label.{Label}
use Rattle.raid_label.specs.Bytes.{label_in, version_in}
use Rattle.raid_label.specs.Judged.{fault_in}
use Rattle.top_open.specs.declared.fronts.Front.{Front}
use Rattle.top_open.specs.declared.fronts.Front.TheVariants.{Away, Unread, Held}
use Rattle.top_open.specs.declared.fault.OpenFault.{OpenFault}
use Rattle.top_open.specs.declared.fault.OpenFault.TheVariants as fault
use Rattle.top_open.specs.declared.plan.Needs.{Needs}
use Rattle.top_open.specs.declared.plan.Plan.{Plan}
use Rattle.top_open.specs.First.{first_below}
use Rattle.top_open.specs.Labels.{label_at, label_of, newest_below, refusal_of, shape_refusal}
use Rattle.top_open.specs.Plan.{IsPlan, sectors_for}
use Rattle.top_open.specs.Seats.{columns_below, judged_at, small_at}
use Rattle.top_open.specs.Opening.{Opened, columns_in, counter_refusal, filled_by, floored, judged_in, labelled_in, opened_in, seats_in, small_in}
use Rattle.top_open.specs.Steps.{filled_if, is_unlabelled, seat_at, front_refusal, small_refusal}
use Rattle.top_open.proofs.LargeEnough.{columns_below-at}
use Rattle.top_open.proofs.OpeningLaws.{labelled-opens, opens-labelled}
use Rattle.raid_adopt.specs.Found.{HaveLabels, IsRound}
use Rattle.raid_adopt.specs.Rounds.{IsOf}
use Rattle.raid_adopt.proofs.Placed.{seated, unfilled}

none-all : (f : ℕ → Option OpenFault) (n : ℕ) → ((c : ℕ) → c < n → f c ≡ None) → first_below f n ≡ None
unfolding first_below
none-all f zero each = refl
none-all f (suc n) each = ap (λ (o : Option OpenFault). option_or o (f n)) (none-all f n (λ c lt. each c (omega (arith, lt)))) ∙ each n (omega arith)

here : (xs : List Column) (c : ℕ) → c < length xs → (x : Column) × (slice_get xs c ≡ Some x)
here [] c lt = absurd (omega (arith, lt))
here (x ∷ xs) zero lt = (x, refl)
here (x ∷ xs) (suc c) lt = here xs c (omega (arith, lt))

-- the version that was found counts only where there is no label
any-version : (l own : Label) (c version : ℕ) → IsOf l c own → option_map (refusal_of c) (fault_in (Some own) version (record l { column = c })) ≡ None
unfolding fault_in
any-version l own c version of = ap (option_map (refusal_of c)) of

module _ (q : Needs) (p : Plan) (present : List Bool) (sizes : List ℕ) (fronts : List Front) (plan : IsPlan p) (alone : q.excused ≡ None)
    (began : List Column) (l : Label) (round : IsRound p present began l) (have : HaveLabels began l fronts)
    (large : (c d : ℕ) → HasDeviceOn began c d → sectors_for p l.rows ≤ slice_index sizes d) where
  abbrev n : ℕ
  n = length present

  seats-get : (c : ℕ) (x : Column) → slice_get began c ≡ Some x → slice_get (seats_in p present l) c ≡ Some (unfilled x)
  unfolding seats_in
  seats-get c x at = columns_below-at (seat_at p present n l) n c (omega (arith, slice_get_within began c x at, round.count)) ∙ ap Some (seated p plan present began l round c x at)

  device-is : (c : ℕ) (x : Column) → slice_get began c ≡ Some x → device_set (slice_get (seats_in p present l) c) ≡ device_set (slice_get began c)
  device-is c x at = ap device_set (seats-get c x at) ∙ (go x ∙ ap device_set (sym at))
    where
      go : (x : Column) → device_set (Some (unfilled x)) ≡ device_set (Some x)
      go (column.Live d) = refl
      go column.Dead = refl
      go (column.Filling d m) = refl
      go column.Spread = refl

  small-none : (c : ℕ) → c < n → small_at None q.own sizes (sectors_for p l.rows) (seats_in p present l) c ≡ None
  unfolding small_at
  small-none c lt =
      let x = here began c (omega (arith, lt, round.count)) in
      ap (small_refusal sizes (sectors_for p l.rows) c) (device-is c x.0 x.1) ∙ go (device_set (slice_get began c)) refl
    where
      go : (d : Option ℕ) → device_set (slice_get began c) ≡ d → small_refusal sizes (sectors_for p l.rows) c d ≡ None
      go None is = refl
      go (Some d) is = rw (le-ltb (slice_index sizes d) (sectors_for p l.rows) (large c d is)) refl

  judged-none : (c : ℕ) → c < n → judged_at None l fronts (seats_in p present l) c ≡ None
  unfolding judged_at
  judged-none c lt =
      let x = here began c (omega (arith, lt, round.count)) in
      ap (λ (d : Option ℕ). front_refusal l c (option_and_then (slice_get fronts) d)) (device-is c x.0 x.1) ∙ go (device_set (slice_get began c)) refl
    where
      of-front : (own : Label) → IsOf l c own → (f : Option Front) → option_and_then label_of f ≡ Some own → front_refusal l c f ≡ None
      of-front own of None h = refl
      of-front own of (Some Away) h = cc h
      of-front own of (Some Unread) h = refl
      of-front own of (Some (Held bytes)) h = ap (λ (o : Option Label). option_map (refusal_of c) (fault_in o (version_in bytes) (record l { column = c }))) h ∙ any-version l own c (version_in bytes) of

      go : (d : Option ℕ) → device_set (slice_get began c) ≡ d → front_refusal l c (option_and_then (slice_get fronts) d) ≡ None
      go None is = refl
      go (Some d) is = let own = have c d is in of-front own.0 own.2 (slice_get fronts d) own.1

  pub is-opened : is_unlabelled q n fronts ≡ false → newest_below fronts (length fronts) ≡ Some l → shape_refusal p n l ≡ None → counter_refusal q l ≡ None
      → (o : Opened) × (opened_in q p present sizes fronts ≡ Ok o) × (o.newest ≡ Some l)
  unfolding opened_in small_in
  is-opened labelled newest shape counter =
      let small : small_in q.excused q.own sizes (sectors_for p l.rows) (seats_in p present l) n ≡ None =
      ap (λ (e : Option ℕ). small_in e q.own sizes (sectors_for p l.rows) (seats_in p present l) n) alone
      ∙ none-all (small_at None q.own sizes (sectors_for p l.rows) (seats_in p present l)) n small-none in
      let judged : first_below (judged_at q.excused l fronts (seats_in p present l)) n ≡ None =
      ap (λ (e : Option ℕ). first_below (judged_at e l fronts (seats_in p present l)) n) alone
      ∙ none-all (judged_at None l fronts (seats_in p present l)) n judged-none in
      let columns = columns_in (floored q.adopts l) fronts (seats_in p present l) in
      let opens = labelled-opens q p present sizes fronts l (seats_in p present l) columns shape small judged counter refl refl in
      let is = sym (opens-labelled q p present sizes fronts (Some l) labelled (sym newest)) ∙ opens in
      (record { rows = l.rows; seats = seats_in p present l; columns = filled_by (Some l) columns; newest = Some l }, ap filled_if is, refl)
