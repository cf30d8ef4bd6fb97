-- The stripes of a sweep over the marked ones, one after another.
use Rattle.std.specs.Prelude.{if◌then◌else◌}
use Rattle.std.proofs.Common.{◌≡◌, ◌⊎◌, ◌∙◌, ℕ, suc, ◌+◌, ◌<◌, ◌≤◌, Bool, true, false, List, length, Option, Some, None, refl, sym, ap, subst, inl, inr, arith}
use Rattle.std.proofs.lemmas.Bool.{cases_eq, cases_lt, cases_Bool}
use Rattle.std.proofs.lemmas.List.{length-map}
use Rattle.std.proofs.lemmas.Option.{slice_get_within}
use Rattle.blk_disk.specs.declared.disk.Disk.{Ghosts}
use Rattle.blk_disk.specs.Devices.{Changes, contents_of}
use Rattle.blk_disk.proofs.DeviceLaws.{changes-refl, changes-more, changes-then, rises-wider}
use Rattle.lay_core.specs.Layout.{Shape, IsLayout, data_units}
use Rattle.eng_cols.specs.declared.column.Column.{Column}
use Rattle.eng_cols.specs.declared.spot.Spot.{Spot}
use Rattle.eng_cols.specs.Cols.{ColumnState, Columns, IsFor, HasDevice, InOrder, state_set}
use Rattle.eng_cols.specs.Seats.{is_available, seat}
use Rattle.eng_cols.specs.Contents.{InSync, byte_of, sector_at}
use Rattle.eng_cols.specs.Deaths.{Dies}
use Rattle.eng_cols.proofs.DeathLaws.{dies-refl, dies-more, dies-then, dies-set}
use Rattle.eng_cols.proofs.Spots.{available-seat, seat-device}
use Rattle.eng_cols.proofs.Killing.{seat-apart}
use Rattle.raid_recon.specs.declared.kind.Sweep.TheVariants.{Sync}
use Rattle.eng_cols.specs.Stripes.{filled_in, states_of}
use Rattle.raid_recon.specs.Array.{IsArray, IsJudge, IsComplete, IsCheckSector, Failed}
use Rattle.raid_recon.specs.Ends.{ChecksHold}
use Rattle.raid_recon.specs.Sums.{sum_of, HoldsSum, IsZero, IsNotZero}
use Rattle.raid_recon.specs.Turns.{Turn, Left, Unread, Sound, Unsound, Written, Unwritten, does_count, does_write, failed_at, dead_at, IsTurn}
use Rattle.raid_recon.specs.Units.{SweepsStripe}
use Rattle.raid_recon.proofs.Bytes.{zero-from}
use Rattle.raid_recon.proofs.Places.{states-killed, array-kept}
use Rattle.raid_recon.proofs.Frames.{last-unit, byte-same, check-alone, sum-same}
use Rattle.raid_recon.proofs.Backs.{Back, back-refl, back-then, back-turn, seat-unspread, byte-back, sum-back, check-back}
use Rattle.raid_map.specs.Sweeping.{MayRewrite, UnsoundAreMarked, IsSweptTo, IsCountedTo}
use Rattle.lay_core.specs.Touched.{count_below}

no-bool : {A : Type 0} → false ≡ true → A
no-bool h = absurd (let u : ⊥ = cc in u)

-- a unit that stood where a device failed is missing from then on
gone : (y : Shape) (columns : List Column) → InOrder (states_of y columns) → (s i : ℕ) (q : Option Spot) → is_available y (states_of y columns) s i ≡ true → seat y (states_of y columns) s i ≡ q → is_available y (states_of y (dead_at columns q)) s i ≡ true → ⊥
gone y columns order s i None was is h = let at = available-seat y (states_of y columns) s i was in let z : None ≡ Some at.0 = sym is ∙ at.1 in let u : ⊥ = cc in u
gone y columns order s i (Some at) was is h = seat-apart y (states_of y columns) at.column s i at (subst (λ cols. is_available y cols s i ≡ true) (states-killed y columns at.column order (seat-unspread y columns s i at is)) h) is refl

-- what was done so far, and that no unit came back
pub record SweptTo {D : Type 0} (g : Ghosts D) (y : Shape) (marks : ℕ → Bool) (columns : List Column) (old : List (Option D)) (n : ℕ) (mid : List Column) (dev : List (Option D)) : Type 0 where
  pub swept : IsSweptTo g y marks columns old n mid dev
  pub back : Back y (states_of y mid) (states_of y columns)
  pub count : length mid ≡ length columns

-- what check units hold so far
abbrev pub HeldTo : {D : Type 0} (g : Ghosts D) (y : Shape) (columns : List Column) (old : List (Option D)) (mid : List Column) (dev : List (Option D)) → Type 0
HeldTo g y columns old mid dev = g.tells → ChecksHold g y columns mid old dev

below-next : (p : ℕ → Bool) (n : ℕ) → count_below p (n + 1) ≡ count_below p n + (if p n then 1 else 0)
below-next p n = ap (count_below p) (let e : n + 1 ≡ suc n = omega arith in e)

below-more : (p : ℕ → Bool) (n counted : ℕ) → counted ≤ count_below p n → counted ≤ count_below p (n + 1)
below-more p n counted h = let e = below-next p n in omega (arith, e, h)

abbrev number_if : Bool → ℕ
number_if b = if b then 1 else 0

as_number : (b c : Bool) → b ≡ c → number_if b ≡ number_if c
as_number b c h = ap number_if h

below-none : (p : ℕ → Bool) (n : ℕ) → (p n ≡ true → ⊥) → count_below p (n + 1) ≡ count_below p n
below-none p n not = elim (cases_Bool (p n)) [
  | inl h ↦ absurd (not h)
  | inr h ↦ let e = below-next p n in let z = as_number (p n) false h in omega (arith, e, z)
]

below-one : (p : ℕ → Bool) (n : ℕ) → p n ≡ true → count_below p (n + 1) ≡ count_below p n + 1
below-one p n h = let e = below-next p n in let z = as_number (p n) true h in omega (arith, e, z)

module _ {D : Type 0} (g : Ghosts D) (y : Shape) (layout : IsLayout y) (one : y.checks ≡ 1) (marks : ℕ → Bool) (columns : List Column) (old : List (Option D)) (array : IsArray g y columns old) where
  abbrev cols : List ColumnState
  cols = states_of y columns

  abbrev May : ℕ → ℕ → ℕ → Type 0
  May n = MayRewrite g y marks columns old n

  abbrev Swept : ℕ → List Column → List (Option D) → Type 0
  Swept n mid dev = SweptTo g y marks columns old n mid dev

  abbrev Counted : ℕ → List Column → ℕ → Type 0
  Counted n mid counted = IsCountedTo g y marks columns old n mid counted

  pub counted-none : Counted 0 columns 0
  counted-none = record { most = λ p each. omega arith; least = λ p each. omega arith }

  pub counted-skip : (n counted : ℕ) (mid : List Column) → marks n ≡ false → Counted n mid counted → Counted (n + 1) mid counted
  counted-skip n counted mid not was = record {
    most = λ p each. let m = was.most p (λ s below. each s (omega (arith, below))) in below-more p n counted m;
    least = λ p each. let l = was.least p (λ s below. each s (omega (arith, below))) in
        subst (λ z. z ≤ counted) (sym (below-none p n (λ h. no-bool (sym not ∙ (each n (omega arith) h).0)))) l;
  }

  -- the judge is set to the columns
  pub judge-set : (was is : Columns) → IsFor y was → length columns ≡ y.columns → is ≡ record was { states = cols } → IsJudge y columns is
  judge-set was is fit entries set = record {
    fit = subst (IsFor y) (sym set) (record { columns = length-map columns (state_set y.stripes (filled_in y columns)) ∙ entries; stripes = fit.stripes });
    states = ap (λ (v : Columns). v.states) set;
  }

  pub swept-none : Swept 0 columns old
  swept-none = record {
    swept = record {
      frame = changes-refl g (May 0) old;
      dies = dies-refl (Failed g cols old old) columns;
      sound = λ told s below. absurd (omega (arith, below));
    };
    back = back-refl y cols;
    count = refl;
  }

  pub held-none : HeldTo g y columns old columns old
  held-none told s below all here = inr (λ o k ou. refl)

  may-more : (n : ℕ) (d m : ℕ) → May n d m → May (n + 1) d m
  may-more n d m h = record { stripe = h.stripe; below = (let b = h.below in omega (arith, b)); marked = h.marked; complete = h.complete; not_zero = h.not_zero; sector = h.sector }

  -- a stripe that isn't marked is passed over
  pub swept-skip : (n : ℕ) (mid : List Column) (dev : List (Option D)) → marks n ≡ false → Swept n mid dev → Swept (n + 1) mid dev
  swept-skip n mid dev not was = record {
    swept = record {
      frame = changes-more g (May n) (May (n + 1)) old dev (may-more n) was.swept.frame;
      dies = was.swept.dies;
      sound = λ told s below marked all. elim (cases_lt s n) [
        | inl lt ↦ was.swept.sound told s lt marked all
        | inr le ↦ let e : s ≡ n = omega (arith, below, le) in no-bool (sym not ∙ ap marks (sym e) ∙ marked)
      ];
    };
    back = was.back;
    count = was.count;
  }

  pub array-mid : (n : ℕ) (mid : List Column) (dev : List (Option D)) → Swept n mid dev → IsArray g y mid dev
  array-mid n mid dev was =
      let kept = array-kept g (May n) y columns old dev array was.swept.frame in
      record { entries = was.count ∙ array.entries; order = was.back.order array.order; there = λ c d has. kept.there c d (was.back.devices c d has) }

  module _ (n : ℕ) (sw : n < y.stripes) (mid after : List Column) (dev new : List (Option D)) (marked : marks n ≡ true) (was : Swept n mid dev) (counted : Bool) (step : SweepsStripe g Sync y n mid after dev new counted) where
    abbrev mids : List ColumnState
    mids = states_of y mid

    abbrev turn : Turn
    turn = step.turn

    mid-array : IsArray g y mid dev
    mid-array = array-mid n mid dev was

    last : data_units y < y.width
    last = let l = last-unit y layout one in omega (arith, l)

    step-back : Back y (states_of y after) mids
    step-back = subst (λ cs. Back y (states_of y cs) mids) (sym step.columns_are) (back-turn y mid mid-array.order n turn)

    -- the stripe held what it did before the sweep
    sums-before : g.tells → (o k : ℕ) → o < y.unit_sectors → IsComplete y mids n → sum_of y (contents_of g dev) mids n y.width o k ≡ sum_of y (contents_of g old) cols n y.width o k
    sums-before told o k ou all =
        sum-back y (contents_of g dev) mids cols n y.width o k was.back all
        ∙ sum-same g (May n) old dev y cols n y.width o k was.swept.frame told (λ i at iw is may.
        let alone = check-alone y cols layout array.order one may.stripe n i o at (let b = may.below in omega (arith, b, sw)) sw iw ou is may.sector in
        let b = may.below in let e = alone.0 in omega (arith, b, e))

    due : (t : Turn) → does_write t ≡ true → IsTurn g.tells Sync y (contents_of g dev) mids n t → IsComplete y mids n × (g.tells → IsNotZero y (contents_of g dev) mids n)
    due Left w h = no-bool w
    due (Unread i) w h = no-bool w
    due Sound w h = no-bool w
    due Unsound w h = no-bool w
    due Written w h = (h.0, h.1)
    due Unwritten w h = (h.0, h.1)

    may-now : (d m : ℕ) → (does_write turn ≡ true) × IsCheckSector y mids n d m → May (n + 1) d m
    may-now d m h =
        let q = due turn h.0 step.visit.is in
        record {
          stripe = n;
          below = omega arith;
          marked = marked;
          complete = λ i iw. was.back.available n i (q.0 i iw);
          not_zero = λ told. let z = q.1 told in record { offset = z.offset; byte = z.byte; within = z.within; of_sector = z.of_sector; differs = λ e. z.differs (sums-before told z.offset z.byte z.within q.0 ∙ e) };
          sector = check-back y mids cols n d m was.back h.1;
        }

    frame-step : Changes g (May (n + 1)) dev new
    frame-step = changes-more g (λ d m. (does_write turn ≡ true) × IsCheckSector y mids n d m) (May (n + 1)) dev new may-now step.visit.frame

    frame-was : Changes g (May (n + 1)) old dev
    frame-was = changes-more g (May n) (May (n + 1)) old dev (may-more n) was.swept.frame

    -- where a call failed a unit had its seat
    failed-seat : (t : Turn) (at : Spot) → failed_at y mids n t ≡ Some at → HasDevice mids at.column at.device
    failed-seat Left at h = absurd (let u : ⊥ = cc in u)
    failed-seat (Unread i) at h = seat-device y mids n i at h
    failed-seat Sound at h = absurd (let u : ⊥ = cc in u)
    failed-seat Unsound at h = absurd (let u : ⊥ = cc in u)
    failed-seat Written at h = absurd (let u : ⊥ = cc in u)
    failed-seat Unwritten at h = seat-device y mids n (data_units y) at h

    has-within : (c d : ℕ) → HasDevice mids c d → c < length mid
    has-within c d (inl h) = let l = slice_get_within mids c _ h in omega (arith, l, length-map mid (state_set y.stripes (filled_in y mid)))
    has-within c d (inr h) = let l = slice_get_within mids c _ h.1 in omega (arith, l, length-map mid (state_set y.stripes (filled_in y mid)))

    dead : (q : Option Spot) → failed_at y mids n turn ≡ q → Dies (Failed g cols old new) mid (dead_at mid q)
    dead None h = dies-refl (Failed g cols old new) mid
    dead (Some at) h =
        let has = failed-seat turn at h in
        dies-set (Failed g cols old new) mid at.column (has-within at.column at.device has)
        (record { device = at.device; had = was.back.devices at.column at.device has; rose = rises-wider g (May (n + 1)) (May (n + 1)) old dev new new at.device frame-was (step.visit.cause at h) (changes-refl g (May (n + 1)) new) })

    dies-step : Dies (Failed g cols old new) mid after
    dies-step = subst (Dies (Failed g cols old new) mid) (sym step.columns_are) (dead (failed_at y mids n turn) refl)

    dies : Dies (Failed g cols old new) columns after
    dies = dies-then (Failed g cols old new) columns mid after
        (dies-more (Failed g cols old dev) (Failed g cols old new) columns mid
        (λ c f. record { device = f.device; had = f.had; rose = rises-wider g (May (n + 1)) (May (n + 1)) old old dev new f.device (changes-refl g (May (n + 1)) old) f.rose frame-step }) was.swept.dies)
        dies-step

    -- the stripe of this turn
    own-sound : g.tells → IsComplete y (states_of y after) n → IsZero y (contents_of g new) mids n
    own-sound told all = go turn refl step.visit.is
      where
        complete : IsComplete y (states_of y (dead_at mid (failed_at y mids n turn))) n
        complete i iw = subst (λ cs. is_available y (states_of y cs) n i ≡ true) step.columns_are (all i iw)

        unread : (i : ℕ) → i < y.width → failed_at y mids n turn ≡ seat y mids n i → IsComplete y mids n → ⊥
        unread i iw same full = gone y mid mid-array.order n i (seat y mids n i) (full i iw) refl (subst (λ q. is_available y (states_of y (dead_at mid q)) n i ≡ true) same (complete i iw))

        same-sum : does_write turn ≡ false → (o k : ℕ) → o < y.unit_sectors → sum_of y (contents_of g new) mids n y.width o k ≡ sum_of y (contents_of g dev) mids n y.width o k
        same-sum not o k ou = sum-same g (λ d m. (does_write turn ≡ true) × IsCheckSector y mids n d m) dev new y mids n y.width o k step.visit.frame told (λ i at iw is may. no-bool (sym not ∙ may.0))

        go : (t : Turn) → turn ≡ t → IsTurn g.tells Sync y (contents_of g dev) mids n t → IsZero y (contents_of g new) mids n
        go Left e h = no-bool (sym h.2 ∙ step-back.available n h.0 (all h.0 h.1))
        go (Unread i) e h = absurd (unread i h.1 (ap (failed_at y mids n) e) h.0)
        go Sound e h = λ o k ou ku. same-sum (ap does_write e) o k ou ∙ h.1.1 told o k ou ku
        go Unsound e h = no-bool (h.1.0)
        go Written e h = zero-from y (contents_of g new) mids n (data_units y) (last-unit y layout one) (step.visit.sum told e)
        go Unwritten e h = absurd (unread (data_units y) last (ap (failed_at y mids n) e) h.0)

    after-zero : g.tells → (s : ℕ) → IsComplete y (states_of y after) s → IsZero y (contents_of g new) mids s → IsZero y (contents_of g new) (states_of y after) s
    after-zero told s all zero o k ou ku = sum-back y (contents_of g new) (states_of y after) mids s y.width o k step-back all ∙ zero o k ou ku

    sound : g.tells → (s : ℕ) → s < n + 1 → marks s ≡ true → IsComplete y (states_of y after) s → IsZero y (contents_of g new) (states_of y after) s
    sound told s below m all = elim (cases_lt s n) [
      | inr le ↦ let e : n ≡ s = omega (arith, below, le) in subst (λ z. IsZero y (contents_of g new) (states_of y after) z) e (after-zero told n (subst (IsComplete y (states_of y after)) (sym e) all) (own-sound told (subst (IsComplete y (states_of y after)) (sym e) all)))
      | inl lt ↦ after-zero told s all (λ o k ou ku.
          let full : IsComplete y mids s = λ i iw. step-back.available s i (all i iw) in
          sum-same g (λ d m. (does_write turn ≡ true) × IsCheckSector y mids n d m) dev new y mids s y.width o k step.visit.frame told (λ i at iw is may.
          let alone = check-alone y mids layout mid-array.order one n s i o at sw (omega (arith, lt, sw)) iw ou is may.1 in
          let e = alone.0 in omega (arith, lt, e))
          ∙ was.swept.sound told s lt m full o k ou ku)
    ]

    -- ### What check units hold

    abbrev Wrote : ℕ → ℕ → Type 0
    Wrote d m = (does_write turn ≡ true) × IsCheckSector y mids n d m

    -- the check unit of stripe s holds the sum of its data units, or what it held
    abbrev HoldsAt : List (Option D) → ℕ → Type 0
    HoldsAt ds s = HoldsSum y (contents_of g ds) cols s
        ⊎ ((o k : ℕ) → o < y.unit_sectors → byte_of y (contents_of g ds) cols s (data_units y) o k ≡ byte_of y (contents_of g old) cols s (data_units y) o k)

    -- where no sector of the stripe has changed
    holds-still : (s : ℕ) → g.tells → ((i o : ℕ) (at : Spot) → i < y.width → o < y.unit_sectors → seat y cols s i ≡ Some at → Wrote at.device (sector_at y at o) → ⊥) → HoldsAt dev s → HoldsAt new s
    holds-still s told away (inl sum) = inl (λ o k ou ku.
        byte-same g Wrote dev new y cols s (data_units y) o k step.visit.frame told (λ at is. away (data_units y) o at last ou is)
        ∙ (sum o k ou ku
        ∙ sym (sum-same g Wrote dev new y cols s (data_units y) o k step.visit.frame told (λ i at iw is. away i o at (omega (arith, iw, last)) ou is))))
    holds-still s told away (inr same) = inr (λ o k ou.
        byte-same g Wrote dev new y cols s (data_units y) o k step.visit.frame told (λ at is. away (data_units y) o at last ou is) ∙ same o k ou)

    other-away : (s : ℕ) → s < y.stripes → (s ≡ n → ⊥) → (i o : ℕ) (at : Spot) → i < y.width → o < y.unit_sectors → seat y cols s i ≡ Some at → Wrote at.device (sector_at y at o) → ⊥
    other-away s below other i o at iw ou is may =
        other (check-alone y cols layout array.order one n s i o at sw below iw ou is (check-back y mids cols n at.device (sector_at y at o) was.back may.1)).0

    own-holds : g.tells → is_available y (states_of y after) n (data_units y) ≡ true → HoldsAt dev n → HoldsAt new n
    own-holds told here before = go turn refl step.visit.is
      where
        still : (t : Turn) → turn ≡ t → does_write t ≡ false → HoldsAt new n
        still t e not = holds-still n told (λ i o at iw ou is may. no-bool (sym not ∙ (sym (ap does_write e) ∙ may.0))) before

        go : (t : Turn) → turn ≡ t → IsTurn g.tells Sync y (contents_of g dev) mids n t → HoldsAt new n
        go Left e h = still Left e refl
        go (Unread i) e h = still (Unread i) e refl
        go Sound e h = still Sound e refl
        go Unsound e h = still Unsound e refl
        go Written e h = inl (λ o k ou ku.
            sym (byte-back y (contents_of g new) mids cols n (data_units y) o k was.back (h.0 (data_units y) last))
            ∙ (step.visit.sum told e o k ou ku
            ∙ sum-back y (contents_of g new) mids cols n (data_units y) o k was.back (λ i iw. h.0 i (omega (arith, iw, last)))))
        go Unwritten e h = absurd (gone y mid mid-array.order n (data_units y) (seat y mids n (data_units y)) (h.0 (data_units y) last) refl
            (subst (λ q. is_available y (states_of y (dead_at mid q)) n (data_units y) ≡ true) (ap (failed_at y mids n) e)
            (subst (λ cs. is_available y (states_of y cs) n (data_units y) ≡ true) step.columns_are here)))

    pub held-more : HeldTo g y columns old mid dev → HeldTo g y columns old after new
    held-more held told s below all here =
        let before : HoldsAt dev s = held told s below all (step-back.available s (data_units y) here) in
        elim (cases_eq s n) [
          | inr other ↦ holds-still s told (other-away s below other) before
          | inl own ↦ subst (HoldsAt new) (sym own)
              (own-holds told (subst (λ z. is_available y (states_of y after) z (data_units y) ≡ true) own here) (subst (HoldsAt dev) own before))
        ]

    -- ### Whether the stripe counts

    counts : (t : Turn) → does_count t ≡ true → IsTurn g.tells Sync y (contents_of g dev) mids n t → does_write t ≡ true
    counts Left e h = no-bool e
    counts (Unread i) e h = no-bool e
    counts Sound e h = no-bool e
    counts Unsound e h = no-bool h.1.0
    counts Written e h = refl
    counts Unwritten e h = no-bool e

    -- a stripe that lacks no unit in the end and didn't sum to zero was rewritten
    was-written : g.tells → IsComplete y (states_of y after) n → IsNotZero y (contents_of g old) cols n → does_count turn ≡ true
    was-written told all nz = go turn refl step.visit.is
      where
        complete : IsComplete y (states_of y (dead_at mid (failed_at y mids n turn))) n
        complete i iw = subst (λ cs. is_available y (states_of y cs) n i ≡ true) step.columns_are (all i iw)

        unread : (i : ℕ) → i < y.width → failed_at y mids n turn ≡ seat y mids n i → IsComplete y mids n → ⊥
        unread i iw same full = gone y mid mid-array.order n i (seat y mids n i) (full i iw) refl (subst (λ q. is_available y (states_of y (dead_at mid q)) n i ≡ true) same (complete i iw))

        go : (t : Turn) → turn ≡ t → IsTurn g.tells Sync y (contents_of g dev) mids n t → does_count turn ≡ true
        go Left e h = no-bool (sym h.2 ∙ step-back.available n h.0 (all h.0 h.1))
        go (Unread i) e h = absurd (unread i h.1 (ap (failed_at y mids n) e) h.0)
        go Sound e h = absurd (nz.differs (sym (sums-before told nz.offset nz.byte nz.within h.0) ∙ h.1.1 told nz.offset nz.byte nz.within nz.of_sector))
        go Unsound e h = no-bool h.1.0
        go Written e h = ap does_count e
        go Unwritten e h = absurd (unread (data_units y) last (ap (failed_at y mids n) e) h.0)

    -- so many more
    pub counted-yes : (before : ℕ) → counted ≡ true → Counted n mid before → Counted (n + 1) after (before + 1)
    counted-yes before is c = record {
      most = λ p each.
          let m = c.most p (λ s below. each s (omega (arith, below))) in
          let w = due turn (counts turn (sym step.count ∙ is) step.visit.is) step.visit.is in
          let now = may-now-facts w in
          let one = below-one p n (each n (omega arith) marked now.0 now.1) in omega (arith, m, one);
      least = λ p each.
          let l = c.least p (λ s below h. let q = each s (omega (arith, below)) h in (q.0, (λ i iw. step-back.available s i (q.1 i iw)), q.2)) in
          let e = below-next p n in let b = one-most (p n) in omega (arith, l, e, b);
    }
      where
        one-most : (b : Bool) → (if b then 1 else 0) ≤ 1
        one-most true = omega arith
        one-most false = omega arith

        may-now-facts : IsComplete y mids n × (g.tells → IsNotZero y (contents_of g dev) mids n) → IsComplete y cols n × (g.tells → IsNotZero y (contents_of g old) cols n)
        may-now-facts q = ((λ i iw. was.back.available n i (q.0 i iw)), λ told. let z = q.1 told in record { offset = z.offset; byte = z.byte; within = z.within; of_sector = z.of_sector; differs = λ e. z.differs (sums-before told z.offset z.byte z.within q.0 ∙ e) })

    pub counted-no : (before : ℕ) → counted ≡ false → Counted n mid before → Counted (n + 1) after before
    counted-no before is c = record {
      most = λ p each. let m = c.most p (λ s below. each s (omega (arith, below))) in below-more p n before m;
      least = λ p each.
          let l = c.least p (λ s below h. let q = each s (omega (arith, below)) h in (q.0, (λ i iw. step-back.available s i (q.1 i iw)), q.2)) in
          subst (λ z. z ≤ before) (sym (below-none p n (λ h. let q = each n (omega arith) h in no-bool (sym is ∙ step.count ∙ was-written q.2.0 q.1 q.2.1)))) l;
    }

    pub swept-more : Swept (n + 1) after new
    swept-more = record {
      swept = record { frame = changes-then g (May (n + 1)) old dev new frame-was frame-step; dies = dies; sound = sound };
      back = back-then y (states_of y after) mids cols step-back was.back;
      count = dies.count;
    }

  -- in the end the array is in sync, if what wasn't was marked
  pub swept-in-sync : (after : List Column) (new : List (Option D)) → Swept y.stripes after new → g.tells → UnsoundAreMarked g y marks columns old → InSync y (contents_of g new) (states_of y after)
  swept-in-sync after new w told due s o k sw ou ku checks all = elim (cases_Bool (marks s)) [
    | inl m ↦ w.swept.sound told s sw m all o k ou ku
    | inr not ↦
        let full : IsComplete y cols s = λ i iw. w.back.available s i (all i iw) in
        sum-back y (contents_of g new) (states_of y after) cols s y.width o k w.back all
        ∙ sum-same g (May y.stripes) old new y cols s y.width o k w.swept.frame told (λ i at iw is may.
        let alone = check-alone y cols layout array.order one may.stripe s i o at may.below sw iw ou is may.sector in
        no-bool (sym not ∙ ap marks alone.0 ∙ may.marked))
        ∙ (elim (cases_eq (sum_of y (contents_of g old) cols s y.width o k) 0) [
          | inl z ↦ z
          | inr ne ↦ no-bool (sym not ∙ due s sw full (record { offset = o; byte = k; within = ou; of_sector = ku; differs = ne }))
        ])
  ]
