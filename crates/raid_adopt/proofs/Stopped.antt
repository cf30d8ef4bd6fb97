-- Wherever a round is stopped, each sector is as it may have been left before, or holds a label of the round.
use Rattle.std.proofs.Common.{◌≡◌, ◌≢◌, ◌∙◌, ap, ap₂, sym, subst, ℕ, zero, suc, ◌+◌, ◌*◌, ◌<◌, ◌≤◌, ◌==◌, ◌⊎◌, ◌++◌, inl, inr, Bool, true, false, List, [], ◌∷◌, length, refl, arith, Option, Some, None, option_and_then, option_map, codes, length-append}
use Rattle.std.specs.Int.{w32, to_le_bytes}
use Rattle.std.specs.Prelude.{Contains, if◌then◌else◌, slice_get, slice_index, slice_index_or, replicate, flat_map, Result, Ok, ◌^◌}
use Rattle.std.proofs.lemmas.Bool.{cases_eq, cases_order, ne_eqb, eq-eqb}
use Rattle.std.proofs.lemmas.Option.{slice_get_within}
use Rattle.lay_core.specs.Layout.{Shape, Blocks, code}
use Rattle.eng_cols.specs.declared.column.Column.{Column}
use Rattle.eng_cols.specs.declared.spot.Spot.{Spot}
use Rattle.eng_cols.specs.Cols.{ColumnState, HasDeviceOn, device_set}
use Rattle.std.specs.Option.{option_map_or}
use Rattle.eng_cols.specs.Contents.{Contents, Agrees, AnyStripe, InSync, byte_of, sector_at}
use Rattle.eng_cols.specs.Seats.{spot}
use Rattle.eng_cols.proofs.Sums.{below_same}
use Rattle.raid_label.specs.declared.label.Label.{Label}
use Rattle.raid_label.specs.Bytes.{IsHeld, IsInRange, bytes_of, label_in}
use Rattle.raid_label.specs.Judged.{fault_in}
use Rattle.raid_label.proofs.Written.{label_is_read}
use Rattle.raid_map.specs.Stops.{Logged, Stored, SameSector, WasLogged, MayHold, IsImage}
use Rattle.raid_map.specs.Mapped.{Settles}
use Rattle.top_open.specs.declared.fronts.Front.{Front}
use Rattle.top_open.specs.declared.fronts.Front.TheVariants.{Away, Unread, Held}
use Rattle.top_open.specs.declared.plan.Needs.{Needs}
use Rattle.top_open.specs.declared.plan.Plan.{Plan}
use Rattle.top_open.specs.Labels.{label_at, label_of, newest_below}
use Rattle.top_open.specs.Opening.{Opened, judged_in, opened_in}
use Rattle.top_open.specs.Plan.{IsPlan}
use Rattle.top_open.proofs.Filled.{was-judged}
use Rattle.raid_adopt.specs.Rounds.{Event, Write, Settle, IsLabelOf, IsOf, Labels, Leads, MayBegin, Reads, RoundRun}
use Rattle.raid_adopt.specs.Found.{AreFrontsIn, AreReopened, HaveLabels, IsFrontIn, IsRound}
use Rattle.raid_adopt.proofs.Newest.{newest-one, newest-greatest}
use Rattle.raid_adopt.proofs.Reopening.{finds, judged-newest}

-- ## Sectors

pub may-same : (x : Stored) (n : ℕ) (a b : ℕ → ℕ) → SameSector a b → MayHold x n b → MayHold x n a
may-same x n a b same (inl h) = inl (λ k lt. same k lt ∙ h k lt)
may-same x n a b same (inr w) = inr (record { entry = w.entry; has = w.has; sector = w.sector; same = λ k lt. same k lt ∙ w.same k lt })

-- an element of a list with one more in front
pub data Splits {A : Type 0} (y : A) (xs : List A) (x : A) : Type 0 where
  first : y ≡ x → Splits y xs x
  later : Contains xs x → Splits y xs x

pub splits : {A : Type 0} (y : A) (xs : List A) (x : A) → Contains (y ∷ xs) x → Splits y xs x
splits y xs x (zero, lt, e) = first e
splits y xs x (suc k, lt, e) = later (k, omega (arith, lt), e)

-- nothing is in an empty list
pub none-in : {A : Type 0} (xs : List A) (x : A) → xs ≡ [] → Contains xs x → ⊥
none-in [] x e (k, lt, at) = omega (arith, lt)
none-in (y ∷ xs) x e h = cc e

module _ (r : Label) (began : List Column) (start : ℕ → Stored) (may : MayBegin r began start) where
  -- what a sector may hold: what a stop may leave of it before the round; or, sector 0 of a device in use, its column's label
  abbrev pub MayBe : ℕ → ℕ → (ℕ → ℕ) → Type 0
  MayBe d n content = MayHold (start d) n content ⊎ ((n ≡ 0) × (c : ℕ) × HasDeviceOn began c d × IsLabelOf r c content)

  pub same-may : (d n : ℕ) (a b : ℕ → ℕ) → SameSector a b → MayBe d n b → MayBe d n a
  same-may d n a b same (inl h) = inl (may-same (start d) n a b same h)
  same-may d n a b same (inr (z, c, live, label)) = inr (z, c, live, λ k lt. same k lt ∙ label k lt)

  -- so it is of each sector that a stop may leave, and of what the devices hold
  pub record Within (now : ℕ → Stored) : Type 0 where
    pub left : (d n : ℕ) (content : ℕ → ℕ) → MayHold (now d) n content → MayBe d n content
    pub held : (d n : ℕ) → MayBe d n ((now d).now n)

  after-write : (c d : ℕ) (old new : ℕ → Stored) → Within old → Labels r began c d old new → Within new
  after-write c d old new i w = record { left = left; held = held }
    where
      here : (n : ℕ) (content : ℕ → ℕ) → MayHold (new d) n content → MayBe d n content
      here n content (inl same) = i.left d n content (inl (λ k lt. same k lt ∙ w.settled n k))
      here n content (inr e) = go (splits w.entry (old d).logged e.entry (subst (λ (es : List Logged). Contains es e.entry) w.logged e.has))
        where
          go : Splits w.entry (old d).logged e.entry → MayBe d n content
          go (first is) =
              let at : n ≡ 0 = sym e.sector ∙ (ap (λ (x : Logged). x.sector) (sym is) ∙ w.sector) in
              inr (at, c, w.live, λ k lt. e.same k lt ∙ (ap (λ (x : Logged). x.bytes k) (sym is) ∙ w.label k lt))
          go (later has) = i.left d n content (inr (record { entry = e.entry; has = has; sector = e.sector; same = e.same }))

      left : (k n : ℕ) (content : ℕ → ℕ) → MayHold (new k) n content → MayBe k n content
      left k n content h = elim (cases_eq k d) [
        | inl same ↦ subst (λ (z : ℕ). MayBe z n content) (sym same) (here n content (subst (λ (z : ℕ). MayHold (new z) n content) same h))
        | inr ne ↦ i.left k n content (subst (λ (x : Stored). MayHold x n content) (w.others k ne) h)
      ]

      held-here : (n : ℕ) → MayBe d n ((new d).now n)
      held-here n = elim (cases_eq n 0) [
        | inl z ↦ inr (z, c, w.live, λ k lt. ap (λ (m : ℕ). (new d).now m k) z ∙ w.now k lt)
        | inr ne ↦ same-may d n ((new d).now n) ((old d).now n) (λ k lt. w.rest n k ne) (i.held d n)
      ]

      held : (k n : ℕ) → MayBe k n ((new k).now n)
      held k n = elim (cases_eq k d) [
        | inl same ↦ subst (λ (z : ℕ). MayBe z n ((new z).now n)) (sym same) (held-here n)
        | inr ne ↦ subst (λ (x : Stored). MayBe k n (x.now n)) (sym (w.others k ne)) (i.held k n)
      ]

  after-settle : (d : ℕ) (old new : ℕ → Stored) → Within old → Settles d old new → Within new
  after-settle d old new i s = record { left = left; held = held }
    where
      here : (n : ℕ) (content : ℕ → ℕ) → MayHold (new d) n content → MayBe d n content
      here n content (inl same) = same-may d n content ((old d).now n) (λ k lt. same k lt ∙ s.settled n k) (i.held d n)
      here n content (inr e) = absurd (none-in (new d).logged e.entry s.logged e.has)

      left : (k n : ℕ) (content : ℕ → ℕ) → MayHold (new k) n content → MayBe k n content
      left k n content h = elim (cases_eq k d) [
        | inl same ↦ subst (λ (z : ℕ). MayBe z n content) (sym same) (here n content (subst (λ (z : ℕ). MayHold (new z) n content) same h))
        | inr ne ↦ i.left k n content (subst (λ (x : Stored). MayHold x n content) (s.others k ne) h)
      ]

      held : (k n : ℕ) → MayBe k n ((new k).now n)
      held k n = elim (cases_eq k d) [
        | inl same ↦ subst (λ (z : ℕ). MayBe z n ((new z).now n)) (sym same) (same-may d n ((new d).now n) ((old d).now n) (λ j lt. s.now n j) (i.held d n))
        | inr ne ↦ subst (λ (x : Stored). MayBe k n (x.now n)) (sym (s.others k ne)) (i.held k n)
      ]

  pub within : (events : List Event) (now : ℕ → Stored) → RoundRun r began start events now → Within now
  within [] now same = record {
    left = λ d n content h. inl (subst (λ (x : Stored). MayHold x n content) (same d) h);
    held = λ d n. inl (subst (λ (x : Stored). MayHold (start d) n (x.now n)) (sym (same d)) (may.may_hold d n));
  }
  within (e ∷ events) now (mid, run, leads) = go (within events mid run) e leads
    where
      go : Within mid → (e : Event) → Leads r began e mid now → Within now
      go i (Write c d) w = after-write c d mid now i w
      go i (Settle d) s = after-settle d mid now i s

  module _ (events : List Event) (now : ℕ → Stored) (image : Contents) (run : RoundRun r began start events now) (is-image : IsImage now image) where
    image-may : (d n : ℕ) → MayBe d n (image d n)
    image-may d n = (within events now run).left d n (image d n) (is-image d n)

    pub stopped-before : (d n : ℕ) → MayHold (start d) n (image d n) ⊎ ((n ≡ 0) × (c : ℕ) × HasDeviceOn began c d × IsLabelOf r c (image d 0))
    stopped-before d n = go (image-may d n)
      where
        go : MayBe d n (image d n) → MayHold (start d) n (image d n) ⊎ ((n ≡ 0) × (c : ℕ) × HasDeviceOn began c d × IsLabelOf r c (image d 0))
        go (inl h) = inl h
        go (inr (z, c, live, label)) = inr (z, c, live, λ k lt. ap (λ (m : ℕ). image d m k) (sym z) ∙ label k lt)

    -- ## Blocks

    -- the image, with sector 0 as the devices held it before
    unlabelled : Contents
    unlabelled d n k = if n == 0 then (start d).now n k else image d n k

    unlabelled-image : IsImage start unlabelled
    unfolding unlabelled
    unlabelled-image d n = elim (cases_eq n 0) [
      | inl z ↦ may-same (start d) n (unlabelled d n) ((start d).now n) (λ k lt. ap (λ (b : Bool). if b then (start d).now n k else image d n k) (eq-eqb n 0 z)) (may.may_hold d n)
      | inr ne ↦ may-same (start d) n (unlabelled d n) (image d n) (λ k lt. ap (λ (b : Bool). if b then (start d).now n k else image d n k) (ne_eqb n 0 ne)) (rows ne (image-may d n))
    ]
      where
        rows : (n ≡ 0 → ⊥) → MayBe d n (image d n) → MayHold (start d) n (image d n)
        rows ne (inl h) = h
        rows ne (inr (z, c, live, label)) = absurd (ne z)

    pub stopped-blocks : (y : Shape) (cols : List ColumnState) (blocks : Blocks) → ((x : Contents) → IsImage start x → Agrees y x cols blocks AnyStripe) → Agrees y image cols blocks AnyStripe
    unfolding unlabelled
    stopped-blocks y cols blocks each s i sw any iw at o k there is ow kw =
        ap (λ (b : Bool). if b then (start at.device).now (sector_at y at o) k else image at.device (sector_at y at o) k) (sym (ne_eqb (sector_at y at o) 0 (λ e. omega (arith, e))))
        ∙ each unlabelled unlabelled-image s i sw any iw at o k there is ow kw

    -- an array in sync whatever a stop leaves stays so
    pub stopped-sync : (y : Shape) (cols : List ColumnState) → ((x : Contents) → IsImage start x → InSync y x cols) → InSync y image cols
    unfolding unlabelled
    stopped-sync y cols each s o k st ow kw checks available =
        below_same (λ i. byte_of y image cols s i o k) (λ i. byte_of y unlabelled cols s i o k) y.width (λ i lt. at-spot (spot y cols s i))
        ∙ each unlabelled unlabelled-image s o k st ow kw checks available
      where
        at-spot : (x : Option Spot) → option_map_or (λ (at : Spot). image at.device (sector_at y at o) k) x 0 ≡ option_map_or (λ (at : Spot). unlabelled at.device (sector_at y at o) k) x 0
        at-spot None = refl
        at-spot (Some at) = sym (ap (λ (b : Bool). if b then (start at.device).now (sector_at y at o) k else image at.device (sector_at y at o) k) (ne_eqb (sector_at y at o) 0 (λ e. omega (arith, e))))

-- ## The bytes of a label

pub long : (l : Label) → length l.seats ≡ 32 → length (bytes_of l) ≡ 512
unfolding bytes_of
long l s = omega (arith, s, length-append l.seats (flat_map (to_le_bytes w32) (l.filling ∷ l.done ∷ []) ++ replicate 412 0))

same-bytes : (xs ys : List ℕ) → length xs ≡ length ys → ((k : ℕ) → k < length xs → slice_index xs k ≡ slice_index ys k) → xs ≡ ys
same-bytes [] [] e each = refl
same-bytes [] (y ∷ ys) e each = cc e
same-bytes (x ∷ xs) [] e each = cc e
same-bytes (x ∷ xs) (y ∷ ys) e each = ap₂ (λ (z : ℕ) (zs : List ℕ). z ∷ zs) (each 0 (omega arith)) (same-bytes xs ys (omega (arith, e)) (λ k lt. each (suc k) (omega (arith, lt))))

-- bytes of a sector that hold the same
pub sector-same : (content : ℕ → ℕ) (xs ys : List ℕ) → length xs ≡ 512 → length ys ≡ 512 → ((k : ℕ) → k < 512 → slice_index xs k ≡ content k) → ((k : ℕ) → k < 512 → slice_index ys k ≡ content k) → xs ≡ ys
sector-same content xs ys a b x y = same-bytes xs ys (a ∙ sym b) (λ k lt. x k (omega (arith, lt, a)) ∙ sym (y k (omega (arith, lt, a))))

-- a label of the round is one of the array
pub refl-fault : (l : Label) → fault_in (Some l) 1 l ≡ None
unfolding fault_in
refl-fault l = rw (eq-eqb l.columns l.columns refl, eq-eqb l.unit l.unit refl, eq-eqb l.level l.level refl, eq-eqb l.b l.b refl, eq-eqb l.k l.k refl, eq-eqb l.r l.r refl, eq-eqb l.lambda l.lambda refl, eq-eqb l.rows l.rows refl, eq-eqb l.serial l.serial refl, eq-eqb l.column l.column refl) refl

module _ (p : Plan) (present : List Bool) (fronts : List Front) (began : List Column) (r : Label) (start : ℕ → Stored) (image : Contents)
    (round : IsRound p present began r) (in_range : IsInRange r) (is-held : IsHeld r) (may : MayBegin r began start)
    (before : (d : ℕ) → MayHold (start d) 0 (image d 0) ⊎ ((c : ℕ) × HasDeviceOn began c d × IsLabelOf r c (image d 0))) (are : AreFrontsIn image began fronts) where
  own-range : (c : ℕ) → c < length began → IsInRange (record r { column = c })
  own-range c lt = record {
    version = in_range.version;
    serial = in_range.serial;
    counter = in_range.counter;
    column = omega (arith, lt, round.most);
    columns = in_range.columns;
    unit = in_range.unit;
    rows = in_range.rows;
    level = in_range.level;
    clean = in_range.clean;
    b = in_range.b;
    k = in_range.k;
    r = in_range.r;
    lambda = in_range.lambda;
    seats = in_range.seats;
    filling = in_range.filling;
    done = in_range.done;
  }

  own-held : (c : ℕ) → IsHeld (record r { column = c })
  own-held c = record { version = is-held.version; clean = is-held.clean; filling = is-held.filling; done = is-held.done; first = is-held.first }

  within-began : (c d : ℕ) → HasDeviceOn began c d → c < length began
  within-began c d on = go (slice_get began c) refl on
    where
      go : (x : Option Column) → slice_get began c ≡ x → device_set x ≡ Some d → c < length began
      go None is on = cc on
      go (Some x) is on = slice_get_within began c x is

  -- bytes that hold the round's label are read as it
  reads-own : (c d : ℕ) (content : ℕ → ℕ) (bytes : List ℕ) → HasDeviceOn began c d → IsLabelOf r c content → length bytes ≡ 512 → ((k : ℕ) → k < 512 → slice_index bytes k ≡ content k) → label_in bytes ≡ Some (record r { column = c })
  reads-own c d content bytes on label size same =
      let own = bytes_of (record r { column = c }) in
      ap label_in (sector-same content bytes own size (long (record r { column = c }) in_range.seats) same (λ k lt. sym (label k lt)))
      ∙ label_is_read (record r { column = c }) (own-range c (within-began c d on)) (own-held c)

  -- what is read of a device in use
  front-label : (d : ℕ) (bytes : List ℕ) → slice_get fronts d ≡ Some (Held bytes) → label_at fronts d ≡ label_in bytes
  front-label d bytes at = ap (λ (f : Option Front). option_and_then label_of f) at

  held-at : (d : ℕ) (l : Label) → label_at fronts d ≡ Some l → (bytes : List ℕ) × (slice_get fronts d ≡ Some (Held bytes)) × (label_in bytes ≡ Some l)
  held-at d l h = go (slice_get fronts d) refl h
    where
      go : (f : Option Front) → slice_get fronts d ≡ f → option_and_then label_of f ≡ Some l → (bytes : List ℕ) × (slice_get fronts d ≡ Some (Held bytes)) × (label_in bytes ≡ Some l)
      go None is h = cc h
      go (Some Away) is h = cc h
      go (Some Unread) is h = cc h
      go (Some (Held bytes)) is h = (bytes, is, h)

  -- each device in use has a label of its column
  have-labels : (l : Label) → ((k : ℕ) → record l { column = k } ≡ record r { column = k }) → HaveLabels began l fronts
  have-labels l like c d on = go (before d)
    where
      read : (bytes : List ℕ) × (slice_get fronts d ≡ Some (Held bytes))
      read = are.read c d on

      front : IsFrontIn image d (Held read.0)
      front = are.each d (Held read.0) read.1

      of : (own : Label) → IsOf r c own → IsOf l c own
      of own h = ap (λ (w : Label). fault_in (Some own) 1 w) (like c) ∙ h

      go : MayHold (start d) 0 (image d 0) ⊎ ((e : ℕ) × HasDeviceOn began e d × IsLabelOf r e (image d 0)) → (own : Label) × (label_at fronts d ≡ Some own) × IsOf l c own
      go (inl h) =
          let own = may.own c d (image d 0) on h in
          (own.0, front-label d read.0 read.1 ∙ own.1 read.0 front.0 front.1, of own.0 own.2)
      go (inr (e, live, label)) =
          let same : e ≡ c = round.apart e c d live on in
          let mine : IsLabelOf r c (image d 0) = subst (λ (k : ℕ). IsLabelOf r k (image d 0)) same label in
          (record r { column = c }, front-label d read.0 read.1 ∙ reads-own c d (image d 0) read.0 on mine front.0 front.1, of (record r { column = c }) (refl-fault (record r { column = c })))

  -- a label that is as new is one of the round
  as-new : (d : ℕ) (l : Label) → label_at fronts d ≡ Some l → r.counter ≤ l.counter → (c : ℕ) × (l ≡ record r { column = c })
  as-new d l h le = go (before d)
    where
      found : (bytes : List ℕ) × (slice_get fronts d ≡ Some (Held bytes)) × (label_in bytes ≡ Some l)
      found = held-at d l h

      front : IsFrontIn image d (Held found.0)
      front = are.each d (Held found.0) found.1

      go : MayHold (start d) 0 (image d 0) ⊎ ((e : ℕ) × HasDeviceOn began e d × IsLabelOf r e (image d 0)) → (c : ℕ) × (l ≡ record r { column = c })
      go (inl before) =
          let older : l.counter < r.counter = may.older d (image d 0) l before (λ bytes size same. ap label_in (sector-same (image d 0) bytes found.0 size front.0 same front.1) ∙ found.2) in
          absurd (omega (arith, older, le))
      go (inr (e, live, label)) =
          let twice : Some l ≡ Some (record r { column = e }) = sym found.2 ∙ reads-own e d (image d 0) found.0 live label front.0 front.1 in
          (e, (let is : l ≡ record r { column = e } = cc twice in is))

  -- the newest label is one of the round, where one of them is left
  pub stopped-newest : (q : Needs) (sizes : List ℕ) (o : Opened) (c d : ℕ) (l : Label) → opened_in q p present sizes fronts ≡ Ok o → o.newest ≡ Some l → HasDeviceOn began c d → IsLabelOf r c (image d 0) → (e : ℕ) × (l ≡ record r { column = e })
  stopped-newest q sizes o c d l opens newest on label =
      let read = are.read c d on in
      let front : IsFrontIn image d (Held read.0) = are.each d (Held read.0) read.1 in
      let here : label_at fronts d ≡ Some (record r { column = c }) = front-label d read.0 read.1 ∙ reads-own c d (image d 0) read.0 on label front.0 front.1 in
      let j = was-judged q p present sizes fronts o opens in
      let below : newest_below fronts (length fronts) ≡ Some l = judged-newest q p present sizes fronts j.judged j.is l (ap (λ (x : Opened). x.newest) j.filled ∙ newest) in
      let new : r.counter ≤ l.counter = newest-greatest fronts (length fronts) d l (record r { column = c }) below (slice_get_within fronts d (Held read.0) read.1) here in
      let one = newest-one fronts (length fronts) l below in
      as-new one.0 l one.1 new

  pub stopped-columns : (q : Needs) (sizes : List ℕ) (o : Opened) (plan : IsPlan p) (adopts : q.adopts ≡ true) (c d : ℕ) (l : Label) → opened_in q p present sizes fronts ≡ Ok o → o.newest ≡ Some l → HasDeviceOn began c d → IsLabelOf r c (image d 0) → (o.rows ≡ r.rows) × AreReopened r began o.columns
  stopped-columns q sizes o plan adopts c d l opens newest on label =
      let is = stopped-newest q sizes o c d l opens newest on label in
      at is.0 is.1
    where
      at : (e : ℕ) → l ≡ record r { column = e } → (o.rows ≡ r.rows) × AreReopened r began o.columns
      at e is =
          let its : IsRound p present began (record r { column = e }) = record { seating = round.seating; count = round.count; most = round.most; configured = round.configured; apart = round.apart; filling = round.filling; spread = round.spread } in
          let f = finds q p present sizes fronts plan adopts began (record r { column = e }) its (have-labels (record r { column = e }) (λ k. refl)) o opens (newest ∙ ap Some is) in
          (f.0, f.1)

-- what may stand in sector 0 of a device, wherever the round is stopped
pub first-before : (r : Label) (began : List Column) (start now : ℕ → Stored) (may : MayBegin r began start) (events : List Event) (image : Contents) → RoundRun r began start events now → IsImage now image
    → (d : ℕ) → MayHold (start d) 0 (image d 0) ⊎ ((c : ℕ) × HasDeviceOn began c d × IsLabelOf r c (image d 0))
first-before r began start now may events image run is-image d = elim (stopped-before r began start may events now image run is-image d 0) [
  | inl h ↦ inl h
  | inr label ↦ inr (label.1, label.2, label.3)
]
