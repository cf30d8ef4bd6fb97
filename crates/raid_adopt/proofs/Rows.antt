-- Behind an opening round whose devices were settled, wherever rows are written, the newest label is one of that round.
use Rattle.std.proofs.Common.{◌≡◌, ◌≢◌, ◌∙◌, ap, sym, subst, ℕ, zero, suc, ◌<◌, ◌≤◌, ◌⊎◌, ◌++◌, inl, inr, Bool, true, false, List, [], ◌∷◌, Option, Some, None, refl, arith}
use Rattle.std.specs.Prelude.{Contains, Ok, if◌then◌else◌}
use Rattle.std.specs.Option.{option_map_or}
use Rattle.std.proofs.lemmas.Bool.{cases_eq}
use Rattle.eng_cols.specs.declared.column.Column.{Column}
use Rattle.lay_core.specs.Layout.{Shape}
use Rattle.eng_cols.specs.declared.spot.Spot.{Spot}
use Rattle.eng_cols.specs.Cols.{ColumnState, HasDeviceOn}
use Rattle.eng_cols.specs.Contents.{Contents, InSync, byte_of, sector_at}
use Rattle.eng_cols.specs.Seats.{is_available, seat}
use Rattle.eng_cols.proofs.Spots.{seat-device}
use Rattle.eng_cols.proofs.Sums.{below_same}
use Rattle.raid_label.specs.Bytes.{IsHeld, IsInRange}
use Rattle.top_open.specs.declared.fronts.Front.{Front}
use Rattle.top_open.specs.declared.plan.Needs.{Needs}
use Rattle.top_open.specs.declared.plan.Plan.{Plan}
use Rattle.top_open.specs.Opening.{Opened, opened_in}
use Rattle.raid_adopt.specs.Found.{AreFrontsIn, IsRound}
use Rattle.raid_label.specs.declared.label.Label.{Label}
use Rattle.raid_map.specs.Stops.{Logged, Stored, SameSector, MayHold, IsImage}
use Rattle.raid_map.specs.Mapped.{Settles}
use Rattle.raid_adopt.specs.Rounds.{Event, Write, Settle, IsLabelOf, MayBegin, RoundRun}
use Rattle.raid_adopt.specs.Writes.{RowEvent, WriteRow, SettleRows, WritesRow, RowsRun, IsSettledBehind, AreSettledBehind, IsAtRest, AreAtRest}
use Rattle.raid_adopt.proofs.Stopped.{MayBe, Splits, first, later, splits, none-in, same-may, stopped-newest, within}

-- a list that is one in front of another has its elements, and those of the other
contains-tail : {A : Type 0} (x y : A) (xs : List A) → Contains xs y → Contains (x ∷ xs) y
contains-tail x y xs (k, lt, at) = (suc k, omega (arith, lt), at)

same-event : (c d k j : ℕ) → Write c d ≡ Write k j → d ≡ j
same-event c d k j h = cc h

no-event : {A : Type 0} (c d k : ℕ) → Settle k ≡ Write c d → A
no-event c d k h = absurd (let u : ⊥ = cc in u)

module _ (r : Label) (began : List Column) (start : ℕ → Stored) (apart : (c k d : ℕ) → HasDeviceOn began c d → HasDeviceOn began k d → c ≡ k) (c d : ℕ) (on : HasDeviceOn began c d) where
  -- the device has the column's label as its settled sector 0 and as its present one, and nothing logged
  pub record Safe (x : Stored) : Type 0 where
    pub settled : IsLabelOf r c (x.settled 0)
    pub now : IsLabelOf r c (x.now 0)
    pub logged : x.logged ≡ []

  -- once the label was written the device holds it
  written : (events : List Event) (now : ℕ → Stored) → RoundRun r began start events now → Contains events (Write c d) → IsLabelOf r c ((now d).now 0)
  written [] now run has = absurd (omega (arith, has.1))
  written (Write k j ∷ events) now (mid, run, leads) has = elim (cases_eq d j) [
    | inl same ↦
        let here : HasDeviceOn began k d = subst (λ (i : ℕ). HasDeviceOn began k i) (sym same) leads.live in
        subst (λ (e : ℕ). IsLabelOf r e ((now d).now 0)) (apart k c d here on)
        (subst (λ (i : ℕ). IsLabelOf r k ((now i).now 0)) (sym same) leads.now)
    | inr other ↦
        subst (λ (x : Stored). IsLabelOf r c (x.now 0)) (sym (leads.others d other))
        (written events mid run (elim (splits (Write k j) events (Write c d) has) [
          | first is ↦ absurd (other (same-event c d k j (sym is)))
          | later there ↦ there
        ]))
  ]
  written (Settle j ∷ events) now (mid, run, leads) has =
      let before = written events mid run (elim (splits (Settle j) events (Write c d) has) [
        | first is ↦ no-event c d j is
        | later there ↦ there
      ]) in
      elim (cases_eq d j) [
        | inl same ↦ λ k lt. subst (λ (i : ℕ). (now i).now 0 k ≡ (mid i).now 0 k) (sym same) (leads.now 0 k) ∙ before k lt
        | inr other ↦ subst (λ (x : Stored). IsLabelOf r c (x.now 0)) (sym (leads.others d other)) before
      ]

  -- and once it was settled behind that, and got no other, it is safe
  settled-so : (mid now : ℕ → Stored) → Settles d mid now → IsLabelOf r c ((mid d).now 0) → Safe (now d)
  settled-so mid now s label = record {
    settled = λ k lt. s.settled 0 k ∙ label k lt;
    now = λ k lt. s.now 0 k ∙ label k lt;
    logged = s.logged;
  }

  safe-behind : (later before : List Event) (now : ℕ → Stored) → RoundRun r began start (later ++ Settle d ∷ before) now → Contains before (Write c d) → ((k : ℕ) → Contains later (Write k d) → ⊥) → Safe (now d)
  safe-behind [] before now (mid, run, leads) has none = settled-so mid now leads (written before mid run has)
  safe-behind (Write k j ∷ more) before now (mid, run, leads) has none =
      let other : d ≢ j = λ same. none k (subst (λ (i : ℕ). Contains (Write k j ∷ more) (Write k i)) (sym same) (0, omega arith, refl)) in
      subst Safe (sym (leads.others d other)) (safe-behind more before mid run has (λ i there. none i (contains-tail (Write k j) (Write i d) more there)))
  safe-behind (Settle j ∷ more) before now (mid, run, leads) has none =
      let was = safe-behind more before mid run has (λ i there. none i (contains-tail (Settle j) (Write i d) more there)) in
      elim (cases_eq d j) [
        | inl same ↦ settled-so mid now (subst (λ (i : ℕ). Settles i mid now) (sym same) leads) was.now
        | inr other ↦ subst Safe (sym (leads.others d other)) was
      ]

  pub safe : (events : List Event) (now : ℕ → Stored) → RoundRun r began start events now → IsSettledBehind events c d → Safe (now d)
  safe events now run s = safe-behind s.later s.before now (subst (λ (es : List Event). RoundRun r began start es now) s.split run) s.labelled s.last

-- ## Rows

-- sector 0 is what it was, and of what was logged since nothing stands there
module _ (opened : ℕ → Stored) where
  pub record Keeps (x was : Stored) : Type 0 where
    pub now : (k : ℕ) → x.now 0 k ≡ was.now 0 k
    pub left : (content : ℕ → ℕ) → MayHold x 0 content → MayHold was 0 content ⊎ SameSector content (was.now 0)

  keeps-write : (d : ℕ) (old new : ℕ → Stored) → WritesRow d old new → Keeps (old d) (opened d) → Keeps (new d) (opened d)
  keeps-write d old new w i = record {
    now = λ k. w.rest 0 k (λ e. omega (arith, e, w.row)) ∙ i.now k;
    left = left;
  }
    where
      left : (content : ℕ → ℕ) → MayHold (new d) 0 content → MayHold (opened d) 0 content ⊎ SameSector content ((opened d).now 0)
      left content (inl same) = i.left content (inl (λ k lt. same k lt ∙ w.settled 0 k))
      left content (inr e) = elim (splits w.entry (old d).logged e.entry (subst (λ (es : List Logged). Contains es e.entry) w.logged e.has)) [
        | first is ↦ absurd (let z : e.entry.sector ≡ w.entry.sector = ap (λ (x : Logged). x.sector) (sym is) in omega (arith, z, e.sector, w.row))
        | later has ↦ i.left content (inr (record { entry = e.entry; has = has; sector = e.sector; same = e.same }))
      ]

  keeps-settle : (d : ℕ) (old new : ℕ → Stored) → Settles d old new → Keeps (old d) (opened d) → Keeps (new d) (opened d)
  keeps-settle d old new s i = record {
    now = λ k. s.now 0 k ∙ i.now k;
    left = left;
  }
    where
      left : (content : ℕ → ℕ) → MayHold (new d) 0 content → MayHold (opened d) 0 content ⊎ SameSector content ((opened d).now 0)
      left content (inl same) = inr (λ k lt. same k lt ∙ (s.settled 0 k ∙ i.now k))
      left content (inr e) = absurd (none-in (new d).logged e.entry s.logged e.has)

  pub keeps : (events : List RowEvent) (now : ℕ → Stored) → RowsRun opened events now → (d : ℕ) → Keeps (now d) (opened d)
  keeps [] now same d = subst (λ (x : Stored). Keeps x (opened d)) (sym (same d)) (record { now = λ k. refl; left = λ content h. inl h })
  keeps (WriteRow j ∷ events) now (mid, run, leads) d = elim (cases_eq d j) [
    | inl same ↦ subst (λ (i : ℕ). Keeps (now i) (opened i)) (sym same) (keeps-write j mid now leads (keeps events mid run j))
    | inr other ↦ subst (λ (x : Stored). Keeps x (opened d)) (sym (leads.others d other)) (keeps events mid run d)
  ]
  keeps (SettleRows j ∷ events) now (mid, run, leads) d = elim (cases_eq d j) [
    | inl same ↦ subst (λ (i : ℕ). Keeps (now i) (opened i)) (sym same) (keeps-settle j mid now leads (keeps events mid run j))
    | inr other ↦ subst (λ (x : Stored). Keeps x (opened d)) (sym (leads.others d other)) (keeps events mid run d)
  ]

  -- ## At rest

  -- what a stop leaves of the device is what it holds
  record Rests (x : Stored) : Type 0 where
    same : (n k : ℕ) → x.settled n k ≡ x.now n k
    none : x.logged ≡ []

  rests-settle : (d : ℕ) (old new : ℕ → Stored) → Settles d old new → Rests (new d)
  rests-settle d old new s = record { same = λ n k. s.settled n k ∙ sym (s.now n k); none = s.logged }

  rests-behind : (more before : List RowEvent) (now : ℕ → Stored) (d : ℕ) → RowsRun opened (more ++ SettleRows d ∷ before) now → (Contains more (WriteRow d) → ⊥) → Rests (now d)
  rests-behind [] before now d (mid, run, leads) none = rests-settle d mid now leads
  rests-behind (WriteRow j ∷ more) before now d (mid, run, leads) none =
      let other : d ≢ j = λ same. none (subst (λ (i : ℕ). Contains (WriteRow j ∷ more) (WriteRow i)) (sym same) (0, omega arith, refl)) in
      subst Rests (sym (leads.others d other)) (rests-behind more before mid d run (λ there. none (contains-tail (WriteRow j) (WriteRow d) more there)))
  rests-behind (SettleRows j ∷ more) before now d (mid, run, leads) none = elim (cases_eq d j) [
    | inl same ↦ rests-settle d mid now (subst (λ (i : ℕ). Settles i mid now) (sym same) leads)
    | inr other ↦ subst Rests (sym (leads.others d other)) (rests-behind more before mid d run (λ there. none (contains-tail (SettleRows j) (WriteRow d) more there)))
  ]

  pub at-rest : (events : List RowEvent) (now : ℕ → Stored) (d : ℕ) → RowsRun opened events now → IsAtRest events d → (n : ℕ) (content : ℕ → ℕ) → MayHold (now d) n content → SameSector content ((now d).now n)
  at-rest events now d run s n content h = go h
    where
      rests : Rests (now d)
      rests = rests-behind s.later s.before now d (subst (λ (es : List RowEvent). RowsRun opened es now) s.split run) s.last

      go : MayHold (now d) n content → SameSector content ((now d).now n)
      go (inl same) = λ k lt. same k lt ∙ rests.same n k
      go (inr e) = absurd (none-in (now d).logged e.entry rests.none e.has)

-- what may stand in sector 0 of a device, wherever rows are written
module _ (r : Label) (began : List Column) (start opened now : ℕ → Stored) (may : MayBegin r began start) (events : List Event) (writes : List RowEvent) (run : RoundRun r began start events opened) (rows : RowsRun opened writes now) where
  pub rows-may : (d : ℕ) (content : ℕ → ℕ) → MayHold (now d) 0 content → MayBe r began start may d 0 content
  rows-may d content h = elim ((keeps opened writes now rows d).left content h) [
    | inl was ↦ (within r began start may events opened run).left d 0 content was
    | inr same ↦ same-may r began start may d 0 content ((opened d).now 0) same ((within r began start may events opened run).held d 0)
  ]

-- ## Behind the settles

module _ (y : Shape) (cols : List ColumnState) (opened rest : ℕ → Stored) (writes : List RowEvent) (run : RowsRun opened writes rest) (quiet : AreAtRest cols writes) where
  abbrev held : Contents
  held d n k = (rest d).now n k

  -- a unit holds in each image what its device holds
  same-byte : (image : Contents) → IsImage rest image → (s i o k : ℕ) → k < 512 → byte_of y image cols s i o k ≡ byte_of y held cols s i o k
  same-byte image is-image s i o k kw = go (is_available y cols s i) refl
    where
      at-seat : (x : Option Spot) → seat y cols s i ≡ x → option_map_or (λ (at : Spot). image at.device (sector_at y at o) k) x 0 ≡ option_map_or (λ (at : Spot). held at.device (sector_at y at o) k) x 0
      at-seat None is = refl
      at-seat (Some at) is =
          let used = seat-device y cols s i at is in
          at-rest opened writes rest at.device run (quiet at.column at.device used) (sector_at y at o) (image at.device (sector_at y at o)) (is-image at.device (sector_at y at o)) k kw

      at-spot : (b : Bool) → option_map_or (λ (at : Spot). image at.device (sector_at y at o) k) (if b then seat y cols s i else None) 0 ≡ option_map_or (λ (at : Spot). held at.device (sector_at y at o) k) (if b then seat y cols s i else None) 0
      at-spot true = at-seat (seat y cols s i) refl
      at-spot false = refl

      go : (b : Bool) → is_available y cols s i ≡ b → byte_of y image cols s i o k ≡ byte_of y held cols s i o k
      go b is = at-spot (is_available y cols s i)

  -- an array that is in sync as its devices hold it is so whatever a stop leaves
  pub rest-sync : InSync y held cols → (image : Contents) → IsImage rest image → InSync y image cols
  rest-sync sync image is-image s o k st ow kw checks available =
      below_same (λ i. byte_of y image cols s i o k) (λ i. byte_of y held cols s i o k) y.width (λ i lt. same-byte image is-image s i o k kw)
      ∙ sync s o k st ow kw checks available

-- ## The newest label

module _ (p : Plan) (present : List Bool) (fronts : List Front) (began : List Column) (r : Label) (start opened now : ℕ → Stored) (events : List Event) (writes : List RowEvent) (image : Contents)
    (round : IsRound p present began r) (in_range : IsInRange r) (is-held : IsHeld r) (may : MayBegin r began start) (run : RoundRun r began start events opened) (behind : AreSettledBehind began events) (rows : RowsRun opened writes now)
    (is-image : IsImage now image) (are : AreFrontsIn image began fronts) where
  first-sector : (d : ℕ) → MayHold (start d) 0 (image d 0) ⊎ ((c : ℕ) × HasDeviceOn began c d × IsLabelOf r c (image d 0))
  first-sector d = elim (rows-may r began start opened now may events writes run rows d (image d 0) (is-image d 0)) [
    | inl h ↦ inl h
    | inr label ↦ inr (label.1, label.2, label.3)
  ]

  labelled : (c d : ℕ) → HasDeviceOn began c d → IsLabelOf r c (image d 0)
  labelled c d on =
      let s = safe r began start round.apart c d on events opened run (behind c d on) in
      elim ((keeps opened writes now rows d).left (image d 0) (is-image d 0)) [
        | inl was ↦ elim was [
          | inl same ↦ λ k lt. same k lt ∙ s.settled k lt
          | inr e ↦ absurd (none-in (opened d).logged e.entry s.logged e.has)
        ]
        | inr same ↦ λ k lt. same k lt ∙ s.now k lt
      ]

  pub rows-newest : (q : Needs) (sizes : List ℕ) (o : Opened) (c d : ℕ) (l : Label) → opened_in q p present sizes fronts ≡ Ok o → o.newest ≡ Some l → HasDeviceOn began c d → l.clean ≡ r.clean
  rows-newest q sizes o c d l opens newest on =
      let is = stopped-newest p present fronts began r start image round in_range is-held may first-sector are q sizes o c d l opens newest on (labelled c d on) in
      ap (λ (x : Label). x.clean) is.1
