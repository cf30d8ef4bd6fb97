-- A round may begin on an array as it was opened.
use Rattle.std.proofs.Common.{◌≡◌, ◌∙◌, ap, sym, subst, ℕ, ◌<◌, ◌≤◌, ◌⊎◌, ◌&&◌, Bool, true, false, List, [], length, refl, arith, inl, inr, Option, Some, None, option_and_then}
use Rattle.std.specs.Prelude.{Contains, if◌then◌else◌, is_none, nat_le, slice_get, slice_index, slice_index_or, Ok}
use Rattle.std.proofs.lemmas.Option.{slice_get_within}
use Rattle.eng_cols.specs.declared.column.Column.{Column}
use Rattle.eng_cols.specs.declared.column.Column.TheVariants as column
use Rattle.eng_cols.specs.Cols.{HasDeviceOn}
use Rattle.raid_label.specs.declared.label.Label.{Label}
use Rattle.raid_label.specs.declared.fault.LabelFault.{LabelFault}
use Rattle.raid_label.specs.Bytes.{label_in}
use Rattle.raid_label.specs.Judged.{fault_in}
use Rattle.raid_map.specs.Stops.{Logged, Stored, SameSector, MayHold}
use Rattle.top_open.specs.declared.fronts.Front.{Front}
use Rattle.top_open.specs.declared.fronts.Front.TheVariants.{Away, Unread, Held}
use Rattle.top_open.specs.declared.plan.Needs.{Needs}
use Rattle.top_open.specs.declared.plan.Plan.{Plan}
use Rattle.top_open.specs.Labels.{label_at, label_of, newest_below}
use Rattle.top_open.specs.Opening.{Opened, columns_in, floored, opened_in, seats_in}
use Rattle.top_open.specs.Seats.{columns_below, is_sound}
use Rattle.top_open.specs.Steps.{kept_if_sound}
use Rattle.top_open.proofs.Filled.{was, live}
use Rattle.top_open.proofs.OwnDevices.{columns_below-get}
use Rattle.top_rounds.specs.Labels.{Seating, with_round}
use Rattle.raid_adopt.specs.Rounds.{IsOf, MayBegin, Reads}
use Rattle.raid_adopt.specs.Found.{AreAllRead, AreSettled, IsFrontIn}
use Rattle.raid_adopt.proofs.Newest.{newest-greatest}
use Rattle.raid_adopt.proofs.Reopening.{by-newest, judged-newest}
use Rattle.raid_adopt.proofs.Stopped.{none-in, sector-same}

-- a sound label is one of the array and of the column
sound-of : (adopts : Bool) (l : Label) (c : ℕ) (o : Option Label) → is_sound (floored adopts l) c o ≡ true → (own : Label) × (o ≡ Some own) × IsOf l c own
unfolding fault_in
sound-of adopts l c None h = cc h
sound-of adopts l c (Some own) h = (own, refl, none-of (fault_in (Some own) 1 (record l { column = c })) (nat_le (floored adopts l).counter own.counter) h)
  where
    none-of : (o : Option LabelFault) (b : Bool) → (is_none o && b) ≡ true → o ≡ None
    none-of None b h = refl
    none-of (Some f) b h = cc h

-- a column that stays live has a sound one
kept-sound : (l : Label) (fronts : List Front) (c d : ℕ) (seat : Column) → kept_if_sound l fronts c seat ≡ column.Live d → is_sound l c (label_at fronts d) ≡ true
kept-sound l fronts c d (column.Live e) h = go (is_sound l c (label_at fronts e)) refl h
  where
    go : (b : Bool) → is_sound l c (label_at fronts e) ≡ b → (if b then column.Live e else column.Dead) ≡ column.Live d → is_sound l c (label_at fronts d) ≡ true
    go true is h = let same : e ≡ d = cc h in ap (λ (i : ℕ). is_sound l c (label_at fronts i)) (sym same) ∙ is
    go false is h = cc h
kept-sound l fronts c d column.Dead h = cc h
kept-sound l fronts c d (column.Filling e m) h = cc h
kept-sound l fronts c d column.Spread h = cc h

module _ (q : Needs) (p : Plan) (present : List Bool) (sizes : List ℕ) (fronts : List Front) (o : Opened) (l : Label)
    (opens : opened_in q p present sizes fronts ≡ Ok o) (newest : o.newest ≡ Some l)
    (start : ℕ → Stored) (settled : AreSettled start) (reads : AreAllRead start fronts) where
  held-at : (d : ℕ) (k : Label) → label_at fronts d ≡ Some k → (bytes : List ℕ) × (slice_get fronts d ≡ Some (Held bytes)) × (label_in bytes ≡ Some k)
  held-at d k h = go (slice_get fronts d) refl h
    where
      go : (f : Option Front) → slice_get fronts d ≡ f → option_and_then label_of f ≡ Some k → (bytes : List ℕ) × (slice_get fronts d ≡ Some (Held bytes)) × (label_in bytes ≡ Some k)
      go None is h = cc h
      go (Some Away) is h = cc h
      go (Some Unread) is h = cc h
      go (Some (Held bytes)) is h = (bytes, is, h)

  -- a stop leaves what is held
  as-held : (d n : ℕ) (content : ℕ → ℕ) → MayHold (start d) n content → SameSector content ((start d).now n)
  as-held d n content (inl same) = λ k lt. same k lt ∙ settled.same d n k
  as-held d n content (inr e) = absurd (none-in (start d).logged e.entry (settled.none d) e.has)

  judged-own : (c d : ℕ) → HasDeviceOn o.columns c d → (own : Label) × (label_at fronts d ≡ Some own) × IsOf l c own
  unfolding columns_in
  judged-own c d on =
      let j = was q p present sizes fronts o opens in
      let by = by-newest q p present sizes fronts j.judged l j.is (ap (λ (x : Opened). x.newest) j.filled ∙ newest) in
      let at : slice_get j.judged.columns c ≡ Some (column.Live d) = live q p present sizes fronts o opens c d on in
      let seats = seats_in p present l in
      let f : ℕ → Column = λ i. kept_if_sound (floored q.adopts l) fronts i (slice_index_or seats i column.Dead) in
      let there : slice_get (columns_below f (length seats)) c ≡ Some (column.Live d) = ap (λ (cs : List Column). slice_get cs c) by.1 ∙ at in
      sound-of q.adopts l c (label_at fronts d) (kept-sound (floored q.adopts l) fronts c d (slice_index_or seats c column.Dead) (columns_below-get f (length seats) c (column.Live d) there))

  module _ (counter clean : ℕ) (seating : Seating) (newer : l.counter < counter) where
    abbrev r : Label
    r = with_round l counter clean seating

    of-round : (c : ℕ) (own : Label) → IsOf l c own → IsOf r c own
    unfolding fault_in
    of-round c own h = h

    own : (c d : ℕ) (content : ℕ → ℕ) → HasDeviceOn o.columns c d → MayHold (start d) 0 content → (k : Label) × Reads content k × IsOf r c k
    own c d content on h =
        let k = judged-own c d on in
        let found = held-at d k.0 k.1 in
        let front : IsFrontIn (λ i. (start i).now) d (Held found.0) = reads.each d (Held found.0) found.1 in
        (k.0, (λ bytes size same. ap label_in (sector-same ((start d).now 0) bytes found.0 size front.0 (λ i lt. same i lt ∙ as-held d 0 content h i lt) front.1) ∙ found.2), of-round c k.0 k.2)

    older : (d : ℕ) (content : ℕ → ℕ) (k : Label) → MayHold (start d) 0 content → Reads content k → k.counter < counter
    older d content k h read = go (reads.read d)
      where
        go : ((bytes : List ℕ) × (slice_get fronts d ≡ Some (Held bytes))) ⊎ ((m : Label) → Reads ((start d).now 0) m → ⊥) → k.counter < counter
        go (inr none) = absurd (none k (λ bytes size same. read bytes size (λ i lt. same i lt ∙ sym (as-held d 0 content h i lt))))
        go (inl (bytes, at)) =
            let front : IsFrontIn (λ i. (start i).now) d (Held bytes) = reads.each d (Held bytes) at in
            let is : label_in bytes ≡ Some k = read bytes front.0 (λ i lt. front.1 i lt ∙ sym (as-held d 0 content h i lt)) in
            let here : label_at fronts d ≡ Some k = ap (λ (f : Option Front). option_and_then label_of f) at ∙ is in
            let j = was q p present sizes fronts o opens in
            let below : newest_below fronts (length fronts) ≡ Some l = judged-newest q p present sizes fronts j.judged j.is l (ap (λ (x : Opened). x.newest) j.filled ∙ newest) in
            let most : k.counter ≤ l.counter = newest-greatest fronts (length fronts) d l k below (slice_get_within fronts d (Held bytes) at) here in
            omega (arith, most, newer)

    pub may-begin : MayBegin r o.columns start
    may-begin = record { may_hold = λ d n. inl (λ k lt. sym (settled.same d n k)); own = own; older = older }
