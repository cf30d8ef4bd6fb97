-- What follows from the turns of all stripes.
use Rattle.std.proofs.Common.{◌≡◌, ◌⊎◌, ℕ, ◌<◌, ◌≤◌, List, [], ◌∷◌, length, Bool, true, false, Option, Some, None, inl, inr, refl, sym, ap, ◌∙◌, subst, arith}
use Rattle.std.specs.Prelude.{if◌then◌else◌}
use Rattle.std.proofs.lemmas.Bool.{cases_eq}
use Rattle.blk_disk.specs.declared.disk.Disk.{Ghosts}
use Rattle.blk_disk.specs.Devices.{Changes, contents_of}
use Rattle.blk_disk.proofs.DeviceLaws.{changes-more}
use Rattle.lay_core.specs.Layout.{Shape, IsLayout, data_units}
use Rattle.eng_cols.specs.declared.column.Column.{Column}
use Rattle.eng_cols.specs.declared.spot.Spot.{Spot}
use Rattle.eng_cols.specs.Cols.{InOrder}
use Rattle.eng_cols.specs.Seats.{is_available, seat}
use Rattle.eng_cols.specs.Contents.{Contents, byte_of, sector_at, InSync}
use Rattle.eng_cols.proofs.Spots.{available-seat}
use Rattle.eng_cols.proofs.Killing.{seat-apart}
use Rattle.raid_recon.specs.declared.kind.Sweep.{Sweep}
use Rattle.raid_recon.specs.declared.kind.Sweep.TheVariants.{Check, Sync, Init}
use Rattle.eng_cols.specs.Stripes.{states_of}
use Rattle.raid_recon.specs.Array.{IsArray, IsComplete}
use Rattle.raid_recon.specs.Sums.{sum_of, IsZero, IsNotZero, HoldsSum}
use Rattle.raid_recon.specs.Turns.{Turn, Left, Unread, Sound, Unsound, Written, Unwritten, does_count, does_write, dead_at, columns_after, Rewrites, is_check, is_init, IsTurn}
use Rattle.raid_recon.specs.Log.{columns_in, count_in, turn_at, AreTurns, IsRewritten}
use Rattle.raid_recon.specs.Swept.{IsSwept}
use Rattle.raid_recon.specs.Ends.{IsToCount, MayRewrite, ChecksHold, IsCounted}
use Rattle.raid_recon.proofs.Places.{states-killed}
use Rattle.raid_recon.proofs.Bytes.{zero-from}
use Rattle.raid_recon.proofs.Frames.{last-unit, check-alone, byte-same, sum-same}
use Rattle.raid_recon.proofs.Backs.{Back, back-refl, back-then, back-turn, back-in, seat-unspread, sum-back}
use Rattle.raid_recon.proofs.Logs.{turn-below, turn-newest, turn-older, turn-cases}
use Rattle.lay_core.specs.Touched.{count_below}

no-bool : {A : Type 0} → false ≡ true → A
no-bool h = absurd (let u : ⊥ = cc in u)

-- each stripe had a turn
pub turn-there : (ts : List Turn) (s : ℕ) → s < length ts → (t : Turn) × (turn_at ts s ≡ Some t)
turn-there [] s h = absurd (omega (arith, h))
turn-there (x ∷ ts) s h = elim (cases_eq s (length ts)) [
  | inl e ↦ (x, ap (turn_at (x ∷ ts)) e ∙ turn-newest ts x)
  | inr ne ↦ let was = turn-there ts s (omega (arith, h, ne)) in (was.0, turn-older ts x was.0 s was.1)
]

-- A stripe's turn, by the columns before it; the columns in the end come behind those after it.
record Had (told : Type 0) (kind : Sweep) (y : Shape) (c : Contents) (columns : List Column) (ts : List Turn) (s : ℕ) (t : Turn) : Type 0 where
  rest : List Turn
  of : length rest ≡ s
  is : IsTurn told kind y c (states_of y (columns_in y columns rest)) s t
  back : Back y (states_of y (columns_in y columns ts)) (states_of y (columns_after y (columns_in y columns rest) s t))

had : (told : Type 0) (kind : Sweep) (y : Shape) (c : Contents) (columns : List Column) (order : InOrder (states_of y columns)) (ts : List Turn) (s : ℕ) (t : Turn) → AreTurns told kind y c columns ts → turn_at ts s ≡ Some t → Had told kind y c columns ts s t
had told kind y c columns order [] s t are h = absurd (let u : ⊥ = cc in u)
had told kind y c columns order (x ∷ ts) s t are h = elim (turn-cases ts x t s h) [
  | inl e ↦ subst (λ k. Had told kind y c columns (x ∷ ts) k t) (sym e.0) (subst (Had told kind y c columns (x ∷ ts) (length ts)) e.1
      (record { rest = ts; of = refl; is = are.1; back = back-refl y (states_of y (columns_after y (columns_in y columns ts) (length ts) x)) }))
  | inr was ↦ let o = had told kind y c columns order ts s t are.0 was in
      record { rest = o.rest; of = o.of; is = o.is; back = back-then y _ (states_of y (columns_in y columns ts)) _ (back-turn y (columns_in y columns ts) ((back-in y columns order ts).order order) (length ts) x) o.back }
]

-- a unit that stood where a device failed is missing from then on
gone : (y : Shape) (columns : List Column) → InOrder (states_of y columns) → (s i : ℕ) (q : Option Spot) → is_available y (states_of y columns) s i ≡ true → seat y (states_of y columns) s i ≡ q → is_available y (states_of y (dead_at columns q)) s i ≡ true → ⊥
gone y columns order s i None was is h = let at = available-seat y (states_of y columns) s i was in let z : None ≡ Some at.0 = sym is ∙ at.1 in let u : ⊥ = cc in u
gone y columns order s i (Some at) was is h = seat-apart y (states_of y columns) at.column s i at (subst (λ cols. is_available y cols s i ≡ true) (states-killed y columns at.column order (seat-unspread y columns s i at is)) h) is refl

-- a stripe that lacks no unit in the end lacked none at its turn and met no failure
data Whole (t : Turn) : Type 0 where
  sound : t ≡ Sound → Whole t
  unsound : t ≡ Unsound → Whole t
  written : t ≡ Written → Whole t

module _ (told : Type 0) (kind : Sweep) (y : Shape) (layout : IsLayout y) (one : y.checks ≡ 1) (c : Contents) (columns : List Column) (order : InOrder (states_of y columns)) (ts : List Turn) (s : ℕ) where
  order-then : (rest : List Turn) → InOrder (states_of y (columns_in y columns rest))
  order-then rest = (back-in y columns order rest).order order

  whole : (t : Turn) → IsComplete y (states_of y (columns_in y columns ts)) s → Had told kind y c columns ts s t → Whole t
  whole Left all h = let i = h.is.0 in let z : false ≡ true = sym h.is.2 ∙ h.back.available s i (all i h.is.1) in no-bool z
  whole (Unread i) all h =
      absurd (gone y (columns_in y columns h.rest) (order-then h.rest) s i (seat y (states_of y (columns_in y columns h.rest)) s i) (h.is.0 i (within kind h.is.1)) refl (h.back.available s i (all i (within kind h.is.1))))
    where
      within : (k : Sweep) → i < Rattle.raid_recon.specs.Turns.units_read k y → i < y.width
      within Check lt = lt
      within Sync lt = lt
      within Init lt = omega (arith, lt)
  whole Sound all h = sound refl
  whole Unsound all h = unsound refl
  whole Written all h = written refl
  whole Unwritten all h =
      let last : data_units y < y.width = omega (arith, last-unit y layout one) in
      absurd (gone y (columns_in y columns h.rest) (order-then h.rest) s (data_units y) (seat y (states_of y (columns_in y columns h.rest)) s (data_units y)) (h.is.0 (data_units y) last) refl (h.back.available s (data_units y) (all (data_units y) last)))

  -- what was complete at its turn was complete, with the same sums
  pub sums-then : (o k : ℕ) (rest : List Turn) → IsComplete y (states_of y (columns_in y columns rest)) s → sum_of y c (states_of y (columns_in y columns rest)) s y.width o k ≡ sum_of y c (states_of y columns) s y.width o k
  sums-then o k rest all = sum-back y c _ (states_of y columns) s y.width o k (back-in y columns order rest) (λ i iw. all i iw)

  not-zero-then : (rest : List Turn) → IsComplete y (states_of y (columns_in y columns rest)) s → IsNotZero y c (states_of y (columns_in y columns rest)) s → IsNotZero y c (states_of y columns) s
  not-zero-then rest all h = record { offset = h.offset; byte = h.byte; within = h.within; of_sector = h.of_sector; differs = λ e. h.differs (sums-then h.offset h.byte rest all ∙ e) }

  complete-then : (rest : List Turn) → IsComplete y (states_of y (columns_in y columns rest)) s → IsComplete y (states_of y columns) s
  complete-then rest all i iw = (back-in y columns order rest).available s i (all i iw)

-- ## The frame, and the sums in the end

rewrites-more : (kind : Sweep) (P Q : Type 0) → (P → Q) → Rewrites kind P → Rewrites kind Q
rewrites-more Check P Q f h = h
rewrites-more Sync P Q f h = f h
rewrites-more Init P Q f h = h

module _ {D : Type 0} (g : Ghosts D) (kind : Sweep) (y : Shape) (most : ℕ) (layout : IsLayout y) (one : y.checks ≡ 1) (columns after : List Column) (old new : List (Option D)) (n : ℕ) (array : IsArray g y columns old) (w : IsSwept g kind y most y.stripes columns after old new n) where
  order : InOrder (states_of y columns)
  order = array.order

  turn-of : (s : ℕ) (t : Turn) → turn_at w.turns s ≡ Some t → Had g.tells kind y (contents_of g old) columns w.turns s t
  turn-of s t h = had g.tells kind y (contents_of g old) columns order w.turns s t w.are h

  why-of : (s : ℕ) (t : Turn) → does_write t ≡ true → Had g.tells kind y (contents_of g old) columns w.turns s t → IsComplete y (states_of y columns) s × Rewrites kind (g.tells → IsNotZero y (contents_of g old) (states_of y columns) s)
  why-of s Left e h = no-bool e
  why-of s (Unread i) e h = no-bool e
  why-of s Sound e h = no-bool e
  why-of s Unsound e h = no-bool e
  why-of s Written e h = (complete-then g.tells kind y layout one (contents_of g old) columns order w.turns s h.rest h.is.0, rewrites-more kind _ _ (λ f t. not-zero-then g.tells kind y layout one (contents_of g old) columns order w.turns s h.rest h.is.0 (f t)) h.is.1)
  why-of s Unwritten e h = (complete-then g.tells kind y layout one (contents_of g old) columns order w.turns s h.rest h.is.0, rewrites-more kind _ _ (λ f t. not-zero-then g.tells kind y layout one (contents_of g old) columns order w.turns s h.rest h.is.0 (f t)) h.is.1)

  pub swept-frame : Changes g (MayRewrite g kind y columns old) old new
  swept-frame = changes-more g _ (MayRewrite g kind y columns old) old new may w.frame
    where
      may : (d m : ℕ) → IsRewritten y (states_of y columns) w.turns d m → MayRewrite g kind y columns old d m
      may d m h =
          let why = why-of h.stripe h.turn h.writes (turn-of h.stripe h.turn h.is) in
          record { stripe = h.stripe; within = omega (arith, turn-below w.turns h.stripe h.turn h.is, w.each); complete = why.0; why = why.1; sector = h.sector }

  -- no sector of a stripe that wasn't written has changed
  away : (s : ℕ) (t : Turn) → s < y.stripes → turn_at w.turns s ≡ Some t → does_write t ≡ false → (i o : ℕ) (at : Spot) → i < y.width → o < y.unit_sectors → seat y (states_of y columns) s i ≡ Some at → IsRewritten y (states_of y columns) w.turns at.device (sector_at y at o) → ⊥
  away s t sw h not i o at iw ou is r =
      let alone = check-alone y (states_of y columns) layout array.order one r.stripe s i o at (omega (arith, turn-below w.turns r.stripe r.turn r.is, w.each)) sw iw ou is r.sector in
      let same : Some t ≡ Some r.turn = sym h ∙ (ap (turn_at w.turns) alone.0 ∙ r.is) in
      let turn : t ≡ r.turn = cc in
      let z : false ≡ true = sym not ∙ (ap does_write turn ∙ r.writes) in
      let u : ⊥ = cc in
      u

  -- so it has the sums that it had
  unwritten : (s : ℕ) (t : Turn) → s < y.stripes → turn_at w.turns s ≡ Some t → does_write t ≡ false → g.tells → (o k : ℕ) → o < y.unit_sectors → sum_of y (contents_of g new) (states_of y columns) s y.width o k ≡ sum_of y (contents_of g old) (states_of y columns) s y.width o k
  unwritten s t sw h not told o k ou = sum-same g _ old new y (states_of y columns) s y.width o k w.frame told (λ i at iw is. away s t sw h not i o at iw ou is)

  pub swept-checks : g.tells → ChecksHold g y columns after old new
  swept-checks told s sw all there = let t = turn-there w.turns s (omega (arith, sw, w.each)) in go t.0 t.1 (turn-of s t.0 t.1)
    where
      last : data_units y < y.width
      last = omega (arith, last-unit y layout one)

      same : (t : Turn) → turn_at w.turns s ≡ Some t → does_write t ≡ false → (o k : ℕ) → o < y.unit_sectors → byte_of y (contents_of g new) (states_of y columns) s (data_units y) o k ≡ byte_of y (contents_of g old) (states_of y columns) s (data_units y) o k
      same t at not o k ou = byte-same g _ old new y (states_of y columns) s (data_units y) o k w.frame told (λ q is. away s t sw at not (data_units y) o q last ou is)

      go : (t : Turn) → turn_at w.turns s ≡ Some t → Had g.tells kind y (contents_of g old) columns w.turns s t
          → HoldsSum y (contents_of g new) (states_of y columns) s ⊎ ((o k : ℕ) → o < y.unit_sectors → byte_of y (contents_of g new) (states_of y columns) s (data_units y) o k ≡ byte_of y (contents_of g old) (states_of y columns) s (data_units y) o k)
      go Left at h = inr (same Left at refl)
      go (Unread i) at h = inr (same (Unread i) at refl)
      go Sound at h = inr (same Sound at refl)
      go Unsound at h = inr (same Unsound at refl)
      go Written at h = inl (w.sums told s at)
      go Unwritten at h =
          let stands = subst (λ cs. is_available y (states_of y cs) s (data_units y) ≡ true) w.columns_are there in
          absurd (gone y (columns_in y columns h.rest) ((back-in y columns order h.rest).order order) s (data_units y) (seat y (states_of y (columns_in y columns h.rest)) s (data_units y)) (h.is.0 (data_units y) last) refl (h.back.available s (data_units y) stands))

  ended : (s : ℕ) → IsComplete y (states_of y after) s → IsComplete y (states_of y (columns_in y columns w.turns)) s
  ended s all i iw = subst (λ cs. is_available y (states_of y cs) s i ≡ true) w.columns_are (all i iw)

  zero-end : is_check kind ≡ false → g.tells → (s : ℕ) (t : Turn) → s < y.stripes → turn_at w.turns s ≡ Some t → Had g.tells kind y (contents_of g old) columns w.turns s t → Whole t → IsZero y (contents_of g new) (states_of y columns) s
  zero-end rewrites told s t sw at h (sound e) =
      let is = subst (IsTurn g.tells kind y (contents_of g old) (states_of y (columns_in y columns h.rest)) s) e h.is in
      λ o k ou ku. unwritten s t sw at (ap does_write e) told o k ou ∙ (sym (sums-then g.tells kind y layout one (contents_of g old) columns order w.turns s o k h.rest is.0) ∙ is.1.1 told o k ou ku)
  zero-end rewrites told s t sw at h (unsound e) =
      let is = subst (IsTurn g.tells kind y (contents_of g old) (states_of y (columns_in y columns h.rest)) s) e h.is in
      let z : false ≡ true = sym rewrites ∙ is.1.0 in no-bool z
  zero-end rewrites told s t sw at h (written e) =
      zero-from y (contents_of g new) (states_of y columns) s (data_units y) (last-unit y layout one) (w.sums told s (at ∙ ap Some e))

  pub swept-in_sync : is_check kind ≡ false → g.tells → InSync y (contents_of g new) (states_of y after)
  swept-in_sync rewrites told s o k sw ou ku checks all =
      let t = turn-there w.turns s (omega (arith, sw, w.each)) in
      let h = turn-of s t.0 t.1 in
      let z = zero-end rewrites told s t.0 sw t.1 h (whole g.tells kind y layout one (contents_of g old) columns order w.turns s t.0 (ended s all) h) in
      let back : Back y (states_of y after) (states_of y columns) = subst (λ cs. Back y (states_of y cs) (states_of y columns)) (sym w.columns_are) (back-in y columns order w.turns) in
      sum-back y (contents_of g new) (states_of y after) (states_of y columns) s y.width o k back all ∙ z o k ou ku

-- ## How many stripes are counted

bool-le : (a b : Bool) → (a ≡ true → b ≡ true) → (if a then 1 else 0) ≤ (if b then 1 else 0)
bool-le true true h = omega arith
bool-le true false h = no-bool (h refl)
bool-le false true h = omega arith
bool-le false false h = omega arith

count-most : (ts : List Turn) (p : ℕ → Bool) → ((s : ℕ) (t : Turn) → turn_at ts s ≡ Some t → does_count t ≡ true → p s ≡ true) → count_in ts ≤ count_below p (length ts)
count-most [] p h = omega arith
count-most (x ∷ ts) p h = omega (arith, count-most ts p (λ s t at. h s t (turn-older ts x t s at)), bool-le (does_count x) (p (length ts)) (h (length ts) x (turn-newest ts x)))

count-least : (ts : List Turn) (p : ℕ → Bool) → ((s : ℕ) (t : Turn) → turn_at ts s ≡ Some t → p s ≡ true → does_count t ≡ true) → count_below p (length ts) ≤ count_in ts
count-least [] p h = omega arith
count-least (x ∷ ts) p h = omega (arith, count-least ts p (λ s t at. h s t (turn-older ts x t s at)), bool-le (p (length ts)) (does_count x) (h (length ts) x (turn-newest ts x)))

due-written : (kind : Sweep) (P : Type 0) → Rewrites kind P → IsToCount kind P
due-written Check P h = absurd h
due-written Sync P h = h
due-written Init P h = tt

due-unsound : (kind : Sweep) (P : Type 0) → is_check kind ≡ true → P → IsToCount kind P
due-unsound Check P e h = h
due-unsound Sync P e h = no-bool e
due-unsound Init P e h = no-bool e

due-looked : (kind : Sweep) (P : Type 0) → is_init kind ≡ false → IsToCount kind P → P
due-looked Check P e h = h
due-looked Sync P e h = h
due-looked Init P e h = no-bool (sym e)

module _ {D : Type 0} (g : Ghosts D) (kind : Sweep) (y : Shape) (most : ℕ) (layout : IsLayout y) (one : y.checks ≡ 1) (columns after : List Column) (old new : List (Option D)) (n : ℕ) (order : InOrder (states_of y columns)) (w : IsSwept g kind y most y.stripes columns after old new n) where
  counted-of : (s : ℕ) (t : Turn) → does_count t ≡ true → Had g.tells kind y (contents_of g old) columns w.turns s t → IsComplete y (states_of y columns) s × IsToCount kind (g.tells → IsNotZero y (contents_of g old) (states_of y columns) s)
  counted-of s Left e h = no-bool e
  counted-of s (Unread i) e h = no-bool e
  counted-of s Sound e h = no-bool e
  counted-of s Unsound e h = (complete-then g.tells kind y layout one (contents_of g old) columns order w.turns s h.rest h.is.0, due-unsound kind _ h.is.1.0 (λ t. not-zero-then g.tells kind y layout one (contents_of g old) columns order w.turns s h.rest h.is.0 (h.is.1.1 t)))
  counted-of s Written e h = (complete-then g.tells kind y layout one (contents_of g old) columns order w.turns s h.rest h.is.0, due-written kind _ (rewrites-more kind _ _ (λ f t. not-zero-then g.tells kind y layout one (contents_of g old) columns order w.turns s h.rest h.is.0 (f t)) h.is.1))
  counted-of s Unwritten e h = no-bool e

  counts : (s : ℕ) (t : Turn) → Had g.tells kind y (contents_of g old) columns w.turns s t → Whole t → IsToCount kind (g.tells × IsNotZero y (contents_of g old) (states_of y columns) s) → does_count t ≡ true
  counts s t h (unsound e) due = ap does_count e
  counts s t h (written e) due = ap does_count e
  counts s t h (sound e) due =
      let is = subst (IsTurn g.tells kind y (contents_of g old) (states_of y (columns_in y columns h.rest)) s) e h.is in
      let found = due-looked kind _ is.1.0 due in
      absurd (found.1.differs (sym (sums-then g.tells kind y layout one (contents_of g old) columns order w.turns s found.1.offset found.1.byte h.rest is.0) ∙ is.1.1 found.0 found.1.offset found.1.byte found.1.within found.1.of_sector))

  pub swept-counted : IsCounted g kind y columns after old n
  swept-counted = record {
    most = λ p each. subst (λ m. m ≤ count_below p y.stripes) (sym w.count) (subst (λ m. count_in w.turns ≤ count_below p m) w.each (count-most w.turns p (λ s t at c.
        let h = had g.tells kind y (contents_of g old) columns order w.turns s t w.are at in
        let of = counted-of s t c h in
        each s (omega (arith, turn-below w.turns s t at, w.each)) of.0 of.1)));
    least = λ p each. subst (λ m. count_below p y.stripes ≤ m) (sym w.count) (subst (λ m. count_below p m ≤ count_in w.turns) w.each (count-least w.turns p (λ s t at c.
        let h = had g.tells kind y (contents_of g old) columns order w.turns s t w.are at in
        let of = each s (omega (arith, turn-below w.turns s t at, w.each)) c in
        counts s t h (whole g.tells kind y layout one (contents_of g old) columns order w.turns s t (λ i iw. subst (λ cs. is_available y (states_of y cs) s i ≡ true) w.columns_are (of.0 i iw)) h) of.1)));
  }
