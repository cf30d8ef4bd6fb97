-- Turns of one stripe after another.
use Rattle.std.proofs.Common.{◌≡◌, ◌⊎◌, ℕ, suc, ◌+◌, ◌<◌, ◌≤◌, List, [], ◌∷◌, length, Bool, true, false, Option, Some, None, inl, inr, refl, sym, ap, ◌∙◌, subst, arith}
use Rattle.std.specs.Prelude.{if◌then◌else◌, ◌==◌}
use Rattle.std.proofs.lemmas.Bool.{cases_eq, cond-true, cond-false, eq-eqb, ne_eqb}
use Rattle.blk_disk.specs.declared.disk.Disk.{Ghosts}
use Rattle.blk_disk.specs.Devices.{Changes, contents_of, calls_of}
use Rattle.blk_disk.proofs.DeviceLaws.{changes-refl, changes-more, changes-then, changes_size, rises-wider}
use Rattle.lay_core.specs.Layout.{Shape, IsLayout, data_units}
use Rattle.eng_cols.specs.declared.column.Column.{Column}
use Rattle.eng_cols.specs.declared.spot.Spot.{Spot}
use Rattle.eng_cols.specs.Cols.{ColumnState}
use Rattle.eng_cols.specs.Seats.{seat}
use Rattle.eng_cols.specs.Contents.{Contents, sector_at}
use Rattle.eng_cols.specs.Deaths.{Dies}
use Rattle.eng_cols.proofs.DeathLaws.{dies-refl, dies-more, dies-then, dies-set}
use Rattle.eng_cols.proofs.Spots.{seat-device, seat-within}
use Rattle.raid_recon.specs.declared.kind.Sweep.{Sweep}
use Rattle.raid_recon.specs.declared.kind.Sweep.TheVariants.{Check, Sync, Init}
use Rattle.eng_cols.specs.Stripes.{states_of}
use Rattle.raid_recon.specs.Array.{IsArray, IsCheckSector, Failed}
use Rattle.raid_recon.specs.Sums.{sum_of, IsZero, IsNotZero, HoldsSum}
use Rattle.raid_recon.specs.Turns.{Turn, Left, Unread, Sound, Unsound, Written, Unwritten, TellsMore, does_count, does_write, failed_at, dead_at, columns_after, units_read, Rewrites, IsTurn, IsVisitBy}
use Rattle.raid_recon.specs.declared.ahead.ColumnWindows.{ColumnWindows}
use Rattle.raid_recon.specs.declared.ahead.Rows.{Rows}
use Rattle.raid_recon.specs.Ahead.{ahead_in, is_at_hand, no_rows, rows_at, rows_in, turn_ahead, turn_rows}
use Rattle.raid_recon.specs.Log.{columns_in, count_in, turn_at, AreTurns, IsRewritten}
use Rattle.raid_recon.specs.Units.{IsAhead, SweepsBy}
use Rattle.raid_recon.specs.Swept.{IsSwept}
use Rattle.raid_recon.proofs.Calls.{tells_more-nil, tells_more-then}
use Rattle.raid_recon.proofs.Frames.{last-unit, check-alone, byte-same, sum-same}
use Rattle.raid_recon.proofs.Backs.{Back, back-in, byte-back, sum-back, check-back}

-- ## Whose turn it is

no-some : {A X : Type 0} {x : X} → None ≡ Some x → A
no-some h = absurd (let u : ⊥ = cc in u)

some-same : {X : Type 0} {a b : X} → Some a ≡ Some b → a ≡ b
some-same h = cc

-- a turn is of a stripe that had one
pub turn-below : (ts : List Turn) (s : ℕ) (t : Turn) → turn_at ts s ≡ Some t → s < length ts
turn-below [] s t h = no-some h
turn-below (x ∷ ts) s t h = elim (cases_eq s (length ts)) [
  | inl e ↦ omega (arith, e)
  | inr ne ↦ omega (arith, turn-below ts s t (sym (cond-false (s == length ts) (Some x) (turn_at ts s) (ne_eqb s (length ts) ne)) ∙ h))
]

pub turn-newest : (ts : List Turn) (x : Turn) → turn_at (x ∷ ts) (length ts) ≡ Some x
turn-newest ts x = cond-true (length ts == length ts) (Some x) (turn_at ts (length ts)) (eq-eqb (length ts) (length ts) refl)

pub turn-older : (ts : List Turn) (x t : Turn) (s : ℕ) → turn_at ts s ≡ Some t → turn_at (x ∷ ts) s ≡ Some t
turn-older ts x t s h =
    cond-false (s == length ts) (Some x) (turn_at ts s) (ne_eqb s (length ts) (λ e. let lt = turn-below ts s t h in omega (arith, e, lt))) ∙ h

-- it is the newest, or one before
pub turn-cases : (ts : List Turn) (x t : Turn) (s : ℕ) → turn_at (x ∷ ts) s ≡ Some t → ((s ≡ length ts) × (x ≡ t)) ⊎ (turn_at ts s ≡ Some t)
turn-cases ts x t s h = elim (cases_eq s (length ts)) [
  | inl e ↦ inl (e, some-same (sym (cond-true (s == length ts) (Some x) (turn_at ts s) (eq-eqb s (length ts) e)) ∙ h))
  | inr ne ↦ inr (sym (cond-false (s == length ts) (Some x) (turn_at ts s) (ne_eqb s (length ts) ne)) ∙ h)
]

-- ## What a turn is judged by

zero-same : (y : Shape) (a b : Contents) (cols : List ColumnState) (s : ℕ) → ((o k : ℕ) → o < y.unit_sectors → sum_of y b cols s y.width o k ≡ sum_of y a cols s y.width o k) → IsZero y a cols s → IsZero y b cols s
zero-same y a b cols s same h o k ou ku = same o k ou ∙ h o k ou ku

not-zero-same : (y : Shape) (a b : Contents) (cols : List ColumnState) (s : ℕ) → ((o k : ℕ) → o < y.unit_sectors → sum_of y b cols s y.width o k ≡ sum_of y a cols s y.width o k) → IsNotZero y a cols s → IsNotZero y b cols s
not-zero-same y a b cols s same h = record { offset = h.offset; byte = h.byte; within = h.within; of_sector = h.of_sector; differs = λ e. h.differs (sym (same h.offset h.byte h.within) ∙ e) }

rewrites-same : (kind : Sweep) (P Q : Type 0) → (P → Q) → Rewrites kind P → Rewrites kind Q
rewrites-same Check P Q f h = h
rewrites-same Sync P Q f h = f h
rewrites-same Init P Q f h = h

-- the same sums are judged alike
pub turn-same : (told : Type 0) (kind : Sweep) (y : Shape) (a b : Contents) (cols : List ColumnState) (s : ℕ) (t : Turn) → (told → (o k : ℕ) → o < y.unit_sectors → sum_of y b cols s y.width o k ≡ sum_of y a cols s y.width o k) → IsTurn told kind y a cols s t → IsTurn told kind y b cols s t
turn-same told kind y a b cols s Left same h = h
turn-same told kind y a b cols s (Unread i) same h = h
turn-same told kind y a b cols s Sound same h = (h.0, (h.1.0, λ t. zero-same y a b cols s (same t) (h.1.1 t)))
turn-same told kind y a b cols s Unsound same h = (h.0, (h.1.0, λ t. not-zero-same y a b cols s (same t) (h.1.1 t)))
turn-same told kind y a b cols s Written same h = (h.0, rewrites-same kind _ _ (λ f t. not-zero-same y a b cols s (same t) (f t)) h.1)
turn-same told kind y a b cols s Unwritten same h = (h.0, rewrites-same kind _ _ (λ f t. not-zero-same y a b cols s (same t) (f t)) h.1)

-- ## No turn, and one more

-- So many stripes were swept, and this is at hand behind them.
pub record IsSweeping {D : Type 0} (g : Ghosts D) (kind : Sweep) (y : Shape) (windows : ColumnWindows) (stripes : ℕ) (columns after : List Column) (old new : List (Option D)) (counted : ℕ) (hands : List Rows) (bytes : List ℕ) : Type 0 where
  pub swept : IsSwept g kind y windows.most stripes columns after old new counted
  pub ahead : IsAhead g y windows (states_of y after) stripes (λ d. rows_in kind y windows.most columns swept.turns d) new hands bytes

module _ {D : Type 0} (g : Ghosts D) (kind : Sweep) (y : Shape) (windows : ColumnWindows) (columns : List Column) where
  pub sweeping-none : (old : List (Option D)) (hands : List Rows) (bytes : List ℕ) → ((c : ℕ) → rows_at hands c ≡ no_rows) → IsSweeping g kind y windows 0 columns columns old old 0 hands bytes
  sweeping-none old hands bytes none = record {
    swept = record {
      turns = [];
      each = refl;
      are = tt;
      columns_are = refl;
      count = refl;
      frame = changes-refl g (IsRewritten y (states_of y columns) []) old;
      sums = λ told s e. no-some e;
      dies = dies-refl (Failed g (states_of y columns) old old) columns;
      told = λ d. tells_more-nil (calls_of g old d);
    };
    ahead = record {
      agrees = λ c d has. none c;
      holds = λ told t i at le tw iw is hand o k ou ku. let at_hand : is_at_hand no_rows at.row ≡ true = hand in absurd (search (arith, at_hand));
    };
  }

  -- what is still an array
  pub array-swept : (stripes n : ℕ) (mid : List Column) (old cur : List (Option D)) → IsArray g y columns old → IsSwept g kind y windows.most stripes columns mid old cur n → IsArray g y mid cur
  array-swept stripes n mid old cur array w =
      let back : Back y (states_of y mid) (states_of y columns) = subst (λ cs. Back y (states_of y cs) (states_of y columns)) (sym w.columns_are) (back-in y columns array.order w.turns) in
      record {
        entries = w.dies.count ∙ array.entries;
        order = back.order array.order;
        there = λ c d has. omega (arith, array.there c d (back.devices c d has), changes_size g _ old cur d w.frame);
      }

  module _ (layout : IsLayout y) (one : y.checks ≡ 1) (old cur new : List (Option D)) (array : IsArray g y columns old) (ts : List Turn) (within : length ts < y.stripes) where
    cols0 : List ColumnState
    cols0 = states_of y columns

    mid : List Column
    mid = columns_in y columns ts

    cols : List ColumnState
    cols = states_of y mid

    check : data_units y < y.width
    check = omega (arith, last-unit y layout one)

    -- the turns before this one have written none of this stripe's sectors
    before : (i o : ℕ) (at : Spot) → i < y.width → o < y.unit_sectors → seat y (states_of y (columns_in y columns ts)) (length ts) i ≡ Some at → IsRewritten y (states_of y columns) ts at.device (sector_at y at o) → ⊥
    before i o at iw ou is h =
        let lt = turn-below ts h.stripe h.turn h.is in
        let e = check-alone y (states_of y columns) layout array.order one h.stripe (length ts) i o at (omega (arith, lt, within)) within iw ou ((back-in y columns array.order ts).seats (length ts) i at is) h.sector in
        omega (arith, lt, e.0)

    -- and this one writes none of theirs
    behind : (s i o : ℕ) (at : Spot) → s < length ts → i < y.width → o < y.unit_sectors → seat y (states_of y columns) s i ≡ Some at → IsCheckSector y (states_of y (columns_in y columns ts)) (length ts) at.device (sector_at y at o) → ⊥
    behind s i o at lt iw ou is h =
        let e = check-alone y (states_of y columns) layout array.order one (length ts) s i o at within (omega (arith, lt, within)) iw ou is (check-back y _ (states_of y columns) (length ts) at.device (sector_at y at o) (back-in y columns array.order ts) h) in
        omega (arith, lt, e.0)

    -- a unit that a call failed on is one of the stripe's
    failed-unit : (t : Turn) (at : Spot) → IsTurn g.tells kind y (contents_of g cur) (states_of y (columns_in y columns ts)) (length ts) t → failed_at y (states_of y (columns_in y columns ts)) (length ts) t ≡ Some at
        → (i : ℕ) × (i < y.width) × (seat y (states_of y (columns_in y columns ts)) (length ts) i ≡ Some at)
    failed-unit Left at is h = no-some h
    failed-unit (Unread i) at is h = (i, read kind is.1, h)
      where
        read : (k : Sweep) → i < units_read k y → i < y.width
        read Check lt = lt
        read Sync lt = lt
        read Init lt = omega (arith, lt)
    failed-unit Sound at is h = no-some h
    failed-unit Unsound at is h = no-some h
    failed-unit Written at is h = no-some h
    failed-unit Unwritten at is h = (data_units y, omega (arith, last-unit y layout one), h)

    module _ (are : AreTurns g.tells kind y (contents_of g old) columns ts) (frame : Changes g (IsRewritten y (states_of y columns) ts) old cur)
        (sums : g.tells → (s : ℕ) → turn_at ts s ≡ Some Written → HoldsSum y (contents_of g cur) (states_of y columns) s)
        (dies : Dies (Failed g (states_of y columns) old cur) columns (columns_in y columns ts)) (t : Turn)
        (v : IsVisitBy g kind y (states_of y (columns_in y columns ts)) (length ts) cur new t (λ d. turn_ahead kind y windows.most (states_of y (columns_in y columns ts)) (length ts) t d (rows_in kind y windows.most columns ts d))) where
      judged : AreTurns g.tells kind y (contents_of g old) columns (t ∷ ts)
      judged = (
        are,
        turn-same g.tells kind y (contents_of g cur) (contents_of g old) (states_of y (columns_in y columns ts)) (length ts) t
            (λ told o k ou. sym (sum-same g _ old cur y (states_of y (columns_in y columns ts)) (length ts) y.width o k frame told (λ i at iw is. before i o at iw ou is))) v.is,
      )

      older : (d n : ℕ) → IsRewritten y (states_of y columns) ts d n → IsRewritten y (states_of y columns) (t ∷ ts) d n
      older d n h = record { stripe = h.stripe; turn = h.turn; is = turn-older ts t h.turn h.stripe h.is; writes = h.writes; sector = h.sector }

      newest : (d n : ℕ) → (does_write t ≡ true) × IsCheckSector y (states_of y (columns_in y columns ts)) (length ts) d n → IsRewritten y (states_of y columns) (t ∷ ts) d n
      newest d n h = record { stripe = length ts; turn = t; is = turn-newest ts t; writes = h.0; sector = check-back y _ (states_of y columns) (length ts) d n (back-in y columns array.order ts) h.1 }

      framed : Changes g (IsRewritten y (states_of y columns) (t ∷ ts)) old new
      framed = changes-then g _ old cur new (changes-more g _ (IsRewritten y (states_of y columns) (t ∷ ts)) old cur older frame) (changes-more g _ (IsRewritten y (states_of y columns) (t ∷ ts)) cur new newest v.frame)

      -- the newest check unit holds its sum, by the columns as they were at first
      here : g.tells → t ≡ Written → HoldsSum y (contents_of g new) (states_of y columns) (length ts)
      here told e o k ou ku =
          let back = back-in y columns array.order ts in
          let complete = (subst (IsTurn g.tells kind y (contents_of g cur) (states_of y (columns_in y columns ts)) (length ts)) e v.is).0 in
          sym (byte-back y (contents_of g new) _ (states_of y columns) (length ts) (data_units y) o k back (complete (data_units y) (omega (arith, last-unit y layout one))))
          ∙ (v.sum told e o k ou ku ∙ sum-back y (contents_of g new) _ (states_of y columns) (length ts) (data_units y) o k back (λ i iw. complete i (omega (arith, iw))))

      -- and each older one still does
      kept : g.tells → (s : ℕ) → s < length ts → HoldsSum y (contents_of g cur) (states_of y columns) s → HoldsSum y (contents_of g new) (states_of y columns) s
      kept told s lt h o k ou ku =
          byte-same g _ cur new y (states_of y columns) s (data_units y) o k v.frame told (λ at is w. behind s (data_units y) o at lt (omega (arith, last-unit y layout one)) ou is w.1)
          ∙ (h o k ou ku ∙ sym (sum-same g _ cur new y (states_of y columns) s (data_units y) o k v.frame told (λ i at iw is w. behind s i o at lt (omega (arith, iw)) ou is w.1)))

      summed : g.tells → (s : ℕ) → turn_at (t ∷ ts) s ≡ Some Written → HoldsSum y (contents_of g new) (states_of y columns) s
      summed told s h = elim (turn-cases ts t Written s h) [
        | inl e ↦ subst (HoldsSum y (contents_of g new) (states_of y columns)) (sym e.0) (here told e.1)
        | inr was ↦ kept told s (turn-below ts s Written was) (sums told s was)
      ]

      wider : (c : ℕ) → Failed g (states_of y columns) old cur c → Failed g (states_of y columns) old new c
      wider c f = record { device = f.device; had = f.had; rose = rises-wider g (λ d n. ⊥) _ old old cur new f.device (changes-refl g (λ d n. ⊥) old) f.rose v.frame }

      dying : (q : Option Spot) → failed_at y (states_of y (columns_in y columns ts)) (length ts) t ≡ q → Dies (Failed g (states_of y columns) old new) (columns_in y columns ts) (dead_at (columns_in y columns ts) q)
      dying None e = dies-refl _ (columns_in y columns ts)
      dying (Some at) e =
          let unit = failed-unit t at v.is e in
          let stood = (back-in y columns array.order ts).seats (length ts) unit.0 at unit.2 in
          let column = (seat-within y (states_of y columns) (length ts) unit.0 at layout within unit.1 stood).0 in
          dies-set (Failed g (states_of y columns) old new) (columns_in y columns ts) at.column (omega (arith, column, dies.count, array.entries))
          (record { device = at.device; had = seat-device y (states_of y columns) (length ts) unit.0 at stood; rose = rises-wider g _ (λ d n. ⊥) old cur new new at.device frame (v.cause at e) (changes-refl g (λ d n. ⊥) new) })

      died : Dies (Failed g (states_of y columns) old new) columns (columns_in y columns (t ∷ ts))
      died = dies-then _ columns (columns_in y columns ts) _ (dies-more _ _ columns (columns_in y columns ts) wider dies) (dying (failed_at y (states_of y (columns_in y columns ts)) (length ts) t) refl)

      pub sweeping-turn : (counted m : ℕ) (b : Bool) (hands : List Rows) (bytes : List ℕ) → counted ≡ count_in ts → b ≡ does_count t → m ≡ counted + (if b then 1 else 0) → ((d : ℕ) → TellsMore (calls_of g old d) (calls_of g cur d) (ahead_in kind y windows.most columns ts d))
          → IsAhead g y windows (states_of y (columns_after y (columns_in y columns ts) (length ts) t)) (suc (length ts)) (λ d. turn_rows kind y windows.most (states_of y (columns_in y columns ts)) (length ts) t d (rows_in kind y windows.most columns ts d)) new hands bytes
          → IsSweeping g kind y windows (suc (length ts)) columns (columns_after y (columns_in y columns ts) (length ts) t) old new m hands bytes
      sweeping-turn counted m b hands bytes was does is told at_hand = record {
        swept = record {
          turns = t ∷ ts;
          each = refl;
          are = judged;
          columns_are = refl;
          count = is ∙ (ap (λ n. n + (if b then 1 else 0)) was ∙ ap (λ x. count_in ts + (if x then 1 else 0)) does);
          frame = framed;
          sums = summed;
          dies = died;
          told = λ d. tells_more-then (calls_of g old d) (calls_of g cur d) (calls_of g new d) _ _ (told d) (v.told d);
        };
        ahead = at_hand;
      }

  -- one more stripe was swept
  module _ (layout : IsLayout y) (one : y.checks ≡ 1) (old cur new : List (Option D)) (mid after : List Column) (s n m next : ℕ) (b : Bool) (before hands : List Rows) (at_first bytes : List ℕ) (array : IsArray g y columns old) (within : s < y.stripes)
      (w : IsSweeping g kind y windows s columns mid old cur n before at_first) where
    pub sweeping-more : (st : SweepsBy g (λ t d. turn_ahead kind y windows.most (states_of y mid) s t d (rows_in kind y windows.most columns w.swept.turns d)) kind y s mid after cur new b)
        → IsAhead g y windows (states_of y after) (suc s) (λ d. turn_rows kind y windows.most (states_of y mid) s st.turn d (rows_in kind y windows.most columns w.swept.turns d)) new hands bytes
        → m ≡ n + (if b then 1 else 0) → next ≡ suc s → IsSweeping g kind y windows next columns after old new m hands bytes
    sweeping-more st at_hand is succ =
        let x = w.swept in
        let ts = x.turns in
        let v = subst (λ k. IsVisitBy g kind y (states_of y (columns_in y columns ts)) k cur new st.turn (λ d. turn_ahead kind y windows.most (states_of y (columns_in y columns ts)) k st.turn d (rows_in kind y windows.most columns ts d))) (sym x.each)
        (subst (λ cs. IsVisitBy g kind y (states_of y cs) s cur new st.turn (λ d. turn_ahead kind y windows.most (states_of y cs) s st.turn d (rows_in kind y windows.most columns ts d))) x.columns_are st.visit) in
        let after-is : after ≡ columns_after y (columns_in y columns ts) (length ts) st.turn = st.columns_are ∙ (ap (λ cs. columns_after y cs s st.turn) x.columns_are ∙ ap (λ k. columns_after y (columns_in y columns ts) k st.turn) (sym x.each)) in
        let held = subst (λ k. IsAhead g y windows (states_of y (columns_after y (columns_in y columns ts) (length ts) st.turn)) (suc k) (λ d. turn_rows kind y windows.most (states_of y (columns_in y columns ts)) k st.turn d (rows_in kind y windows.most columns ts d)) new hands bytes) (sym x.each)
        (subst (λ cs. IsAhead g y windows (states_of y (columns_after y (columns_in y columns ts) (length ts) st.turn)) (suc s) (λ d. turn_rows kind y windows.most (states_of y cs) s st.turn d (rows_in kind y windows.most columns ts d)) new hands bytes) x.columns_are
        (subst (λ cs. IsAhead g y windows (states_of y cs) (suc s) (λ d. turn_rows kind y windows.most (states_of y mid) s st.turn d (rows_in kind y windows.most columns ts d)) new hands bytes) after-is at_hand)) in
        let made = sweeping-turn layout one old cur new array ts (omega (arith, within, x.each)) x.are x.frame x.sums (subst (Dies (Failed g (states_of y columns) old cur) columns) x.columns_are x.dies) st.turn v n m b hands bytes x.count st.count is x.told held in
        subst (λ k. IsSweeping g kind y windows k columns after old new m hands bytes) (let e : suc (length ts) ≡ next = omega (arith, succ, x.each) in e)
        (subst (λ cs. IsSweeping g kind y windows (suc (length ts)) columns cs old new m hands bytes) (sym after-is) made)

-- no more stripes count than have had their turns
pub count-few : (ts : List Turn) → count_in ts ≤ length ts
count-few [] = omega arith
count-few (t ∷ ts) = omega (arith, count-few ts, one (does_count t))
  where
    one : (b : Bool) → (if b then 1 else 0) ≤ 1
    one true = omega arith
    one false = omega arith
