-- The calls of a sweep over the marked stripes: of whole units, and a device that failed one isn't called again.
use Rattle.std.proofs.Common.{◌≡◌, ◌⊎◌, ℕ, zero, suc, List, [], ◌∷◌, ◌++◌, Bool, true, false, Option, Some, None, inl, inr, refl, sym, ap, ◌∙◌, subst, arith, append_assoc, append-nil, ◌<◌, ◌≤◌}
use Rattle.std.specs.Prelude.{◌==◌, All}
use Rattle.std.proofs.lemmas.List.Elements.{All-nil, All-cons, All-append, All-weaker}
use Rattle.std.proofs.lemmas.Bool.{cases_eq, eq-eqb, ne_eqb}
use Rattle.blk_disk.specs.declared.disk.Call.{Call}
use Rattle.blk_disk.specs.declared.disk.Disk.{Ghosts}
use Rattle.blk_disk.specs.Devices.{calls_of, contents_of}
use Rattle.lay_core.specs.Layout.{Shape, IsLayout, data_units}
use Rattle.eng_cols.specs.declared.column.Column.{Column}
use Rattle.eng_cols.specs.declared.spot.Spot.{Spot}
use Rattle.eng_cols.specs.Cols.{ColumnState, HasDevice, InOrder}
use Rattle.eng_cols.specs.Changes.{killed}
use Rattle.eng_cols.specs.Seats.{seat}
use Rattle.eng_cols.specs.Contents.{Contents}
use Rattle.eng_cols.specs.Stripes.{states_of}
use Rattle.eng_cols.proofs.Spots.{seat-device}
use Rattle.eng_cols.proofs.Killing.{device-back, killed-device}
use Rattle.raid_recon.specs.declared.kind.Sweep.TheVariants.{Sync}
use Rattle.raid_recon.specs.Turns.{Turn, Left, Unread, Sound, Unsound, Written, Unwritten, TellsMore, call_if, call_at, seat_calls, read_calls, turn_calls, dead_at, columns_after, IsTurn}
use Rattle.raid_recon.specs.Ends.{AreGoodButLast, IsUnitCall, CallsUnits}
use Rattle.raid_recon.specs.Units.{SweepsStripe}
use Rattle.raid_recon.proofs.Calls.{tells_more-nil, tells_more-then}
use Rattle.raid_recon.proofs.Places.{states-killed}
use Rattle.raid_recon.proofs.Frames.{last-unit}
use Rattle.raid_recon.proofs.Backs.{Back, back-turn, seat-unspread}
use Rattle.raid_map.specs.Sweeping.{IsMarkedCall, CallsMarked}

-- ## Good calls

pub Goods : List Call → Type 0
Goods [] = Unit {0}
Goods (c ∷ cs) = (c.good ≡ true) × Goods cs

goods-append : (a b : List Call) → Goods a → Goods b → Goods (a ++ b)
unfolding Goods
goods-append [] b one two = two
goods-append (c ∷ cs) b one two = (one.0, goods-append cs b one.1 two)

goods-one : (call : Call) → call.good ≡ true → Goods (call ∷ [])
unfolding Goods
goods-one call e = (e, tt)

goods-none : Goods []
unfolding Goods
goods-none = tt

-- good calls and one more
but-last : (a : List Call) (call : Call) → Goods a → AreGoodButLast (a ++ call ∷ [])
unfolding Goods
but-last [] call h = tt
but-last (c ∷ []) call h = (h.0, tt)
but-last (c ∷ (d ∷ cs)) call h = (h.0, but-last (d ∷ cs) call h.1)

but-last-goods : (a : List Call) → Goods a → AreGoodButLast a
unfolding Goods
but-last-goods [] h = tt
but-last-goods (c ∷ []) h = tt
but-last-goods (c ∷ (d ∷ cs)) h = (h.0, but-last-goods (d ∷ cs) h.1)

-- all calls of device d so far were good, or only the last wasn't and no column has the device any more
pub Claim : List Call → List ColumnState → ℕ → Type 0
Claim calls cols d = Goods calls ⊎ (AreGoodButLast calls × ((c : ℕ) → HasDevice cols c d → ⊥))

claim-none : (cols : List ColumnState) (d : ℕ) → Claim [] cols d
unfolding Claim
claim-none cols d = inl goods-none

claim-last : (calls : List Call) (cols : List ColumnState) (d : ℕ) → Claim calls cols d → AreGoodButLast calls
unfolding Claim
claim-last calls cols d (inl h) = but-last-goods calls h
claim-last calls cols d (inr h) = h.0

-- ## The calls of one turn

module _ (y : Shape) (columns : List Column) (order : InOrder (states_of y columns)) (s d : ℕ) where
  abbrev cols : List ColumnState
  cols = states_of y columns

  abbrev Gone : Type 0
  Gone = (c : ℕ) → HasDevice cols c d → ⊥

  -- calls at a seat are of its device
  seat-none : Gone → (i kind : ℕ) (good : Bool) (q : Option Spot) → seat y cols s i ≡ q → seat_calls y q kind good d ≡ []
  seat-none none i kind good None is = refl
  seat-none none i kind good (Some at) is = elim (cases_eq d at.device) [
    | inl e ↦ absurd (none at.column (subst (HasDevice cols at.column) (sym e) (seat-device y cols s i at is)))
    | inr ne ↦ ap (λ b. call_if b (call_at y.unit_sectors at kind good)) (ne_eqb d at.device ne)
  ]

  read-none : Gone → (n : ℕ) → read_calls y cols s n d ≡ []
  read-none none zero = refl
  read-none none (suc n) = ap (λ l. l ++ seat_calls y (seat y cols s n) 0 true d) (read-none none n) ∙ seat-none none n 0 true (seat y cols s n) refl

  both-none : Gone → (n i kind : ℕ) (good : Bool) → read_calls y cols s n d ++ seat_calls y (seat y cols s i) kind good d ≡ []
  both-none none n i kind good = ap (λ l. l ++ seat_calls y (seat y cols s i) kind good d) (read-none none n) ∙ seat-none none i kind good (seat y cols s i) refl

  turn-none : Gone → (t : Turn) → turn_calls Sync y cols s t d ≡ []
  turn-none none Left = refl
  turn-none none (Unread i) = both-none none i i 0 false
  turn-none none Sound = read-none none y.width
  turn-none none Unsound = read-none none y.width
  turn-none none Written = both-none none y.width (data_units y) 1 true
  turn-none none Unwritten = both-none none y.width (data_units y) 1 false

  seat-goods : (kind : ℕ) (q : Option Spot) → Goods (seat_calls y q kind true d)
  seat-goods kind None = goods-none
  seat-goods kind (Some at) = go (d == at.device)
    where
      go : (b : Bool) → Goods (call_if b (call_at y.unit_sectors at kind true))
      go true = goods-one _ refl
      go false = goods-none

  read-goods : (n : ℕ) → Goods (read_calls y cols s n d)
  read-goods zero = goods-none
  read-goods (suc n) = goods-append _ _ (read-goods n) (seat-goods 0 (seat y cols s n))

  -- a call that fails is the device's last
  failing : (calls : List Call) (kind i : ℕ) → Goods calls → (q : Option Spot) → seat y cols s i ≡ q → Claim (calls ++ seat_calls y q kind false d) (states_of y (dead_at columns q)) d
  unfolding Claim
  failing calls kind i good None is = inl (subst Goods (sym (append-nil calls)) good)
  failing calls kind i good (Some at) is = elim (cases_eq d at.device) [
    | inl e ↦ inr (
      subst (λ b. AreGoodButLast (calls ++ call_if b (call_at y.unit_sectors at kind false))) (sym (eq-eqb d at.device e)) (but-last calls (call_at y.unit_sectors at kind false) good),
      λ c has.
          let now : HasDevice (killed cols at.column) c d = subst (λ z. HasDevice z c d) (states-killed y columns at.column order (seat-unspread y columns s i at is)) has in
          let had : HasDevice cols at.column d = subst (HasDevice cols at.column) (sym e) (seat-device y cols s i at is) in
          let same = order.one_column c at.column d (device-back cols at.column c d now) had in
          killed-device cols at.column d (subst (λ k. HasDevice (killed cols at.column) k d) same now),
    )
    | inr ne ↦ inl (subst (λ b. Goods (calls ++ call_if b (call_at y.unit_sectors at kind false))) (sym (ne_eqb d at.device ne)) (subst Goods (sym (append-nil calls)) good))
  ]

  reading : (calls : List Call) (n kind i : ℕ) → Goods calls → Claim (calls ++ (read_calls y cols s n d ++ seat_calls y (seat y cols s i) kind false d)) (states_of y (dead_at columns (seat y cols s i))) d
  reading calls n kind i good =
      subst (λ l. Claim l (states_of y (dead_at columns (seat y cols s i))) d) (append_assoc calls (read_calls y cols s n d) (seat_calls y (seat y cols s i) kind false d))
      (failing (calls ++ read_calls y cols s n d) kind i (goods-append calls _ good (read-goods n)) (seat y cols s i) refl)

  -- one turn more
  claim-turn : (calls : List Call) (t : Turn) → Claim calls cols d → Claim (calls ++ turn_calls Sync y cols s t d) (states_of y (columns_after y columns s t)) d
  unfolding Claim
  claim-turn calls t (inr h) = inr (subst AreGoodButLast (sym (append-nil calls) ∙ ap (λ l. calls ++ l) (sym (turn-none h.1 t))) h.0, λ c has. h.1 c ((back-turn y columns order s t).devices c d has))
  claim-turn calls Left (inl h) = inl (goods-append calls _ h goods-none)
  claim-turn calls (Unread i) (inl h) = reading calls i 0 i h
  claim-turn calls Sound (inl h) = inl (goods-append calls _ h (read-goods y.width))
  claim-turn calls Unsound (inl h) = inl (goods-append calls _ h (read-goods y.width))
  claim-turn calls Written (inl h) = inl (goods-append calls _ h (goods-append _ _ (read-goods y.width) (seat-goods 1 (seat y cols s (data_units y)))))
  claim-turn calls Unwritten (inl h) = reading calls y.width 1 (data_units y) h

-- ## Whole units of the stripe

module _ (y : Shape) (layout : IsLayout y) (one : y.checks ≡ 1) (cols : List ColumnState) (marks : ℕ → Bool) (s d : ℕ) (within : s < y.stripes) (marked : marks s ≡ true) where
  abbrev Units : List Call → Type 0
  Units calls = All (IsMarkedCall y cols marks d) calls

  check : data_units y < y.width
  check = omega (arith, last-unit y layout one)

  seat-units : (i kind : ℕ) (good : Bool) → i < y.width → (kind ≡ 0) ⊎ ((kind ≡ 1) × (i ≡ data_units y)) → (q : Option Spot) → seat y cols s i ≡ q → Units (seat_calls y q kind good d)
  seat-units i kind good iw which None is = All-nil (IsMarkedCall y cols marks d)
  seat-units i kind good iw which (Some at) is = elim (cases_eq d at.device) [
    | inl e ↦ subst (λ b. Units (call_if b (call_at y.unit_sectors at kind good))) (sym (eq-eqb d at.device e))
        (All-cons (IsMarkedCall y cols marks d) (call_at y.unit_sectors at kind good) []
        (record { unit = record { stripe = s; unit = i; at = at; in_array = within; in_stripe = iw; stands = is; device = e; call_is = (kind, refl, which) }; marked = marked })
        (All-nil (IsMarkedCall y cols marks d)))
    | inr ne ↦ subst (λ b. Units (call_if b (call_at y.unit_sectors at kind good))) (sym (ne_eqb d at.device ne)) (All-nil (IsMarkedCall y cols marks d))
  ]

  read-units : (n : ℕ) → n ≤ y.width → Units (read_calls y cols s n d)
  read-units zero le = All-nil (IsMarkedCall y cols marks d)
  read-units (suc n) le = All-append (IsMarkedCall y cols marks d) _ _ (read-units n (omega (arith, le))) (seat-units n 0 true (omega (arith, le)) (inl refl) (seat y cols s n) refl)

  turn-units : (told : Type 0) (c : Contents) (t : Turn) → IsTurn told Sync y c cols s t → Units (turn_calls Sync y cols s t d)
  turn-units told c Left is = All-nil (IsMarkedCall y cols marks d)
  turn-units told c (Unread i) is = let lt = is.1 in
      All-append (IsMarkedCall y cols marks d) _ _ (read-units i (omega (arith, lt))) (seat-units i 0 false lt (inl refl) (seat y cols s i) refl)
  turn-units told c Sound is = read-units y.width (omega arith)
  turn-units told c Unsound is = read-units y.width (omega arith)
  turn-units told c Written is = All-append (IsMarkedCall y cols marks d) _ _ (read-units y.width (omega arith)) (seat-units (data_units y) 1 true check (inr (refl, refl)) (seat y cols s (data_units y)) refl)
  turn-units told c Unwritten is = All-append (IsMarkedCall y cols marks d) _ _ (read-units y.width (omega arith)) (seat-units (data_units y) 1 false check (inr (refl, refl)) (seat y cols s (data_units y)) refl)

marked-back : (y : Shape) (new old : List ColumnState) (marks : ℕ → Bool) (d : ℕ) → Back y new old → (call : Call) → IsMarkedCall y new marks d call → IsMarkedCall y old marks d call
marked-back y new old marks d b call h =
    let u = h.unit in
    record {
      unit = record { stripe = u.stripe; unit = u.unit; at = u.at; in_array = u.in_array; in_stripe = u.in_stripe; stands = b.seats u.stripe u.unit u.at u.stands; device = u.device; call_is = u.call_is };
      marked = h.marked;
    }

-- ## The calls so far

-- of one device
pub record CalledOn {D : Type 0} (g : Ghosts D) (y : Shape) (marks : ℕ → Bool) (columns mid : List Column) (old dev : List (Option D)) (d : ℕ) : Type 0 where
  pub calls : List Call
  pub told : TellsMore (calls_of g old d) (calls_of g dev d) calls
  pub claim : Claim calls (states_of y mid) d
  pub units : All (IsMarkedCall y (states_of y columns) marks d) calls

-- and of each
abbrev pub CalledTo : {D : Type 0} → Ghosts D → Shape → (ℕ → Bool) → (columns mid : List Column) (old dev : List (Option D)) → Type 0
CalledTo g y marks columns mid old dev = (d : ℕ) → CalledOn g y marks columns mid old dev d

module _ {D : Type 0} (g : Ghosts D) (y : Shape) (marks : ℕ → Bool) (columns : List Column) (old : List (Option D)) where
  pub called-none : CalledTo g y marks columns columns old old
  called-none d = record {
    calls = [];
    told = tells_more-nil (calls_of g old d);
    claim = claim-none (states_of y columns) d;
    units = All-nil (IsMarkedCall y (states_of y columns) marks d);
  }

  pub called-more : IsLayout y → y.checks ≡ 1 → (n : ℕ) → n < y.stripes → marks n ≡ true → (mid after : List Column) (dev new : List (Option D)) (counted : Bool) → InOrder (states_of y mid) → Back y (states_of y mid) (states_of y columns)
      → SweepsStripe g Sync y n mid after dev new counted → CalledTo g y marks columns mid old dev → CalledTo g y marks columns after old new
  called-more layout one n within marked mid after dev new counted order back step was d =
      let w = was d in
      let turn = turn_calls Sync y (states_of y mid) n step.turn d in
      record {
        calls = w.calls ++ turn;
        told = tells_more-then (calls_of g old d) (calls_of g dev d) (calls_of g new d) w.calls turn w.told (step.visit.told d);
        claim = subst (λ cs. Claim (w.calls ++ turn) (states_of y cs) d) (sym step.columns_are) (claim-turn y mid order n d w.calls step.turn w.claim);
        units = All-append (IsMarkedCall y (states_of y columns) marks d) w.calls turn w.units
            (All-weaker (IsMarkedCall y (states_of y mid) marks d) (IsMarkedCall y (states_of y columns) marks d) (marked-back y (states_of y mid) (states_of y columns) marks d back) turn
            (turn-units y layout one (states_of y mid) marks n d within marked g.tells (contents_of g dev) step.turn step.visit.is));
      }

  pub calls-marked : (after : List Column) (new : List (Option D)) → CalledTo g y marks columns after old new → (d : ℕ) → CallsMarked y (states_of y columns) marks d (calls_of g old d) (calls_of g new d)
  calls-marked after new was d = go (calls_of g old d) (calls_of g new d) (was d).told
    where
      go : (a b : Option (List Call)) → TellsMore a b (was d).calls → CallsMarked y (states_of y columns) marks d a b
      go a None told = tt
      go None (Some now) told = absurd told
      go (Some before) (Some now) told = ((was d).calls, told, claim-last (was d).calls (states_of y after) d (was d).claim, (was d).units)

  -- no call, where nothing is swept
  pub calls-none : (d : ℕ) → CallsMarked y (states_of y columns) marks d (calls_of g old d) (calls_of g old d)
  calls-none d = calls-marked columns old called-none d

-- so they are of whole units
pub marked-units : (y : Shape) (states : List ColumnState) (marks : ℕ → Bool) (d : ℕ) (a b : Option (List Call)) → CallsMarked y states marks d a b → CallsUnits y states d a b
marked-units y states marks d a None h = tt
marked-units y states marks d None (Some now) h = absurd h
marked-units y states marks d (Some before) (Some now) h = (h.0, h.1, h.2, All-weaker (IsMarkedCall y states marks d) (IsUnitCall y states d) (λ call m. m.unit) h.0 h.3)
