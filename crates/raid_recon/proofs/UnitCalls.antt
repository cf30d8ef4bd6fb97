-- Calls are of whole rows, and a device that failed one isn't called again.
use Rattle.std.proofs.Common.{◌≡◌, ◌⊎◌, ℕ, zero, suc, ◌*◌, List, [], ◌∷◌, ◌++◌, length, Bool, true, false, Option, Some, None, inl, inr, refl, sym, ap, ◌∙◌, subst, arith, append_assoc, append-nil, ◌<◌, ◌≤◌}
use Rattle.std.specs.Prelude.{◌==◌, ◌&&◌, not, All}
use Rattle.std.proofs.Math.Nat.{mul-le-mul_right}
use Rattle.std.proofs.lemmas.List.Elements.{All-nil, All-cons, All-append, All-weaker}
use Rattle.std.proofs.lemmas.Bool.{cases_eq, ne_eqb}
use Rattle.blk_disk.specs.declared.disk.Call.{Call}
use Rattle.blk_disk.specs.declared.disk.Disk.{Ghosts}
use Rattle.blk_disk.specs.Devices.{calls_of, contents_of}
use Rattle.lay_core.specs.Layout.{Shape, IsLayout, data_units}
use Rattle.eng_cols.specs.declared.column.Column.{Column}
use Rattle.eng_cols.specs.declared.spot.Spot.{Spot}
use Rattle.eng_cols.specs.Cols.{ColumnState, HasDevice, InOrder}
use Rattle.eng_cols.specs.Changes.{killed}
use Rattle.eng_cols.specs.Seats.{seat}
use Rattle.eng_cols.specs.Contents.{Contents}
use Rattle.eng_cols.proofs.Spots.{seat-device, seat-within}
use Rattle.eng_cols.proofs.Killing.{device-back, killed-device}
use Rattle.raid_recon.specs.declared.ahead.Rows.{Rows}
use Rattle.raid_recon.specs.declared.kind.Sweep.{Sweep}
use Rattle.raid_recon.specs.declared.kind.Sweep.TheVariants.{Check, Sync, Init}
use Rattle.eng_cols.specs.Stripes.{states_of}
use Rattle.raid_recon.specs.Array.{IsArray}
use Rattle.raid_recon.specs.Turns.{Turn, Left, Unread, Sound, Unsound, Written, Unwritten, TellsMore, call_if, call_at, seat_calls, units_read, dead_at, columns_after, IsTurn}
use Rattle.raid_recon.specs.Ahead.{ahead_in, is_at_hand, read_rows, reads_ahead, rows_in, seat_reads, turn_ahead}
use Rattle.raid_recon.specs.Log.{columns_in, AreTurns}
use Rattle.raid_recon.specs.Swept.{IsSwept}
use Rattle.raid_recon.specs.Ends.{AreGoodButLast, IsRowsCall, CallsRows}
use Rattle.raid_recon.proofs.Places.{states-killed}
use Rattle.raid_recon.proofs.Frames.{last-unit}
use Rattle.raid_recon.proofs.Backs.{Back, back-in, back-turn, seat-unspread}
use Rattle.raid_recon.proofs.Words.{ahead_call, rows_from}

Goods : List Call → Type 0
Goods [] = Unit {0}
Goods (c ∷ cs) = (c.good ≡ true) × Goods cs

goods-append : (a b : List Call) → Goods a → Goods b → Goods (a ++ b)
unfolding Goods
goods-append [] b one two = two
goods-append (c ∷ cs) b one two = (one.0, goods-append cs b one.1 two)

goods-if : (b : Bool) (call : Call) → call.good ≡ true → Goods (call_if b call)
unfolding Goods
goods-if true call e = (e, tt)
goods-if false call e = tt

goods-none : Goods []
unfolding Goods
goods-none = tt

-- good calls and one more
but-last : (a : List Call) (call : Call) → Goods a → AreGoodButLast (a ++ call ∷ [])
unfolding Goods
but-last [] call h = tt
but-last (c ∷ []) call h = (h.0, tt)
but-last (c ∷ (d ∷ cs)) call h = (h.0, but-last (d ∷ cs) call h.1)

but-last-goods : (a : List Call) → Goods a → AreGoodButLast a
unfolding Goods
but-last-goods [] h = tt
but-last-goods (c ∷ []) h = tt
but-last-goods (c ∷ (d ∷ cs)) h = (h.0, but-last-goods (d ∷ cs) h.1)

-- all calls of device d so far were good, or only the last wasn't and no column has the device any more
Claim : List Call → List ColumnState → ℕ → Type 0
Claim calls cols d = Goods calls ⊎ (AreGoodButLast calls × ((c : ℕ) → HasDevice cols c d → ⊥))

and-left : (a b : Bool) → a ≡ false → (a && b) ≡ false
and-left true b e = let z : true ≡ false = e in absurd (let u : ⊥ = cc in u)
and-left false b e = refl

module _ (y : Shape) (most : ℕ) (columns : List Column) (order : InOrder (states_of y columns)) (s d : ℕ) where
  -- calls at a seat are of its device
  write-none : ((c : ℕ) → HasDevice (states_of y columns) c d → ⊥) → (i kind : ℕ) (good : Bool) (q : Option Spot) → seat y (states_of y columns) s i ≡ q → seat_calls y q kind good d ≡ []
  write-none none i kind good None is = refl
  write-none none i kind good (Some at) is = elim (cases_eq d at.device) [
    | inl e ↦ absurd (none at.column (subst (HasDevice (states_of y columns) at.column) (sym e) (seat-device y (states_of y columns) s i at is)))
    | inr ne ↦ ap (λ b. call_if b (call_at y.unit_sectors at kind good)) (ne_eqb d at.device ne)
  ]

  seat-none : ((c : ℕ) → HasDevice (states_of y columns) c d → ⊥) → (i : ℕ) (good : Bool) (r : Rows) (q : Option Spot) → seat y (states_of y columns) s i ≡ q → seat_reads y most q good d r ≡ []
  seat-none none i good r None is = refl
  seat-none none i good r (Some at) is = elim (cases_eq d at.device) [
    | inl e ↦ absurd (none at.column (subst (HasDevice (states_of y columns) at.column) (sym e) (seat-device y (states_of y columns) s i at is)))
    | inr ne ↦ ap (λ b. call_if b (ahead_call y most at good)) (and-left (d == at.device) (not (is_at_hand r at.row)) (ne_eqb d at.device ne))
  ]

  read-none : ((c : ℕ) → HasDevice (states_of y columns) c d → ⊥) → (n : ℕ) (r : Rows) → reads_ahead y most (states_of y columns) s n d r ≡ []
  read-none none zero r = refl
  read-none none (suc n) r = ap (λ l. l ++ seat_reads y most (seat y (states_of y columns) s n) true d (read_rows y most (states_of y columns) s n d r)) (read-none none n r) ∙ seat-none none n true _ (seat y (states_of y columns) s n) refl

  then-write : ((c : ℕ) → HasDevice (states_of y columns) c d → ⊥) → (n i : ℕ) (good : Bool) (r : Rows) → reads_ahead y most (states_of y columns) s n d r ++ seat_calls y (seat y (states_of y columns) s i) 1 good d ≡ []
  then-write none n i good r = ap (λ l. l ++ seat_calls y (seat y (states_of y columns) s i) 1 good d) (read-none none n r) ∙ write-none none i 1 good (seat y (states_of y columns) s i) refl

  turn-none : (kind : Sweep) → ((c : ℕ) → HasDevice (states_of y columns) c d → ⊥) → (t : Turn) (r : Rows) → turn_ahead kind y most (states_of y columns) s t d r ≡ []
  turn-none kind none Left r = refl
  turn-none kind none (Unread i) r = ap (λ l. l ++ seat_reads y most (seat y (states_of y columns) s i) false d (read_rows y most (states_of y columns) s i d r)) (read-none none i r) ∙ seat-none none i false _ (seat y (states_of y columns) s i) refl
  turn-none kind none Sound r = read-none none (units_read kind y) r
  turn-none kind none Unsound r = read-none none (units_read kind y) r
  turn-none kind none Written r = then-write none (units_read kind y) (data_units y) true r
  turn-none kind none Unwritten r = then-write none (units_read kind y) (data_units y) false r

  write-goods : (q : Option Spot) → Goods (seat_calls y q 1 true d)
  write-goods None = goods-none
  write-goods (Some at) = goods-if (d == at.device) _ refl

  seat-goods : (q : Option Spot) (r : Rows) → Goods (seat_reads y most q true d r)
  seat-goods None r = goods-none
  seat-goods (Some at) r = goods-if ((d == at.device) && not (is_at_hand r at.row)) _ refl

  read-goods : (n : ℕ) (r : Rows) → Goods (reads_ahead y most (states_of y columns) s n d r)
  read-goods zero r = goods-none
  read-goods (suc n) r = goods-append _ _ (read-goods n r) (seat-goods (seat y (states_of y columns) s n) _)

  -- a call that fails is the device's last
  failing : (calls : List Call) (i : ℕ) → Goods calls → (at : Spot) → seat y (states_of y columns) s i ≡ Some at → (b : Bool) (call : Call) → (b ≡ true → d ≡ at.device) → Claim (calls ++ call_if b call) (states_of y (dead_at columns (Some at))) d
  unfolding Claim
  failing calls i good at is false call own = inl (subst Goods (sym (append-nil calls)) good)
  failing calls i good at is true call own =
      let e = own refl in
      inr (
        but-last calls call good,
        λ c has.
            let now : HasDevice (killed (states_of y columns) at.column) c d = subst (λ cols. HasDevice cols c d) (states-killed y columns at.column order (seat-unspread y columns s i at is)) has in
            let had : HasDevice (states_of y columns) at.column d = subst (HasDevice (states_of y columns) at.column) (sym e) (seat-device y (states_of y columns) s i at is) in
            let same = order.one_column c at.column d (device-back (states_of y columns) at.column c d now) had in
            killed-device (states_of y columns) at.column d (subst (λ k. HasDevice (killed (states_of y columns) at.column) k d) same now),
      )

  own-eq : (a : ℕ) → (d == a) ≡ true → d ≡ a
  own-eq a h = elim (cases_eq d a) [ inl e ↦ e | inr ne ↦ let z : true ≡ false = sym h ∙ ne_eqb d a ne in absurd (let u : ⊥ = cc in u) ]

  and-true : (a b : Bool) → (a && b) ≡ true → a ≡ true
  and-true true b h = refl
  and-true false b h = let z : false ≡ true = h in absurd (let u : ⊥ = cc in u)

  failed-read : (calls : List Call) (i : ℕ) (r : Rows) → Goods calls → (q : Option Spot) → seat y (states_of y columns) s i ≡ q → Claim (calls ++ seat_reads y most q false d r) (states_of y (dead_at columns q)) d
  unfolding Claim
  failed-read calls i r good None is = inl (subst Goods (sym (append-nil calls)) good)
  failed-read calls i r good (Some at) is = failing calls i good at is ((d == at.device) && not (is_at_hand r at.row)) (ahead_call y most at false) (λ h. own-eq at.device (and-true _ _ h))

  failed-write : (calls : List Call) (i : ℕ) → Goods calls → (q : Option Spot) → seat y (states_of y columns) s i ≡ q → Claim (calls ++ seat_calls y q 1 false d) (states_of y (dead_at columns q)) d
  unfolding Claim
  failed-write calls i good None is = inl (subst Goods (sym (append-nil calls)) good)
  failed-write calls i good (Some at) is = failing calls i good at is (d == at.device) (call_at y.unit_sectors at 1 false) (own-eq at.device)

  -- one turn more
  claim-turn : (kind : Sweep) (calls : List Call) (t : Turn) (r : Rows) → Claim calls (states_of y columns) d → Claim (calls ++ turn_ahead kind y most (states_of y columns) s t d r) (states_of y (columns_after y columns s t)) d
  unfolding Claim
  claim-turn kind calls t r (inr h) = inr (subst AreGoodButLast (sym (append-nil calls) ∙ ap (λ l. calls ++ l) (sym (turn-none kind h.1 t r))) h.0, λ c has. h.1 c ((back-turn y columns order s t).devices c d has))
  claim-turn kind calls Left r (inl h) = inl (goods-append calls _ h goods-none)
  claim-turn kind calls (Unread i) r (inl h) =
      subst (λ l. Claim l (states_of y (dead_at columns (seat y (states_of y columns) s i))) d) (append_assoc calls (reads_ahead y most (states_of y columns) s i d r) (seat_reads y most (seat y (states_of y columns) s i) false d (read_rows y most (states_of y columns) s i d r)))
      (failed-read (calls ++ reads_ahead y most (states_of y columns) s i d r) i _ (goods-append calls _ h (read-goods i r)) (seat y (states_of y columns) s i) refl)
  claim-turn kind calls Sound r (inl h) = inl (goods-append calls _ h (read-goods (units_read kind y) r))
  claim-turn kind calls Unsound r (inl h) = inl (goods-append calls _ h (read-goods (units_read kind y) r))
  claim-turn kind calls Written r (inl h) = inl (goods-append calls _ h (goods-append _ _ (read-goods (units_read kind y) r) (write-goods (seat y (states_of y columns) s (data_units y)))))
  claim-turn kind calls Unwritten r (inl h) =
      subst (λ l. Claim l (states_of y (dead_at columns (seat y (states_of y columns) s (data_units y)))) d) (append_assoc calls (reads_ahead y most (states_of y columns) s (units_read kind y) d r) (seat_calls y (seat y (states_of y columns) s (data_units y)) 1 false d))
      (failed-write (calls ++ reads_ahead y most (states_of y columns) s (units_read kind y) d r) (data_units y) (goods-append calls _ h (read-goods (units_read kind y) r)) (seat y (states_of y columns) s (data_units y)) refl)

claim-all : (kind : Sweep) (y : Shape) (most : ℕ) (columns : List Column) → InOrder (states_of y columns) → (ts : List Turn) (d : ℕ) → Claim (ahead_in kind y most columns ts d) (states_of y (columns_in y columns ts)) d
unfolding Claim
claim-all kind y most columns order [] d = inl goods-none
claim-all kind y most columns order (t ∷ ts) d =
    claim-turn y most (columns_in y columns ts) ((back-in y columns order ts).order order) (length ts) d kind (ahead_in kind y most columns ts d) t (rows_in kind y most columns ts d) (claim-all kind y most columns order ts d)

but-last-all : (calls : List Call) (cols : List ColumnState) (d : ℕ) → Claim calls cols d → AreGoodButLast calls
unfolding Claim
but-last-all calls cols d (inl h) = but-last-goods calls h
but-last-all calls cols d (inr h) = h.0

-- ## Whole rows

module _ (y : Shape) (layout : IsLayout y) (one : y.checks ≡ 1) (most : ℕ) (some : 1 ≤ most) (few : most * y.unit_sectors ≤ 128) (cols : List ColumnState) (s d : ℕ) (within : s < y.stripes) where
  check : data_units y < y.width
  check = omega (arith, last-unit y layout one)

  all-if : (b : Bool) (call : Call) → (b ≡ true → IsRowsCall y cols d call) → All (IsRowsCall y cols d) (call_if b call)
  all-if true call h = All-cons (IsRowsCall y cols d) call [] (h refl) (All-nil (IsRowsCall y cols d))
  all-if false call h = All-nil (IsRowsCall y cols d)

  own : (a : ℕ) (b : Bool) → ((d == a) && b) ≡ true → d ≡ a
  own a b h = elim (cases_eq d a) [ inl e ↦ e | inr ne ↦ let z : true ≡ false = sym h ∙ and-left (d == a) b (ne_eqb d a ne) in absurd (let u : ⊥ = cc in u) ]

  own-alone : (a : ℕ) → (d == a) ≡ true → d ≡ a
  own-alone a h = elim (cases_eq d a) [ inl e ↦ e | inr ne ↦ let z : true ≡ false = sym h ∙ ne_eqb d a ne in absurd (let u : ⊥ = cc in u) ]

  seat-rows : (i : ℕ) (good : Bool) (r : Rows) → i < y.width → (q : Option Spot) → seat y cols s i ≡ q → All (IsRowsCall y cols d) (seat_reads y most q good d r)
  seat-rows i good r iw None is = All-nil (IsRowsCall y cols d)
  seat-rows i good r iw (Some at) is = all-if ((d == at.device) && not (is_at_hand r at.row)) (ahead_call y most at good) (λ h.
      let row : at.row < y.rows = (seat-within y cols s i at layout within iw is).1 in
      let less : rows_from y most at.row ≤ most = omega arith in
      let short : rows_from y most at.row * y.unit_sectors ≤ most * y.unit_sectors = mul-le-mul_right y.unit_sectors less in
      record {
        stripe = s;
        unit = i;
        at = at;
        in_array = within;
        in_stripe = iw;
        stands = is;
        device = own at.device _ h;
        call_is = inl (rows_from y most at.row, omega (arith, row, some), omega (arith, short, few), omega (arith, row), refl);
      })

  check-write : (good : Bool) (q : Option Spot) → seat y cols s (data_units y) ≡ q → All (IsRowsCall y cols d) (seat_calls y q 1 good d)
  check-write good None is = All-nil (IsRowsCall y cols d)
  check-write good (Some at) is = all-if (d == at.device) (call_at y.unit_sectors at 1 good) (λ h.
      record { stripe = s; unit = data_units y; at = at; in_array = within; in_stripe = check; stands = is; device = own-alone at.device h; call_is = inr (refl, refl) })

  read-all : (n : ℕ) (r : Rows) → n ≤ y.width → All (IsRowsCall y cols d) (reads_ahead y most cols s n d r)
  read-all zero r le = All-nil (IsRowsCall y cols d)
  read-all (suc n) r le = All-append (IsRowsCall y cols d) _ _ (read-all n r (omega (arith, le))) (seat-rows n true _ (omega (arith, le)) (seat y cols s n) refl)

  most-units : (kind : Sweep) → units_read kind y ≤ y.width
  most-units Check = omega arith
  most-units Sync = omega arith
  most-units Init = omega arith

  turn-all : (kind : Sweep) (told : Type 0) (c : Contents) (t : Turn) (r : Rows) → IsTurn told kind y c cols s t → All (IsRowsCall y cols d) (turn_ahead kind y most cols s t d r)
  turn-all kind told c Left r is = All-nil (IsRowsCall y cols d)
  turn-all kind told c (Unread i) r is = let lt : i < y.width = omega (arith, is.1, most-units kind) in
      All-append (IsRowsCall y cols d) _ _ (read-all i r (omega (arith, lt))) (seat-rows i false _ lt (seat y cols s i) refl)
  turn-all kind told c Sound r is = read-all (units_read kind y) r (most-units kind)
  turn-all kind told c Unsound r is = read-all (units_read kind y) r (most-units kind)
  turn-all kind told c Written r is = All-append (IsRowsCall y cols d) _ _ (read-all (units_read kind y) r (most-units kind)) (check-write true (seat y cols s (data_units y)) refl)
  turn-all kind told c Unwritten r is = All-append (IsRowsCall y cols d) _ _ (read-all (units_read kind y) r (most-units kind)) (check-write false (seat y cols s (data_units y)) refl)

rows-back : (y : Shape) (new old : List ColumnState) (d : ℕ) → Back y new old → (call : Call) → IsRowsCall y new d call → IsRowsCall y old d call
rows-back y new old d b call h = record { stripe = h.stripe; unit = h.unit; at = h.at; in_array = h.in_array; in_stripe = h.in_stripe; stands = b.seats h.stripe h.unit h.at h.stands; device = h.device; call_is = h.call_is }

rows-all : (told : Type 0) (kind : Sweep) (y : Shape) (most : ℕ) → 1 ≤ most → most * y.unit_sectors ≤ 128 → (c : Contents) (columns : List Column) → InOrder (states_of y columns) → IsLayout y → y.checks ≡ 1 → (ts : List Turn) (d : ℕ) → length ts ≤ y.stripes → AreTurns told kind y c columns ts
    → All (IsRowsCall y (states_of y columns) d) (ahead_in kind y most columns ts d)
rows-all told kind y most some few c columns order layout one [] d le are = All-nil (IsRowsCall y (states_of y columns) d)
rows-all told kind y most some few c columns order layout one (t ∷ ts) d le are =
    All-append (IsRowsCall y (states_of y columns) d) _ _ (rows-all told kind y most some few c columns order layout one ts d (omega (arith, le)) are.0)
    (All-weaker (IsRowsCall y (states_of y (columns_in y columns ts)) d) (IsRowsCall y (states_of y columns) d) (rows-back y _ (states_of y columns) d (back-in y columns order ts)) _
    (turn-all y layout one most some few (states_of y (columns_in y columns ts)) (length ts) d (omega (arith, le)) kind told c t (rows_in kind y most columns ts d) are.1))

calls-are : (y : Shape) (cols : List ColumnState) (d : ℕ) (a b : Option (List Call)) (calls : List Call) → TellsMore a b calls → AreGoodButLast calls → All (IsRowsCall y cols d) calls → CallsRows y cols d a b
calls-are y cols d a None calls told good rows = tt
calls-are y cols d None (Some now) calls told good rows = absurd told
calls-are y cols d (Some before) (Some now) calls told good rows = (calls, told, good, rows)

no-calls : (y : Shape) (cols : List ColumnState) (d : ℕ) (a : Option (List Call)) → CallsRows y cols d a a
no-calls y cols d None = tt
no-calls y cols d (Some cs) = ([], sym (append-nil cs), tt, All-nil (IsRowsCall y cols d))

pub swept-calls : {D : Type 0} (g : Ghosts D) (kind : Sweep) (y : Shape) (most : ℕ) → 1 ≤ most → most * y.unit_sectors ≤ 128 → IsLayout y → y.checks ≡ 1 → (columns after : List Column) (old new : List (Option D)) (n : ℕ) → IsArray g y columns old → IsSwept g kind y most y.stripes columns after old new n
    → (d : ℕ) → CallsRows y (states_of y columns) d (calls_of g old d) (calls_of g new d)
swept-calls g kind y most some few layout one columns after old new n array w d =
    calls-are y (states_of y columns) d (calls_of g old d) (calls_of g new d) (ahead_in kind y most columns w.turns d) (w.told d) (but-last-all _ _ d (claim-all kind y most columns array.order w.turns d))
    (rows-all g.tells kind y most some few (contents_of g old) columns array.order layout one w.turns d (omega (arith, w.each)) w.are)

pub calls-same : {D : Type 0} (g : Ghosts D) (y : Shape) (cols : List ColumnState) (ds : List (Option D)) (d : ℕ) → CallsRows y cols d (calls_of g ds d) (calls_of g ds d)
calls-same g y cols ds d = no-calls y cols d (calls_of g ds d)
