-- Units of a stripe, each at its place in the window of its column.
use Rattle.std.proofs.Common.{◌≡◌, ◌≢◌, ℕ, suc, ◌+◌, ◌*◌, ◌/◌, ◌%◌, ◌<◌, ◌≤◌, List, length, Bool, true, false, Option, Some, inl, inr, sym, ap, ◌∙◌, subst, arith}
use Rattle.std.specs.Prelude.{bit_xor, slice_index, slice_set, MatchBool}
use Rattle.std.specs.Int.Bits.{xor_zero_r}
use Rattle.std.proofs.Math.Nat.{mul-le-mul_left, mul-le-mul_right, suc-mul}
use Rattle.std.proofs.lemmas.Bool.{cases_eq, cases_lt}
use Rattle.std.proofs.lemmas.Nat.{xor_comm}
use Rattle.std.proofs.lemmas.List.{get_or-set_same, get_or-set_other}
use Rattle.blk_disk.specs.declared.disk.Disk.{Ghosts}
use Rattle.blk_disk.specs.Devices.{contents_of}
use Rattle.lay_core.specs.Layout.{Shape, IsLayout, data_units}
use Rattle.eng_cols.specs.declared.spot.Spot.{Spot}
use Rattle.eng_cols.specs.Cols.{ColumnState, InOrder}
use Rattle.eng_cols.specs.Seats.{seat}
use Rattle.eng_cols.specs.Contents.{Contents, byte_of}
use Rattle.lay_core.specs.Sums.{xor_below}
use Rattle.eng_cols.proofs.Spots.{Stands, own, spared, seat-stands}
use Rattle.eng_cols.proofs.Sums.{below_more, below_same}
use Rattle.raid_recon.specs.Ahead.{IsInWindow, IsOutside}
use Rattle.raid_recon.specs.Sums.{places_sum}
use Rattle.raid_recon.specs.Units.{AllRead, AreUnitsAt, IsSum, IsUnitAt, Tested}
use Rattle.raid_recon.specs.declared.ahead.ColumnWindows.{ColumnWindows}
use Rattle.raid_recon.specs.declared.ahead.Rows.{Rows}
use Rattle.raid_recon.proofs.Bytes.{zero-from, not-zero}

-- ## Windows

-- two units of a stripe stand on two columns
pub units-apart : (y : Shape) (cols : List ColumnState) → IsLayout y → InOrder cols → (s i j : ℕ) (at to : Spot) → s < y.stripes → i < y.width → j < y.width → seat y cols s i ≡ Some at → seat y cols s j ≡ Some to → at.column ≡ to.column → i ≡ j
units-apart y cols layout order s i j at to sw iw jw is js same = go (seat-stands y cols s i at is) (seat-stands y cols s j to js)
  where
    go : Stands y cols s i at → Stands y cols s j to → i ≡ j
    go (own a) (own b) = layout.columns_apart s i j sw iw jw (sym a.column ∙ same ∙ b.column)
    go (own a) (spared q done e spread b) = absurd (layout.spare_column s i q sw iw e (sym a.column ∙ same ∙ b.column))
    go (spared p done e spread a) (own b) = absurd (layout.spare_column s j p sw jw e (sym b.column ∙ sym same ∙ a.column))
    go (spared p done e spread a) (spared q other f spread' b) = layout.columns_apart s i j sw iw jw (order.one_spread (y.place s i).column (y.place s j).column done other spread spread')

-- a unit's bytes lie outside the windows of other columns, where these lie apart
pub unit-outside : (y : Shape) (windows : ColumnWindows) (c d from n : ℕ) → windows.most ≤ windows.apart → c ≢ d → IsInWindow y windows c from → n < 512 * y.unit_sectors → IsOutside y windows d (from + n)
unit-outside y windows c d from n side apart here short = elim (cases_lt c d) [
  | inl lt ↦
      let rows : suc c * windows.apart ≤ d * windows.apart = mul-le-mul_right windows.apart lt in
      let last : c * windows.apart + windows.most ≤ d * windows.apart = omega (arith, rows, suc-mul c windows.apart, side) in
      let sectors : y.unit_sectors * (c * windows.apart + windows.most) ≤ y.unit_sectors * (d * windows.apart) = mul-le-mul_left y.unit_sectors last in
      inl (omega (arith, sectors, here.1, short))
  | inr le ↦
      let lt : suc d ≤ c = omega (arith, le, apart) in
      let rows : suc d * windows.apart ≤ c * windows.apart = mul-le-mul_right windows.apart lt in
      let last : d * windows.apart + windows.most ≤ c * windows.apart = omega (arith, rows, suc-mul d windows.apart, side) in
      let sectors : y.unit_sectors * (d * windows.apart + windows.most) ≤ y.unit_sectors * (c * windows.apart) = mul-le-mul_left y.unit_sectors last in
      inr (omega (arith, sectors, here.0))
]

-- the first n units stand in the windows of their columns
abbrev pub AreInWindows : Shape → ColumnWindows → List ColumnState → (s n : ℕ) → List ℕ → Type 0
AreInWindows y windows cols s n places = (i : ℕ) (at : Spot) → i < n → seat y cols s i ≡ Some at → IsInWindow y windows at.column (slice_index places i)

-- ## One unit more

module _ (y : Shape) (windows : ColumnWindows) (cols : List ColumnState) (s n : ℕ) (places : List ℕ) (from : ℕ) where
  entry : (m i : ℕ) (P : ℕ → Type 0) → n < length places → m ≡ suc n → i < m → (i < n → P (slice_index places i)) → (i ≡ n → P from) → P (slice_index (slice_set places n from) i)
  entry m i P room next lt before here = elim (cases_eq i n) [
    | inl e ↦ subst P (sym (ap (slice_index (slice_set places n from)) e ∙ get_or-set_same places n from 0 room)) (here e)
    | inr ne ↦ subst P (sym (get_or-set_other places n i from 0 ne)) (before (omega (arith, ne, lt, next)))
  ]

  pub windows-more : (m : ℕ) → n < length places → m ≡ suc n → AreInWindows y windows cols s n places → ((at : Spot) → seat y cols s n ≡ Some at → IsInWindow y windows at.column from) → AreInWindows y windows cols s m (slice_set places n from)
  windows-more m room next were one i at lt is =
      entry m i (λ p. IsInWindow y windows at.column p) room next lt (λ less. were i at less is) (λ e. one at (subst (λ k. seat y cols s k ≡ Some at) e is))

  pub inside-more : (m long : ℕ) → n < length places → m ≡ suc n → ((i : ℕ) → i < n → slice_index places i + 512 * y.unit_sectors ≤ long) → from + 512 * y.unit_sectors ≤ long
      → (i : ℕ) → i < m → slice_index (slice_set places n from) i + 512 * y.unit_sectors ≤ long
  inside-more m long room next were one i lt = entry m i (λ p. p + 512 * y.unit_sectors ≤ long) room next lt (λ less. were i less) (λ e. one)

  pub units-more : (m : ℕ) (C : Contents) (before after : List ℕ) (at : Spot) → windows.most ≤ windows.apart → IsLayout y → InOrder cols → s < y.stripes → n < y.width → n < length places → m ≡ suc n → seat y cols s n ≡ Some at → ((i : ℕ) → i < n → (to : Spot) × (seat y cols s i ≡ Some to))
      → AreInWindows y windows cols s n places → ((k : ℕ) → IsOutside y windows at.column k → slice_index after k ≡ slice_index before k)
      → AreUnitsAt y C cols s n before places → IsUnitAt y C cols s n after from → AreUnitsAt y C cols s m after (slice_set places n from)
  units-more m C before after at side layout order sw nw room next stands seats were outside units one i lt =
      entry m i (λ p. IsUnitAt y C cols s i after p) room next lt kept (λ e. subst (λ k. IsUnitAt y C cols s k after from) (sym e) one)
    where
      kept : i < n → IsUnitAt y C cols s i after (slice_index places i)
      kept less o k ou ku =
          let to = seats i less in
          let apart : to.0.column ≢ at.column = λ e. omega (arith, less, units-apart y cols layout order s i n to.0 at sw (omega (arith, less, nw)) nw to.1 stands e) in
          outside (slice_index places i + (512 * o + k)) (unit-outside y windows to.0.column at.column (slice_index places i) (512 * o + k) side apart (were i to.0 less to.1) (omega (arith, ou, ku)))
          ∙ units i less o k ou ku

-- ## Their sum

-- what stands at the places sums to the sum of the units
pub placed-sum : (y : Shape) (C : Contents) (cols : List ColumnState) (s n : ℕ) (bytes places sum : List ℕ) → length sum ≡ 512 * y.unit_sectors → ((j : ℕ) → j < length sum → slice_index sum j ≡ places_sum bytes places n j)
    → AreUnitsAt y C cols s n bytes places → IsSum y C cols s n sum
placed-sum y C cols s n bytes places sum long sums units o k ou ku =
    sums (512 * o + k) (omega (arith, long, ou, ku))
    ∙ below_same (λ i. slice_index bytes (slice_index places i + (512 * o + k))) (λ i. byte_of y C cols s i o k) n (λ i lt. units i lt o k ou ku)

-- what stands at the first place, at the first two, and at the first four
module _ (bytes places : List ℕ) (j : ℕ) where
  abbrev pub at : ℕ → ℕ
  at i = slice_index bytes (slice_index places i + j)

  pub placed-one : at 0 ≡ places_sum bytes places 1 j
  unfolding xor_below
  placed-one = sym (xor_zero_r (at 0))

  -- and of one more
  pub placed-next : (n x y : ℕ) → x ≡ places_sum bytes places n j → y ≡ at n → bit_xor y x ≡ places_sum bytes places (suc n) j
  placed-next n x y is one = ap (λ a. bit_xor a x) one ∙ ap (bit_xor (at n)) is ∙ sym (below_more at n)

  pub placed-two : (a b : ℕ) → a ≡ at 0 → b ≡ at 1 → bit_xor b a ≡ places_sum bytes places 2 j
  placed-two a b one two = placed-next 1 a b (one ∙ placed-one) two

  pub placed-four : (a b c d : ℕ) → a ≡ at 0 → b ≡ at 1 → c ≡ at 2 → d ≡ at 3 → bit_xor d (bit_xor c (bit_xor b a)) ≡ places_sum bytes places 4 j
  placed-four a b c d one two three four = placed-next 3 (bit_xor c (bit_xor b a)) d (placed-next 2 (bit_xor b a) c (placed-two a b one two) three) four

  -- of one more, that is added to the sum
  pub placed-more : (n x y : ℕ) → x ≡ places_sum bytes places n j → y ≡ at n → bit_xor x y ≡ places_sum bytes places (suc n) j
  placed-more n x y is one = xor_comm x y ∙ placed-next n x y is one

-- ## The test

-- all units were read, and the last was compared with the sum of the others
pub placed-tested : {D : Type 0} (g : Ghosts D) (y : Shape) (windows : ColumnWindows) (cols : List ColumnState) (s : ℕ) (rows : ℕ → Rows) (old new : List (Option D)) (hands : List Rows) (bytes places sum : List ℕ) (n : ℕ) → y.width ≡ suc n → n ≡ data_units y → length sum ≡ 512 * y.unit_sectors
    → ((j : ℕ) → j < length sum → slice_index sum j ≡ places_sum bytes places n j) → AllRead g y windows cols s y.width rows old new hands bytes → (g.tells → AreUnitsAt y (contents_of g old) cols s y.width bytes places)
    → (b : Bool) → MatchBool b ((j : ℕ) × (j < length sum) × (slice_index sum j ≢ slice_index bytes (slice_index places n + j))) ((j : ℕ) → j < length sum → slice_index sum j ≡ slice_index bytes (slice_index places n + j))
    → Tested g y windows cols s rows old new hands bytes sum b
placed-tested g y windows cols s rows old new hands bytes places sum n last all long sums read units = go
  where
    is-sum : g.tells → IsSum y (contents_of g old) cols s n sum
    is-sum told = placed-sum y (contents_of g old) cols s n bytes places sum long sums (λ i lt. units told i (omega (arith, lt, last)))

    check : g.tells → IsUnitAt y (contents_of g old) cols s n bytes (slice_index places n)
    check told = units told n (omega (arith, last))

    go : (b : Bool) → MatchBool b ((j : ℕ) × (j < length sum) × (slice_index sum j ≢ slice_index bytes (slice_index places n + j))) ((j : ℕ) → j < length sum → slice_index sum j ≡ slice_index bytes (slice_index places n + j))
        → Tested g y windows cols s rows old new hands bytes sum b
    go true h = record {
      read = read;
      sums = λ told. subst (λ m. IsSum y (contents_of g old) cols s m sum) all (is-sum told);
      zero = λ e. let u : ⊥ = cc in absurd u;
      not_zero = λ e told.
          let o : ℕ = h.0 / 512 in
          let k : ℕ = h.0 % 512 in
          let ou : o < y.unit_sectors = omega (arith, h.1, long) in
          let ku : k < 512 = omega arith in
          let at : 512 * o + k ≡ h.0 = omega arith in
          not-zero y (contents_of g old) cols s n last o k ou ku
          (λ e. h.2 (ap (slice_index sum) (sym at) ∙ (is-sum told o k ou ku ∙ (sym e ∙ (sym (check told o k ou ku) ∙ ap (λ j. slice_index bytes (slice_index places n + j)) at)))));
    }
    go false h = record {
      read = read;
      sums = λ told. subst (λ m. IsSum y (contents_of g old) cols s m sum) all (is-sum told);
      zero = λ e told. zero-from y (contents_of g old) cols s n last (λ o k ou ku. sym (check told o k ou ku) ∙ (sym (h (512 * o + k) (omega (arith, long, ou, ku))) ∙ is-sum told o k ou ku));
      not_zero = λ e. let u : ⊥ = cc in absurd u;
    }
