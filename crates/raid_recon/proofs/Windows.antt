-- A room has the windows that are made of it.
use Rattle.std.proofs.Common.{◌≡◌, ◌≢◌, ℕ, suc, ◌+◌, ◌*◌, ◌-◌, ◌/◌, ◌<◌, ◌≤◌, List, length, replicate, true, Option, inl, inr, sym, ap, ◌∙◌, subst, arith}
use Rattle.std.proofs.Math.Nat.{mul-le-mul_left, mul-le-mul_right, suc-mul, mul_assoc, div-mul-le_self, mul-div-le}
use Rattle.std.proofs.lemmas.Bool.{cases_eq, cases_lt}
use Rattle.std.proofs.lemmas.List.{get_or-replicate, get_or_past, length-replicate}
use Rattle.blk_disk.specs.declared.disk.Disk.{Ghosts}
use Rattle.lay_core.specs.Layout.{Shape, IsLayout}
use Rattle.eng_cols.specs.Cols.{ColumnState}
use Rattle.raid_recon.specs.declared.ahead.ColumnWindows.{ColumnWindows}
use Rattle.raid_recon.specs.declared.ahead.Rows.{Rows}
use Rattle.raid_recon.specs.Ahead.{AreHands, HasWindows, is_at_hand, no_rows, rows_ahead, rows_apart, rows_at, window_at}
use Rattle.raid_recon.specs.Units.{IsAhead}

-- where all columns have one window
pub one-window : (y : Shape) (windows : ColumnWindows) (rest : ℕ) → IsLayout y → windows.most ≡ 1 → windows.apart ≡ 0 → 512 * y.unit_sectors ≤ rest → HasWindows y windows rest
one-window y windows rest layout one none fits = record {
  some = omega (arith, one);
  few = let same : windows.most * y.unit_sectors ≡ 1 * y.unit_sectors = ap (λ n. n * y.unit_sectors) one in omega (arith, same, layout.unit_most);
  shared = λ e. one;
  beside = λ ne. absurd (ne none);
  within = λ c lt.
      let first : c * windows.apart ≡ c * 0 = ap (λ n. c * n) none in
      let place : c * windows.apart + windows.most ≡ 1 = omega (arith, first, one) in
      let sectors : y.unit_sectors * (c * windows.apart + windows.most) ≡ y.unit_sectors * 1 = ap (λ n. y.unit_sectors * n) place in
      omega (arith, sectors, fits);
}

-- where each has its own
beside-fit : (y : Shape) (windows : ColumnWindows) (bytes rest : ℕ) → IsLayout y → windows.most ≡ rows_ahead y bytes → windows.apart ≡ rows_apart y.unit_sectors y.columns bytes → windows.apart ≢ 0 → rest ≡ bytes - 512 * y.unit_sectors → HasWindows y windows rest
beside-fit y windows bytes rest layout rows apart some is =
    let u = y.unit_sectors in
    let m = windows.most in
    let same : windows.apart ≡ m = omega (arith, rows, apart, some) in
    let short : m ≤ 128 / u = omega (arith, apart, same) in
    let room : m ≤ (bytes - 512 * u) / (512 * u * y.columns) = omega (arith, apart, same) in
    let sectors : m * u ≤ 128 / u * u = mul-le-mul_right u short in
    let all : 512 * u * y.columns * m ≤ 512 * u * y.columns * ((bytes - 512 * u) / (512 * u * y.columns)) = mul-le-mul_left (512 * u * y.columns) room in
    record {
      some = omega (arith, same, some);
      few = omega (arith, sectors, div-mul-le_self 128 u);
      shared = λ e. absurd (some e);
      beside = λ ne. same;
      within = λ c lt.
          let begin : c * windows.apart ≡ c * m = ap (λ n. c * n) same in
          let row : suc c * m ≤ y.columns * m = mul-le-mul_right m lt in
          let last : c * windows.apart + m ≤ y.columns * m = omega (arith, begin, row, suc-mul c m) in
          let rows : u * (c * windows.apart + m) ≤ u * (y.columns * m) = mul-le-mul_left u last in
          let whole : 512 * u * y.columns * m ≡ 512 * (u * (y.columns * m)) = ap (λ x. x * m) (mul_assoc 512 u y.columns) ∙ (mul_assoc 512 (u * y.columns) m ∙ ap (λ x. 512 * x) (mul_assoc u y.columns m)) in
          omega (arith, rows, whole, all, mul-div-le (bytes - 512 * u) (512 * u * y.columns), is);
    }

pub windows-by : (y : Shape) (windows : ColumnWindows) (bytes rest : ℕ) → IsLayout y → 1024 * y.unit_sectors ≤ bytes → windows.most ≡ rows_ahead y bytes → windows.apart ≡ rows_apart y.unit_sectors y.columns bytes → rest ≡ bytes - 512 * y.unit_sectors → HasWindows y windows rest
windows-by y windows bytes rest layout fits rows apart is = elim (cases_eq windows.apart 0) [
  | inl e ↦ one-window y windows rest layout (omega (arith, rows, apart, e)) e (omega (arith, fits, is))
  | inr ne ↦ beside-fit y windows bytes rest layout rows apart ne is
]

-- the windows lie no further apart than 64 KiB have rows
pub apart-few : (y : Shape) (windows : ColumnWindows) (bytes : ℕ) → IsLayout y → HasWindows y windows bytes → windows.apart ≤ 128
apart-few y windows bytes layout has = elim (cases_eq windows.apart 0) [
  | inl e ↦ omega (arith, e)
  | inr ne ↦
      let least : windows.most * 1 ≤ windows.most * y.unit_sectors = mul-le-mul_left windows.most layout.unit_least in
      omega (arith, least, has.few, has.beside ne)
]

-- nor any row of them
pub row-few : (y : Shape) (windows : ColumnWindows) (bytes c far : ℕ) → IsLayout y → HasWindows y windows bytes → c < y.columns → far < windows.most → window_at windows c + far < 4096
row-few y windows bytes c far layout has lt short =
    let begin : c * windows.apart ≤ c * 128 = mul-le-mul_left c (apart-few y windows bytes layout has) in
    let least : windows.most * 1 ≤ windows.most * y.unit_sectors = mul-le-mul_left windows.most layout.unit_least in
    omega (arith, begin, lt, layout.columns_most, short, least, has.few)

-- where a call reads several rows they lie side by side
pub many-beside : (y : Shape) (windows : ColumnWindows) (bytes : ℕ) → HasWindows y windows bytes → windows.most ≢ 1 → windows.apart ≡ windows.most
many-beside y windows bytes has many = has.beside (λ e. many (has.shared e))

pub no-hands : (hands : List Rows) → hands ≡ replicate 32 no_rows → (c : ℕ) → rows_at hands c ≡ no_rows
no-hands hands is c = ap (λ (l : List Rows). rows_at l c) is ∙ elim (cases_lt c 32) [
  | inl lt ↦ get_or-replicate 32 c no_rows no_rows lt
  | inr le ↦ get_or_past (replicate 32 no_rows) c no_rows (omega (arith, le, length-replicate 32 no_rows))
]

pub are-hands : (most : ℕ) (hands : List Rows) → hands ≡ replicate 32 no_rows → AreHands most hands
are-hands most hands is = record {
  count = ap length is ∙ length-replicate 32 no_rows;
  few = λ c. subst (λ (r : Rows). r.end ≤ r.first + most) (sym (no-hands hands is c)) (omega arith);
}

-- a call reads a row at least, and 64 KiB at most
pub rows-few : (y : Shape) (bytes : ℕ) → IsLayout y → (1 ≤ rows_ahead y bytes) × (rows_ahead y bytes * y.unit_sectors ≤ 128)
rows-few y bytes layout = (
  omega arith,
  elim (cases_lt 1 (rows_ahead y bytes)) [
    | inr le ↦ let m : 1 ≡ rows_ahead y bytes = omega (arith, le) in subst (λ m. m * y.unit_sectors ≤ 128) m (omega (arith, layout.unit_most))
    | inl many ↦
        let short : rows_ahead y bytes ≤ 128 / y.unit_sectors = omega (arith, many) in
        let sectors : rows_ahead y bytes * y.unit_sectors ≤ 128 / y.unit_sectors * y.unit_sectors = mul-le-mul_right y.unit_sectors short in
        omega (arith, sectors, div-mul-le_self 128 y.unit_sectors)
  ],
)

-- at first nothing is at hand
pub none-ahead : {D : Type 0} (g : Ghosts D) (y : Shape) (windows : ColumnWindows) (cols : List ColumnState) (s : ℕ) (devices : List (Option D)) (hands : List Rows) (bytes : List ℕ) → hands ≡ replicate 32 no_rows → IsAhead g y windows cols s (λ d. no_rows) devices hands bytes
none-ahead g y windows cols s devices hands bytes is = record {
  agrees = λ c d has. no-hands hands is c;
  holds = λ told t i at le tw iw stands hand o k ou ku. let at_hand : is_at_hand no_rows at.row ≡ true = hand in absurd (search (arith, at_hand));
}
