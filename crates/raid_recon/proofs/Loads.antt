-- A unit that was at hand or was read.
use Rattle.std.proofs.Common.{◌≡◌, ◌≢◌, ◌⊎◌, ℕ, suc, ◌+◌, ◌*◌, ◌-◌, ◌<◌, ◌≤◌, List, length, Bool, true, false, Option, Some, Result, Ok, IfErr, is_ok, inl, inr, sym, ap, ◌∙◌, subst, arith}
use Rattle.std.specs.Prelude.{◌==◌, if◌then◌else◌, slice_index, slice_set}
use Rattle.std.proofs.Math.Nat.{mul-le-mul_left, mul-le-mul_right, mul-add, mul-suc, mul_comm}
use Rattle.blk_disk.specs.declared.disk.Disk.{Ghosts}
use Rattle.blk_disk.specs.Devices.{contents_of, calls_of}
use Rattle.blk_disk.proofs.DeviceLaws.{changes-refl, changes_sector}
use Rattle.lay_core.specs.Layout.{Shape}
use Rattle.eng_cols.specs.declared.spot.Spot.{Spot}
use Rattle.eng_cols.specs.Cols.{ColumnState, InOrder}
use Rattle.eng_cols.specs.Seats.{is_available, seat}
use Rattle.eng_cols.specs.Contents.{sector_at}
use Rattle.raid_recon.specs.declared.ahead.ColumnWindows.{ColumnWindows}
use Rattle.raid_recon.specs.declared.ahead.Rows.{Rows}
use Rattle.raid_recon.specs.declared.kind.FailedAt.{FailedAt}
use Rattle.raid_recon.specs.Turns.{TellsMore, call_if}
use Rattle.raid_recon.specs.Ahead.{AreHands, IsInWindow, IsOutside, byte_in, is_at_hand, rows_at, seat_rows, window_at}
use Rattle.raid_recon.specs.Units.{IsAhead, IsReadInto, LoadsUnit, call_from}
use Rattle.raid_recon.proofs.AtHand.{ahead-same, ahead-later, hit-rows, hit-reads, miss-reads, miss-agrees, miss-holds, rows_at-same, rows_at-other, put-outside, put-inside}
use Rattle.raid_recon.proofs.Backs.{back-refl}
use Rattle.raid_recon.proofs.Bytes.{byte-seat}
use Rattle.raid_recon.proofs.Calls.{tells_more-nil}
use Rattle.raid_recon.proofs.Words.{rows_from}

abbrev nothing : ℕ → ℕ → Type 0
nothing d n = ⊥

ok-same : {A E : Type 0} (a b : A) → (let x : Result A E = Ok a in x) ≡ Ok b → a ≡ b
ok-same a b e = cc

-- a unit at hand stands in its window
pub hit-window : (y : Shape) (windows : ColumnWindows) (c far from : ℕ) → far < windows.most → from ≡ 512 * (y.unit_sectors * (window_at windows c + far)) → IsInWindow y windows c from
hit-window y windows c far from short is =
    let least : y.unit_sectors * window_at windows c ≤ y.unit_sectors * (window_at windows c + far) = mul-le-mul_left y.unit_sectors (omega arith) in
    let last : suc (window_at windows c + far) ≤ window_at windows c + windows.most = omega (arith, short) in
    let sectors : y.unit_sectors * suc (window_at windows c + far) ≤ y.unit_sectors * (window_at windows c + windows.most) = mul-le-mul_left y.unit_sectors last in
    (omega (arith, least, is), omega (arith, sectors, mul-suc y.unit_sectors (window_at windows c + far), is))

-- one that was read stands at the front of its window
pub miss-window : (y : Shape) (windows : ColumnWindows) (c begin : ℕ) → 1 ≤ windows.most → begin ≡ y.unit_sectors * window_at windows c → IsInWindow y windows c (512 * begin)
miss-window y windows c begin some is = hit-window y windows c 0 (512 * begin) some
    (ap (λ n. 512 * n) (is ∙ ap (λ w. y.unit_sectors * w) (let e : window_at windows c ≡ window_at windows c + 0 = omega arith in e)))

-- a read changes no byte outside the window of its column
pub read-outside : {D : Type 0} (g : Ghosts D) (y : Shape) (windows : ColumnWindows) (at : Spot) (old new : List (Option D)) (begin n : ℕ) (before bytes : List ℕ) (good : Bool) → begin ≡ y.unit_sectors * window_at windows at.column → n ≤ windows.most → 512 * begin + 512 * (n * y.unit_sectors) ≤ length before
    → IsReadInto g at y.unit_sectors (n * y.unit_sectors) old new begin before bytes good → (m : ℕ) → IsOutside y windows at.column m → slice_index bytes m ≡ slice_index before m
read-outside g y windows at old new begin n before bytes good start few inside w m outside =
    ap (λ (l : List ℕ). slice_index l m) w.put_is ∙ put-outside before w.part begin m (omega (arith, inside, w.long)) (away outside)
  where
    away : IsOutside y windows at.column m → (m < 512 * begin) ⊎ (512 * begin + length w.part ≤ m)
    away (inl lt) = inl (omega (arith, lt, start))
    away (inr le) =
        let rows : window_at windows at.column + n ≤ window_at windows at.column + windows.most = omega (arith, few) in
        let sectors : y.unit_sectors * (window_at windows at.column + n) ≤ y.unit_sectors * (window_at windows at.column + windows.most) = mul-le-mul_left y.unit_sectors rows in
        inr (omega (arith, le, start, sectors, w.long, mul-add y.unit_sectors (window_at windows at.column) n, mul_comm y.unit_sectors n))

module _ {D : Type 0} (g : Ghosts D) (y : Shape) (windows : ColumnWindows) (cols : List ColumnState) (s i : ℕ) (at : Spot) (sw : s < y.stripes) (iw : i < y.width) (stands : seat y cols s i ≡ Some at) (there : is_available y cols s i ≡ true)
    (rows : ℕ → Rows) (old : List (Option D)) (hands : List Rows) (before : List ℕ) (h : IsAhead g y windows cols s rows old hands before) where
  -- it was at hand
  pub hit-loads : (from : ℕ) → is_at_hand (rows at.device) at.row ≡ true → from ≡ 512 * (y.unit_sectors * (window_at windows at.column + (at.row - (rows at.device).first))) → LoadsUnit g y windows cols s i rows old old hands before (Ok from)
  hit-loads from hand is = record {
    at = at;
    stands = stands;
    same = changes-refl g nothing old;
    told = λ d. subst (TellsMore (calls_of g old d) (calls_of g old d)) (sym (hit-reads y windows at rows hand d)) (tells_more-nil (calls_of g old d));
    ahead = ahead-same g y windows cols s rows (λ d. seat_rows y windows.most (Some at) true d (rows d)) old hands before (hit-rows y windows at rows hand) h;
    unit = λ n e told o k ou ku.
        let place : n + (512 * o + k) ≡ byte_in y windows at (rows at.device).first o k = omega (arith, ok-same from n e, is) in
        ap (slice_index before) place ∙ (h.holds told s i at (omega arith) sw iw stands hand o k ou ku ∙ sym (byte-seat y (contents_of g old) cols s i o k at there stands));
    column = tt;
    cause = λ e. let u : ⊥ = cc in absurd u;
  }

  -- it was read with the rows behind it, or that failed
  module _ (some : 1 ≤ windows.most) (beside : windows.most ≢ 1 → windows.apart ≡ windows.most) (order : InOrder cols) (are : AreHands windows.most hands) (below : at.column < 32) (row : at.row < y.rows) (miss : is_at_hand (rows at.device) at.row ≡ false) (new : List (Option D)) (begin n : ℕ) (bytes : List ℕ) (good : Bool) (count : n ≡ rows_from y windows.most at.row) (start : begin ≡ y.unit_sectors * window_at windows at.column)
      (inside : 512 * begin + 512 * (n * y.unit_sectors) ≤ length before) (w : IsReadInto g at y.unit_sectors (n * y.unit_sectors) old new begin before bytes good) (end : ℕ) (end-is : end ≡ at.row + (if good then rows_from y windows.most at.row else 0)) where
    fits : 512 * begin + length w.part ≤ length before
    fits = omega (arith, inside, w.long)

    here : rows_at (slice_set hands at.column (record { first = at.row; end = end })) at.column ≡ record { first = at.row; end = at.row + (if good then rows_from y windows.most at.row else 0) }
    here = rows_at-same hands at.column _ (omega (arith, below, are.count)) ∙ ap (λ (e : ℕ). let r : Rows = record { first = at.row; end = e } in r) end-is

    part-of : (j k : ℕ) → j < n * y.unit_sectors → k < 512 → slice_index bytes (512 * begin + (512 * j + k)) ≡ slice_index w.part (512 * j + k)
    part-of j k jn ku = ap (λ (l : List ℕ). slice_index l (512 * begin + (512 * j + k))) w.put_is ∙ put-inside before w.part begin (512 * j + k) fits (omega (arith, w.long, jn, ku))

    kept : (m : ℕ) → (m < 512 * (y.unit_sectors * window_at windows at.column)) ⊎ (512 * (y.unit_sectors * (window_at windows at.column + rows_from y windows.most at.row)) ≤ m) → slice_index bytes m ≡ slice_index before m
    kept m (inl lt) = ap (λ (l : List ℕ). slice_index l m) w.put_is ∙ put-outside before w.part begin m fits (inl (omega (arith, lt, start)))
    kept m (inr le) = ap (λ (l : List ℕ). slice_index l m) w.put_is ∙ put-outside before w.part begin m fits (inr (omega (arith, le, start, w.long, ap (λ x. x * y.unit_sectors) count, mul-add y.unit_sectors (window_at windows at.column) (rows_from y windows.most at.row), mul_comm y.unit_sectors (rows_from y windows.most at.row))))

    read : g.tells → good ≡ true → (j k : ℕ) → j < rows_from y windows.most at.row * y.unit_sectors → k < 512 → slice_index bytes (512 * (y.unit_sectors * window_at windows at.column) + (512 * j + k)) ≡ contents_of g old at.device (64 + at.row * y.unit_sectors + j) k
    read told e j k jn ku =
        let jm : j < n * y.unit_sectors = omega (arith, jn, ap (λ x. x * y.unit_sectors) count) in
        ap (slice_index bytes) (omega (arith, start)) ∙ (part-of j k jm ku ∙ w.read.bytes e told j k jm ku)

    now : ℕ → Rows
    now d = seat_rows y windows.most (Some at) good d (rows d)

    ahead-read : IsAhead g y windows cols s (λ d. seat_rows y windows.most (Some at) good d (rows d)) new (slice_set hands at.column (record { first = at.row; end = end })) bytes
    ahead-read = ahead-later g y windows cols cols s s (λ d. seat_rows y windows.most (Some at) good d (rows d)) old new (slice_set hands at.column (record { first = at.row; end = end })) bytes (back-refl y cols) (omega arith)
        (λ told t j o k to le tw jw is ou ku. ap (λ (l : List ℕ). slice_index l k) (changes_sector g nothing old new to.device (sector_at y to o) w.read.same told (λ none. none)))
        (record {
          agrees = miss-agrees y windows some cols order s i at stands rows hands (slice_set hands at.column (record { first = at.row; end = end })) good miss here (λ c ne. rows_at-other hands at.column c _ ne) h.agrees;
          holds = λ told. miss-holds y windows some cols order s i at stands rows hands (slice_set hands at.column (record { first = at.row; end = end })) good miss here (λ c ne. rows_at-other hands at.column c _ ne) h.agrees are.few beside (contents_of g old) before bytes (h.holds told) kept (read told);
        })

    pub miss-loads : (r : Result ℕ FailedAt) → is_ok r ≡ good → ((from : ℕ) → r ≡ Ok from → from ≡ 512 * begin) → IfErr r (λ e. e.column ≡ at.column) → LoadsUnit g y windows cols s i rows old new (slice_set hands at.column (record { first = at.row; end = end })) bytes r
    miss-loads r is from-is column = record {
      at = at;
      stands = stands;
      same = w.read.same;
      told = λ d. subst (TellsMore (calls_of g old d) (calls_of g new d))
          (ap (λ x. call_if (d == at.device) (call_from y.unit_sectors at 0 (x * y.unit_sectors) good)) count
          ∙ sym (ap (λ b. Rattle.raid_recon.specs.Ahead.seat_reads y windows.most (Some at) b d (rows d)) is ∙ miss-reads y windows some cols order s i at stands rows hands (slice_set hands at.column (record { first = at.row; end = end })) good miss here (λ c ne. rows_at-other hands at.column c _ ne) h.agrees d)) (w.read.told d);
      ahead = subst (λ b. IsAhead g y windows cols s (λ d. seat_rows y windows.most (Some at) b d (rows d)) new (slice_set hands at.column (record { first = at.row; end = end })) bytes) (sym is) ahead-read;
      unit = λ from e told o k ou ku.
          let one : 1 ≤ n = omega (arith, count, some, row) in
          let more : 1 * y.unit_sectors ≤ n * y.unit_sectors = mul-le-mul_right y.unit_sectors one in
          let on : o < n * y.unit_sectors = omega (arith, ou, more) in
          let good-is : good ≡ true = sym is ∙ ap is_ok e in
          ap (slice_index bytes) (omega (arith, from-is from e)) ∙ (part-of o k on ku ∙ (w.read.bytes good-is told o k on ku ∙ sym (byte-seat y (contents_of g old) cols s i o k at there stands)));
      column = column;
      cause = λ e. w.read.cause (sym is ∙ e);
    }
