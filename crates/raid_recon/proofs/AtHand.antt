-- What is at hand, and the windows in which it stands.
use Rattle.std.proofs.Common.{◌≡◌, ◌≢◌, ◌⊎◌, ℕ, suc, ◌+◌, ◌*◌, ◌-◌, ◌<◌, ◌≤◌, List, [], ◌++◌, length, length-set, append_assoc, take, drop, Bool, true, false, Option, Some, inl, inr, refl, sym, ap, ◌∙◌, subst, arith}
use Rattle.std.specs.Prelude.{◌==◌, ◌&&◌, not, if◌then◌else◌, slice_index, slice_set}
use Rattle.std.proofs.Math.ListN.{get_or-append}
use Rattle.std.proofs.Math.Seq.{get_or-append_right}
use Rattle.std.proofs.lemmas.List.{get_or-take, get_or-drop, get_or-set_same, get_or-set_other, length-take, drop-drop}
use borrow.Rule.Slice.PartMut.{put_mid}
use Rattle.std.proofs.Math.Nat.{mul-le-mul_left, mul-le-mul_right, mul-add, mul-suc, suc-mul, mul_comm, add-mul}
use Rattle.std.proofs.lemmas.Bool.{cases_eq, cases_lt, cond-true, cond-false, eq-eqb, ne_eqb}
use Rattle.blk_disk.specs.declared.disk.Disk.{Ghosts}
use Rattle.blk_disk.specs.Devices.{contents_of}
use Rattle.blk_disk.specs.Sectors.{put}
use Rattle.lay_core.specs.Layout.{Shape}
use Rattle.eng_cols.specs.declared.spot.Spot.{Spot}
use Rattle.eng_cols.specs.Cols.{ColumnState, Live, Filling, HasDevice, InOrder}
use Rattle.eng_cols.specs.Seats.{seat}
use Rattle.eng_cols.specs.Contents.{Contents, byte_at}
use Rattle.eng_cols.proofs.Spots.{seat-device}
use Rattle.raid_recon.specs.declared.ahead.ColumnWindows.{ColumnWindows}
use Rattle.raid_recon.specs.declared.ahead.Rows.{Rows}
use Rattle.raid_recon.specs.Turns.{call_if}
use Rattle.raid_recon.specs.Ahead.{Agrees, AreHands, Holds, byte_in, is_at_hand, no_rows, rows_at, seat_rows, seat_reads, window_at}
use Rattle.raid_recon.specs.Units.{IsAhead}
use Rattle.raid_recon.proofs.Backs.{Back}
use Rattle.raid_recon.proofs.Words.{ahead_call, rows_from}

-- a row at hand lies behind the first of the read and before its end
pub at_hand-is : (rows : Rows) (row : ℕ) → is_at_hand rows row ≡ true → (rows.first < row) × (row < rows.end)
at_hand-is rows row h = search (arith, h)

-- a column has one device
pub device-one : (cols : List ColumnState) (c d e : ℕ) → HasDevice cols c d → HasDevice cols c e → d ≡ e
device-one cols c d e (inl a) (inl b) = let z : Some (Live d) ≡ Some (Live e) = sym a ∙ b in let s : d ≡ e = cc in s
device-one cols c d e (inl a) (inr b) = let z : Some (Live d) ≡ Some (Filling e b.0) = sym a ∙ b.1 in absurd (let u : ⊥ = cc in u)
device-one cols c d e (inr a) (inl b) = let z : Some (Filling d a.0) ≡ Some (Live e) = sym a.1 ∙ b in absurd (let u : ⊥ = cc in u)
device-one cols c d e (inr a) (inr b) = let z : Some (Filling d a.0) ≡ Some (Filling e b.0) = sym a.1 ∙ b.1 in let s : d ≡ e = cc in s

-- the windows of two columns lie apart
pub windows-apart : (u wide a b i o k n : ℕ) → a ≢ b → i < wide → o < u → k < 512 → n ≤ wide
    → (512 * (u * (a * wide + i) + o) + k < 512 * (u * (b * wide))) ⊎ (512 * (u * (b * wide + n)) ≤ 512 * (u * (a * wide + i) + o) + k)
windows-apart u wide a b i o k n apart im ou ku nm = elim (cases_lt a b) [
  | inl lt ↦
      let rows : suc a * wide ≤ b * wide = mul-le-mul_right wide lt in
      let last : suc (a * wide + i) ≤ b * wide = omega (arith, rows, suc-mul a wide, im) in
      let most-of : u * suc (a * wide + i) ≤ u * (b * wide) = mul-le-mul_left u last in
      inl (omega (arith, most-of, mul-suc u (a * wide + i), ou, ku))
  | inr le ↦
      let lt : suc b ≤ a = omega (arith, le, apart) in
      let rows : suc b * wide ≤ a * wide = mul-le-mul_right wide lt in
      let last : b * wide + n ≤ a * wide + i = omega (arith, rows, suc-mul b wide, nm) in
      let most-of : u * (b * wide + n) ≤ u * (a * wide + i) = mul-le-mul_left u last in
      inr (omega (arith, most-of))
]

-- rows that are the same are at hand alike
pub ahead-same : {D : Type 0} (g : Ghosts D) (y : Shape) (windows : ColumnWindows) (cols : List ColumnState) (s : ℕ) (rows now : ℕ → Rows) (devices : List (Option D)) (hands : List Rows) (bytes : List ℕ) → ((d : ℕ) → now d ≡ rows d)
    → IsAhead g y windows cols s rows devices hands bytes → IsAhead g y windows cols s now devices hands bytes
ahead-same g y windows cols s rows now devices hands bytes same h = record {
  agrees = λ c d has. h.agrees c d has ∙ sym (same d);
  holds = λ told t i at le tw iw is hand o k ou ku.
      ap (λ (r : Rows). slice_index bytes (byte_in y windows at r.first o k)) (same at.device)
      ∙ h.holds told t i at le tw iw is (ap (λ r. is_at_hand r at.row) (sym (same at.device)) ∙ hand) o k ou ku;
}

-- where one row alone is read none is at hand, so that any bytes hold what is
pub ahead-alone : {D : Type 0} (g : Ghosts D) (y : Shape) (windows : ColumnWindows) (cols : List ColumnState) (s : ℕ) (rows : ℕ → Rows) (devices : List (Option D)) (hands : List Rows) (bytes others : List ℕ) → windows.most ≡ 1 → AreHands windows.most hands
    → IsAhead g y windows cols s rows devices hands bytes → IsAhead g y windows cols s rows devices hands others
ahead-alone g y windows cols s rows devices hands bytes others one are h = record {
  agrees = h.agrees;
  holds = λ told t i at le tw iw is hand o k ou ku.
      let within = at_hand-is (rows at.device) at.row hand in
      let short : (rows at.device).end ≤ (rows at.device).first + windows.most = subst (λ (r : Rows). r.end ≤ r.first + windows.most) (h.agrees at.column at.device (seat-device y cols t i at is)) (are.few at.column) in
      absurd (omega (arith, within.0, within.1, short, one));
}

-- fewer columns, later stripes, and devices that hold the same of these
pub ahead-later : {D : Type 0} (g : Ghosts D) (y : Shape) (windows : ColumnWindows) (old new : List ColumnState) (s r : ℕ) (rows : ℕ → Rows) (devices after : List (Option D)) (hands : List Rows) (bytes : List ℕ) → Back y new old → s ≤ r
    → (g.tells → (t i o k : ℕ) (at : Spot) → r ≤ t → t < y.stripes → i < y.width → seat y old t i ≡ Some at → o < y.unit_sectors → k < 512 → byte_at y (contents_of g after) at o k ≡ byte_at y (contents_of g devices) at o k)
    → IsAhead g y windows old s rows devices hands bytes → IsAhead g y windows new r rows after hands bytes
ahead-later g y windows old new s r rows devices after hands bytes back later same h = record {
  agrees = λ c d has. h.agrees c d (back.devices c d has);
  holds = λ told t i at le tw iw is hand o k ou ku.
      h.holds told t i at (omega (arith, later, le)) tw iw (back.seats t i at is) hand o k ou ku
      ∙ sym (same told t i o k at le tw iw (back.seats t i at is) ou ku);
}

-- ## A unit that is at hand

module _ (y : Shape) (windows : ColumnWindows) (at : Spot) (rows : ℕ → Rows) (hand : is_at_hand (rows at.device) at.row ≡ true) where
  pub hit-rows : (d : ℕ) → seat_rows y windows.most (Some at) true d (rows d) ≡ rows d
  hit-rows d = elim (cases_eq d at.device) [
    | inl e ↦ cond-true (d == at.device) _ (rows d) (eq-eqb d at.device e) ∙ cond-true (is_at_hand (rows d) at.row) (rows d) _ (ap (λ q. is_at_hand (rows q) at.row) e ∙ hand)
    | inr ne ↦ cond-false (d == at.device) _ (rows d) (ne_eqb d at.device ne)
  ]

  -- no call is made
  pub hit-reads : (d : ℕ) → seat_reads y windows.most (Some at) true d (rows d) ≡ []
  hit-reads d = elim (cases_eq d at.device) [
    | inl e ↦ ap (λ b. call_if ((d == at.device) && not b) (ahead_call y windows.most at true)) (ap (λ q. is_at_hand (rows q) at.row) e ∙ hand) ∙ ap (λ b. call_if b (ahead_call y windows.most at true)) (none (d == at.device))
    | inr ne ↦ ap (λ b. call_if (b && not (is_at_hand (rows d) at.row)) (ahead_call y windows.most at true)) (ne_eqb d at.device ne)
  ]
    where
      none : (b : Bool) → (b && not true) ≡ false
      none true = refl
      none false = refl

-- ## A unit that is read

module _ (y : Shape) (windows : ColumnWindows) (some : 1 ≤ windows.most) (cols : List ColumnState) (order : InOrder cols) (s i : ℕ) (at : Spot) (stands : seat y cols s i ≡ Some at) (rows : ℕ → Rows) (hands after : List Rows) (good : Bool)
    (miss : is_at_hand (rows at.device) at.row ≡ false) (here : rows_at after at.column ≡ record { first = at.row; end = at.row + (if good then rows_from y windows.most at.row else 0) }) (there : (c : ℕ) → c ≢ at.column → rows_at after c ≡ rows_at hands c) (agrees : Agrees cols rows hands) where
  has : HasDevice cols at.column at.device
  has = seat-device y cols s i at stands

  pub miss-here : (d : ℕ) → d ≡ at.device → seat_rows y windows.most (Some at) good d (rows d) ≡ record { first = at.row; end = at.row + (if good then rows_from y windows.most at.row else 0) }
  miss-here d e = cond-true (d == at.device) _ (rows d) (eq-eqb d at.device e) ∙ cond-false (is_at_hand (rows d) at.row) (rows d) _ (ap (λ q. is_at_hand (rows q) at.row) e ∙ miss)

  pub miss-there : (d : ℕ) → d ≢ at.device → seat_rows y windows.most (Some at) good d (rows d) ≡ rows d
  miss-there d ne = cond-false (d == at.device) _ (rows d) (ne_eqb d at.device ne)

  -- one call is made
  pub miss-reads : (d : ℕ) → seat_reads y windows.most (Some at) good d (rows d) ≡ call_if (d == at.device) (ahead_call y windows.most at good)
  miss-reads d = elim (cases_eq d at.device) [
    | inl e ↦ ap (λ b. call_if ((d == at.device) && not b) (ahead_call y windows.most at good)) (ap (λ q. is_at_hand (rows q) at.row) e ∙ miss) ∙ ap (λ b. call_if b (ahead_call y windows.most at good)) (same (d == at.device))
    | inr ne ↦ ap (λ b. call_if (b && not (is_at_hand (rows d) at.row)) (ahead_call y windows.most at good)) (ne_eqb d at.device ne) ∙ sym (ap (λ b. call_if b (ahead_call y windows.most at good)) (ne_eqb d at.device ne))
  ]
    where
      same : (b : Bool) → (b && not false) ≡ b
      same true = refl
      same false = refl

  pub miss-agrees : Agrees cols (λ d. seat_rows y windows.most (Some at) good d (rows d)) after
  miss-agrees c d h = elim (cases_eq d at.device) [
    | inl e ↦ ap (rows_at after) (order.one_column c at.column d h (subst (HasDevice cols at.column) (sym e) has)) ∙ here ∙ sym (miss-here d e)
    | inr ne ↦ there c (λ k. ne (device-one cols at.column d at.device (subst (λ x. HasDevice cols x d) k h) has)) ∙ agrees c d h ∙ sym (miss-there d ne)
  ]

  module _ (few : (c : ℕ) → (rows_at hands c).end ≤ (rows_at hands c).first + windows.most) (beside : windows.most ≢ 1 → windows.apart ≡ windows.most) (C : Contents) (before bytes : List ℕ) (was : Holds y windows C cols s rows before)
      (kept : (n : ℕ) → (n < 512 * (y.unit_sectors * window_at windows at.column)) ⊎ (512 * (y.unit_sectors * (window_at windows at.column + rows_from y windows.most at.row)) ≤ n) → slice_index bytes n ≡ slice_index before n)
      (read : good ≡ true → (j k : ℕ) → j < rows_from y windows.most at.row * y.unit_sectors → k < 512 → slice_index bytes (512 * (y.unit_sectors * window_at windows at.column) + (512 * j + k)) ≡ C at.device (64 + at.row * y.unit_sectors + j) k) where
    u : ℕ
    u = y.unit_sectors

    -- the rows that were read
    fresh : (to : Spot) (o k : ℕ) → to.device ≡ at.device → to.column ≡ at.column → (b : Bool) → b ≡ good → at.row < to.row → to.row < at.row + (if b then rows_from y windows.most at.row else 0) → o < y.unit_sectors → k < 512
        → slice_index bytes (byte_in y windows to at.row o k) ≡ byte_at y C to o k
    unfolding u
    fresh to o k device column false e low high ou ku = absurd (omega (arith, low, high))
    fresh to o k device column true e low high ou ku =
        let far : ℕ = to.row - at.row in
        let m : ℕ = rows_from y windows.most at.row in
        let less : suc far ≤ m = omega (arith, low, high) in
        let rows-less : suc far * u ≤ m * u = mul-le-mul_right u less in
        let inside : u * far + o < m * u = omega (arith, rows-less, suc-mul far u, mul_comm u far, ou) in
        let place : byte_in y windows to at.row o k ≡ 512 * (u * window_at windows at.column) + (512 * (u * far + o) + k) =
        ap (λ c. 512 * (u * (window_at windows c + far) + o) + k) column ∙ omega (arith, mul-add u (window_at windows at.column) far) in
        let row : to.row ≡ at.row + far = omega (arith, low) in
        let sector : 64 + at.row * u + (u * far + o) ≡ 64 + to.row * u + o = omega (arith, ap (λ n. n * u) row, add-mul at.row far u, mul_comm u far) in
        ap (slice_index bytes) place ∙ (read (sym e) (u * far + o) k inside ku ∙ (ap (λ n. C at.device n k) sector ∙ ap (λ d. C d (64 + to.row * u + o) k) (sym device)))

    -- the rows of another column
    others : (t j : ℕ) (to : Spot) (o k : ℕ) → s ≤ t → t < y.stripes → j < y.width → seat y cols t j ≡ Some to → to.device ≢ at.device → is_at_hand (rows to.device) to.row ≡ true → o < y.unit_sectors → k < 512
        → slice_index bytes (byte_in y windows to (rows to.device).first o k) ≡ byte_at y C to o k
    others t j to o k le tw jw is ne hand ou ku = kept (byte_in y windows to (rows to.device).first o k) away ∙ was t j to le tw jw is hand o k ou ku
      where
        apart : to.column ≢ at.column
        apart e = ne (device-one cols at.column to.device at.device (subst (λ c. HasDevice cols c to.device) e (seat-device y cols t j to is)) has)

        within : ((rows to.device).first < to.row) × (to.row < (rows to.device).end)
        within = at_hand-is (rows to.device) to.row hand

        short : (rows to.device).end ≤ (rows to.device).first + windows.most
        short = subst (λ (r : Rows). r.end ≤ r.first + windows.most) (agrees to.column to.device (seat-device y cols t j to is)) (few to.column)

        far : ℕ
        far = to.row - (rows to.device).first

        away : (byte_in y windows to (rows to.device).first o k < 512 * (y.unit_sectors * window_at windows at.column)) ⊎ (512 * (y.unit_sectors * (window_at windows at.column + rows_from y windows.most at.row)) ≤ byte_in y windows to (rows to.device).first o k)
        away = elim (cases_eq windows.most 1) [
          | inl e ↦ absurd (omega (arith, within.0, within.1, short, e))
          | inr many ↦
              let side : windows.most ≤ windows.apart = omega (arith, beside many) in
              let less : to.row - (rows to.device).first < windows.most = omega (arith, within.0, within.1, short) in
              windows-apart y.unit_sectors windows.apart to.column at.column (to.row - (rows to.device).first) o k (rows_from y windows.most at.row) apart (omega (arith, less, side)) ou ku (omega (arith, side))
        ]

    pub miss-holds : Holds y windows C cols s (λ d. seat_rows y windows.most (Some at) good d (rows d)) bytes
    miss-holds t j to le tw jw is hand o k ou ku = elim (cases_eq to.device at.device) [
      | inl e ↦
          let now = at_hand-is _ to.row (ap (λ r. is_at_hand r to.row) (sym (miss-here to.device e)) ∙ hand) in
          let column = order.one_column to.column at.column to.device (seat-device y cols t j to is) (subst (HasDevice cols at.column) (sym e) has) in
          ap (λ (r : Rows). slice_index bytes (byte_in y windows to r.first o k)) (miss-here to.device e) ∙ fresh to o k e column good refl now.0 now.1 ou ku
      | inr ne ↦
          ap (λ (r : Rows). slice_index bytes (byte_in y windows to r.first o k)) (miss-there to.device ne)
          ∙ others t j to o k le tw jw is ne (ap (λ r. is_at_hand r to.row) (sym (miss-there to.device ne)) ∙ hand) ou ku
    ]

-- ## The entries of the columns

pub rows_at-same : (hands : List Rows) (k : ℕ) (r : Rows) → k < length hands → rows_at (slice_set hands k r) k ≡ r
rows_at-same hands k r lt = get_or-set_same hands k r no_rows lt

pub rows_at-other : (hands : List Rows) (k c : ℕ) (r : Rows) → c ≢ k → rows_at (slice_set hands k r) c ≡ rows_at hands c
rows_at-other hands k c r ne = get_or-set_other hands k c r no_rows ne

pub hands-set : (most : ℕ) (hands : List Rows) (k : ℕ) (r : Rows) → k < 32 → r.end ≤ r.first + most → AreHands most hands → AreHands most (slice_set hands k r)
hands-set most hands k r lt short h = record {
  count = length-set hands k r ∙ h.count;
  few = λ c. elim (cases_eq c k) [
    | inl e ↦ subst (λ (x : Rows). x.end ≤ x.first + most) (sym (ap (rows_at (slice_set hands k r)) e ∙ rows_at-same hands k r (omega (arith, lt, h.count)))) short
    | inr ne ↦ subst (λ (x : Rows). x.end ≤ x.first + most) (sym (rows_at-other hands k c r ne)) (h.few c)
  ];
}

-- ## Bytes of which a part was changed

-- the part stands between what is before it and what is behind it
parted : (bytes part : List ℕ) (first n : ℕ) → slice_index (put bytes first part) n ≡ slice_index (take (512 * first) bytes ++ (part ++ drop (512 * first + length part) bytes)) n
parted bytes part first n = ap (λ (l : List ℕ). slice_index l n) (append_assoc (take (512 * first) bytes) part (drop (512 * first + length part) bytes))

pub put-outside : (bytes part : List ℕ) (first n : ℕ) → 512 * first + length part ≤ length bytes → (n < 512 * first) ⊎ (512 * first + length part ≤ n) → slice_index (put bytes first part) n ≡ slice_index bytes n
put-outside bytes part first n fits (inl lt) =
    parted bytes part first n
    ∙ (get_or-append (take (512 * first) bytes) (part ++ drop (512 * first + length part) bytes) 0 n (omega (arith, lt, fits, length-take (512 * first) bytes))
    ∙ get_or-take (512 * first) bytes n 0 lt)
put-outside bytes part first n fits (inr le) =
    let long : length (take (512 * first) bytes) ≡ 512 * first = omega (arith, fits, length-take (512 * first) bytes) in
    let at : 512 * first + length part + (n - length (take (512 * first) bytes) - length part) ≡ n = omega (arith, long, le) in
    parted bytes part first n
    ∙ (get_or-append_right (take (512 * first) bytes) (part ++ drop (512 * first + length part) bytes) n 0 (omega (arith, long, le))
    ∙ (get_or-append_right part (drop (512 * first + length part) bytes) (n - length (take (512 * first) bytes)) 0 (omega (arith, long, le))
    ∙ (get_or-drop (512 * first + length part) bytes (n - length (take (512 * first) bytes) - length part) 0
    ∙ ap (slice_index bytes) at)))

pub put-inside : (bytes part : List ℕ) (first n : ℕ) → 512 * first + length part ≤ length bytes → n < length part → slice_index (put bytes first part) (512 * first + n) ≡ slice_index part n
put-inside bytes part first n fits lt =
    let long : length (take (512 * first) bytes) ≡ 512 * first = omega (arith, fits, length-take (512 * first) bytes) in
    let at : 512 * first + n - length (take (512 * first) bytes) ≡ n = omega (arith, long) in
    parted bytes part first (512 * first + n)
    ∙ (get_or-append_right (take (512 * first) bytes) (part ++ drop (512 * first + length part) bytes) (512 * first + n) 0 (omega (arith, long))
    ∙ (ap (slice_index (part ++ drop (512 * first + length part) bytes)) at
    ∙ get_or-append part (drop (512 * first + length part) bytes) 0 n lt))

-- what a call has changed that was given a part
pub put_mid-put : (bytes part : List ℕ) (first k : ℕ) → k ≡ length part → put_mid (512 * first) k bytes part ≡ put bytes first part
put_mid-put bytes part first k is =
    ap (λ l. take (512 * first) bytes ++ (part ++ l)) (drop-drop k (512 * first) bytes ∙ ap (λ m. drop (512 * first + m) bytes) is)
    ∙ sym (append_assoc (take (512 * first) bytes) part (drop (512 * first + length part) bytes))
