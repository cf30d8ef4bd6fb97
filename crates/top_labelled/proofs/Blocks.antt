-- The blocks of an array that was begun.
use Rattle.std.proofs.Common.{◌≡◌, ◌≢◌, ◌⊎◌, inl, inr, ℕ, suc, ◌<◌, List, true, false, Option, sym, ◌∙◌, ap, subst, arith}
use Rattle.std.specs.Prelude.{bit_xor, slice_index}
use Rattle.std.proofs.lemmas.Bool.{cases_Bool, cases_eq, cond-true, cond-false}
use Rattle.blk_disk.specs.declared.disk.Disk.{Ghosts}
use Rattle.blk_disk.specs.Devices.{Changes, contents_of}
use Rattle.blk_disk.proofs.DeviceLaws.{changes_sector}
use Rattle.lay_core.specs.Layout.{Shape, IsLayout, Blocks, blocks_in, data_units, stripe_of, unit_of, offset_of}
use Rattle.lay_core.proofs.Numbering.{unit_of-below, offset_of-below, stripe_of-below}
use Rattle.eng_cols.specs.declared.column.Column.{Column}
use Rattle.eng_cols.specs.Cols.{ColumnState}
use Rattle.eng_cols.specs.Seats.{is_available}
use Rattle.eng_cols.specs.Lost.{NotLost}
use Rattle.eng_cols.specs.Contents.{Contents, AnyStripe, InSync, byte_of, decode, xor_others}
use Rattle.eng_cols.proofs.Decoding.{agrees-decode, agrees-only}
use Rattle.eng_cols.proofs.Sums.{below_one, others_more, others_same, xor_twice}
use Rattle.eng_cols.specs.Stripes.{states_of}
use Rattle.raid_recon.specs.Array.{IsArray, IsComplete}
use Rattle.raid_recon.specs.Ends.{ChecksHold}
use Rattle.raid_recon.specs.Sums.{HoldsSum}
use Rattle.raid_recon.proofs.Frames.{byte-same, check-alone, last-unit}
use Rattle.raid_recon.proofs.Places.{spot-seat}
use Rattle.top_close.specs.Dying.{OnlyDie, HoldSame}
use Rattle.top_close.proofs.DyingLaws.{agrees_by_devices, lost_no_less, still_agrees, unit_back}
use Rattle.top_acts.specs.Begun.{MayBegin, MaySweep}
use Rattle.top_acts.specs.Sweeps.{Sweeps, Nothing, Over, Marked, Notice, Round, Marks}
use Rattle.top_acts.proofs.Later.{OfCheck, of_check}
use Rattle.top_labelled.specs.Words.{sums_of_others}
use Rattle.eng_cols.proofs.Words.{byte_if}

-- ## What may have changed as it was begun

module _ {D : Type 0} (g : Ghosts D) (y : Shape) (columns : List Column) (old : List (Option D)) where
  swept-check : (sweep : Sweeps) (d n : ℕ) → MaySweep g sweep y columns old d n → (y.checks ≡ 1) × OfCheck g y columns d n
  swept-check Nothing d n never = absurd never
  swept-check (Over kind) d n h = (h.0, of_check g y (Over kind) columns old d n h)
  swept-check (Marked marks) d n h = (h.0, of_check g y (Marked marks) columns old d n h)

  pub may-check : (notice : Notice) (sweep : Sweeps) (d n : ℕ) → MayBegin g notice sweep y columns old d n → (n < 64) ⊎ ((y.checks ≡ 1) × OfCheck g y columns d n)
  may-check Round sweep d n (inl first) = let e = first.kept in inl (omega (arith, e))
  may-check Round sweep d n (inr swept) = inr (swept-check sweep d n swept)
  may-check (Marks map) sweep d n (inl kept) = inl (elim kept.kept [ inl label ↦ omega (arith, label) | inr second ↦ omega (arith, second) ])
  may-check (Marks map) sweep d n (inr swept) = inr (swept-check sweep d n swept)

  -- where nothing was swept
  pub may-low : (notice : Notice) (d n : ℕ) → MayBegin g notice Nothing y columns old d n → n < 64
  may-low Round d n (inl first) = let e = first.kept in omega (arith, e)
  may-low Round d n (inr never) = absurd never
  may-low (Marks map) d n (inl kept) = elim kept.kept [ inl label ↦ omega (arith, label) | inr second ↦ omega (arith, second) ]
  may-low (Marks map) d n (inr never) = absurd never

-- ## The blocks

module _ {D : Type 0} (g : Ghosts D) (y : Shape) (layout : IsLayout y) (columns after : List Column) (old new : List (Option D)) (array : IsArray g y columns old)
    (die : OnlyDie (states_of y columns) (states_of y after)) (kept : NotLost y (states_of y after)) (tells : g.tells) where
  abbrev cols : List ColumnState
  cols = states_of y columns

  abbrev late : List ColumnState
  late = states_of y after

  abbrev held : Contents
  held = contents_of g old

  abbrev holds : Contents
  holds = contents_of g new

  -- ## Where nothing was swept

  module _ (frame : Changes g (λ d n. n < 64) old new) (sync : InSync y held cols) where
    same-rows : HoldSame cols held holds
    same-rows c d n k has from = ap (λ (l : List ℕ). slice_index l k) (changes_sector g (λ d n. n < 64) old new d n frame tells (λ low. omega (arith, from, low)))

    pub same-blocks : (b k : ℕ) → b < blocks_in y → k < 512 → decode y holds late b k ≡ decode y held cols b k
    same-blocks b k bl kl =
        let blocks : Blocks = decode y held cols in
        let agrees = agrees-decode y held cols layout (lost_no_less y cols late die kept) sync in
        let moved = agrees_by_devices y held holds cols blocks AnyStripe same-rows agrees in
        let dead = still_agrees y cols late die holds blocks AnyStripe moved in
        sym (agrees-only y holds late layout kept blocks dead b k bl kl)

  -- ## Where check units were swept

  -- a sector before the rows, or one of the check unit of a stripe that lacked no unit
  abbrev pub MayCheck : ℕ → ℕ → Type 0
  MayCheck d n = (n < 64) ⊎ ((y.checks ≡ 1) × OfCheck g y columns d n)

  module _ (frame : Changes g MayCheck old new) (checks : y.checks ≡ 1 → ChecksHold g y columns after old new) (b : ℕ) (below : b < blocks_in y) where
    abbrev s : ℕ
    s = stripe_of y b

    abbrev i : ℕ
    i = unit_of y b

    abbrev o : ℕ
    o = offset_of y b

    abbrev d : ℕ
    d = data_units y

    abbrev sw : s < y.stripes
    sw = stripe_of-below y layout b below

    abbrev id : i < d
    id = unit_of-below y layout b

    abbrev ou : o < y.unit_sectors
    ou = offset_of-below y layout b

    -- a byte of before, and of now, by the columns of before
    abbrev was : ℕ → ℕ → ℕ
    was k j = byte_of y held cols s j o k

    abbrev is : ℕ → ℕ → ℕ
    is k j = byte_of y holds cols s j o k

    -- a unit that isn't the check unit of a stripe that lacked none is what it was
    unit-same : (j k : ℕ) → j < y.width → (j ≡ d → IsComplete y cols s → ⊥) → is k j ≡ was k j
    unit-same j k jw away =
        byte-same g MayCheck old new y cols s j o k frame tells
        (λ at stands may. elim may [
          | inl low ↦ omega (arith, low)
          | inr swept ↦
              let turn : OfCheck g y columns at.device _ = swept.1 in
              let same = check-alone y cols layout array.order swept.0 turn.stripe s j o at turn.within sw jw ou stands turn.sector in
              away same.1 (subst (λ (t : ℕ). IsComplete y cols t) (sym same.0) turn.complete)
        ])

    -- where a unit is available it was, and its byte is that by the columns of before
    was-available : (j : ℕ) → is_available y late s j ≡ true → is_available y cols s j ≡ true
    was-available j h = (unit_back y cols late die s j h).0

    byte-late : (j k : ℕ) → is_available y late s j ≡ true → byte_of y holds late s j o k ≡ is k j
    byte-late j k h =
        let back = unit_back y cols late die s j h in
        ap (λ p. byte_if y holds p o k) (spot-seat y late s j h ∙ (back.1 ∙ sym (spot-seat y cols s j back.0)))

    -- ### A unit that is available

    here : is_available y late s i ≡ true → (k : ℕ) → decode y holds late b k ≡ decode y held cols b k
    here h k =
        let lw = layout.checks_below in
        let iw : i < y.width = omega (arith, id) in
        cond-true (is_available y late s i) (byte_of y holds late s i o k) (xor_others (λ j. byte_of y holds late s j o k) i y.width) h
        ∙ (byte-late i k h ∙ (unit-same i k iw (λ e c. let l = id in omega (arith, e, l))
        ∙ sym (cond-true (is_available y cols s i) (byte_of y held cols s i o k) (xor_others (λ j. byte_of y held cols s j o k) i y.width) (was-available i h))))

    -- ### One that is missing

    module _ (gone : is_available y late s i ≡ false) where
      abbrev iw : i < y.width
      iw = omega (arith, id)

      abbrev one : y.checks ≡ 1
      one = (kept s sw i i iw iw gone gone).0

      size : y.width ≡ suc d
      size = last-unit y layout one

      others : (j : ℕ) → j < y.width → j ≢ i → is_available y late s j ≡ true
      others j jw ne = elim (cases_Bool (is_available y late s j)) [
        | inl h ↦ h
        | inr h ↦ absurd (ne (kept s sw j i jw iw h gone).1)
      ]

      -- what is decoded is the sum of the others
      by-others : (k : ℕ) → decode y holds late b k ≡ xor_others (is k) i y.width
      by-others k =
          cond-false (is_available y late s i) (byte_of y holds late s i o k) (xor_others (λ j. byte_of y holds late s j o k) i y.width) gone
          ∙ others_same (λ j. byte_of y holds late s j o k) (is k) i y.width (λ j jw ne. byte-late j k (others j jw ne))

      -- it was missing before
      still-gone : is_available y cols s i ≡ false → (k : ℕ) → decode y holds late b k ≡ decode y held cols b k
      still-gone before k =
          by-others k
          ∙ (others_same (is k) (was k) i y.width (λ j jw ne. unit-same j k jw (λ e complete. let z : false ≡ true = sym before ∙ complete i iw in let u : ⊥ = cc in u))
          ∙ sym (cond-false (is_available y cols s i) (byte_of y held cols s i o k) (xor_others (λ j. byte_of y held cols s j o k) i y.width) before))

      module _ (before : is_available y cols s i ≡ true) where
        complete : IsComplete y cols s
        complete j jw = elim (cases_eq j i) [
          | inl e ↦ subst (λ n. is_available y cols s n ≡ true) (sym e) before
          | inr ne ↦ was-available j (others j jw ne)
        ]

        data-same : (j k : ℕ) → j < d → is k j ≡ was k j
        data-same j k jd = unit-same j k (omega (arith, jd, size)) (λ e c. omega (arith, e, jd))

        -- the check unit is the sum of the data units as they were
        by-check : HoldsSum y holds cols s → (k : ℕ) → k < 512 → decode y holds late b k ≡ decode y held cols b k
        by-check sums k kl =
            by-others k
            ∙ (ap (xor_others (is k) i) size
            ∙ (others_more (is k) i d id
            ∙ (ap (λ x. bit_xor x (xor_others (is k) i d)) (sums o k ou kl ∙ below_one (is k) i d id)
            ∙ (xor_twice (is k i) (xor_others (is k) i d)
            ∙ (data-same i k id
            ∙ sym (cond-true (is_available y cols s i) (byte_of y held cols s i o k) (xor_others (λ j. byte_of y held cols s j o k) i y.width) before))))))

        -- or it is what it was
        by-old : ((p k : ℕ) → p < y.unit_sectors → byte_of y holds cols s d p k ≡ byte_of y held cols s d p k) → (k : ℕ) → decode y holds late b k ≡ sums_of_others y held cols b k
        by-old same k = by-others k ∙ others_same (is k) (was k) i y.width (λ j jw ne. elim (cases_eq j d) [
          | inl e ↦ ap (is k) e ∙ (same o k ou ∙ ap (was k) (sym e))
          | inr other ↦ data-same j k (let z = size in omega (arith, jw, z, other))
        ])

    -- the block is what it was; or its unit was made missing, and it is the sum of the others of before
    pub swept-block : ((k : ℕ) → k < 512 → decode y holds late b k ≡ decode y held cols b k)
        ⊎ ((is_available y cols s i ≡ true) × (is_available y late s i ≡ false) × ((k : ℕ) → k < 512 → decode y holds late b k ≡ sums_of_others y held cols b k))
    swept-block = elim (cases_Bool (is_available y late s i)) [
      | inl h ↦ inl (λ k kl. here h k)
      | inr gone ↦ elim (cases_Bool (is_available y cols s i)) [
        | inr before ↦ inl (λ k kl. still-gone gone before k)
        | inl before ↦ elim (checks (one gone) s sw (complete gone before) (others gone d (let z = size gone in omega (arith, z)) (λ e. let l = id in omega (arith, e, l)))) [
          | inl sums ↦ inl (λ k kl. by-check gone before sums k kl)
          | inr same ↦ inr (before, gone, λ k kl. by-old gone before same k)
        ]
      ]
    ]

    -- ### Where all was in sync

    module _ (sync : InSync y held cols) where
      abbrev blocks : Blocks
      blocks = decode y held cols

      -- what the columns that are left mean by the contents of before
      still-means : (k : ℕ) → k < 512 → decode y held late b k ≡ blocks b k
      still-means k kl = sym (agrees-only y held late layout kept blocks
          (still_agrees y cols late die held blocks AnyStripe (agrees-decode y held cols layout (lost_no_less y cols late die kept) sync)) b k below kl)

      held-late : (j k : ℕ) → is_available y late s j ≡ true → byte_of y held late s j o k ≡ was k j
      held-late j k h =
          let back = unit_back y cols late die s j h in
          ap (λ p. byte_if y held p o k) (spot-seat y late s j h ∙ (back.1 ∙ sym (spot-seat y cols s j back.0)))

      sums-fit : is_available y late s i ≡ false → (k : ℕ) → k < 512 → sums_of_others y held cols b k ≡ blocks b k
      sums-fit gone k kl =
          sym (others_same (λ j. byte_of y held late s j o k) (was k) i y.width (λ j jw ne. held-late j k (others gone j jw ne)))
          ∙ (sym (cond-false (is_available y late s i) (byte_of y held late s i o k) (xor_others (λ j. byte_of y held late s j o k) i y.width) gone)
          ∙ still-means k kl)

      -- the block is what it was
      pub swept-same : (k : ℕ) → k < 512 → decode y holds late b k ≡ decode y held cols b k
      swept-same k kl = elim swept-block [
        | inl same ↦ same k kl
        | inr made ↦ made.2 k kl ∙ sums-fit made.1 k kl
      ]
