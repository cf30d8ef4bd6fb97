-- Behind marks and a sweep of marked stripes a run may start: every device in use has its marks, and what is unsound in some image that a stop may leave lies in the union that was swept.
use Rattle.std.proofs.Common.{◌≡◌, ◌⊎◌, inl, inr, ℕ, zero, suc, ◌<◌, ◌≤◌, List, [], ◌∷◌, length, Bool, true, false, Option, Some, slice_get, slice_set, get_or, refl, sym, ◌∙◌, ap, ap₂, subst, arith, length-set}
use Rattle.std.specs.Prelude.{Contains, slice_index}
use Rattle.std.specs.Option.{option_map_or}
use Rattle.std.proofs.lemmas.Bool.{cases_eq, cases_lt, cases_Bool}
use Rattle.std.proofs.lemmas.Option.{slice_get_past, slice_get-get_or}
use Rattle.blk_disk.specs.declared.disk.Disk.{Ghosts}
use Rattle.blk_disk.specs.Devices.{contents_of}
use Rattle.lay_core.specs.Layout.{Shape, IsLayout}
use Rattle.eng_cols.specs.declared.column.Column.{Column}
use Rattle.eng_cols.specs.declared.column.Column.TheVariants as column
use Rattle.eng_cols.specs.declared.spot.Spot.{Spot}
use Rattle.eng_cols.specs.Cols.{ColumnState, HasDevice, InOrder, is_set_spread, passes}
use Rattle.eng_cols.specs.Changes.{killed}
use Rattle.eng_cols.specs.Contents.{Contents, byte_of, sector_at}
use Rattle.eng_cols.specs.Deaths.{Dies}
use Rattle.eng_cols.specs.Seats.{seat}
use Rattle.eng_cols.specs.Stripes.{spreads, states_of}
use Rattle.eng_cols.proofs.Lists.{get_set_other, get_set_same}
use Rattle.eng_cols.proofs.Spots.{available-seat, seat-device}
use Rattle.eng_cols.proofs.Sums.{below_same}
use Rattle.raid_recon.specs.Array.{IsArray, Failed}
use Rattle.raid_recon.proofs.Places.{device-unspread, states-killed}
use Rattle.raid_recon.proofs.Frames.{check-alone}
use Rattle.raid_recon.proofs.Backs.{Back, back-refl, back-then, back-killed}
use Rattle.raid_map.specs.Regions.{IsMap, Marks, IsBytesOf, is_marked, region_of}
use Rattle.raid_map.specs.Stops.{Stored, SameSector, MayHold, IsImage}
use Rattle.raid_map.specs.Marking.{AreMarked, IsSafeOn}
use Rattle.raid_map.specs.Sweeping.{marks_stripe, MayRewrite, UnsoundAreMarked, IsSweptTo}
use Rattle.raid_map.specs.Mapped.{MarksAll, HasMarks}
use Rattle.raid_map.specs.Starts.{IsLeftSince}
use Rattle.raid_map.specs.Union.{UnionMarks, IsUnsound}
use Rattle.raid_map.proofs.Holding.{in-none, map-same}
use Rattle.raid_map.proofs.Images.{byte-here}
use Rattle.raid_map.proofs.MarkLaws.{on_within}
use Rattle.raid_map.proofs.ReadLaws.{device-set}

-- ## Columns that died bring no unit back

same-columns : (xs zs : List Column) → length xs ≡ length zs → ((i : ℕ) → slice_get xs i ≡ slice_get zs i) → xs ≡ zs
same-columns [] [] n each = refl
same-columns [] (z ∷ zs) n each = absurd (omega (arith, n))
same-columns (x ∷ xs) [] n each = absurd (omega (arith, n))
same-columns (x ∷ xs) (z ∷ zs) n each = let first : Some x ≡ Some z = each 0 in let e : x ≡ z = cc in ap₂ (λ v (vs : List Column). v ∷ vs) e (same-columns xs zs (omega (arith, n)) (λ i. each (suc i)))

module _ {D : Type 0} (g : Ghosts D) (y : Shape) (columns after : List Column) (old new : List (Option D)) (order : InOrder (states_of y columns)) (dies : Dies (Failed g (states_of y columns) old new) columns after) where
  -- the first n columns are those behind the deaths, the others those before
  record DiedTo (n : ℕ) (mid : List Column) : Type 0 where
    back : Back y (states_of y mid) (states_of y columns)
    count : length mid ≡ length columns
    below : (c : ℕ) → c < n → slice_get mid c ≡ slice_get after c
    rest : (c : ℕ) → n ≤ c → slice_get mid c ≡ slice_get columns c

  none-next : (n : ℕ) (mid : List Column) → slice_get after n ≡ slice_get columns n → DiedTo n mid → DiedTo (suc n) mid
  none-next n mid same h = record {
    back = h.back;
    count = h.count;
    below = λ c cw. elim (cases_eq c n) [
      | inl e ↦ subst (λ z. slice_get mid z ≡ slice_get after z) (sym e) (h.rest n (omega arith) ∙ sym same)
      | inr ne ↦ h.below c (omega (arith, cw, ne))
    ];
    rest = λ c cw. h.rest c (omega (arith, cw));
  }

  one-next : (n : ℕ) (mid : List Column) → slice_get after n ≡ Some column.Dead → Failed g (states_of y columns) old new n → DiedTo n mid → DiedTo (suc n) (slice_set mid n column.Dead)
  one-next n mid dead cause h = record {
    back = subst (λ cs. Back y cs (states_of y columns)) (sym (states-killed y mid n (h.back.order order) unspread))
        (back-then y (killed (states_of y mid) n) (states_of y mid) (states_of y columns) (back-killed y (states_of y mid) n) h.back);
    count = length-set mid n column.Dead ∙ h.count;
    below = λ c cw. elim (cases_eq c n) [
      | inl e ↦ subst (λ z. slice_get (slice_set mid n column.Dead) z ≡ slice_get after z) (sym e) (get_set_same mid n (get_or mid n column.Dead) column.Dead (slice_get-get_or mid n column.Dead within) ∙ sym dead)
      | inr ne ↦ get_set_other mid n c column.Dead ne ∙ h.below c (omega (arith, cw, ne))
    ];
    rest = λ c cw. get_set_other mid n c column.Dead (λ e. omega (arith, e, cw)) ∙ h.rest c (omega (arith, cw));
  }
    where
      unspread : spreads mid n ≡ false
      unspread = ap (passes is_set_spread) (h.rest n (omega arith)) ∙ device-unspread y columns n cause.device cause.had

      within : n < length mid
      within = let l = on_within columns n cause.device (device-set y columns n cause.device cause.had) in let k = h.count in omega (arith, l, k)

  died-to : (n : ℕ) → (mid : List Column) × DiedTo n mid
  died-to zero = (columns, record { back = back-refl y (states_of y columns); count = refl; below = λ c cw. absurd (omega (arith, cw)); rest = λ c cw. refl })
  died-to (suc n) = next (died-to n) (dies.each n)
    where
      next : (mid : List Column) × DiedTo n mid → (slice_get after n ≡ slice_get columns n) ⊎ ((slice_get after n ≡ Some column.Dead) × Failed g (states_of y columns) old new n) → (mid : List Column) × DiedTo (suc n) mid
      next m (inl same) = (m.0, none-next n m.0 same m.1)
      next m (inr dead) = (slice_set m.0 n column.Dead, one-next n m.0 dead.0 dead.1 m.1)

  pub died-back : Back y (states_of y after) (states_of y columns)
  died-back = go (died-to (length columns))
    where
      go : (mid : List Column) × DiedTo (length columns) mid → Back y (states_of y after) (states_of y columns)
      go m = subst (λ cs. Back y (states_of y cs) (states_of y columns)) (same-columns m.0 after (m.1.count ∙ sym dies.count) (each m.0 m.1)) m.1.back
        where
          each : (mid : List Column) → DiedTo (length columns) mid → (c : ℕ) → slice_get mid c ≡ slice_get after c
          each mid h c = elim (cases_lt c (length columns)) [
            | inl lt ↦ h.below c lt
            | inr le ↦ slice_get_past mid c (let k = h.count in omega (arith, le, k)) ∙ sym (slice_get_past after c (let k = dies.count in omega (arith, le, k)))
          ]

-- ## What marks and a sweep leave

module _ {D : Type 0} (g : Ghosts D) (tells : g.tells) (y : Shape) (layout : IsLayout y) (one : y.checks ≡ 1) (serial : ℕ) (regions : ℕ → Bool) (map union : Marks) (bytes : List ℕ)
    (columns marked swept : List Column) (old held new : List (Option D)) (array : IsArray g y marked held)
    (is_map : IsBytesOf map bytes) (of_serial : map.serial ≡ serial) (of_stripes : map.stripes ≡ y.stripes) (marks : AreMarked g (length columns) bytes columns marked old held)
    (union_stripes : union.stripes ≡ y.stripes) (unsound : UnsoundAreMarked g y (marks_stripe union) marked held) (sweep : IsSweptTo g y (marks_stripe union) marked held y.stripes swept new)
    (kept : (r : ℕ) → is_marked union.marks r ≡ true → regions r ≡ true) (all : (r : ℕ) → regions r ≡ true → is_marked map.marks r ≡ true)
    (stored : ℕ → Stored) (since : (c d : ℕ) → HasDevice (states_of y swept) c d → IsLeftSince g (MayRewrite g y (marks_stripe union) marked held y.stripes) held d (stored d)) where
  abbrev May : ℕ → ℕ → Type 0
  May = MayRewrite g y (marks_stripe union) marked held y.stripes

  abbrev was : List ColumnState
  was = states_of y marked

  abbrev cols : List ColumnState
  cols = states_of y swept

  back : Back y cols was
  back = died-back g y marked swept held new array.order sweep.dies

  -- a device in use was marked, and settled
  safe : (c d : ℕ) (has : HasDevice cols c d) → IsSafeOn g (since c d has).before bytes
  safe c d has =
      let on = device-set y marked c d (back.devices c d has) in
      marks.safe c d (since c d has).before (let l = on_within marked c d on in let k = marks.dies.count in omega (arith, l, k)) on (since c d has).was

  -- since then it logged such sectors alone
  logged-may : (c d : ℕ) (has : HasDevice cols c d) (n : ℕ) (b : ℕ → ℕ) → MayHold (stored d) n b → SameSector b ((stored d).settled n) ⊎ May d n
  logged-may c d has n b (inl q) = inl q
  logged-may c d has n b (inr q) = elim ((since c d has).logged q.entry q.has) [
    | inl before ↦ in-none before.0 (subst (λ l. Contains l before.0) ((safe c d has).left (since c d has).left (since c d has).told).1 before.1)
    | inr may ↦ inr (subst (May d) q.sector may)
  ]

  -- and what it has settled is what it held
  settled-held : (c d : ℕ) (has : HasDevice cols c d) (n k : ℕ) → (stored d).settled n k ≡ slice_index (g.sector (since c d has).before n) k
  settled-held c d has n k = (since c d has).settled n k ∙ ap (λ (f : ℕ → List ℕ). slice_index (f n) k) ((safe c d has).left (since c d has).left (since c d has).told).0

  pub marks-left : (c d : ℕ) → HasDevice cols c d → HasMarks serial y.stripes regions (stored d)
  marks-left c d has b may = go (logged-may c d has 1 b may)
    where
      map-is : IsMap serial y.stripes (is_marked map.marks) (slice_index bytes)
      map-is = subst (λ z. IsMap z y.stripes (is_marked map.marks) (slice_index bytes)) of_serial (subst (λ z. IsMap map.serial z (is_marked map.marks) (slice_index bytes)) of_stripes is_map)

      go : SameSector b ((stored d).settled 1) ⊎ May d 1 → MarksAll serial y.stripes regions b
      go (inr m) = let e = m.sector.sector in absurd (omega (arith, e))
      go (inl q) = record {
        marks = is_marked map.marks;
        all = all;
        map = map-same serial y.stripes (is_marked map.marks) b (slice_index bytes) (λ k kw. q k kw ∙ settled-held c d has 1 k ∙ ap (λ (l : List ℕ). slice_index l k) ((safe c d has).held tells)) map-is;
      }

  module _ (image : Contents) (s : ℕ) (may : IsImage stored image) (u : IsUnsound y cols image s) where
    -- a byte of a stripe that wasn't swept is what it was before the sweep
    same : marks_stripe union s ≡ false → (i : ℕ) → i < y.width → byte_of y image cols s i u.offset u.byte ≡ byte_of y (contents_of g held) was s i u.offset u.byte
    same not i iw = by-seat (available-seat y cols s i (u.complete i iw))
      where
        by-seat : (at : Spot) × (seat y cols s i ≡ Some at) → byte_of y image cols s i u.offset u.byte ≡ byte_of y (contents_of g held) was s i u.offset u.byte
        by-seat (at, is) =
            byte-here y cols s image image image i u.offset u.byte at (u.complete i iw) is
            ∙ go (logged-may at.column at.device used n (image at.device n) (may at.device n))
            ∙ sym (byte-here y was s image image (contents_of g held) i u.offset u.byte at (back.available s i (u.complete i iw)) (back.seats s i at is))
          where
            n : ℕ
            n = sector_at y at u.offset

            used : HasDevice cols at.column at.device
            used = seat-device y cols s i at is

            go : SameSector (image at.device n) ((stored at.device).settled n) ⊎ May at.device n → image at.device n u.byte ≡ contents_of g held at.device n u.byte
            go (inl q) =
                q u.byte u.of_sector ∙ settled-held at.column at.device used n u.byte
                ∙ sym (ap (λ (o : Option D). slice_index (option_map_or (λ x. g.sector x n) o []) u.byte) (since at.column at.device used).was)
            go (inr m) =
                let alone = check-alone y was layout array.order one m.stripe s i u.offset at m.below u.stripe iw u.within (back.seats s i at is) m.sector in
                absurd (let z : true ≡ false = sym m.marked ∙ ap (marks_stripe union) (sym alone.0) ∙ not in let v : ⊥ = cc in v)

    in-union : marks_stripe union s ≡ true
    in-union = elim (cases_Bool (marks_stripe union s)) [
      | inl is ↦ is
      | inr not ↦ unsound s u.stripe (λ i iw. back.available s i (u.complete i iw)) (record {
        offset = u.offset;
        byte = u.byte;
        within = u.within;
        of_sector = u.of_sector;
        differs = λ z. u.differs (below_same (λ i. byte_of y image cols s i u.offset u.byte) (λ i. byte_of y (contents_of g held) was s i u.offset u.byte) y.width (same not) ∙ z);
      })
    ]

    in-regions : regions (region_of y.stripes s) ≡ true
    in-regions = kept (region_of y.stripes s) (subst (λ z. is_marked union.marks (region_of z s) ≡ true) union_stripes in-union)

    pub lies-in : (regions (region_of y.stripes s) ≡ true) × UnionMarks y serial cols image (region_of y.stripes s)
    lies-in =
        let a = available-seat y cols s 0 (u.complete 0 (let c = layout.checks_below in omega (arith, c))) in
        let used = seat-device y cols s 0 a.0 a.1 in
        let m = marks-left a.0.column a.0.device used (image a.0.device 1) (may a.0.device 1) in
        (in-regions, record { column = a.0.column; device = a.0.device; used = used; marks = m.marks; map = m.map; marked = m.all (region_of y.stripes s) in-regions })
