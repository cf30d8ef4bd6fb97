-- Wherever a run with a map is stopped, a stripe that lacks no unit and doesn't sum to zero lies in a region that the union marks.
use Rattle.std.proofs.Common.{◌≡◌, ◌≢◌, ◌<◌, ◌⊎◌, inl, inr, ℕ, List, Bool, true, false, Some, None, [], ◌∷◌, sym, ◌∙◌, ap, subst, arith}
use Rattle.std.specs.Prelude.{Contains}
use Rattle.std.proofs.lemmas.Bool.{cases_Bool}
use Rattle.lay_core.specs.Layout.{Shape, IsLayout}
use Rattle.eng_cols.specs.declared.spot.Spot.{Spot}
use Rattle.eng_cols.specs.Cols.{ColumnState, HasDevice, InOrder}
use Rattle.eng_cols.specs.Seats.{is_available, seat}
use Rattle.eng_cols.specs.Contents.{Contents, sector_at, byte_of, InSync}
use Rattle.eng_cols.proofs.Sums.{below_same}
use Rattle.eng_cols.proofs.Decoding.{agrees-in-sync}
use Rattle.eng_cols.proofs.Spots.{Stands, own, spared, seat-stands, available-seat, seat-device}
use Rattle.eng_world.specs.declared.item.Traced.{Traced}
use Rattle.eng_world.specs.World.{World}
use Rattle.eng_world.specs.Planning.{Graphs, Promises}
use Rattle.eng_world.specs.Invariant.{Invariant}
use Rattle.eng_world.proofs.Reaching.{reaches}
use Rattle.eng_world.proofs.Promised.{not-lost}
use Rattle.raid_map.specs.Regions.{region_of}
use Rattle.raid_map.specs.Stops.{MayHold}
use Rattle.raid_map.specs.Mapped.{Event, Mark, Settle, Happens, Clear, Mapped, MappedRun, IsStart, UnsoundLieIn, IsLeft}
use Rattle.raid_map.specs.Union.{UnionMarks, IsUnsound}
use Rattle.raid_map.proofs.Holding.{Unclear, traced, worlds, covered, holds}
use Rattle.raid_map.proofs.Safe.{HasCome, some, none, has-come, still-there}
use Rattle.raid_map.proofs.Kept.{used-marked}
use Rattle.raid_map.proofs.Images.{byte-here}
use Rattle.raid_map.proofs.Unsound.{start-alone, outside, spared-lies, unsound-marked, map-may}
use Rattle.raid_map.proofs.Columns.{TiedTo, tied-refl, step-tied}
use Rattle.raid_map.proofs.Cleared.{HasCleared, cleared, unclear, has-cleared, rests, IsQuiet, is-quiet}

-- two units of a stripe have no seats on one column
columns-apart : (y : Shape) (cols : List ColumnState) (t i j : ℕ) (at to : Spot) → IsLayout y → InOrder cols → t < y.stripes → i < y.width → j < y.width → seat y cols t i ≡ Some at → seat y cols t j ≡ Some to → at.column ≡ to.column → i ≡ j
columns-apart y cols t i j at to l order tw iw jw is js same = go (seat-stands y cols t i at is) (seat-stands y cols t j to js)
  where
    go : Stands y cols t i at → Stands y cols t j to → i ≡ j
    go (own a) (own b) = l.columns_apart t i j tw iw jw (sym a.column ∙ same ∙ b.column)
    go (own a) (spared p done has spread b) = absurd (l.spare_column t i p tw iw has (sym a.column ∙ same ∙ b.column))
    go (spared p done has spread a) (own b) = absurd (l.spare_column t j p tw jw has (sym b.column ∙ sym same ∙ a.column))
    go (spared p done has spread a) (spared q other hasq spreadq b) = l.columns_apart t i j tw iw jw (order.one_spread _ _ done other spread spreadq)

module _ (y : Shape) (layout : IsLayout y) (graphs : Graphs) (promises : Promises graphs) (serial : ℕ) (regions : ℕ → Bool) (start : Mapped) (s : IsStart y start) where
  abbrev Run : List Event → Mapped → Type 0
  Run events now = MappedRun y graphs serial regions start events now

  abbrev sync : Type 0
  sync = InSync y start.world.contents start.world.columns

  abbrev Tied : World → Type 0
  Tied w = TiedTo y layout regions start.world.columns w.columns

  known : (events : List Event) (now : Mapped) → Run events now → now.world.lost ≡ None → Invariant y sync start.world.blocks now.world
  known events now h kept = not-lost y sync start.world.blocks now.world (reaches y layout graphs promises start.world (traced events) now.world s.opening (worlds y layout graphs promises serial regions start s events now h)) kept

  tied : (events : List Event) (now : Mapped) → Run events now → Tied now.world
  tied [] now h = subst (λ (m : Mapped). Tied m.world) (sym h) (tied-refl y layout regions start.world.columns s.opening.order)
  tied (Mark d marks ∷ events) now h = subst Tied (sym h.2.0) (tied events h.0 h.1)
  tied (Settle d ∷ events) now h = subst Tied (sym h.2.0) (tied events h.0 h.1)
  tied (Clear d ∷ events) now h = subst Tied (sym h.2.0) (tied events h.0 h.1)
  tied (Happens e ∷ events) now h = step-tied y layout regions start.world.columns sync start.world.blocks graphs e h.0.world now.world (known events h.0 h.1) (known (Happens e ∷ events) now h) (covered y layout graphs promises serial regions start s events h.0 h.1) h.2.0 (tied events h.0 h.1)

  -- ## Once a map is cleared

  module _ (events : List Event) (now : Mapped) (run : Run events now) (synced : sync) (lie : UnsoundLieIn y serial regions start.world.columns start) (image : Contents) (left : IsLeft y now image) (t : ℕ) (u : IsUnsound y now.world.columns image t) where
    quiet-sound : IsQuiet y graphs serial regions start events now → ⊥
    quiet-sound q = u.differs (below_same (λ i. byte_of y image now.world.columns t i u.offset u.byte) (λ i. byte_of y now.world.contents now.world.columns t i u.offset u.byte) y.width same
        ∙ in-sync t u.offset u.byte u.stripe u.within u.of_sector u.checked u.complete)
      where
        allowed : (d n : ℕ) → MayHold (now.stored d) n (image d n)
        allowed d n = elim (left d n) [ inl may ↦ may | inr w ↦ absurd (q.none w.client w.run w.runs) ]

        inv : Invariant y sync start.world.blocks now.world
        inv = known events now run q.lost

        in-sync : InSync y now.world.contents now.world.columns
        in-sync = agrees-in-sync y now.world.contents now.world.columns layout now.world.blocks (λ z i zw any-stripe iw. (inv.holds synced).idle z i zw iw (λ c r runs has. absurd (q.none c r runs)))

        same : (i : ℕ) → i < y.width → byte_of y image now.world.columns t i u.offset u.byte ≡ byte_of y now.world.contents now.world.columns t i u.offset u.byte
        same i iw =
            let a = available-seat y now.world.columns t i (u.complete i iw) in
            let n = sector_at y a.0 u.offset in
            let high : n ≢ 1 = λ e. omega (arith, e) in
            let safe = q.settled a.0.device (a.0.column, seat-device y now.world.columns t i a.0 a.1) in
            byte-here y now.world.columns t image image image i u.offset u.byte a.0 (u.complete i iw) a.1
            ∙ rests y graphs serial regions start events now run a.0.device safe n (image a.0.device n) high (allowed a.0.device n) u.byte u.of_sector
            ∙ (holds y layout graphs promises serial regions start s (traced events) events now (λ e has. has) run).agrees a.0.device n u.byte high
            ∙ sym (byte-here y now.world.columns t image image now.world.contents i u.offset u.byte a.0 (u.complete i iw) a.1)

    -- ## Until then

    tie : Tied now.world
    tie = tied events now run

    -- outside the regions the stripe lacked no unit as the array was opened, and holds the same
    was-unsound : regions (region_of y.stripes t) ≡ false → IsUnsound y start.world.columns image t
    was-unsound not = record {
      stripe = u.stripe;
      checked = u.checked;
      complete = λ i iw. (both i iw).0;
      offset = u.offset;
      byte = u.byte;
      within = u.within;
      of_sector = u.of_sector;
      differs = λ z. u.differs (below_same (λ i. byte_of y image now.world.columns t i u.offset u.byte) (λ i. byte_of y image start.world.columns t i u.offset u.byte) y.width same ∙ z);
    }
      where
        both : (i : ℕ) (iw : i < y.width) → (is_available y start.world.columns t i ≡ true) × (seat y start.world.columns t i ≡ Some (available-seat y now.world.columns t i (u.complete i iw)).0)
        both i iw = let a = available-seat y now.world.columns t i (u.complete i iw) in tie.units t i a.0 not (u.complete i iw) a.1

        same : (i : ℕ) → i < y.width → byte_of y image now.world.columns t i u.offset u.byte ≡ byte_of y image start.world.columns t i u.offset u.byte
        same i iw =
            let a = available-seat y now.world.columns t i (u.complete i iw) in
            let b = both i iw in
            byte-here y now.world.columns t image image image i u.offset u.byte a.0 (u.complete i iw) a.1
            ∙ sym (byte-here y start.world.columns t image image image i u.offset u.byte a.0 b.0 b.1)

    -- a unit stands on a device that was in use as the array was opened
    abbrev UsedBoth : Type 0
    UsedBoth = (c : ℕ) × (d : ℕ) × HasDevice now.world.columns c d × HasDevice start.world.columns c d

    one-used : UsedBoth
    one-used =
        let w1 : 1 < y.width = let a = layout.checks_below in let b = u.checked in omega (arith, a, b) in
        let w0 : 0 < y.width = omega (arith, w1) in
        let a = available-seat y now.world.columns t 0 (u.complete 0 w0) in
        let b = available-seat y now.world.columns t 1 (u.complete 1 w1) in
        go a.0 b.0 (seat-device y now.world.columns t 0 a.0 a.1) (seat-device y now.world.columns t 1 b.0 b.1)
        (λ same. let z = columns-apart y now.world.columns t 0 1 a.0 b.0 layout tie.order u.stripe w0 w1 a.1 b.1 same in omega (arith, z))
      where
        go : (at to : Spot) → HasDevice now.world.columns at.column at.device → HasDevice now.world.columns to.column to.device → at.column ≢ to.column → UsedBoth
        go at to (inl h) k apart = (at.column, at.device, inl h, inl (tie.live at.column at.device h))
        go at to (inr h) (inl k) apart = (to.column, to.device, inl k, inl (tie.live to.column to.device k))
        go at to (inr h) (inr k) apart = absurd (apart (tie.order.one_filling at.column to.column at.device to.device h.0 k.0 h.1 k.1))

    pub stopped-marked : UnionMarks y serial now.world.columns image (region_of y.stripes t)
    stopped-marked = by-clear (has-cleared events)
      where
        by-region : Unclear events → (e : Traced) → Contains events (Happens e) → (regions (region_of y.stripes t) ≡ true) ⊎ (regions (region_of y.stripes t) ≡ false) → UnionMarks y serial now.world.columns image (region_of y.stripes t)
        by-region clear e has (inr not) =
            let out = outside y layout graphs promises serial regions start s events now run start.world.columns (start-alone y layout graphs promises serial regions start s events now run) t u.stripe not in
            let is = spared-lies y layout graphs promises serial regions start s events now run start.world.columns lie t image left (was-unsound not) out in
            absurd (let z : true ≡ false = sym is ∙ not in let v : ⊥ = cc in v)
        by-region clear e has (inl is) =
            let both = one-used in
            let map = used-marked y layout graphs promises serial regions start s events now clear run e has both.1 (both.0, both.3) (image both.1 1) (map-may y layout graphs promises serial regions start s events now run image left both.1) in
            record { column = both.0; device = both.1; used = both.2; marks = map.marks; map = map.map; marked = map.all (region_of y.stripes t) is }

        by-come : Unclear events → HasCome y layout graphs promises serial regions start s events → UnionMarks y serial now.world.columns image (region_of y.stripes t)
        by-come clear (some e has) = by-region clear e has (cases_Bool (regions (region_of y.stripes t)))
        by-come clear (none never) =
            let same = ap (λ (w : World). w.columns) (still-there y layout graphs promises serial regions start s events now never run) in
            subst (λ cols. UnionMarks y serial cols image (region_of y.stripes t)) (sym same) (unsound-marked y layout graphs promises serial regions start s events now run lie clear image left t (subst (λ cols. IsUnsound y cols image t) same u))

        by-clear : HasCleared events → UnionMarks y serial now.world.columns image (region_of y.stripes t)
        by-clear (cleared d has) = absurd (quiet-sound (is-quiet y graphs serial regions start events now run d has))
        by-clear (unclear clear) = by-come clear (has-come y layout graphs promises serial regions start s events)
