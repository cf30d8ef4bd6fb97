-- Until a map is cleared, a stripe that lacks no unit and doesn't sum to zero lies in a region that the union marks, by the columns as they were opened, and by those from which they came by deaths.
use Rattle.std.proofs.Common.{◌≡◌, ◌≢◌, ◌<◌, ◌⊎◌, inl, inr, ℕ, List, Bool, true, false, Some, refl, sym, ◌∙◌, ap, subst, arith, ne_eqb}
use Rattle.std.specs.Prelude.{slice_get, ◌==◌, if◌then◌else◌}
use Rattle.std.proofs.lemmas.Bool.{cases_eq, cases_Bool, cond-false}
use Rattle.lay_core.specs.Layout.{Shape, IsLayout}
use Rattle.eng_cols.specs.declared.spot.Spot.{Spot}
use Rattle.eng_cols.specs.Cols.{ColumnState, Live, Dead, Filling, HasDevice}
use Rattle.eng_cols.specs.Seats.{is_available, seat}
use Rattle.eng_cols.specs.Contents.{Contents, sector_at}
use Rattle.eng_cols.proofs.Spots.{available-seat, seat-device, sectors-apart}
use Rattle.eng_world.specs.declared.item.Traced.TheVariants as event
use Rattle.eng_world.specs.Planning.{Graphs, Promises}
use Rattle.eng_world.specs.Rows.{HasHad}
use Rattle.raid_map.specs.Regions.{region_of, IsMap}
use Rattle.raid_map.specs.Stops.{SameSector, MayHold, IsImage}
use Rattle.raid_map.specs.Mapped.{Event, MarksAll, IsUnderWay, IsLeft, Mapped, MappedRun, IsStart, UnsoundLieIn, IsEarlier}
use Rattle.raid_map.specs.Union.{UnionMarks, IsUnsound}
use Rattle.raid_map.proofs.Sited.{IsPlaceOf, seat-place}
use Rattle.raid_map.proofs.Holding.{sector-sym, sector-then, may-same, map-same, Unclear, traced, traced-has, worlds, holds, Spared, under-marked}
use Rattle.raid_map.proofs.Safe.{HasCome, some, none, has-come, still-there}
use Rattle.raid_map.proofs.Kept.{keeps, used-marked}
use Rattle.eng_world.specs.World.{RunsAs}
use Rattle.eng_world.proofs.Clients.{nothing-runs}
use Rattle.raid_map.proofs.Devices.{one-column}
use Rattle.raid_map.proofs.Images.{one-stripe, picked, picked-image, picked-map, picked-unsound}

module _ (y : Shape) (layout : IsLayout y) (graphs : Graphs) (promises : Promises graphs) (serial : ℕ) (regions : ℕ → Bool) (start : Mapped) (s : IsStart y start)
    (events : List Event) (now : Mapped) (run : MappedRun y graphs serial regions start events now) where
  abbrev Spares : ℕ → ℕ → Type 0
  Spares d n = Spared y layout graphs promises serial regions start s (traced events) events d n

  -- a column that has had one of these columns' devices is that column
  abbrev pub Alone : List ColumnState → Type 0
  Alone cols = (c k d : ℕ) → HasHad start.world (traced events) c d → HasDevice cols k d → c ≡ k

  pub start-alone : Alone start.world.columns
  start-alone c k d had used = one-column y layout graphs promises start.world s.opening (traced events) now.world (worlds y layout graphs promises serial regions start s events now run) c k d had used

  -- a sector of a stripe outside the regions is outside them
  pub outside : (cols : List ColumnState) → Alone cols → (t : ℕ) → t < y.stripes → regions (region_of y.stripes t) ≡ false → (i o : ℕ) (at : Spot) → i < y.width → o < y.unit_sectors → seat y cols t i ≡ Some at → Spares at.device (sector_at y at o)
  outside cols alone t tw not i o at iw ow is e has m =
      let column = alone m.column at.column at.device m.had (seat-device y cols t i at is) in
      let row = (sectors-apart y.unit_sectors m.row m.offset at.row o m.below ow (sym m.sector)).0 in
      let here : IsPlaceOf y m.stripe at.column at.row = subst (λ z. IsPlaceOf y m.stripe z at.row) column (subst (IsPlaceOf y m.stripe m.column) row m.place) in
      let same = one-stripe y layout m.stripe t at.column at.row m.within tw here (seat-place y cols t i at iw is) in
      let z : true ≡ false = sym m.marked ∙ ap (λ v. regions (region_of y.stripes v)) same ∙ not in
      let u : ⊥ = cc in u

  -- what a stop may leave of a sector outside the regions its log allows
  pub left-may : (image : Contents) → IsLeft y now image → (d n : ℕ) → Spares d n → MayHold (now.stored d) n (image d n)
  left-may image left d n spares = elim (left d n) [ inl may ↦ may | inr u ↦ absurd (under u (has-come y layout graphs promises serial regions start s events)) ]
    where
      under : IsUnderWay y now.world d n → HasCome y layout graphs promises serial regions start s events → ⊥
      under u (some e has) = spares e has (under-marked y layout graphs promises serial regions start s (traced events) events now (λ z h. h) run d n u)
      under u (none never) =
          let runs : RunsAs start.world u.client u.run = subst (λ w. RunsAs w u.client u.run) (still-there y layout graphs promises serial regions start s events now never run) u.runs in
          nothing-runs (sym (s.opening.unbegun u.client).1 ∙ runs)

  -- and so of sector 1
  pub map-may : (image : Contents) → IsLeft y now image → (d : ℕ) → MayHold (now.stored d) 1 (image d 1)
  map-may image left d = elim (left d 1) [
    | inl may ↦ may
    | inr u ↦ let m = (under-marked y layout graphs promises serial regions start s (traced events) events now (λ z h. h) run d 1 u).sector in absurd (omega (arith, m))
  ]

  -- ## An image of the start with the stripe as it is left

  -- the stripe's sectors are spared
  abbrev pub SparesStripe : List ColumnState → ℕ → Type 0
  SparesStripe cols t = (i o : ℕ) (at : Spot) → i < y.width → o < y.unit_sectors → seat y cols t i ≡ Some at → Spares at.device (sector_at y at o)

  -- it is an image of the start, whatever that has elsewhere
  spared-image : (cols : List ColumnState) (t : ℕ) (image other : Contents) → IsLeft y now image → SparesStripe cols t → IsImage start.stored other → IsImage start.stored (picked y cols t image other)
  spared-image cols t image other left spares may = picked-image y cols t image other start.stored may (λ i o at iw ow is.
      (holds y layout graphs promises serial regions start s (traced events) events now (λ e has. has) run).left at.device (sector_at y at o) (image at.device (sector_at y at o)) (high at o) (spares i o at iw ow is) (left-may image left at.device (sector_at y at o) (spares i o at iw ow is)))
    where
      high : (at : Spot) (o : ℕ) → sector_at y at o ≢ 1
      high at o h = omega (arith, h)

  -- so the stripe lies in the regions if it is unsound
  pub spared-lies : (cols : List ColumnState) → UnsoundLieIn y serial regions cols start → (t : ℕ) (image : Contents) → IsLeft y now image → IsUnsound y cols image t → SparesStripe cols t → regions (region_of y.stripes t) ≡ true
  spared-lies cols lie t image left u spares =
      let other : Contents = λ d. (start.stored d).now in
      (lie (picked y cols t image other) t (spared-image cols t image other left spares (λ d n. s.may_hold d n)) (picked-unsound y cols t image other u)).0

  -- ## Until an event of the world has come

  abbrev All : (ℕ → ℕ) → Type 0
  All bytes = MarksAll serial y.stripes regions bytes

  -- what the start had in sector 1 of a device, where that was left
  map-of : (d : ℕ) (bytes : ℕ → ℕ) → MayHold (start.stored d) 1 bytes ⊎ All bytes → ℕ → ℕ
  map-of d bytes (inl may) = bytes
  map-of d bytes (inr good) = (start.stored d).now 1

  map-of-may : (d : ℕ) (bytes : ℕ → ℕ) (q : MayHold (start.stored d) 1 bytes ⊎ All bytes) → MayHold (start.stored d) 1 (map-of d bytes q)
  unfolding map-of
  map-of-may d bytes (inl may) = may
  map-of-may d bytes (inr good) = s.may_hold d 1

  -- where it was a map, that is left, or one with all regions
  map-of-is : (d : ℕ) (bytes : ℕ → ℕ) (q : MayHold (start.stored d) 1 bytes ⊎ All bytes) (marks : ℕ → Bool) → IsMap serial y.stripes marks (map-of d bytes q) → IsMap serial y.stripes marks bytes ⊎ All bytes
  unfolding map-of
  map-of-is d bytes (inl may) marks map = inl map
  map-of-is d bytes (inr good) marks map = inr good

  module _ (clear : Unclear events) (image : Contents) (left : IsLeft y now image) where
    kept-map : (d : ℕ) → MayHold (start.stored d) 1 (image d 1) ⊎ All (image d 1)
    kept-map d = (keeps y layout graphs promises serial regions start s (traced events) events now (λ z h. h) clear run).left d (image d 1) (map-may image left d)

    -- what the start held, with its maps as they are left
    begun : Contents
    begun d n k = if n == 1 then map-of d (image d 1) (kept-map d) k else (start.stored d).now n k

    begun-map : (d : ℕ) → SameSector (begun d 1) (map-of d (image d 1) (kept-map d))
    unfolding begun
    begun-map d k kw = refl

    begun-image : IsImage start.stored begun
    unfolding begun
    begun-image d n = elim (cases_eq n 1) [
      | inl e ↦ subst (λ z. MayHold (start.stored d) z (begun d z)) (sym e) (may-same (start.stored d) 1 (begun d 1) (map-of d (image d 1) (kept-map d)) (begun-map d) (map-of-may d (image d 1) (kept-map d)))
      | inr ne ↦ may-same (start.stored d) n (begun d n) ((start.stored d).now n) (λ k kw. cond-false (n == 1) _ _ (ne_eqb n 1 ne)) (s.may_hold d n)
    ]

    -- the union marks a stripe that is unsound
    never-marked : (cols : List ColumnState) → UnsoundLieIn y serial regions cols start → (t : ℕ) → IsUnsound y cols image t → SparesStripe cols t → UnionMarks y serial cols image (region_of y.stripes t)
    never-marked cols lie t u spares = go (map-of-is q.1.device (image q.1.device 1) (kept-map q.1.device) q.1.marks map)
      where
        x : Contents
        x = picked y cols t image begun

        q : (regions (region_of y.stripes t) ≡ true) × UnionMarks y serial cols x (region_of y.stripes t)
        q = lie x t (spared-image cols t image begun left spares begun-image) (picked-unsound y cols t image begun u)

        map : IsMap serial y.stripes q.1.marks (map-of q.1.device (image q.1.device 1) (kept-map q.1.device))
        map =
            let d = q.1.device in
            map-same serial y.stripes q.1.marks (map-of d (image d 1) (kept-map d)) (x d 1)
            (sector-sym (x d 1) (map-of d (image d 1) (kept-map d)) (sector-then (x d 1) (begun d 1) (map-of d (image d 1) (kept-map d)) (picked-map y cols t image begun d) (begun-map d))) q.1.map

        go : IsMap serial y.stripes q.1.marks (image q.1.device 1) ⊎ All (image q.1.device 1) → UnionMarks y serial cols image (region_of y.stripes t)
        go (inl is) = record { column = q.1.column; device = q.1.device; used = q.1.used; marks = q.1.marks; map = is; marked = q.1.marked }
        go (inr good) = record { column = q.1.column; device = q.1.device; used = q.1.used; marks = good.marks; map = good.map; marked = good.all (region_of y.stripes t) q.0 }

  -- ## Both

  -- one of these columns' devices is in use as the array is opened
  abbrev pub UsedIn : List ColumnState → Type 0
  UsedIn cols = (c : ℕ) × (d : ℕ) × HasDevice cols c d × HasDevice start.world.columns c d

  marked-by : (cols : List ColumnState) → UnsoundLieIn y serial regions cols start → Alone cols → Unclear events → (image : Contents) → IsLeft y now image → (t : ℕ) → IsUnsound y cols image t → UsedIn cols → UnionMarks y serial cols image (region_of y.stripes t)
  marked-by cols lie alone clear image left t u used = go (has-come y layout graphs promises serial regions start s events) (cases_Bool (regions (region_of y.stripes t)))
    where
      go : HasCome y layout graphs promises serial regions start s events → (regions (region_of y.stripes t) ≡ true) ⊎ (regions (region_of y.stripes t) ≡ false) → UnionMarks y serial cols image (region_of y.stripes t)
      go (none never) m = never-marked clear image left cols lie t u (λ i o at iw ow is e has. absurd (never e has))
      go (some e has) (inr not) = absurd (let z : true ≡ false = sym (spared-lies cols lie t image left u (outside cols alone t u.stripe not)) ∙ not in let v : ⊥ = cc in v)
      go (some e has) (inl is) =
          let d = used.1 in
          let map = used-marked y layout graphs promises serial regions start s events now clear run e has d (used.0, used.3) (image d 1) (map-may image left d) in
          record { column = used.0; device = d; used = used.2; marks = map.marks; map = map.map; marked = map.all (region_of y.stripes t) is }

  -- by the columns as they were opened
  pub unsound-marked : UnsoundLieIn y serial regions start.world.columns start → Unclear events → (image : Contents) → IsLeft y now image → (t : ℕ) → IsUnsound y start.world.columns image t → UnionMarks y serial start.world.columns image (region_of y.stripes t)
  unsound-marked lie clear image left t u =
      let a = available-seat y start.world.columns t 0 (u.complete 0 (let c = layout.checks_below in omega (arith, c))) in
      let used = seat-device y start.world.columns t 0 a.0 a.1 in
      marked-by start.world.columns lie start-alone clear image left t u (a.0.column, a.0.device, used, used)

  -- by those from which they came
  module _ (cols : List ColumnState) (earlier : IsEarlier cols start.world.columns events) where
    had-before : (c d : ℕ) → HasDevice start.world.columns c d → HasDevice cols c d
    had-before c d has = go (earlier.each c) has
      where
        go : (slice_get start.world.columns c ≡ slice_get cols c) ⊎ (slice_get start.world.columns c ≡ Some Dead) → HasDevice start.world.columns c d → HasDevice cols c d
        go (inl same) (inl h) = inl (sym same ∙ h)
        go (inl same) (inr h) = inr (h.0, sym same ∙ h.1)
        go (inr dead) (inl h) = absurd (let z : Some Dead ≡ Some (Live d) = sym dead ∙ h in let u : ⊥ = cc in u)
        go (inr dead) (inr h) = absurd (let z : Some Dead ≡ Some (Filling d h.0) = sym dead ∙ h.1 in let u : ⊥ = cc in u)

    earlier-alone : Alone cols
    earlier-alone c k d (inl had) used = earlier.order.one_column c k d (had-before c d had) used
    earlier-alone c k d (inr fill) used = earlier.filled k c d fill.0 used (traced-has events (event.Fill c d fill.0) fill.1)

    -- of two units one is there
    earlier-used : (image : Contents) (t : ℕ) → IsUnsound y cols image t → UsedIn cols
    earlier-used image t u = go (cases_Bool (is_available y start.world.columns t 0)) (cases_Bool (is_available y start.world.columns t 1))
      where
        w1 : 1 < y.width
        w1 = let a = layout.checks_below in let b = u.checked in omega (arith, a, b)

        by-unit : (i : ℕ) → is_available y start.world.columns t i ≡ true → UsedIn cols
        by-unit i is =
            let a = available-seat y start.world.columns t i is in
            let used = seat-device y start.world.columns t i a.0 a.1 in
            (a.0.column, a.0.device, had-before a.0.column a.0.device used, used)

        go : (is_available y start.world.columns t 0 ≡ true) ⊎ (is_available y start.world.columns t 0 ≡ false) → (is_available y start.world.columns t 1 ≡ true) ⊎ (is_available y start.world.columns t 1 ≡ false) → UsedIn cols
        go (inl is) b = by-unit 0 is
        go (inr not) (inl is) = by-unit 1 is
        go (inr not) (inr neither) = absurd (let z = (s.opening.not_lost t u.stripe 0 1 (omega (arith, w1)) w1 not neither).1 in omega (arith, z))

    pub earlier-marked : UnsoundLieIn y serial regions cols start → Unclear events → (image : Contents) → IsLeft y now image → (t : ℕ) → IsUnsound y cols image t → UnionMarks y serial cols image (region_of y.stripes t)
    earlier-marked lie clear image left t u = marked-by cols lie earlier-alone clear image left t u (earlier-used image t u)
