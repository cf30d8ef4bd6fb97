-- A rebuild that may start over an array, were its column dead where it is to be rebuilt anew, may still where that is so, and where others have died.
use Rattle.std.proofs.Common.{◌≡◌, ◌⊎◌, inl, inr, ℕ, zero, suc, ◌<◌, ◌≤◌, List, [], ◌∷◌, Bool, length, Option, Some, None, slice_get, refl, sym, ◌∙◌, ap, subst, arith}
use Rattle.std.specs.Prelude.{Vec, slice_set, count_by, ◌&&◌, ◌||◌, ◌==◌, true, false}
use Rattle.std.specs.declared.alloc.Global.{Global}
use Rattle.std.proofs.lemmas.Bool.{cases_eq}
use Rattle.std.proofs.lemmas.List.{length-map, length-set}
use Rattle.std.proofs.lemmas.Option.{slice_get_within, get_or_from_slice_get}
use Rattle.blk_disk.specs.declared.disk.Disk.{Ghosts as DiskGhosts}
use Rattle.blk_disk.specs.Devices.{device_at, size_of, StaysIf, Changes}
use Rattle.blk_disk.proofs.DeviceLaws.{device_at-get}
use Rattle.lay_core.specs.Layout.{Shape}
use Rattle.lay_core.specs.declared.layout.Layout.{Ghosts as LayoutGhosts}
use Rattle.eng_cols.specs.declared.column.Column.{Column}
use Rattle.eng_cols.specs.declared.column.Column.TheVariants as column
use Rattle.eng_cols.specs.Cols.{ColumnState, Dead, Filling, Spread, AtMostOne, device_set, is_done_on, is_set_filling, is_spread, none_done, passes, state_set, HasDeviceOn}
use Rattle.eng_cols.specs.Deaths.{Dies}
use Rattle.eng_cols.specs.Fewer.{DieApart}
use Rattle.eng_cols.specs.Seats.{is_place_on, is_unit_of}
use Rattle.eng_cols.specs.Stripes.{filled_in, states_of}
use Rattle.eng_cols.proofs.Fewer.{states-die, states-same}
use Rattle.eng_cols.proofs.Lists.{count_at_most, get_set_other}
use Rattle.eng_world.specs.Serving.{IsLeft}
use Rattle.eng_rest.specs.Left.{alive}
use Rattle.eng_rest.proofs.Summing.{below-le}
use Rattle.eng_array.specs.Fitting.{BeginsAtMost, FitsRebuilding, item_events, row_events}
use Rattle.eng_array.specs.Serving.{most_for_unit}
use Rattle.eng_array.specs.declared.start.Start.{Start}
use Rattle.eng_array.specs.declared.start.Start.TheVariants as start
use Rattle.eng_log.specs.Given.{items_at}
use Rattle.eng_parts.specs.declared.setup.Setup.{Setup}
use Rattle.top_close.specs.Dying.{AnyCause}
use Rattle.top_close.proofs.DyingLaws.{dies_unfilled}
use Rattle.top_close.proofs.SettledLaws.{set_here}
use Rattle.top_close.proofs.StageLaws.{live_before}
use Rattle.top_serve.specs.Setups.{IsFreeDevice, IsUnfilled, HasSparePlaces, MayRebuild, MayStart}
use Rattle.top_serve.proofs.Deaths.{alive-less, events-less, get-device, later, row-less, there-later}
use Rattle.top_labelled.specs.Begun.{IsAlone, IsSeated, IsSeatedIf, IsColumnWithin, without}
use Rattle.top_labelled.specs.Words.{began_of}
use Rattle.top_labelled.specs.Given.{RebuildsIf, with_dead}
use Rattle.top_labelled.proofs.Kept.{free-two}
use Rattle.top_labelled.proofs.Without.{began-asked, dies-behind, filling-at, never, none-beside, not-some, some-same, still-filling}

-- a spread column of those that may have died was spread
spread-before : (old new : List Column) → Dies AnyCause old new → (c : ℕ) → slice_get new c ≡ Some column.Spread → slice_get old c ≡ Some column.Spread
spread-before old new dies c is = elim (dies.each c) [
  | inl same ↦ sym same ∙ is
  | inr dead ↦ let z : Some column.Spread ≡ Some column.Dead = sym is ∙ dead.0 in absurd (let u : ⊥ = cc in u)
]

-- ## Stripes of a column

passes-some : (o p : Option ColumnState) → (p ≡ o) ⊎ (p ≡ Some Dead) → passes is_spread p ≡ true → passes is_spread o ≡ true
passes-some o p (inl same) h = ap (passes is_spread) (sym same) ∙ h
passes-some o p (inr dead) h = never (sym h ∙ ap (passes is_spread) dead)

and-one : (a b : Bool) → (a && b) ≡ true → (a ≡ true) × (b ≡ true)
and-one true b h = (refl, h)
and-one false b h = never (sym h)

or-more : (a b e : Bool) → (b ≡ true → e ≡ true) → (a || b) ≡ true → (a || e) ≡ true
or-more true b e more h = refl
or-more false b e more h = more h

and-more : (a b e : Bool) → (a ≡ true → e ≡ true) → (a && b) ≡ true → (e && b) ≡ true
and-more a b e more h = let both = and-one a b h in ap (λ x. x && b) (more both.0) ∙ both.1

abbrev StatesDie : List ColumnState → List ColumnState → Type 0
StatesDie old new = (c : ℕ) → (slice_get new c ≡ slice_get old c) ⊎ (slice_get new c ≡ Some Dead)

module _ (y : Shape) (old new : List ColumnState) (each : StatesDie old new) where
  unit-of-before : (s i c : ℕ) → is_unit_of y new s i c ≡ true → is_unit_of y old s i c ≡ true
  unit-of-before s i c =
      let own = (y.place s i).column in
      or-more (c == own) (passes is_spread (slice_get new own) && is_place_on (y.spare s) c) (passes is_spread (slice_get old own) && is_place_on (y.spare s) c)
      (and-more (passes is_spread (slice_get new own)) (is_place_on (y.spare s) c) (passes is_spread (slice_get old own)) (passes-some (slice_get old own) (slice_get new own) (each own)))

  -- what is left to do of a column that hasn't died was so
  left-before : (c s : ℕ) → slice_get new c ≡ slice_get old c → IsLeft y new c s → IsLeft y old c s
  left-before c s same left = record {
    within = left.within;
    of_column = (left.of_column.0, left.of_column.1, unit-of-before s left.of_column.0 c left.of_column.2);
    left = ap (λ (o : Option ColumnState). is_done_on o s) (sym same) ∙ left.left;
  }

  begins-later : (c asked n : ℕ) → slice_get new c ≡ slice_get old c → BeginsAtMost y old c asked n → BeginsAtMost y new c asked n
  begins-later c asked n same (inl few) = inl few
  begins-later c asked n same (inr most) = inr (λ stripes rising all. most stripes rising (λ s has. left-before c s same (all s has)))

-- ## Room in the trace

module _ {L D : Type 0} (lay : LayoutGhosts L) (setup : Setup L D) (devices : Vec (Option D) Global) (columns : Vec Column Global) (old new : List ColumnState) (long : length new ≡ length old) (each : StatesDie old new) (c asked : ℕ) (same : slice_get new c ≡ slice_get old c) where
  abbrev y : Shape
  y = lay.shape setup.layout

  fewer : alive new ≤ alive old
  fewer = alive-less old new long each

  pub rebuilding-later : FitsRebuilding lay setup old c asked → FitsRebuilding lay (later setup devices columns) new c asked
  rebuilding-later fits kept =
      let room = fits kept in
      let few = fewer in
      let rows = below-le (λ k. row_events y setup.graphs.items (alive old) (items_at setup.clients.items k)) (λ k. row_events y setup.graphs.items (alive new) (items_at setup.clients.items k)) 16
      (λ k l. row-less y setup.graphs.items (alive new) (alive old) (items_at setup.clients.items k) few) in
      let more = below-le (λ s. item_events (alive old) (most_for_unit y)) (λ s. item_events (alive new) (most_for_unit y)) room.0 (λ s l. events-less (alive new) (most_for_unit y) (alive old) few) in
      let bound = room.2 in
      (room.0, begins-later y old new each c asked room.0 same room.1, omega (arith, rows, more, bound, few))

-- ## States of which one is set

set-both : (xs zs : List ColumnState) (i : ℕ) (x : ColumnState) → length zs ≡ length xs → slice_get (slice_set zs i x) i ≡ slice_get (slice_set xs i x) i
set-both [] [] i x long = refl
set-both [] (z ∷ zs) i x long = absurd (omega (arith, long))
set-both (v ∷ xs) [] i x long = absurd (omega (arith, long))
set-both (v ∷ xs) (z ∷ zs) zero x long = refl
set-both (v ∷ xs) (z ∷ zs) (suc i) x long = set-both xs zs i x (omega (arith, long))

set-die : (old new : List ColumnState) (c : ℕ) (x : ColumnState) → length new ≡ length old → StatesDie old new → StatesDie (slice_set old c x) (slice_set new c x)
set-die old new c x long each k = elim (cases_eq k c) [
  | inr ne ↦ elim (each k) [
    | inl same ↦ inl (get_set_other new c k x ne ∙ (same ∙ sym (get_set_other old c k x ne)))
    | inr dead ↦ inr (get_set_other new c k x ne ∙ dead)
  ]
  | inl e ↦ inl (ap (slice_get (slice_set new c x)) e ∙ (set-both old new c x long ∙ sym (ap (slice_get (slice_set old c x)) e)))
]

states-long : (y : Shape) (columns after : List Column) → length after ≡ length columns → length (states_of y after) ≡ length (states_of y columns)
states-long y columns after long =
    let p = length-map after (state_set y.stripes (filled_in y after)) in
    let q = length-map columns (state_set y.stripes (filled_in y columns)) in
    omega (arith, p, q, long)

-- ## The start

module _ {L D : Type 0} (lay : LayoutGhosts L) (disk : DiskGhosts D) (setup : Setup L D) (devices : Vec (Option D) Global) (columns : Vec Column Global) (begun : List Column) (dies : Dies AnyCause setup.columns.items begun)
    (apart : DieApart setup.columns.items begun) (one : AtMostOne is_set_filling setup.columns.items) (may : ℕ → ℕ → Type 0) (moved : Changes disk may setup.devices.items devices.items) where
  abbrev shape : Shape
  shape = lay.shape setup.layout

  abbrev next : Setup L D
  next = later setup devices columns

  -- ### Anew

  module _ (c : ℕ) (within : c < length setup.columns.items) (alone : (k d m : ℕ) → slice_get setup.columns.items k ≡ Some (column.Filling d m) → k ≡ c) (is : columns.items ≡ slice_set begun c column.Dead) where
    abbrev was : Setup L D
    was = with_dead setup c

    -- the columns die as they do beside the one that is rebuilt
    beside : Dies AnyCause was.columns.items columns.items
    beside = subst (λ (cs : List Column). Dies AnyCause was.columns.items cs) (sym is) (dies-behind setup.columns.items begun c within dies)

    within-begun : c < length begun
    within-begun = subst (λ n. c < n) (sym dies.count) within

    alone-begun : (k d m : ℕ) → slice_get begun k ≡ Some (column.Filling d m) → k ≡ c
    alone-begun k d m at = elim (dies.each k) [
      | inl same ↦ alone k d m (sym same ∙ at)
      | inr dead ↦ let z : Some column.Dead ≡ Some (column.Filling d m) = sym dead.0 ∙ at in absurd (let u : ⊥ = cc in u)
    ]

    -- none is filling
    none : count_by is_set_filling columns.items ≡ 0
    none = ap (λ (cs : List Column). count_by is_set_filling cs) is ∙ none-beside begun c within-begun alone-begun

    none-before : count_by is_set_filling was.columns.items ≡ 0
    none-before = none-beside setup.columns.items c within alone

    each : StatesDie (states_of shape was.columns.items) (states_of shape columns.items)
    each = states-die shape was.columns.items columns.items (dies_unfilled AnyCause was.columns.items columns.items beside none) (count_at_most is_set_filling was.columns.items (omega (arith, none-before)))

    long : length (states_of shape columns.items) ≡ length (states_of shape was.columns.items)
    long = states-long shape was.columns.items columns.items beside.count

    anew-room : (x : ColumnState) (asked : ℕ) → FitsRebuilding lay was (slice_set (states_of shape was.columns.items) c x) c asked → FitsRebuilding lay next (slice_set (states_of shape columns.items) c x) c asked
    anew-room x asked =
        let old = states_of shape was.columns.items in
        let new = states_of shape columns.items in
        let a = length-set old c x in
        let b = length-set new c x in
        let l = long in
        rebuilding-later lay was devices columns (slice_set old c x) (slice_set new c x) (omega (arith, a, b, l)) (set-die old new c x long each) c asked (set-both old new c x long)

    free-later : (d : ℕ) → IsFreeDevice lay disk was d → IsFreeDevice lay disk next d
    free-later d free =
        let at : device_at setup.devices.items d ≡ Some free.there =
        device_at-get setup.devices.items d None (slice_get_within setup.devices.items d (Some free.there) free.there_is) ∙ get_or_from_slice_get setup.devices.items d (Some free.there) None free.there_is in
        let after = there-later disk (may d) free.there (device_at devices.items d) (subst (λ o. StaysIf disk (may d) o (device_at devices.items d)) at (moved.each d)) in
        let size = after.2 in
        let large = free.size in
        record {
          there = after.0;
          there_is = get-device devices.items d after.0 after.1;
          size = omega (arith, size, large);
          unused = λ k live. free.unused k (live_before AnyCause was.columns.items columns.items k d beside live);
        }

    spare-later : HasSparePlaces lay was → HasSparePlaces lay next
    spare-later has = record { none_spread = λ k spread. has.none_spread k (spread-before was.columns.items columns.items beside k spread); spares = has.spares }

    unfilled-later : IsUnfilled lay next c
    unfilled-later = record { dead = ap (λ (cs : List Column). slice_get cs c) is ∙ set_here begun c column.Dead within-begun; none_filling = none }

    fill-later : (d most : ℕ) → MayRebuild lay disk was (start.Fill c d most) → MayRebuild lay disk next (start.Fill c d most)
    fill-later d most can = record { target = (unfilled-later, free-later d can.target.1); room = anew-room (Filling d (none_done shape.stripes)) most can.room }

    spread-later : MayRebuild lay disk was (start.Spread c) → MayRebuild lay disk next (start.Spread c)
    spread-later can = record { target = (unfilled-later, spare-later can.target.1); room = anew-room (Spread (none_done shape.stripes)) 4294967295 can.room }

  -- ### Further

  resume-later : (c most : ℕ) → columns.items ≡ begun → passes is_set_filling (slice_get begun c) ≡ true → MayRebuild lay disk setup (start.Resume c most) → MayRebuild lay disk next (start.Resume c most)
  resume-later c most is filling can =
      let same : slice_get begun c ≡ slice_get setup.columns.items c = elim (dies.each c) [
        | inl same ↦ same
        | inr dead ↦ never (sym filling ∙ ap (passes is_set_filling) dead.0)
      ] in
      let die : DieApart setup.columns.items columns.items = subst (λ (cs : List Column). DieApart setup.columns.items cs) (sym is) apart in
      let at = filling-at (slice_get begun c) filling in
      record {
        target = (at.0, at.1, ap (λ (cs : List Column). slice_get cs c) is ∙ at.2);
        room =
            rebuilding-later lay setup devices columns (states_of shape setup.columns.items) (states_of shape columns.items) (states-long shape setup.columns.items columns.items (ap (λ (cs : List Column). length cs) is ∙ dies.count))
            (states-die shape setup.columns.items columns.items die one) c most (states-same shape setup.columns.items columns.items die one c (ap (λ (cs : List Column). slice_get cs c) is ∙ same)) can.room;
      }

  -- ### Either

  starts : (faulty : Bool) (t : Start) → RebuildsIf lay disk setup (Some t) → columns.items ≡ without (Some t) begun → began_of faulty (Some t) setup.columns.items begun ≡ Some t → MayRebuild lay disk next t
  starts faulty (start.Fill c d most) can is why = fill-later c can.within can.alone is d most can.may
  starts faulty (start.Resume c most) can is why =
      resume-later c most is (still-filling faulty (Some (start.Resume c most)) setup.columns.items begun c most why (ap (passes is_set_filling) can.may.target.2)) can.may
  starts faulty (start.Spread c) can is why = spread-later c can.within can.alone is can.may

  starts-as : (faulty : Bool) (asked : Option Start) (how : Start) → asked ≡ Some how → RebuildsIf lay disk setup asked → columns.items ≡ without asked begun → began_of faulty asked setup.columns.items begun ≡ Some how → MayRebuild lay disk next how
  starts-as faulty None how same can is why = not-some how same
  starts-as faulty (Some t) how same can is why =
      let e : t ≡ how = some-same t how same in
      subst (λ (u : Start). MayRebuild lay disk next u) e (starts faulty t can is (why ∙ ap (λ (u : Start). Some u) (sym e)))

  pub start-later : (faulty : Bool) (asked began : Option Start) → RebuildsIf lay disk setup asked → columns.items ≡ without asked begun → began ≡ began_of faulty asked setup.columns.items begun → MayStart lay disk next began
  start-later faulty asked None can is why = tt
  start-later faulty asked (Some how) can is why = starts-as faulty asked how (began-asked faulty asked setup.columns.items begun how (sym why)) can is (sym why)

pub rebuilds-within : {L D : Type 0} (lay : LayoutGhosts L) (disk : DiskGhosts D) (setup : Setup L D) (asked : Option Start) → RebuildsIf lay disk setup asked → IsColumnWithin asked (length setup.columns.items)
rebuilds-within lay disk setup None can = tt
rebuilds-within lay disk setup (Some how) can = can.within

pub rebuilds-alone : {L D : Type 0} (lay : LayoutGhosts L) (disk : DiskGhosts D) (setup : Setup L D) (asked : Option Start) → RebuildsIf lay disk setup asked → IsAlone asked setup.columns.items
rebuilds-alone lay disk setup None can = tt
rebuilds-alone lay disk setup (Some how) can = can.alone

pub rebuilds-seated : {L D : Type 0} (lay : LayoutGhosts L) (disk : DiskGhosts D) (setup : Setup L D) (asked began : Option Start) → RebuildsIf lay disk setup asked → (began ≡ None) ⊎ (began ≡ asked) → IsSeatedIf (length setup.columns.items) began
rebuilds-seated lay disk setup asked None can why = tt
rebuilds-seated lay disk setup None (Some how) can why = absurd (elim why [
  | inl h ↦ let z : Some how ≡ None = h in let u : ⊥ = cc in u
  | inr h ↦ let z : Some how ≡ None = h in let u : ⊥ = cc in u
])
rebuilds-seated lay disk setup (Some asked) (Some how) can why = elim why [
  | inl h ↦ let z : Some how ≡ None = h in absurd (let u : ⊥ = cc in u)
  | inr h ↦ let e : asked ≡ how = let z : Some how ≡ Some asked = h in cc in subst (λ (t : Start). IsSeated (length setup.columns.items) t) e can.seated
]

-- no other column has the device onto which it goes
pub target-alone : {L D : Type 0} (lay : LayoutGhosts L) (disk : DiskGhosts D) (setup : Setup L D) (asked : Option Start) (c d most : ℕ) → RebuildsIf lay disk setup asked → asked ≡ Some (start.Fill c d most) → (k : ℕ) → HasDeviceOn setup.columns.items k d → k ≡ c
target-alone lay disk setup None c d most can is k live = not-some (start.Fill c d most) is
target-alone lay disk setup (Some (start.Spread e)) c d most can is k live = let z : Some (start.Spread e) ≡ Some (start.Fill c d most) = is in absurd (let u : ⊥ = cc in u)
target-alone lay disk setup (Some (start.Resume e n)) c d most can is k live = let z : Some (start.Resume e n) ≡ Some (start.Fill c d most) = is in absurd (let u : ⊥ = cc in u)
target-alone lay disk setup (Some (start.Fill e f n)) c d most can is k live =
    let z : Some (start.Fill e f n) ≡ Some (start.Fill c d most) = is in
    let first : e ≡ c = cc in
    let second : f ≡ d = cc in
    elim (cases_eq k e) [
      | inl same ↦ same ∙ first
      | inr ne ↦ absurd (can.may.target.1.unused k (ap device_set (get_set_other setup.columns.items e k column.Dead ne) ∙ (live ∙ ap (λ (n : ℕ). Some n) (sym second))))
    ]

-- the device has a second sector
pub target-sized : {L D : Type 0} (lay : LayoutGhosts L) (disk : DiskGhosts D) (setup : Setup L D) (asked : Option Start) (c d most : ℕ) → RebuildsIf lay disk setup asked → asked ≡ Some (start.Fill c d most) → 2 ≤ size_of disk setup.devices.items d
target-sized lay disk setup None c d most can is = not-some (start.Fill c d most) is
target-sized lay disk setup (Some (start.Spread e)) c d most can is = let z : Some (start.Spread e) ≡ Some (start.Fill c d most) = is in absurd (let u : ⊥ = cc in u)
target-sized lay disk setup (Some (start.Resume e n)) c d most can is = let z : Some (start.Resume e n) ≡ Some (start.Fill c d most) = is in absurd (let u : ⊥ = cc in u)
target-sized lay disk setup (Some (start.Fill e f n)) c d most can is =
    let same : f ≡ d = (let z : Some (start.Fill e f n) ≡ Some (start.Fill c d most) = is in cc) in
    subst (λ (k : ℕ). 2 ≤ size_of disk setup.devices.items k) same (free-two lay disk (with_dead setup e) f can.may.target.1)
