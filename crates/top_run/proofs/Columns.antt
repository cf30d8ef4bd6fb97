-- The columns as they were handed in, as they are handed back, and as they are in the end.
use Rattle.std.proofs.Common.{◌≡◌, ◌⊎◌, inl, inr, ℕ, List, Bool, true, false, Option, Some, None, option_map, refl, sym, ◌∙◌, ap, arith}
use Rattle.std.specs.Prelude.{slice_get, count_by, IsSome, is_some}
use Rattle.std.proofs.lemmas.Option.{slice_get-map, slice_get_within, get_or_from_slice_get}
use Rattle.blk_disk.specs.declared.disk.Disk.{Ghosts as DiskGhosts}
use Rattle.blk_disk.specs.Devices.{device_at, RisesOn, StaysIf}
use Rattle.blk_disk.proofs.DeviceLaws.{device_at-get, changes-refl, rises-wider}
use Rattle.lay_core.specs.Layout.{Shape}
use Rattle.lay_core.specs.declared.layout.Layout.{Ghosts as LayoutGhosts}
use Rattle.eng_cols.specs.declared.column.Column.{Column}
use Rattle.eng_cols.specs.declared.column.Column.TheVariants as set
use Rattle.eng_cols.specs.declared.spot.Loss.{Loss}
use Rattle.eng_cols.specs.Cols.{Live, Filling, HasDevice, AtMostOne, device_set, state_set, is_set_filling, is_set_spread, passes, HasDeviceOn}
use Rattle.eng_cols.specs.Deaths.{Dies, LosesDevice}
use Rattle.eng_cols.specs.Fewer.{DieApart}
use Rattle.eng_cols.specs.Stripes.{filled_in, spreads, states_of}
use Rattle.eng_cols.proofs.DeathLaws.{dies-more}
use Rattle.eng_cols.proofs.Lists.{count_at_most}
use Rattle.eng_parts.specs.declared.setup.Setup.{Setup}
use Rattle.eng_parts.specs.declared.setup.Closed.{Closed}
use Rattle.eng_events.specs.Opened.{IsSetup}
use Rattle.eng_array.specs.declared.start.Start.{Start}
use Rattle.top_close.specs.Reserved.{IsReserved}
use Rattle.top_close.proofs.DyingLaws.{dies_apart, unspread}
use Rattle.top_close.specs.Stage.{IsGivenUp, IsGivenUpIn}
use Rattle.top_serve.specs.Setups.{with_start}
use Rattle.top_serve.specs.Served as served
use Rattle.top_serve.specs.Served.{IsKeptAs}
use Rattle.top_serve.proofs.Closings.{none-count}
use Rattle.top_serve.proofs.MayBegin.{counted, was-filling, was-live}
use Rattle.top_run.specs.Work.{Service}
use Rattle.top_run.specs.Works.{work_of}
use Rattle.top_run.specs.Ends.{CanBeEnded, EndsSo}
use Rattle.top_run.specs.Ran.{RisesAt, begun_in}

-- ## Devices

has-set : (n : ℕ) (l : List Bool) (o : Option Column) (d : ℕ) → device_set o ≡ Some d → (option_map (state_set n l) o ≡ Some (Live d)) ⊎ ((done : List Bool) × (option_map (state_set n l) o ≡ Some (Filling d done)))
has-set n l (Some (set.Live e)) d h = let z : Some e ≡ Some d = h in let same : e ≡ d = cc in inl (ap (λ v. Some (Live v)) same)
has-set n l (Some (set.Filling e m)) d h = let z : Some e ≡ Some d = h in let same : e ≡ d = cc in inr (l, ap (λ v. Some (Filling v l)) same)
has-set n l (Some set.Dead) d h = let z : None ≡ Some d = h in absurd (let u : ⊥ = cc in u)
has-set n l (Some set.Spread) d h = let z : None ≡ Some d = h in absurd (let u : ⊥ = cc in u)
has-set n l None d h = let z : None ≡ Some d = h in absurd (let u : ⊥ = cc in u)

-- a column that has a device has it as it is set
pub device-in : (y : Shape) (columns : List Column) (c d : ℕ) → HasDeviceOn columns c d → HasDevice (states_of y columns) c d
device-in y columns c d h = elim (has-set y.stripes (filled_in y columns) (slice_get columns c) d h) [
  | inl live ↦ inl (slice_get-map (state_set y.stripes (filled_in y columns)) columns c ∙ live)
  | inr fills ↦ inr (fills.0, slice_get-map (state_set y.stripes (filled_in y columns)) columns c ∙ fills.1)
]

-- and one that has it as it is set has it
pub device-on : (y : Shape) (columns : List Column) (c d : ℕ) → HasDevice (states_of y columns) c d → HasDeviceOn columns c d
device-on y columns c d (inl h) = was-live y.stripes (filled_in y columns) (slice_get columns c) d (sym (slice_get-map (state_set y.stripes (filled_in y columns)) columns c) ∙ h)
device-on y columns c d (inr h) = was-filling y.stripes (filled_in y columns) h.0 (slice_get columns c) d (sym (slice_get-map (state_set y.stripes (filled_in y columns)) columns c) ∙ h.1)

-- columns that are the same have the same devices
pub device-same : (y : Shape) (one other : List Column) (c d : ℕ) → slice_get one c ≡ slice_get other c → HasDevice (states_of y one) c d → HasDevice (states_of y other) c d
device-same y one other c d same has = device-in y other c d (ap device_set (sym same) ∙ device-on y one c d has)

pub no-device : {A : Type 0} (o : Option Column) (d : ℕ) → device_set o ≡ None → device_set o ≡ Some d → A
no-device o d none h = let z : None ≡ Some d = sym none ∙ h in absurd (let u : ⊥ = cc in u)

-- of columns that may have died one that has a device had it
pub device-before : (cause : ℕ → Type 0) (old new : List Column) → Dies cause old new → (c d : ℕ) → HasDeviceOn new c d → HasDeviceOn old c d
device-before cause old new dies c d has = elim (dies.each c) [
  | inl same ↦ ap device_set (sym same) ∙ has
  | inr dead ↦ no-device (slice_get new c) d (ap device_set dead.0) has
]

-- ## Columns as they are kept

pub kept-device : (was kept : Option Column) (d : ℕ) → IsKeptAs was kept → device_set kept ≡ Some d → device_set was ≡ Some d
kept-device None kept d k h = no-device kept d (ap device_set k) h
kept-device (Some (set.Live e)) kept d k h = sym (ap device_set k) ∙ h
kept-device (Some set.Dead) kept d k h = no-device kept d (ap device_set k) h
kept-device (Some (set.Filling e m)) kept d (inl k) h = sym (ap device_set k) ∙ h
kept-device (Some (set.Filling e m)) kept d (inr k) h = sym (ap device_set k.1) ∙ h
kept-device (Some set.Spread) kept d k h = no-device kept d (ap device_set k) h

pub not-so : {A : Type 0} (b : Bool) → b ≡ false → b ≡ true → A
not-so b other is = let z : false ≡ true = sym other ∙ is in absurd (let u : ⊥ = cc in u)

pub kept-filling : (was kept : Option Column) → IsKeptAs was kept → passes is_set_filling kept ≡ true → passes is_set_filling was ≡ true
kept-filling None kept k h = not-so (passes is_set_filling kept) (ap (passes is_set_filling) k) h
kept-filling (Some (set.Live e)) kept k h = not-so (passes is_set_filling kept) (ap (passes is_set_filling) k) h
kept-filling (Some set.Dead) kept k h = not-so (passes is_set_filling kept) (ap (passes is_set_filling) k) h
kept-filling (Some (set.Filling e m)) kept k h = refl
kept-filling (Some set.Spread) kept k h = not-so (passes is_set_filling kept) (ap (passes is_set_filling) k) h

-- one that wasn't filling is kept as it was
pub kept-same : (was kept : Option Column) → passes is_set_filling was ≡ false → IsKeptAs was kept → kept ≡ was
kept-same None kept none k = k
kept-same (Some (set.Live e)) kept none k = k
kept-same (Some set.Dead) kept none k = k
kept-same (Some (set.Filling e m)) kept none k = let z : true ≡ false = none in absurd (let u : ⊥ = cc in u)
kept-same (Some set.Spread) kept none k = k

-- one that has a device isn't spread
pub kept-unspread : (was kept : Option Column) (d : ℕ) → device_set was ≡ Some d → IsKeptAs was kept → passes is_set_spread kept ≡ false
kept-unspread None kept d h k = no-device None d refl h
kept-unspread (Some (set.Live e)) kept d h k = ap (passes is_set_spread) k
kept-unspread (Some set.Dead) kept d h k = ap (passes is_set_spread) k
kept-unspread (Some (set.Filling e m)) kept d h (inl k) = ap (passes is_set_spread) k
kept-unspread (Some (set.Filling e m)) kept d h (inr k) = ap (passes is_set_spread) k.1
kept-unspread (Some set.Spread) kept d h k = no-device (Some set.Spread) d refl h

pub filling-unspread : (o : Option Column) → passes is_set_filling o ≡ true → passes is_set_spread o ≡ false
filling-unspread None h = let z : false ≡ true = h in absurd (let u : ⊥ = cc in u)
filling-unspread (Some (set.Live e)) h = refl
filling-unspread (Some set.Dead) h = refl
filling-unspread (Some (set.Filling e m)) h = refl
filling-unspread (Some set.Spread) h = let z : false ≡ true = h in absurd (let u : ⊥ = cc in u)

-- a column that is given up was filling, and so isn't spread
pub given-unspread : (lost : Option Loss) (columns : List Column) (c : ℕ) → IsGivenUp lost columns c → spreads columns c ≡ false
given-unspread None columns c given = absurd given
given-unspread (Some loss) columns c given = filling-unspread (slice_get columns c) given

-- ## None that is filling

-- no column is filling
abbrev pub NoneFilling : List Column → Type 0
NoneFilling columns = (c : ℕ) → passes is_set_filling (slice_get columns c) ≡ false

pub none-filling : (columns : List Column) → count_by is_set_filling columns ≡ 0 → NoneFilling columns
none-filling columns none c = go (slice_get columns c) refl
  where
    by : (x : Column) → slice_get columns c ≡ Some x → (b : Bool) → is_set_filling x ≡ b → is_set_filling x ≡ false
    by x at false is = is
    by x at true is = let one = counted is_set_filling columns c x at is in absurd (omega (arith, one, none))

    go : (o : Option Column) → slice_get columns c ≡ o → passes is_set_filling o ≡ false
    go None at = refl
    go (Some x) at = by x at (is_set_filling x) refl

-- none is where columns have died since
pub none-later : (cause : ℕ → Type 0) (old new : List Column) → Dies cause old new → NoneFilling old → NoneFilling new
none-later cause old new dies none c = elim (dies.each c) [ inl same ↦ ap (passes is_set_filling) same ∙ none c | inr dead ↦ ap (passes is_set_filling) dead.0 ]

-- so none is left to be given up
pub none-given : (lost : Option Loss) (columns : List Column) → NoneFilling columns → IsGivenUpIn lost columns
none-given None columns none = tt
none-given (Some loss) columns none = none-count is_set_filling columns none

-- ## What was served

there-still : {D : Type 0} (g : DiskGhosts D) (may : ℕ → Type 0) (x z : Option D) → IsSome x → StaysIf g may x z → IsSome z
there-still g may None z h stays = let z : false ≡ true = h in absurd (let u : ⊥ = cc in u)
there-still g may (Some x) None h stays = absurd stays
there-still g may (Some x) (Some z) h stays = refl

module _ {L D : Type 0} (lay : LayoutGhosts L) (disk : DiskGhosts D) (setup : Setup L D) (how : Option Start) (closed : Closed L D) (given : IsSetup lay disk setup) (s : served.IsServed lay disk setup how closed) where
  -- a column had its device as it was handed in, or since its rebuild began
  pub had-device : (c d : ℕ) → HasDeviceOn closed.columns.items c d → HasDevice (begun_in (work_of lay setup how)) c d
  had-device c d has = device-in (lay.shape setup.layout) (with_start how setup.columns.items) c d (elim (s.causes.ends c) [
    | inl kept ↦ kept-device (slice_get (with_start how setup.columns.items) c) (slice_get closed.columns.items c) d kept has
    | inr dead ↦ no-device (slice_get closed.columns.items c) d (ap device_set dead.0) has
  ])

  pub one-closed : AtMostOne is_set_filling closed.columns.items
  one-closed = count_at_most is_set_filling closed.columns.items s.tells.filling

  -- ## In the end

  module _ (v : Service) (back : List (Option D)) (e : EndsSo lay closed disk v back) where
    -- a count that rose at the end has risen in all
    pub rise-behind : (d : ℕ) → RisesOn disk closed.devices.items back d → RisesOn disk setup.devices.items back d
    rise-behind d rose = rises-wider disk (served.CoreMayChange lay disk setup how closed) (λ _ _. ⊥) setup.devices.items closed.devices.items back back d s.leaves.frame rose (changes-refl disk (λ _ _. ⊥) back)

    -- so has one that rose before it
    pub rise-before : (d : ℕ) → RisesOn disk setup.devices.items closed.devices.items d → RisesOn disk setup.devices.items back d
    rise-before d rose = rises-wider disk (λ _ _. ⊥) (λ d n. IsReserved true n) setup.devices.items setup.devices.items closed.devices.items back d (changes-refl disk (λ _ _. ⊥) setup.devices.items) rose e.frame

    abbrev EndsBy : ℕ → Type 0
    EndsBy c = RisesAt disk (work_of lay setup how) setup.devices.items v back c ⊎ IsGivenUp v.ending.lost closed.columns.items c

    pub ending-dies : Dies EndsBy closed.columns.items v.ending.columns
    ending-dies =
        dies-more (λ c. LosesDevice disk closed.columns.items closed.devices.items back c ⊎ IsGivenUp v.ending.lost closed.columns.items c) EndsBy closed.columns.items v.ending.columns
        (λ c why. elim why [ inl f ↦ inl (f.device, had-device c f.device f.had, rise-behind f.device f.rose) | inr up ↦ inr up ]) e.dies

    -- a spread column doesn't die then
    pub ending-apart : DieApart closed.columns.items v.ending.columns
    ending-apart =
        dies_apart (λ c. LosesDevice disk closed.columns.items closed.devices.items back c ⊎ IsGivenUp v.ending.lost closed.columns.items c) closed.columns.items v.ending.columns e.dies
        (λ c why. elim why [ inl f ↦ unspread closed.columns.items c f.device f.had | inr up ↦ given-unspread v.ending.lost closed.columns.items c up ])

-- ## Of an array without labels

module _ {L D : Type 0} (lay : LayoutGhosts L) (disk : DiskGhosts D) (setup : Setup L D) (closed : Closed L D) (given : IsSetup lay disk setup) (s : served.IsServed lay disk setup None closed) where
  -- where none is filling none is as it is handed back
  pub none-closed : count_by is_set_filling setup.columns.items ≡ 0 → NoneFilling closed.columns.items
  none-closed none c = by (passes is_set_filling (slice_get closed.columns.items c)) refl
    where
      was : (b : Bool) → passes is_set_filling (slice_get closed.columns.items c) ≡ b → b ≡ true → passes is_set_filling (slice_get setup.columns.items c) ≡ true
      was b is h = elim (s.causes.ends c) [
        | inl kept ↦ kept-filling (slice_get setup.columns.items c) (slice_get closed.columns.items c) kept (is ∙ h)
        | inr dead ↦ not-so (passes is_set_filling (slice_get closed.columns.items c)) (ap (passes is_set_filling) dead.0) (is ∙ h)
      ]

      by : (b : Bool) → passes is_set_filling (slice_get closed.columns.items c) ≡ b → passes is_set_filling (slice_get closed.columns.items c) ≡ false
      by false is = is
      by true is = not-so (passes is_set_filling (slice_get setup.columns.items c)) (none-filling setup.columns.items none c) (was true is refl)

  device-there : (c d : ℕ) → HasDeviceOn closed.columns.items c d → IsSome (device_at closed.devices.items d)
  device-there c d has =
      let there = given.there c d (had-device lay disk setup None closed given s c d has) in
      let is : device_at setup.devices.items d ≡ Some there.0 =
      device_at-get setup.devices.items d None (slice_get_within setup.devices.items d (Some there.0) there.1) ∙ get_or_from_slice_get setup.devices.items d (Some there.0) None there.1 in
      there-still disk (served.CoreMayChange lay disk setup None closed d) (device_at setup.devices.items d) (device_at closed.devices.items d) (ap (λ o. is_some o) is) (s.leaves.frame.each d)

  pub may-end : CanBeEnded lay closed
  may-end = record {
    devices = record { there = device-there; apart = λ c k d one two. given.one_column c k d (had-device lay disk setup None closed given s c d one) (had-device lay disk setup None closed given s k d two) };
    columns = s.causes.count ∙ (given.entries ∙ ap (λ l. (lay.shape l).columns) (sym s.tells.layout));
    filling = s.tells.filling;
    spread = s.tells.spread;
  }
