-- The columns once a rebuild has started, and as they are kept in the end: they can be labelled, and settled.
use Rattle.std.proofs.Common.{◌≡◌, ◌⊎◌, inl, inr, ℕ, ◌<◌, ◌≤◌, ◌+◌, List, Bool, true, false, length, get_or, Option, Some, None, slice_get, refl, sym, ◌∙◌, ap, subst, arith}
use Rattle.std.specs.Prelude.{All, IsSome, count_by, is_some, slice_set}
use Rattle.std.proofs.lemmas.Bool.{cases_eq}
use Rattle.std.proofs.lemmas.List.{length-set}
use Rattle.std.proofs.lemmas.List.Elements.{All-from_get_or, All-get_or, All-set}
use Rattle.std.proofs.lemmas.Option.{slice_get-get_or, slice_get_within, get_or_from_slice_get}
use Rattle.std.specs.Option.{option_map_or}
use Rattle.blk_disk.specs.declared.disk.Disk.{Ghosts as DiskGhosts}
use Rattle.blk_disk.specs.Devices.{Changes, StaysIf, device_at, size_of}
use Rattle.blk_disk.proofs.DeviceLaws.{changes_size, device_at-get}
use Rattle.lay_core.specs.declared.layout.Layout.{Ghosts as LayoutGhosts}
use Rattle.eng_cols.specs.declared.column.Column.{Column}
use Rattle.eng_cols.specs.declared.column.Column.TheVariants as column
use Rattle.eng_cols.specs.Cols.{device_set, is_set_filling, is_set_spread, passes, HasDeviceOn}
use Rattle.eng_cols.proofs.Lists.{get_set_either, get_set_other}
use Rattle.eng_array.specs.declared.start.Start.{Start}
use Rattle.eng_array.specs.declared.start.Start.TheVariants as start
use Rattle.eng_parts.specs.declared.setup.Setup.{Setup}
use Rattle.top_rounds.specs.Labels.{IsNumbered}
use Rattle.top_rounds.specs.Passes.{CanBeLabelled}
use Rattle.top_serve.specs.Served.{IsKeptAs}
use Rattle.top_serve.specs.Setups.{IsFreeDevice, MayStart, with_start}
use Rattle.top_labelled.specs.Begun.{IsAnew, IsSeatedIf}
use Rattle.top_labelled.proofs.Lists.{count-less, count-set, none-passing}
use Rattle.top_labelled.proofs.Without.{not-some, some-same}

-- ## A rebuild that has started

pub length-started : (began : Option Start) (columns : List Column) → length (with_start began columns) ≡ length columns
length-started None columns = refl
length-started (Some (start.Fill c d most)) columns = length-set columns c (column.Filling d 0)
length-started (Some (start.Resume c most)) columns = refl
length-started (Some (start.Spread c)) columns = length-set columns c column.Spread

-- another column is what it was
pub started-other : (began : Option Start) (columns : List Column) (c : ℕ) → (IsAnew began c → ⊥) → slice_get (with_start began columns) c ≡ slice_get columns c
started-other None columns c not = refl
started-other (Some (start.Fill k d most)) columns c not = get_set_other columns k c (column.Filling d 0) (λ e. not (sym e))
started-other (Some (start.Resume k most)) columns c not = refl
started-other (Some (start.Spread k)) columns c not = get_set_other columns k c column.Spread (λ e. not (sym e))

-- it goes onto the device, anew
abbrev pub FillsOn : Option Start → ℕ → ℕ → Type 0
FillsOn began c d = (most : ℕ) × (began ≡ Some (start.Fill c d most))

-- a column that has a device then had it, or is the one that is rebuilt onto that
pub had-started : (began : Option Start) (columns : List Column) (k e : ℕ) → HasDeviceOn (with_start began columns) k e → HasDeviceOn columns k e ⊎ FillsOn began k e
had-started None columns k e has = inl has
had-started (Some (start.Fill c d most)) columns k e has = elim (cases_eq k c) [
  | inr ne ↦ inl (ap device_set (sym (get_set_other columns c k (column.Filling d 0) ne)) ∙ has)
  | inl same ↦ elim (get_set_either columns c k (column.Filling d 0)) [
    | inr kept ↦ inl (ap device_set (sym kept) ∙ has)
    | inl written ↦
        let device : d ≡ e = some-same d e (ap device_set (sym written) ∙ has) in
        inr (most, ap (λ n. Some (start.Fill n d most)) (sym same) ∙ ap (λ n. Some (start.Fill k n most)) device)
  ]
]
had-started (Some (start.Resume c most)) columns k e has = inl has
had-started (Some (start.Spread c)) columns k e has = elim (get_set_either columns c k column.Spread) [
  | inr kept ↦ inl (ap device_set (sym kept) ∙ has)
  | inl written ↦ not-some e (ap device_set (sym written) ∙ has)
]

-- what passes then passed, where the one that is rebuilt doesn't
passed : (p : Column → Bool) (columns : List Column) (c k : ℕ) (x : Column) → p x ≡ false → passes p (slice_get (slice_set columns c x) k) ≡ true → passes p (slice_get columns k) ≡ true
passed p columns c k x not h = elim (get_set_either columns c k x) [
  | inr kept ↦ ap (passes p) (sym kept) ∙ h
  | inl written ↦ let z : false ≡ true = sym not ∙ (ap (passes p) (sym written) ∙ h) in absurd (let u : ⊥ = cc in u)
]

unspread : (o : Option Column) → (o ≡ Some column.Spread → ⊥) → passes is_set_spread o ≡ false
unspread None not = refl
unspread (Some (column.Live d)) not = refl
unspread (Some column.Dead) not = refl
unspread (Some (column.Filling d m)) not = refl
unspread (Some column.Spread) not = absurd (not refl)

module _ {L D : Type 0} (lay : LayoutGhosts L) (disk : DiskGhosts D) (setup : Setup L D) where
  abbrev columns : List Column
  columns = setup.columns.items

  abbrev devices : List (Option D)
  devices = setup.devices.items

  -- at most one is filling, and at most one spread
  pub filling-started : (began : Option Start) → MayStart lay disk setup began → count_by is_set_filling columns ≤ 1 → count_by is_set_filling (with_start began columns) ≤ 1
  filling-started None may most = most
  filling-started (Some (start.Fill c d m)) may most = let a = count-set is_set_filling columns c (column.Filling d 0) in let none = may.target.0.none_filling in omega (arith, a, none)
  filling-started (Some (start.Resume c m)) may most = most
  filling-started (Some (start.Spread c)) may most =
      let a = count-less is_set_filling columns (slice_set columns c column.Spread) (length-set columns c column.Spread) (λ k. passed is_set_filling columns c k column.Spread refl) in
      omega (arith, a, most)

  pub spread-started : (began : Option Start) → MayStart lay disk setup began → count_by is_set_spread columns ≤ 1 → count_by is_set_spread (with_start began columns) ≤ 1
  spread-started None may most = most
  spread-started (Some (start.Fill c d m)) may most =
      let a = count-less is_set_spread columns (slice_set columns c (column.Filling d 0)) (length-set columns c (column.Filling d 0)) (λ k. passed is_set_spread columns c k (column.Filling d 0) refl) in
      omega (arith, a, most)
  spread-started (Some (start.Resume c m)) may most = most
  spread-started (Some (start.Spread c)) may most =
      let a = count-set is_set_spread columns c column.Spread in
      let none = none-passing is_set_spread columns (λ k. unspread (slice_get columns k) (may.target.1.none_spread k)) in
      omega (arith, a, none)

  -- ### Labels

  there-at : (d : ℕ) (x : D) → slice_get devices d ≡ Some (Some x) → device_at devices d ≡ Some x
  there-at d x is = device_at-get devices d None (slice_get_within devices d (Some x) is) ∙ get_or_from_slice_get devices d (Some x) None is

  free-there : (d : ℕ) → IsFreeDevice lay disk setup d → IsSome (device_at devices d)
  free-there d free = ap (λ (o : Option D). is_some o) (there-at d free.there free.there_is)

  pub free-two : (d : ℕ) → IsFreeDevice lay disk setup d → 2 ≤ size_of disk devices d
  free-two d free = let size : size_of disk devices d ≡ disk.size free.there = ap (λ (o : Option D). option_map_or disk.size o 0) (there-at d free.there free.there_is) in let large = free.size in omega (arith, size, large)

  free-sized : (d : ℕ) → IsFreeDevice lay disk setup d → 1 ≤ size_of disk devices d
  free-sized d free = let two = free-two d free in omega (arith, two)

  -- the device that is filled anew is no other column's
  pub target-of : (began : Option Start) (k e : ℕ) → MayStart lay disk setup began → FillsOn began k e → IsFreeDevice lay disk setup e
  target-of None k e may is = not-some (start.Fill k e is.0) is.1
  target-of (Some (start.Resume c m)) k e may is = let z : Some (start.Resume c m) ≡ Some (start.Fill k e is.0) = is.1 in absurd (let u : ⊥ = cc in u)
  target-of (Some (start.Spread c)) k e may is = let z : Some (start.Spread c) ≡ Some (start.Fill k e is.0) = is.1 in absurd (let u : ⊥ = cc in u)
  target-of (Some (start.Fill c d m)) k e may is = let same : d ≡ e = let z : Some (start.Fill c d m) ≡ Some (start.Fill k e is.0) = is.1 in cc in subst (λ n. IsFreeDevice lay disk setup n) same may.target.1

  one-target : (began : Option Start) (c k d : ℕ) → FillsOn began c d → FillsOn began k d → c ≡ k
  one-target began c k d one two = let z : Some (start.Fill c d one.0) ≡ Some (start.Fill k d two.0) = sym one.1 ∙ two.1 in let e : c ≡ k = cc in e

  seated-all : (began : Option Start) → IsSeatedIf (length columns) began → All (IsNumbered (length columns)) columns → All (IsNumbered (length columns)) (with_start began columns)
  seated-all None seated all = all
  seated-all (Some (start.Fill c d m)) seated all = All-set (IsNumbered (length columns)) columns c (column.Filling d 0) seated all
  seated-all (Some (start.Resume c m)) seated all = all
  seated-all (Some (start.Spread c)) seated all = All-set (IsNumbered (length columns)) columns c column.Spread tt all

  module _ (began : Option Start) (may : MayStart lay disk setup began) (can : CanBeLabelled disk columns devices) where
    there-started : (c d : ℕ) → HasDeviceOn (with_start began columns) c d → IsSome (device_at devices d)
    there-started c d live = elim (had-started began columns c d live) [
      | inl was ↦ can.have.there c d was
      | inr is ↦ free-there d (target-of began c d may is)
    ]

    apart-started : (c k d : ℕ) → HasDeviceOn (with_start began columns) c d → HasDeviceOn (with_start began columns) k d → c ≡ k
    apart-started c k d one two = elim (had-started began columns c d one) [
      | inl was ↦ elim (had-started began columns k d two) [
        | inl too ↦ can.have.apart c k d was too
        | inr is ↦ absurd ((target-of began k d may is).unused c was)
      ]
      | inr is ↦ elim (had-started began columns k d two) [
        | inl too ↦ absurd ((target-of began c d may is).unused k too)
        | inr also ↦ one-target began c k d is also
      ]
    ]

    sized-started : (c d : ℕ) → HasDeviceOn (with_start began columns) c d → 1 ≤ size_of disk devices d
    sized-started c d live = elim (had-started began columns c d live) [
      | inl was ↦ can.sized c d was
      | inr is ↦ free-sized d (target-of began c d may is)
    ]

    pub labels-started : IsSeatedIf (length columns) began → CanBeLabelled disk (with_start began columns) devices
    labels-started seated = record {
      have = record { there = there-started; apart = apart-started };
      sized = sized-started;
      columns_most = let long = length-started began columns in let most = can.columns_most in omega (arith, long, most);
      numbered = subst (λ n. All (IsNumbered n) (with_start began columns)) (sym (length-started began columns)) (seated-all began seated can.numbered);
    }

-- ## A column as it is kept

-- it has no device but the one that it had
pub kept-device : (was kept : Option Column) (d : ℕ) → IsKeptAs was kept → device_set kept ≡ Some d → device_set was ≡ Some d
kept-device None kept d k h = ap device_set (sym k) ∙ h
kept-device (Some (column.Live e)) kept d k h = ap device_set (sym k) ∙ h
kept-device (Some column.Dead) kept d k h = ap device_set (sym k) ∙ h
kept-device (Some (column.Filling e m)) kept d (inl k) h = ap device_set (sym k) ∙ h
kept-device (Some (column.Filling e m)) kept d (inr k) h = ap device_set (sym k.1) ∙ h
kept-device (Some column.Spread) kept d k h = ap device_set (sym k) ∙ h

-- one that is filling was
kept-filling : (was kept : Option Column) → IsKeptAs was kept → passes is_set_filling kept ≡ true → passes is_set_filling was ≡ true
kept-filling None kept k h = ap (passes is_set_filling) (sym k) ∙ h
kept-filling (Some (column.Live e)) kept k h = ap (passes is_set_filling) (sym k) ∙ h
kept-filling (Some column.Dead) kept k h = ap (passes is_set_filling) (sym k) ∙ h
kept-filling (Some (column.Filling e m)) kept k h = refl
kept-filling (Some column.Spread) kept k h = ap (passes is_set_filling) (sym k) ∙ h

-- and one that is spread was
kept-spread : (was kept : Option Column) → IsKeptAs was kept → passes is_set_spread kept ≡ true → passes is_set_spread was ≡ true
kept-spread None kept k h = ap (passes is_set_spread) (sym k) ∙ h
kept-spread (Some (column.Live e)) kept k h = ap (passes is_set_spread) (sym k) ∙ h
kept-spread (Some column.Dead) kept k h = ap (passes is_set_spread) (sym k) ∙ h
kept-spread (Some (column.Filling e m)) kept (inl k) h = ap (passes is_set_spread) (sym k) ∙ h
kept-spread (Some (column.Filling e m)) kept (inr k) h = ap (passes is_set_spread) (sym k.1) ∙ h
kept-spread (Some column.Spread) kept k h = refl

-- a dead one is kept dead
pub kept-dead : (was kept : Option Column) → was ≡ Some column.Dead → IsKeptAs was kept → kept ≡ Some column.Dead
kept-dead was kept is k = subst (λ (o : Option Column). IsKeptAs o kept) is k

-- ## All of them

-- each is kept, or dead
module _ (was after : List Column) (count : length after ≡ length was) (ends : (c : ℕ) → IsKeptAs (slice_get was c) (slice_get after c) ⊎ (slice_get after c ≡ Some column.Dead)) where
  pub device-kept : (c d : ℕ) → HasDeviceOn after c d → HasDeviceOn was c d
  device-kept c d h = elim (ends c) [
    | inl k ↦ kept-device (slice_get was c) (slice_get after c) d k h
    | inr dead ↦ not-some d (ap device_set (sym dead) ∙ h)
  ]

  passes-kept : (p : Column → Bool) → p column.Dead ≡ false → ((c : ℕ) → IsKeptAs (slice_get was c) (slice_get after c) → passes p (slice_get after c) ≡ true → passes p (slice_get was c) ≡ true)
      → (c : ℕ) → passes p (slice_get after c) ≡ true → passes p (slice_get was c) ≡ true
  passes-kept p not each c h = elim (ends c) [
    | inl k ↦ each c k h
    | inr dead ↦ let z : false ≡ true = sym not ∙ (ap (passes p) (sym dead) ∙ h) in absurd (let u : ⊥ = cc in u)
  ]

  pub filling-kept : count_by is_set_filling after ≤ count_by is_set_filling was
  filling-kept = count-less is_set_filling was after count (passes-kept is_set_filling refl (λ c. kept-filling (slice_get was c) (slice_get after c)))

  pub spread-kept : count_by is_set_spread after ≤ count_by is_set_spread was
  spread-kept = count-less is_set_spread was after count (passes-kept is_set_spread refl (λ c. kept-spread (slice_get was c) (slice_get after c)))

  -- the number of a column's device
  numbered-by : (n d : ℕ) (x : Column) → device_set (Some x) ≡ Some d → IsNumbered n x → d < n + 8
  numbered-by n d (column.Live e) h is = let same = some-same e d h in omega (arith, same, is)
  numbered-by n d column.Dead h is = not-some d h
  numbered-by n d (column.Filling e m) h is = let same = some-same e d h in omega (arith, same, is)
  numbered-by n d column.Spread h is = not-some d h

  numbered : All (IsNumbered (length was)) was → All (IsNumbered (length after)) after
  numbered all =
      subst (λ n. All (IsNumbered n) after) (sym count)
      (All-from_get_or (IsNumbered (length was)) after column.Dead (λ i within. one i within (get_or after i column.Dead) (slice_get-get_or after i column.Dead within)))
    where
      on : (i d : ℕ) → i < length after → HasDeviceOn after i d → d < length was + 8
      on i d within h =
          let lt : i < length was = omega (arith, within, count) in
          numbered-by (length was) d (get_or was i column.Dead) (ap device_set (sym (slice_get-get_or was i column.Dead lt)) ∙ device-kept i d h) (All-get_or (IsNumbered (length was)) was i column.Dead lt all)

      one : (i : ℕ) → i < length after → (x : Column) → slice_get after i ≡ Some x → IsNumbered (length was) x
      one i within (column.Live d) is = on i d within (ap device_set is)
      one i within column.Dead is = tt
      one i within (column.Filling d m) is = on i d within (ap device_set is)
      one i within column.Spread is = tt

  module _ {D : Type 0} (g : DiskGhosts D) (may : ℕ → ℕ → Type 0) (old new : List (Option D)) (changes : Changes g may old new) where
    there-still : (may : ℕ → Type 0) (x z : Option D) → StaysIf g may x z → IsSome x → IsSome z
    there-still may None z h some = let z : false ≡ true = some in absurd (let u : ⊥ = cc in u)
    there-still may (Some x) None h some = absurd h
    there-still may (Some x) (Some z) h some = refl

    pub labels-kept : CanBeLabelled g was old → CanBeLabelled g after new
    labels-kept can = record {
      have = record {
        there = λ c d live. there-still (may d) (device_at old d) (device_at new d) (changes.each d) (can.have.there c d (device-kept c d live));
        apart = λ c k d one two. can.have.apart c k d (device-kept c d one) (device-kept k d two);
      };
      sized = λ c d live. let size = can.sized c d (device-kept c d live) in let same = changes_size g may old new d changes in omega (arith, size, same);
      columns_most = let most = can.columns_most in omega (arith, count, most);
      numbered = numbered can.numbered;
    }
