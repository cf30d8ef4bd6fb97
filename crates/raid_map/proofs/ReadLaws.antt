-- Columns whose maps are read one after the other.
use Rattle.std.proofs.Common.{◌≡◌, ◌≢◌, ◌∙◌, ◌⊎◌, ℕ, ◌+◌, ◌<◌, ◌≤◌, Bool, true, false, List, length, Option, Some, None, refl, sym, ap, subst, inl, inr, arith}
use Rattle.std.specs.Prelude.{is_some, set, slice_get, slice_index, option_and_then, option_map, if◌then◌else◌, ◌||◌, ◌&&◌, nat_lt}
use Rattle.std.proofs.lemmas.Bool.{cases_lt}
use Rattle.std.proofs.lemmas.Option.{slice_get-map}
use Rattle.blk_disk.specs.declared.disk.Disk.{Ghosts}
use Rattle.blk_disk.specs.Disk.{Tells, call_of}
use Rattle.blk_disk.specs.Devices.{device_at, size_of, calls_of, sector_of, contents_of}
use Rattle.blk_disk.proofs.DeviceLaws.{changes-refl, changes-then, changes_size, changes_sector, rises-wider}
use Rattle.lay_core.specs.Layout.{Shape}
use Rattle.eng_cols.specs.declared.column.Column.{Column}
use Rattle.eng_cols.specs.declared.column.Column.TheVariants as column
use Rattle.eng_cols.specs.Cols.{HasDevice, device_set, state_set, HasDeviceOn, has_device}
use Rattle.eng_cols.specs.Deaths.{Dies, LosesDevice}
use Rattle.eng_cols.specs.Stripes.{states_of, filled_in}
use Rattle.eng_cols.proofs.DeathLaws.{dies-refl, dies-more, dies-then}
use Rattle.eng_cols.proofs.Fewer.{states-at}
use Rattle.raid_map.specs.Regions.{regions_in, bit_at, IsMap, Marks, is_marked, IsMapOf, Adds}
use Rattle.raid_map.specs.Marking.{CanBeMarked}
use Rattle.raid_map.specs.Reading.{is_true, Grows, AddsRead, ReadsColumn, AreRead, IsUnion}
use Rattle.raid_map.proofs.MarkLaws.{on_within, if_other, if_on, if_dies, if_has, one_device}
use Rattle.raid_map.proofs.Unions.{regions-few, added-marks}
use Rattle.raid_map.proofs.ReadOne.{grows-refl, grows-then}

no-bool : {A : Type 0} → false ≡ true → A
no-bool h = absurd (let u : ⊥ = cc in u)

-- ## What is read

module _ {D : Type 0} (g : Ghosts D) where
  pub read-none : (columns : List Column) (ds : List (Option D)) → AreRead g 0 columns columns ds ds
  read-none columns ds = record {
    frame = changes-refl g (λ _ _. ⊥) ds;
    dies = dies-refl (LosesDevice g columns ds ds) columns;
    once = λ c d below. absurd (omega (arith, below));
    others = λ d never. refl;
    kept = λ c h. refl;
  }

  -- the next column has no device
  pub read-skip : (n : ℕ) (columns after : List Column) (old new : List (Option D)) → ((d : ℕ) → HasDeviceOn after n d → ⊥) → AreRead g n columns after old new → AreRead g (n + 1) columns after old new
  read-skip n columns after old new not was = record {
    frame = was.frame;
    dies = was.dies;
    once = λ c d below on. elim (cases_lt c n) [
      | inl lt ↦ was.once c d lt on
      | inr le ↦ let e : c ≡ n = omega (arith, below, le) in absurd (not d (ap device_set (was.kept n (omega arith)) ∙ subst (λ z. HasDeviceOn columns z d) e on))
    ];
    others = λ d never. was.others d (λ c below. never c (omega (arith, below)));
    kept = λ c h. was.kept c (omega (arith, h));
  }

  module _ (n : ℕ) (columns mid after : List Column) (old dev new : List (Option D)) (before next : Marks) (found : Bool) (can : CanBeMarked g columns old) (was : AreRead g n columns mid old dev) (step : ReadsColumn g n mid after dev new before next found) where
    abbrev d : ℕ
    d = step.device

    abbrev good : Bool
    good = is_some step.answer

    here : HasDeviceOn columns n d
    here = ap device_set (sym (was.kept n (omega arith))) ∙ step.on

    within : n < length mid
    within = on_within mid n d step.on

    -- the device had no call before
    fresh : device_at dev d ≡ device_at old d
    fresh = was.others d (λ c below other. let e = can.apart c n d other here in omega (arith, below, e))

    fails : good ≡ false → LosesDevice g columns old new n
    fails bad = record { device = d; had = here; rose = rises-wider g (λ _ _. ⊥) (λ _ _. ⊥) old dev new new d was.frame (step.reading.cause bad) (changes-refl g (λ _ _. ⊥) new) }

    dies : Dies (LosesDevice g columns old new) columns after
    dies =
        dies-then (LosesDevice g columns old new) columns mid after
        (dies-more (LosesDevice g columns old dev) (LosesDevice g columns old new) columns mid
        (λ c f. record { device = f.device; had = f.had; rose = rises-wider g (λ _ _. ⊥) (λ _ _. ⊥) old old dev new f.device (changes-refl g (λ _ _. ⊥) old) f.rose step.reading.frame }) was.dies)
        (subst (Dies (LosesDevice g columns old new) mid) (sym step.after_is) (if_dies (LosesDevice g columns old new) mid n good within fails))

    pub read-state : (c : ℕ) → c < n → slice_get after c ≡ slice_get mid c
    read-state c below = ap (λ (l : List Column). slice_get l c) step.after_is ∙ if_other mid n c good (λ e. omega (arith, below, e))

    apart-from : (c k : ℕ) → c < n → HasDeviceOn columns c k → k ≢ d
    apart-from c k below on e = let z = can.apart c n d (on ∙ ap Some e) here in omega (arith, below, z)

    call : Tells (calls_of g old d) (calls_of g new d) (call_of 0 1 512 good)
    call = subst (λ o. Tells o (calls_of g new d) (call_of 0 1 512 good)) (ap (λ o. option_and_then g.calls o) fresh) step.reading.told

    good_is : has_device (slice_get after n) ≡ good
    good_is = ap (λ (l : List Column). has_device (slice_get l n)) step.after_is ∙ if_has mid n d good within step.on

    pub read-more : AreRead g (n + 1) columns after old new
    read-more = record {
      frame = changes-then g (λ _ _. ⊥) old dev new was.frame step.reading.frame;
      dies = dies;
      once = λ c k below on. elim (cases_lt c n) [
        | inl lt ↦
            subst (λ o. Tells (calls_of g old k) o (call_of 0 1 512 (has_device (slice_get after c)))) (ap (λ o. option_and_then g.calls o) (sym (step.reading.others k (apart-from c k lt on))))
            (subst (λ o. Tells (calls_of g old k) (calls_of g dev k) (call_of 0 1 512 (has_device o))) (sym (read-state c lt)) (was.once c k lt on))
        | inr le ↦
            let e : n ≡ c = omega (arith, below, le) in
            let same : d ≡ k = one_device (sym here ∙ subst (λ z. HasDeviceOn columns z k) (sym e) on) in
            subst (λ z. Tells (calls_of g old k) (calls_of g new k) (call_of 0 1 512 (has_device (slice_get after z)))) e
            (subst (λ b. Tells (calls_of g old k) (calls_of g new k) (call_of 0 1 512 b)) (sym good_is)
            (subst (λ j. Tells (calls_of g old j) (calls_of g new j) (call_of 0 1 512 good)) same call))
      ];
      others = λ k never. step.reading.others k (λ e. never n (omega arith) (here ∙ ap Some (sym e))) ∙ was.others k (λ c below. never c (omega (arith, below)));
      kept = λ c h. ap (λ (l : List Column). slice_get l c) step.after_is ∙ (if_other mid n c good (λ e. omega (arith, h, e)) ∙ was.kept c (omega (arith, h)));
    }

    -- a column that has a device still had it, and its read went well
    pub on-good : (k : ℕ) → HasDeviceOn after n k → (good ≡ true) × (d ≡ k)
    on-good k on =
        let ok : good ≡ true = if_on mid n k good within (subst (λ (l : List Column). HasDeviceOn l n k) step.after_is on) in
        (ok, one_device (sym step.on ∙ ap (λ (l : List Column). device_set (slice_get l n)) (ap (λ b. if b then mid else set mid n column.Dead) (sym ok) ∙ sym step.after_is) ∙ on))

    -- and one whose read went well has it
    pub good-on : good ≡ true → HasDeviceOn after n d
    good-on ok = ap (λ (l : List Column). device_set (slice_get l n)) (step.after_is ∙ ap (λ b. if b then mid else set mid n column.Dead) ok) ∙ step.on

  -- the device of the next column has its sectors
  pub read-sized : (n d : ℕ) (columns mid : List Column) (old dev : List (Option D)) → CanBeMarked g columns old → AreRead g n columns mid old dev → HasDeviceOn mid n d → 2 ≤ size_of g dev d
  read-sized n d columns mid old dev can was on =
      let s = can.sized n d (ap device_set (sym (was.kept n (omega arith))) ∙ on) in
      let e = changes_size g (λ _ _. ⊥) old dev d was.frame in omega (arith, s, e)

-- ## What is learnt

-- one of the first n columns has a device with a map of the array, which marks these regions
pub record HasMapBelow {D : Type 0} (g : Ghosts D) (stripes serial n : ℕ) (columns : List Column) (ds : List (Option D)) (marks : ℕ → Bool) : Type 0 where
  pub column : ℕ
  pub device : ℕ
  pub below : column < n
  pub on : HasDeviceOn columns column device
  pub map : IsMap serial stripes marks (contents_of g ds device 1)

-- the map marks what it marked, and what the maps of the first n columns' devices mark
pub record UnionTo {D : Type 0} (g : Ghosts D) (n : ℕ) (columns : List Column) (ds : List (Option D)) (old new : Marks) (found : Bool) : Type 0 where
  pub all : (marks : ℕ → Bool) (r : ℕ) → HasMapBelow g old.stripes old.serial n columns ds marks → r < regions_in old.stripes → marks r ≡ true → is_marked new.marks r ≡ true
  pub only : (r : ℕ) → r < regions_in old.stripes → is_marked new.marks r ≡ true → (is_marked old.marks r ≡ true) ⊎ ((marks : ℕ → Bool) × HasMapBelow g old.stripes old.serial n columns ds marks × (marks r ≡ true))
  pub has_one : found ≡ true → (marks : ℕ → Bool) × HasMapBelow g old.stripes old.serial n columns ds marks
  pub finds : (marks : ℕ → Bool) → HasMapBelow g old.stripes old.serial n columns ds marks → found ≡ true

or-cases : (a b : Bool) → (a || b) ≡ true → (a ≡ true) ⊎ (b ≡ true)
or-cases true b h = inl refl
or-cases false b h = inr h

and-right : (a b : Bool) → (a && b) ≡ true → b ≡ true
and-right true b h = h
and-right false b h = no-bool h

module _ {D : Type 0} (g : Ghosts D) (ds : List (Option D)) (old : Marks) where
  abbrev Below : ℕ → List Column → (ℕ → Bool) → Type 0
  Below n columns marks = HasMapBelow g old.stripes old.serial n columns ds marks

  pub union-none : (columns : List Column) → UnionTo g 0 columns ds old old false
  union-none columns = record {
    all = λ marks r has. let b = has.below in absurd (omega (arith, b));
    only = λ r within is. inl is;
    has_one = λ h. no-bool h;
    finds = λ marks has. let b = has.below in absurd (omega (arith, b));
  }

  -- the first columns are as they were, and the next has no map
  module _ (n : ℕ) (mid after : List Column) (state : (c : ℕ) → c < n → slice_get after c ≡ slice_get mid c) where
    wider : (marks : ℕ → Bool) → Below n mid marks → Below (n + 1) after marks
    wider marks has = record { column = has.column; device = has.device; below = (let b = has.below in omega (arith, b)); on = ap device_set (state has.column has.below) ∙ has.on; map = has.map }

    narrow : (marks : ℕ → Bool) (has : Below (n + 1) after marks) → has.column < n → Below n mid marks
    narrow marks has lt = record { column = has.column; device = has.device; below = lt; on = ap device_set (sym (state has.column lt)) ∙ has.on; map = has.map }

    pub union-same : ((marks : ℕ → Bool) (d : ℕ) → HasDeviceOn after n d → IsMap old.serial old.stripes marks (contents_of g ds d 1) → ⊥) → (new : Marks) (found : Bool) → UnionTo g n mid ds old new found → UnionTo g (n + 1) after ds old new found
    union-same none new found was = record {
      all = λ marks r has within is. was.all marks r (back marks has) within is;
      only = λ r within is. elim (was.only r within is) [ inl m ↦ inl m | inr h ↦ inr (h.0, wider h.0 h.1, h.2) ];
      has_one = λ h. let y = was.has_one h in (y.0, wider y.0 y.1);
      finds = λ marks has. was.finds marks (back marks has);
    }
      where
        back : (marks : ℕ → Bool) → Below (n + 1) after marks → Below n mid marks
        back marks has = elim (cases_lt has.column n) [
          | inl lt ↦ narrow marks has lt
          | inr le ↦
              let b = has.below in
              let e : has.column ≡ n = omega (arith, b, le) in
              absurd (none marks has.device (subst (λ c. HasDeviceOn after c has.device) e has.on) has.map)
        ]

    -- the next has a map, which is added
    pub union-adds : (d : ℕ) → HasDeviceOn after n d → (mine new : Marks) (found : Bool) → Grows old mine → IsMapOf mine (sector_of g ds d 1) → Adds mine new (sector_of g ds d 1) → UnionTo g n mid ds old mine found → UnionTo g (n + 1) after ds old new true
    union-adds d on mine new found grows is adds was = record {
      all = λ marks r has within m. elim (cases_lt has.column n) [
        | inl lt ↦ kept r within (was.all marks r (narrow marks has lt) within m)
        | inr le ↦
            let b = has.below in
            let e : has.column ≡ n = omega (arith, b, le) in
            let same : has.device ≡ d = one_device (sym (subst (λ c. HasDeviceOn after c has.device) e has.on) ∙ on) in
            added marks r (subst (λ k. IsMap old.serial old.stripes marks (contents_of g ds k 1)) same has.map) within m
      ];
      only = λ r within m. elim (or-cases (is_marked mine.marks r) (bit_at (slice_index (sector_of g ds d 1)) r) (sym (adds.marks r (inside r within)) ∙ m)) [
        | inl before ↦ elim (was.only r within before) [ inl z ↦ inl z | inr h ↦ inr (h.0, wider h.0 h.1, h.2) ]
        | inr bit ↦ inr (is.0, this, and-right (nat_lt r (regions_in mine.stripes)) (is.0 r) (sym (is.1.bits r (few r within)) ∙ bit))
      ];
      has_one = λ h. (is.0, this);
      finds = λ marks has. refl;
    }
      where
        inside : (r : ℕ) → r < regions_in old.stripes → r < length mine.marks
        inside r within = subst (λ z. r < z) (sym (adds.whole ∙ ap regions_in grows.stripes)) within

        few : (r : ℕ) → r < regions_in old.stripes → r < 3968
        few r within = let f = regions-few mine.stripes adds.some in let w = inside r within in let e = adds.whole in omega (arith, f, w, e)

        kept : (r : ℕ) → r < regions_in old.stripes → is_marked mine.marks r ≡ true → is_marked new.marks r ≡ true
        kept r within h = adds.marks r (inside r within) ∙ ap (λ b. b || bit_at (slice_index (sector_of g ds d 1)) r) h

        added : (marks : ℕ → Bool) (r : ℕ) → IsMap old.serial old.stripes marks (contents_of g ds d 1) → r < regions_in old.stripes → marks r ≡ true → is_marked new.marks r ≡ true
        added marks r map within h =
            added-marks mine new (sector_of g ds d 1) marks r adds
            (subst (λ z. IsMap mine.serial z marks (slice_index (sector_of g ds d 1))) (sym grows.stripes) (subst (λ z. IsMap z old.stripes marks (slice_index (sector_of g ds d 1))) (sym grows.serial) map))
            (subst (λ z. r < z) (sym (ap regions_in grows.stripes)) within) h

        this : Below (n + 1) after is.0
        this = record {
          column = n;
          device = d;
          below = omega arith;
          on = on;
          map = subst (λ z. IsMap old.serial z is.0 (contents_of g ds d 1)) grows.stripes (subst (λ z. IsMap z mine.stripes is.0 (contents_of g ds d 1)) grows.serial is.1);
        }

-- ## One column more, and all

-- a column's device by the columns as they are set, and as they stand
set-device : (y : Shape) (columns : List Column) (c d : ℕ) → HasDeviceOn columns c d → HasDevice (states_of y columns) c d
set-device y columns c d has = go (slice_get columns c) refl has
  where
    go : (o : Option Column) → slice_get columns c ≡ o → device_set o ≡ Some d → HasDevice (states_of y columns) c d
    go (Some (column.Live e)) is h = let same : e ≡ d = cc in inl (states-at y columns c (column.Live d) (is ∙ ap (λ k. Some (column.Live k)) same))
    go (Some column.Dead) is h = absurd (let u : ⊥ = cc in u)
    go (Some (column.Filling e m)) is h = let same : e ≡ d = cc in inr (filled_in y columns, states-at y columns c (column.Filling d m) (is ∙ ap (λ k. Some (column.Filling k m)) same))
    go (Some column.Spread) is h = absurd (let u : ⊥ = cc in u)
    go None is h = absurd (let u : ⊥ = cc in u)

pub device-set : (y : Shape) (columns : List Column) (c d : ℕ) → HasDevice (states_of y columns) c d → HasDeviceOn columns c d
device-set y columns c d has = go (slice_get columns c) (sym (slice_get-map (state_set y.stripes (filled_in y columns)) columns c)) has
  where
    go : (o : Option Column) → option_map (state_set y.stripes (filled_in y columns)) o ≡ slice_get (states_of y columns) c → HasDevice (states_of y columns) c d → device_set o ≡ Some d
    go (Some (column.Live e)) is (inl h) = cc
    go (Some (column.Live e)) is (inr h) = absurd (let u : ⊥ = cc in u)
    go (Some column.Dead) is (inl h) = absurd (let u : ⊥ = cc in u)
    go (Some column.Dead) is (inr h) = absurd (let u : ⊥ = cc in u)
    go (Some (column.Filling e m)) is (inl h) = absurd (let u : ⊥ = cc in u)
    go (Some (column.Filling e m)) is (inr h) = cc
    go (Some column.Spread) is (inl h) = absurd (let u : ⊥ = cc in u)
    go (Some column.Spread) is (inr h) = absurd (let u : ⊥ = cc in u)
    go None is (inl h) = absurd (let u : ⊥ = cc in u)
    go None is (inr h) = absurd (let u : ⊥ = cc in u)

module _ {D : Type 0} (g : Ghosts D) where
  -- what is said so far: the maps of the first n columns are in the union, where contents are told
  pub record SaidTo (n : ℕ) (columns : List Column) (ds : List (Option D)) (old new : Marks) (any : Bool) : Type 0 where
    pub grows : Grows old new
    pub union : g.tells → UnionTo g n columns ds old new any

  pub said-none : (columns : List Column) (ds : List (Option D)) (old : Marks) → SaidTo 0 columns ds old old false
  said-none columns ds old = record { grows = grows-refl old; union = λ told. union-none g ds old columns }

  -- the next column has no device
  pub said-skip : (n : ℕ) (mid : List Column) (ds : List (Option D)) (old new : Marks) (any : Bool) → ((d : ℕ) → HasDeviceOn mid n d → ⊥) → SaidTo n mid ds old new any → SaidTo (n + 1) mid ds old new any
  said-skip n mid ds old new any not was = record {
    grows = was.grows;
    union = λ told. union-same g ds old n mid mid (λ c below. refl) (λ marks d on map. not d on) new any (was.union told);
  }

  module _ (n : ℕ) (columns mid after : List Column) (ds dev new : List (Option D)) (old before next : Marks) (any found : Bool) (can : CanBeMarked g columns ds) (read : AreRead g n columns mid ds dev) (step : ReadsColumn g n mid after dev new before next found) (was : SaidTo n mid ds old before any) where
    state : (c : ℕ) → c < n → slice_get after c ≡ slice_get mid c
    state = read-state g n columns mid after ds dev new before next found can read step

    sector-same : g.tells → sector_of g dev step.device 1 ≡ sector_of g ds step.device 1
    sector-same told = changes_sector g (λ _ _. ⊥) ds dev step.device 1 read.frame told (λ h. h)

    grown : Grows old next
    grown = grows-then old before next was.grows (go step.answer step.adds)
      where
        go : (a : Option Bool) → AddsRead g.tells before next (sector_of g dev step.device 1) a → Grows before next
        go None h = subst (Grows before) (sym h) (grows-refl before)
        go (Some b) h = h.0

    -- it has none
    none-added : g.tells → found ≡ false → (next ≡ before) × ((marks : ℕ → Bool) (d : ℕ) → HasDeviceOn after n d → IsMap old.serial old.stripes marks (contents_of g ds d 1) → ⊥)
    none-added told not = go step.answer refl step.adds
      where
        go : (a : Option Bool) → step.answer ≡ a → AddsRead g.tells before next (sector_of g dev step.device 1) a → (next ≡ before) × ((marks : ℕ → Bool) (d : ℕ) → HasDeviceOn after n d → IsMap old.serial old.stripes marks (contents_of g ds d 1) → ⊥)
        go None is h = (h, λ marks d on map. no-bool (sym (ap is_some is) ∙ (on-good g n columns mid after ds dev new before next found can read step d on).0))
        go (Some true) is h = no-bool (sym not ∙ step.found_is ∙ ap is_true is)
        go (Some false) is h =
            let adds = h.1 told in (
              adds.1,
              λ marks d on map.
                  let same = (on-good g n columns mid after ds dev new before next found can read step d on).1 in
                  adds.0 (
                    marks,
                    subst (λ l. IsMap before.serial before.stripes marks (slice_index l)) (ap (λ k. sector_of g ds k 1) (sym same) ∙ sym (sector-same told))
                        (subst (λ z. IsMap before.serial z marks (contents_of g ds d 1)) (sym was.grows.stripes) (subst (λ z. IsMap z old.stripes marks (contents_of g ds d 1)) (sym was.grows.serial) map)),
                  ),
            )

    pub said-no : found ≡ false → SaidTo (n + 1) after ds old next any
    said-no not = record {
      grows = grown;
      union = λ told.
          let none = none-added told not in
          subst (λ m. UnionTo g (n + 1) after ds old m any) (sym none.0) (union-same g ds old n mid after state none.1 before any (was.union told));
    }

    pub said-yes : found ≡ true → SaidTo (n + 1) after ds old next true
    said-yes is = record { grows = grown; union = λ told. go told step.answer refl step.adds }
      where
        go : g.tells → (a : Option Bool) → step.answer ≡ a → AddsRead g.tells before next (sector_of g dev step.device 1) a → UnionTo g (n + 1) after ds old next true
        go told None e h = no-bool (sym (ap is_true e) ∙ sym step.found_is ∙ is)
        go told (Some false) e h = no-bool (sym (ap is_true e) ∙ sym step.found_is ∙ is)
        go told (Some true) e h =
            let adds = h.1 told in
            union-adds g ds old n mid after state step.device (good-on g n columns mid after ds dev new before next found can read step (ap is_some e)) before next any was.grows
            (subst (IsMapOf before) (sector-same told) adds.0) (subst (Adds before next) (sector-same told) adds.1) (was.union told)

  pub union-is : (y : Shape) (columns after : List Column) (ds new : List (Option D)) (old now : Marks) (any : Bool) → y.stripes ≡ old.stripes → g.tells → AreRead g (length columns) columns after ds new → SaidTo (length columns) after ds old now any → IsUnion g y after new old now any
  union-is y columns after ds new old now any same told read said = record {
    marks = λ r within. (
      (λ is. elim (u.only r (subst (λ z. r < regions_in z) same within) is) [
        | inl m ↦ inl m
        | inr h ↦ inr (record { column = h.1.column; device = h.1.device; used = set-device y after h.1.column h.1.device h.1.on; marks = h.0; map = now-map h.0 h.1.device h.1.map; marked = h.2 })
      ]),
      (λ is. elim is [
        | inl m ↦ said.grows.kept r m
        | inr h ↦ u.all h.marks r (below h.marks h.column h.device h.used h.map) (subst (λ z. r < regions_in z) same within) h.marked
      ]),
    );
    found = (
      (λ is. let h = u.has_one is in record { column = h.1.column; device = h.1.device; used = set-device y after h.1.column h.1.device h.1.on; marks = h.0; map = now-map h.0 h.1.device h.1.map }),
      (λ h. u.finds h.marks (below h.marks h.column h.device h.used h.map)),
    );
  }
    where
      u : UnionTo g (length columns) after ds old now any
      u = said.union told

      sector-now : (d : ℕ) → sector_of g new d 1 ≡ sector_of g ds d 1
      sector-now d = changes_sector g (λ _ _. ⊥) ds new d 1 read.frame told (λ h. h)

      now-map : (marks : ℕ → Bool) (d : ℕ) → IsMap old.serial old.stripes marks (contents_of g ds d 1) → IsMap old.serial y.stripes marks (contents_of g new d 1)
      now-map marks d map = subst (λ z. IsMap old.serial z marks (contents_of g new d 1)) (sym same) (subst (λ l. IsMap old.serial old.stripes marks (slice_index l)) (sym (sector-now d)) map)

      below : (marks : ℕ → Bool) (c d : ℕ) → HasDevice (states_of y after) c d → IsMap old.serial y.stripes marks (contents_of g new d 1) → HasMapBelow g old.stripes old.serial (length columns) after ds marks
      below marks c d used map =
          let on = device-set y after c d used in
          record {
            column = c;
            device = d;
            below = (let w = on_within after c d on in let e = read.dies.count in omega (arith, w, e));
            on = on;
            map = subst (λ l. IsMap old.serial old.stripes marks (slice_index l)) (sector-now d) (subst (λ z. IsMap old.serial z marks (contents_of g new d 1)) same map);
          }
