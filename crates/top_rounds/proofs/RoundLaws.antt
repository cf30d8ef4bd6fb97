-- Rounds that follow one another.
use Rattle.std.proofs.Common.{◌≡◌, ◌≢◌, ◌⊎◌, ◌∙◌, ℕ, zero, suc, ◌+◌, ◌<◌, ◌≤◌, true, false, cond, List, [], ◌∷◌, ◌++◌, length, get_or, Option, Some, None, refl, sym, ap, subst, inl, inr, arith, append-nil, take, drop}
use Rattle.std.specs.Prelude.{All, IsSome, count_by, is_some, option_and_then, option_map, set, slice_get}
use Rattle.std.specs.Option.{option_map_or}
use Rattle.std.proofs.lemmas.Bool.{cases_lt, cond-true}
use Rattle.std.proofs.lemmas.List.{drop_all, length-append, length-map, take_all}
use Rattle.std.proofs.lemmas.List.Elements.{All-from_get_or, All-get_or, All-nil, All-push, All-weaker}
use Rattle.std.proofs.lemmas.List.Quantifiers.{all_pairs_push}
use Rattle.std.proofs.lemmas.List.Sums.{count_by-le-length, sum_by-cons, sum_by-set}
use Rattle.std.proofs.lemmas.Option.{get_or_from_slice_get, slice_get-get_or, slice_get-map}
use Rattle.blk_disk.specs.declared.disk.Call.{Call}
use Rattle.blk_disk.specs.declared.disk.Disk.{Ghosts}
use Rattle.blk_disk.specs.Devices.{device_at, calls_of, sector_of, Changes, RisesOn, StaysIf}
use Rattle.blk_disk.proofs.DeviceLaws.{changes-more, changes-refl, changes-then, changes_size, rises-wider}
use Rattle.eng_cols.specs.declared.column.Column.{Column}
use Rattle.eng_cols.specs.declared.column.Column.TheVariants as column
use Rattle.eng_cols.specs.declared.spot.Loss.{Loss}
use Rattle.eng_cols.specs.Cols.{ColumnState, device_set, is_set_filling, is_set_spread, passes, HasDeviceOn, has_device}
use Rattle.eng_cols.specs.Deaths.{Dies, LosesDevice}
use Rattle.eng_cols.specs.Lost.{NotLost}
use Rattle.eng_cols.proofs.DeathLaws.{dies-more, dies-refl, dies-then}
use Rattle.raid_label.specs.declared.label.Label.{Label}
use Rattle.lay_core.specs.Layout.{Shape}
use Rattle.top_close.specs.Dying.{AnyCause}
use Rattle.top_close.specs.Ended.{IsLossBy}
use Rattle.top_close.specs.Settled.{HaveDevices}
use Rattle.top_close.proofs.Counts.{counted, deaths_pass_less, nothing}
use Rattle.top_close.proofs.CallLaws.{more_all-none, more_all-then}
use Rattle.top_close.proofs.SettledLaws.{device_within, set_here}
use Rattle.top_rounds.specs.Labels.{IsNumbered, Seating, given_up, seating_in, seating_of, unless_filling, with_round}
use Rattle.top_rounds.specs.Passes.{AreLabelled, CanBeLabelled, EndsByDeath, EndsPass}
use Rattle.top_close.specs.Stage.{DiesIn, IsGivenUp, IsGivenUpIn, IsInUse, IsStage, device_count}
use Rattle.top_rounds.specs.Rounds.{AreRounds, CountsRounds, HaveRounds, HaveTried, HoldsTried, clean_in_end}
use Rattle.top_rounds.specs.Calls.{IsLabelWrite, IsLabelled, WritesOn, WritesSome, WritesTo, WritesUntil, WritesWell, WritesWithin}
use Rattle.eng_cols.specs.Settable.{IsSettable}
use Rattle.top_rounds.proofs.CallLaws.{some-to, to-until, well-to, within-none, within-then, within_as}
use Rattle.top_close.proofs.StageLaws.{given_before, live_before, live_less, told-others}
use Rattle.top_rounds.proofs.Words.{AreWritten, IsFirstInUse}
use Rattle.top_close.proofs.Words.{IsUncalled}

-- ## Columns that die

-- whatever they died of
pub any_death : (cause : ℕ → Type 0) (old new : List Column) → Dies cause old new → Dies AnyCause old new
any_death cause old new dies = dies-more cause AnyCause old new (λ c h. tt) dies

-- columns of which some died are settable still
pub settable_after : (y : Shape) (old new : List Column) → Dies AnyCause old new → count_by is_set_filling new ≤ count_by is_set_filling old → count_by is_set_spread new ≤ count_by is_set_spread old → IsSettable y old → IsSettable y new
settable_after y old new dies filling spread h = record {
  entries = dies.count ∙ h.entries;
  filling = omega (arith, filling, h.filling);
  spread = omega (arith, spread, h.spread);
}

one_if_live : Column → ℕ
one_if_live x = cond (has_device (Some x)) 1 0

one_here : (columns : List Column) (c d : ℕ) → HasDeviceOn columns c d → one_if_live (get_or columns c column.Dead) ≡ 1
unfolding one_if_live
one_here columns c d live = go (slice_get columns c) refl live
  where
    go : (o : Option Column) → slice_get columns c ≡ o → device_set o ≡ Some d → one_if_live (get_or columns c column.Dead) ≡ 1
    go None e on = let z : None ≡ Some d = on in absurd (let u : ⊥ = cc in u)
    go (Some x) e on = ap one_if_live (get_or_from_slice_get columns c x column.Dead e) ∙ ap (λ (o : Option ℕ). cond (is_some o) 1 0) on

-- one column with a device fewer
fewer_by_one : (columns : List Column) (c d : ℕ) → HasDeviceOn columns c d → device_count (set columns c column.Dead) + 1 ≡ device_count columns
unfolding one_if_live
fewer_by_one columns c d live =
    let one : one_if_live (get_or columns c column.Dead) ≡ 1 = one_here columns c d live in
    let all : device_count (set columns c column.Dead) + one_if_live (get_or columns c column.Dead) ≡ device_count columns + one_if_live column.Dead = sum_by-set one_if_live columns c column.Dead column.Dead (device_within columns c d live) in
    omega (arith, one, all)

numbered_after : (cause : ℕ → Type 0) (n : ℕ) (columns mid : List Column) → Dies cause columns mid → All (IsNumbered n) columns → All (IsNumbered n) mid
numbered_after cause n columns mid dies are = All-from_get_or (IsNumbered n) mid column.Dead (λ i within.
    let is : slice_get mid i ≡ Some (get_or mid i column.Dead) = slice_get-get_or mid i column.Dead within in
    elim (dies.each i) [
      | inl same ↦
          let was : get_or columns i column.Dead ≡ get_or mid i column.Dead = get_or_from_slice_get columns i _ column.Dead (sym same ∙ is) in
          subst (IsNumbered n) was (All-get_or (IsNumbered n) columns i column.Dead (omega (arith, within, dies.count)) are)
      | inr dead ↦
          let was : get_or mid i column.Dead ≡ column.Dead = get_or_from_slice_get mid i column.Dead column.Dead dead.0 in
          subst (IsNumbered n) (sym was) tt
    ])

-- ## Labels

-- of two rounds the second says what there is
pub round_again : (label before next : Label) (first n clean : ℕ) (seating : Seating) → before ≡ with_round label before.counter first (seating_in before) → next ≡ with_round before n clean seating → next ≡ with_round label next.counter clean (seating_in next)
round_again label before next first n clean seating was is =
    is
    ∙ ap (λ (l : Label). with_round l n clean seating) was
    ∙ ap (λ (k : ℕ). with_round label k clean seating) (sym (ap (λ (l : Label). l.counter) is))
    ∙ ap (λ (s : Seating). with_round label next.counter clean s) (sym (ap seating_in is))

-- and one that keeps the clean field
pub round_kept : (label before next : Label) (n : ℕ) (seating : Seating) → before ≡ with_round label before.counter label.clean (seating_in before) → next ≡ with_round before n before.clean seating → next ≡ with_round label next.counter label.clean (seating_in next)
round_kept label before next n seating was is = round_again label before next label.clean n label.clean seating was (is ∙ ap (λ (k : ℕ). with_round before n k seating) (ap (λ (l : Label). l.clean) was))

-- ## Columns that are given up

-- where the array is lost none is filling
pub none_given : (columns : List Column) → count_by is_set_filling (given_up columns) ≡ 0
none_given [] = refl
none_given (x ∷ columns) = omega (arith, counted is_set_filling (unless_filling x) (given_up columns), nothing (is_set_filling (unless_filling x)) (not x), none_given columns)
  where
    not : (x : Column) → is_set_filling (unless_filling x) ≡ false
    not (column.Live d) = refl
    not column.Dead = refl
    not (column.Filling d done) = refl
    not column.Spread = refl

pub none_given_in : (lost : Option Loss) (columns : List Column) → IsGivenUpIn lost (given_up columns)
none_given_in None columns = tt
none_given_in (Some loss) columns = none_given columns

pub gives_up : (loss : Loss) (columns : List Column) → Dies (IsGivenUp (Some loss) columns) columns (given_up columns)
gives_up loss columns = record { count = length-map columns unless_filling; each = λ c. go c (slice_get columns c) refl }
  where
    go : (c : ℕ) (o : Option Column) → slice_get columns c ≡ o → (slice_get (given_up columns) c ≡ slice_get columns c) ⊎ ((slice_get (given_up columns) c ≡ Some column.Dead) × (passes is_set_filling (slice_get columns c) ≡ true))
    go c None e = inl (slice_get-map unless_filling columns c ∙ ap (option_map unless_filling) e ∙ sym e)
    go c (Some (column.Live d)) e = inl (slice_get-map unless_filling columns c ∙ ap (option_map unless_filling) e ∙ sym e)
    go c (Some column.Dead) e = inl (slice_get-map unless_filling columns c ∙ ap (option_map unless_filling) e ∙ sym e)
    go c (Some (column.Filling d done)) e = inr (slice_get-map unless_filling columns c ∙ ap (option_map unless_filling) e, ap (passes is_set_filling) e)
    go c (Some column.Spread) e = inl (slice_get-map unless_filling columns c ∙ ap (option_map unless_filling) e ∙ sym e)

pub given_death : (columns : List Column) → Dies AnyCause columns (given_up columns)
given_death columns = any_death _ columns (given_up columns) (gives_up (record { first = 0; second = 0; stripe = 0 }) columns)

-- the last round of a lost array leaves no column filling
pub none_left : (cause : ℕ → Type 0) (columns after : List Column) → Dies cause (given_up columns) after → count_by is_set_filling after ≡ 0
none_left cause columns after dies = omega (arith, none_given columns, deaths_pass_less cause is_set_filling (given_up columns) after refl dies)

-- where none is filling none is behind deaths
pub given_after : (cause : ℕ → Type 0) (lost : Option Loss) (columns after : List Column) → Dies cause columns after → IsGivenUpIn lost columns → IsGivenUpIn lost after
given_after cause None columns after dies h = tt
given_after cause (Some loss) columns after dies h = omega (arith, h, deaths_pass_less cause is_set_filling columns after refl dies)

-- of columns none of which is filling none is given up
none_to_give : (lost : Option Loss) (columns : List Column) (c : ℕ) → IsGivenUpIn lost columns → IsGivenUp lost columns c → ⊥
none_to_give None columns c none gave = gave
none_to_give (Some loss) columns c none gave = go columns c none gave
  where
    go : (xs : List Column) (i : ℕ) → count_by is_set_filling xs ≡ 0 → passes is_set_filling (slice_get xs i) ≡ true → ⊥
    go [] i none h = let z : false ≡ true = h in absurd (let u : ⊥ = cc in u)
    go (x ∷ xs) zero none h = omega (arith, none, cond-true {A = ℕ} (is_set_filling x) 1 0 h, sum_by-cons (λ y. cond (is_set_filling y) 1 0) x xs)
    go (x ∷ xs) (suc i) none h = go xs i (omega (arith, none, sum_by-cons (λ y. cond (is_set_filling y) 1 0) x xs)) h

-- one that is as it was is given up still
pub given_kept : (lost : Option Loss) (columns left : List Column) (c : ℕ) → slice_get left c ≡ slice_get columns c → IsGivenUp lost columns c → IsGivenUp lost left c
given_kept None columns left c same gave = gave
given_kept (Some loss) columns left c same gave = ap (passes is_set_filling) same ∙ gave

module _ {D : Type 0} (g : Ghosts D) where
  -- what a device holds behind two stages
  pub tried-then : (label before : Label) (a b : ℕ) (old dev new : List (Option D)) (c d : ℕ) → label.counter ≤ before.counter → a ≤ b → before ≡ with_round label before.counter label.clean (seating_in before)
      → HoldsTried g label a old dev c d → HoldsTried g before b dev new c d → HoldsTried g label b old new c d
  tried-then label before a b old dev new c d least fewer same was is tells = elim (is tells) [
    | inl kept ↦ elim (was tells) [
      | inl held ↦ inl (kept ∙ held)
      | inr t ↦ inr (record { tried = t.tried; newer = t.newer; older = omega (arith, t.older, fewer); label_is = t.label_is; holds = kept ∙ t.holds })
    ]
    | inr t ↦ inr (record {
      tried = t.tried;
      newer = omega (arith, t.newer, least);
      older = t.older;
      label_is = round_kept label before t.tried t.tried.counter (seating_in t.tried) same t.label_is;
      holds = t.holds;
    })
  ]

  there_still : (may : ℕ → Type 0) (x z : Option D) → StaysIf g may x z → IsSome x → IsSome z
  there_still may None z h some = let z : false ≡ true = some in absurd (let u : ⊥ = cc in u)
  there_still may (Some x) None h some = absurd h
  there_still may (Some x) (Some z) h some = refl

  -- columns that died can be labelled as before
  pub can-after : (cause : ℕ → Type 0) (may : ℕ → ℕ → Type 0) (columns mid : List Column) (old dev : List (Option D)) → Dies cause columns mid → Changes g may old dev → CanBeLabelled g columns old → CanBeLabelled g mid dev
  can-after cause may columns mid old dev dies changes can = record {
    have = record {
      there = λ c d live. there_still (may d) (device_at old d) (device_at dev d) (changes.each d) (can.have.there c d (live_before cause columns mid c d dies live));
      apart = λ c k d one other. can.have.apart c k d (live_before cause columns mid c d dies one) (live_before cause columns mid k d dies other);
    };
    sized = λ c d live. omega (arith, can.sized c d (live_before cause columns mid c d dies live), changes_size g may old dev d changes);
    columns_most = omega (arith, dies.count, can.columns_most);
    numbered = subst (λ n. All (IsNumbered n) mid) (sym dies.count) (numbered_after cause (length columns) columns mid dies can.numbered);
  }

  -- no round was tried
  pub tried-none : (label : Label) (columns : List Column) (ds : List (Option D)) → HaveTried g label label columns columns ds ds
  tried-none label columns ds = record {
    rises = [];
    counter = omega arith;
    failed = record { apart = λ i j d before within. absurd (omega (arith, within)); rose = All-nil (RisesOn g ds ds) };
    had = All-nil (IsInUse columns);
    gone = All-nil (λ (d : ℕ). (c : ℕ) → HasDeviceOn columns c d → ⊥);
    fewer = omega arith;
    frame = changes-refl g (IsFirstInUse columns) ds;
    others = λ d none. refl;
    dies = dies-refl (LosesDevice g columns ds ds) columns;
    told = λ d. more_all-none IsLabelWrite (calls_of g ds d);
    times = λ d. within-none label.counter label.counter (calls_of g ds d) (omega arith);
    each = λ c d live. subst (λ b. WritesUntil b (calls_of g ds d) (calls_of g ds d)) (sym (ap is_some live)) (more_all-none IsLabelled (calls_of g ds d));
    holds = λ c d live tells. inl refl;
  }

  -- A round more, behind those that were tried, began with these columns: those that were left, or in a lost array without one that was filling.
  module _ (lost : Option Loss) (label before next : Label) (columns left mid after : List Column) (old dev new : List (Option D)) (tried : HaveTried g label before columns left old dev) (gave : Dies (IsGivenUp lost left) left mid) (n : ℕ) (pass : AreLabelled g n next mid after dev new)
      (apart : (c k d : ℕ) → HasDeviceOn columns c d → HasDeviceOn columns k d → c ≡ k) where
    was_live : (c d : ℕ) → HasDeviceOn mid c d → HasDeviceOn columns c d
    was_live c d h = live_before (LosesDevice g columns old dev) columns left c d tried.dies (live_before (IsGivenUp lost left) left mid c d gave h)

    in_use : Changes g (IsFirstInUse columns) dev new
    in_use = changes-more g (IsFirstInUse mid) (IsFirstInUse columns) dev new (λ d m h. record { col = h.col; live = was_live h.col d h.live; kept = h.kept }) pass.frame

    frame : Changes g (IsFirstInUse columns) old new
    frame = changes-then g (IsFirstInUse columns) old dev new tried.frame in_use

    others : IsUncalled columns old new
    others d none = pass.others d (λ c below live. none c (was_live c d live)) ∙ tried.others d none

    rose_before : (d : ℕ) → RisesOn g old dev d → RisesOn g old new d
    rose_before d h = rises-wider g (IsFirstInUse columns) (IsFirstInUse columns) old old dev new d (changes-refl g (IsFirstInUse columns) old) h in_use

    rose_behind : (d : ℕ) → RisesOn g dev new d → RisesOn g old new d
    rose_behind d h = rises-wider g (IsFirstInUse columns) (IsFirstInUse columns) old dev new new d tried.frame h (changes-refl g (IsFirstInUse columns) new)

    died_before : Dies (LosesDevice g columns old new) columns left
    died_before = dies-more (LosesDevice g columns old dev) (LosesDevice g columns old new) columns left (λ c f. record { device = f.device; had = f.had; rose = rose_before f.device f.rose }) tried.dies

    died_behind : Dies (LosesDevice g columns old new) mid after
    died_behind = dies-more (LosesDevice g mid dev new) (LosesDevice g columns old new) mid after (λ c f. record { device = f.device; had = was_live c f.device f.had; rose = rose_behind f.device f.rose }) pass.dies

    -- one that was given up was filling at first
    gave_up : Dies (DiesIn g lost columns old new) left mid
    gave_up = dies-more (IsGivenUp lost left) (DiesIn g lost columns old new) left mid (λ c h. inr (given_before (LosesDevice g columns old dev) lost columns left c tried.dies h)) gave

    began : Dies (DiesIn g lost columns old new) columns mid
    began = dies-then (DiesIn g lost columns old new) columns left mid (dies-more (LosesDevice g columns old new) (DiesIn g lost columns old new) columns left (λ c h. inl h) died_before) gave_up

    told : (d : ℕ) → WritesOn (calls_of g old d) (calls_of g new d)
    told d = more_all-then IsLabelWrite (calls_of g old d) (calls_of g dev d) (calls_of g new d) (tried.told d) (pass.told d)

    -- one label more at most
    times : next.counter ≡ before.counter + 1 → (d : ℕ) → WritesWithin label.counter next.counter (calls_of g old d) (calls_of g new d)
    times counter d = within-then label.counter before.counter next.counter (calls_of g old d) (calls_of g dev d) (calls_of g new d) (tried.times d)
        (within_as 0 1 before.counter next.counter (calls_of g dev d) (calls_of g new d) (omega (arith, counter)) (pass.times d))

    -- a device that no column of the pass has isn't called by it
    quiet : (d : ℕ) → ((k : ℕ) → k < n → HasDeviceOn mid k d → ⊥) → calls_of g dev d ≡ calls_of g new d
    quiet d free = ap (λ o. option_and_then g.calls o) (sym (pass.others d free))

    -- nor is that of a column that is dead as it begins
    not_taken : (c d : ℕ) → HasDeviceOn columns c d → slice_get mid c ≡ Some column.Dead → (k : ℕ) → k < n → HasDeviceOn mid k d → ⊥
    not_taken c d live dead k below other =
        let same : c ≡ k = apart c k d live (was_live k d other) in
        let z : Some d ≡ None = sym other ∙ ap device_set (ap (slice_get mid) (sym same) ∙ dead) in absurd (let u : ⊥ = cc in u)

    -- a column that is dead as the pass begins is so in the end
    dead_in_end : (c : ℕ) → slice_get mid c ≡ Some column.Dead → slice_get after c ≡ Some column.Dead
    dead_in_end c dead = elim (pass.dies.each c) [ inl same ↦ same ∙ dead | inr gone ↦ gone.0 ]

    -- a device whose column died as rounds were tried isn't called any more
    each_dead : (c d : ℕ) → HasDeviceOn columns c d → slice_get left c ≡ Some column.Dead → WritesTo (has_device (slice_get after c)) (calls_of g old d) (calls_of g new d)
    each_dead c d live dead =
        let still : slice_get mid c ≡ Some column.Dead = elim (gave.each c) [ inl same ↦ same ∙ dead | inr given ↦ given.0 ] in
        let was : WritesTo false (calls_of g old d) (calls_of g dev d) = subst (λ b. WritesUntil b (calls_of g old d) (calls_of g dev d)) (ap has_device dead) (tried.each c d live) in
        subst (λ b. WritesTo b (calls_of g old d) (calls_of g new d)) (sym (ap has_device (dead_in_end c still)))
        (subst (λ o. WritesTo false (calls_of g old d) o) (quiet d (not_taken c d live still)) was)

    -- as rounds were tried each call of a column that has its device still went well
    well_so_far : (c d : ℕ) → HasDeviceOn columns c d → slice_get left c ≡ slice_get columns c → WritesWell (calls_of g old d) (calls_of g dev d)
    well_so_far c d live same = subst (λ b. WritesUntil b (calls_of g old d) (calls_of g dev d)) (ap has_device same ∙ ap is_some live) (tried.each c d live)

    each_called : (c d : ℕ) → HasDeviceOn columns c d → c < n → AreWritten lost columns after c (calls_of g old d) (calls_of g new d)
    each_called c d live below = elim (tried.dies.each c) [
      | inr dead ↦ inl (each_dead c d live dead.0)
      | inl same ↦ elim (gave.each c) [
        | inr given ↦ inr (given_before (LosesDevice g columns old dev) lost columns left c tried.dies given.1, subst (λ o. WritesWell (calls_of g old d) o) (quiet d (not_taken c d live given.0)) (well_so_far c d live same))
        | inl kept ↦ inl (well-to (has_device (slice_get after c)) (calls_of g old d) (calls_of g dev d) (calls_of g new d) (well_so_far c d live same) (pass.once c d below (ap device_set kept ∙ (ap device_set same ∙ live))))
      ]
    ]

    -- what a device holds that isn't called by the pass
    unwritten : (d : ℕ) → ((k : ℕ) → k < n → HasDeviceOn mid k d → ⊥) → sector_of g new d 0 ≡ sector_of g dev d 0
    unwritten d free = ap (λ (x : Option D). option_map_or (λ (z : D). g.sector z 0) x []) (pass.others d free)

    given_holds : next.counter ≡ before.counter + 1 → IsGivenUpIn lost mid → (c d : ℕ) → IsGivenUp lost columns c → HasDeviceOn columns c d → (RisesOn g old new d → ⊥) → HoldsTried g label next.counter old new c d
    given_holds counter none c d gave_up live quiet_on tells = elim (tried.dies.each c) [
      | inr dead ↦
          let e : d ≡ dead.1.device = (let z : Some d ≡ Some dead.1.device = sym live ∙ dead.1.had in cc) in
          absurd (quiet_on (rose_before d (subst (λ k. RisesOn g old dev k) (sym e) dead.1.rose)))
      | inl same ↦ elim (gave.each c) [
        | inl kept ↦ absurd (none_to_give lost mid c none (given_kept lost left mid c kept (given_kept lost columns left c same gave_up)))
        | inr given ↦
            let free = unwritten d (not_taken c d live given.0) in
            elim (tried.holds c d (ap device_set same ∙ live) tells) [
              | inl held ↦ inl (free ∙ held)
              | inr t ↦ inr (record { tried = t.tried; newer = t.newer; older = omega (arith, t.older, counter); label_is = t.label_is; holds = free ∙ t.holds })
            ]
      ]
    ]

    -- one round more, of all columns
    pub rounds_are : n ≡ length mid → next.counter ≡ before.counter + 1 → seating_in next ≡ seating_of mid → IsGivenUpIn lost mid → AreRounds g lost label next columns mid after old new
    rounds_are all counter seating none = record {
      rises = tried.rises;
      failed = record { apart = tried.failed.apart; rose = All-weaker (RisesOn g old dev) (RisesOn g old new) rose_before tried.rises tried.failed.rose };
      had = tried.had;
      gone = All-weaker (λ (j : ℕ). (c : ℕ) → HasDeviceOn left c j → ⊥) (λ (j : ℕ). (c : ℕ) → HasDeviceOn after c j → ⊥)
          (λ j gone c live. gone c (live_before (IsGivenUp lost left) left mid c j gave (live_before (LosesDevice g mid dev new) mid after c j pass.dies live))) tried.rises tried.gone;
      fewer = omega (arith, tried.fewer, live_less (IsGivenUp lost left) left mid gave, live_less (LosesDevice g mid dev new) mid after pass.dies);
      least = omega (arith, counter, tried.counter);
      most = omega (arith, counter, tried.counter);
      seating = seating;
      held = λ c d live. pass.held c d (omega (arith, all, device_within mid c d (live_before (LosesDevice g mid dev new) mid after c d pass.dies live))) live;
      frame = frame;
      others = others;
      began = began;
      ended = died_behind;
      given_up = given_after (LosesDevice g mid dev new) lost mid after pass.dies none;
      told = told;
      times = times counter;
      each = λ c d live. each_called c d live (omega (arith, all, tried.dies.count, gave.count, device_within columns c d live));
      given = given_holds counter none;
    }

  module _ (label before next : Label) (columns mid after : List Column) (old dev new : List (Option D)) (tried : HaveTried g label before columns mid old dev) (n : ℕ) (pass : AreLabelled g n next mid after dev new)
      (apart : (c k d : ℕ) → HasDeviceOn columns c d → HasDeviceOn columns k d → c ≡ k) where
    same_still : Dies (IsGivenUp None mid) mid mid
    same_still = dies-refl (IsGivenUp None mid) mid

    trying : (d : ℕ) → RisesOn g dev new d → RisesOn g old new d
    trying d h = rose_behind None label before next columns mid mid after old dev new tried same_still n pass apart d h

    -- behind the pass
    each_passed : (c d : ℕ) → HasDeviceOn columns c d → n ≤ c → WritesUntil (has_device (slice_get after c)) (calls_of g old d) (calls_of g new d)
    each_passed c d live past = elim (tried.dies.each c) [
      | inr dead ↦ to-until (has_device (slice_get after c)) (calls_of g old d) (calls_of g new d)
          (each_dead None label before next columns mid mid after old dev new tried same_still n pass apart c d live dead.0)
      | inl same ↦
          let end : has_device (slice_get after c) ≡ has_device (slice_get mid c) = ap has_device (pass.left c past) in
          let free : (k : ℕ) → k < n → HasDeviceOn mid k d → ⊥ = λ k below other.
          let equal : c ≡ k = apart c k d live (live_before (LosesDevice g columns old dev) columns mid k d tried.dies other) in omega (arith, below, past, equal) in
          subst (λ b. WritesUntil b (calls_of g old d) (calls_of g new d)) (sym end)
          (subst (λ o. WritesUntil (has_device (slice_get mid c)) (calls_of g old d) o) (quiet None label before next columns mid mid after old dev new tried same_still n pass apart d free) (tried.each c d live))
    ]

    each_until : (c d : ℕ) → HasDeviceOn columns c d → WritesUntil (has_device (slice_get after c)) (calls_of g old d) (calls_of g new d)
    each_until c d live = elim (cases_lt c n) [
      | inl below ↦ elim (each_called None label before next columns mid mid after old dev new tried same_still n pass apart c d live below) [
        | inl told ↦ to-until (has_device (slice_get after c)) (calls_of g old d) (calls_of g new d) told
        | inr given ↦ absurd given.0
      ]
      | inr past ↦ each_passed c d live past
    ]

    -- what the device of a column that has it still holds: its label of this round, or what it held behind those before
    holds_until : next.counter ≡ before.counter + 1 → next ≡ with_round label next.counter label.clean (seating_in next) → (c d : ℕ) → HasDeviceOn after c d → HoldsTried g label (next.counter + 1) old new c d
    holds_until counter is c d live tells =
        let was : HasDeviceOn mid c d = live_before (LosesDevice g mid dev new) mid after c d pass.dies live in
        elim (cases_lt c n) [
          | inl below ↦ inr (record { tried = next; newer = omega (arith, counter, tried.counter); older = omega arith; label_is = is; holds = pass.held c d below live tells })
          | inr past ↦
              let free : (k : ℕ) → k < n → HasDeviceOn mid k d → ⊥ = λ k under other.
              let equal : c ≡ k = apart c k d (live_before (LosesDevice g columns old dev) columns mid c d tried.dies was) (live_before (LosesDevice g columns old dev) columns mid k d tried.dies other) in omega (arith, under, past, equal) in
              let same = unwritten None label before next columns mid mid after old dev new tried same_still n pass apart d free in
              elim (tried.holds c d was tells) [
                | inl held ↦ inl (same ∙ held)
                | inr t ↦ inr (record { tried = t.tried; newer = t.newer; older = omega (arith, t.older, counter); label_is = t.label_is; holds = same ∙ t.holds })
              ]
        ]

    -- one round more, that ended by a death
    pub tried-more : HaveDevices mid dev → next.counter ≡ before.counter + 1 → next ≡ with_round label next.counter label.clean (seating_in next) → EndsByDeath g n mid after dev new → HaveTried g label next columns after old new
    tried-more have counter is ends =
        let d = ends.loses.device in
        let other : (k : ℕ) → ((c : ℕ) → HasDeviceOn mid c k → ⊥) → k ≢ d = λ k gone e. gone ends.col (subst (λ j. HasDeviceOn mid ends.col j) (sym e) ends.loses.had) in
        let here : slice_get after ends.col ≡ Some column.Dead = ap (λ (l : List Column). slice_get l ends.col) ends.after_is ∙ set_here mid ends.col column.Dead (device_within mid ends.col d ends.loses.had) in
        let old_gone : (k : ℕ) → ((c : ℕ) → HasDeviceOn mid c k → ⊥) → (c : ℕ) → HasDeviceOn after c k → ⊥ = λ k gone c live. gone c (live_before (LosesDevice g mid dev new) mid after c k pass.dies live) in
        let new_gone : (c : ℕ) → HasDeviceOn after c d → ⊥ = λ c live.
        let same : c ≡ ends.col = have.apart c ends.col d (live_before (LosesDevice g mid dev new) mid after c d pass.dies live) ends.loses.had in
        let z : Some d ≡ None = sym live ∙ ap device_set (ap (slice_get after) same ∙ here) in absurd (let u : ⊥ = cc in u) in
        record {
          rises = tried.rises ++ d ∷ [];
          counter = omega (arith, counter, tried.counter, length-append tried.rises (d ∷ []));
          failed = record {
            apart = all_pairs_push (λ a b. a ≢ b) tried.rises d tried.failed.apart (λ k z within. other (get_or tried.rises k z) (All-get_or (λ (j : ℕ). (c : ℕ) → HasDeviceOn mid c j → ⊥) tried.rises k z within tried.gone));
            rose = All-push (RisesOn g old new) tried.rises d (All-weaker (RisesOn g old dev) (RisesOn g old new) (rose_before None label before next columns mid mid after old dev new tried same_still n pass apart) tried.rises tried.failed.rose) (trying d ends.loses.rose);
          };
          had = All-push (IsInUse columns) tried.rises d tried.had (record { col = ends.col; live = live_before (LosesDevice g columns old dev) columns mid ends.col d tried.dies ends.loses.had });
          gone = All-push (λ (j : ℕ). (c : ℕ) → HasDeviceOn after c j → ⊥) tried.rises d (All-weaker (λ (j : ℕ). (c : ℕ) → HasDeviceOn mid c j → ⊥) (λ (j : ℕ). (c : ℕ) → HasDeviceOn after c j → ⊥) old_gone tried.rises tried.gone) new_gone;
          fewer = omega (arith, tried.fewer, length-append tried.rises (d ∷ []), fewer_by_one mid ends.col d ends.loses.had, ap device_count ends.after_is);
          frame = frame None label before next columns mid mid after old dev new tried same_still n pass apart;
          others = others None label before next columns mid mid after old dev new tried same_still n pass apart;
          dies = dies-then (LosesDevice g columns old new) columns mid after (died_before None label before next columns mid mid after old dev new tried same_still n pass apart) (died_behind None label before next columns mid mid after old dev new tried same_still n pass apart);
          told = told None label before next columns mid mid after old dev new tried same_still n pass apart;
          times = times None label before next columns mid mid after old dev new tried same_still n pass apart counter;
          each = each_until;
          holds = holds_until counter is;
        }

    -- one round more, and no write failed
    pub rounds_whole : EndsPass g n mid after dev new true → next.counter ≡ before.counter + 1 → seating_in next ≡ seating_of mid → AreRounds g None label next columns after after old new
    rounds_whole ends counter seating = subst (λ (l : List Column). AreRounds g None label next columns l after old new) (sym ends.1)
        (rounds_are None label before next columns mid mid after old dev new tried same_still n pass apart ends.0 counter seating tt)

  -- fewer columns are live behind a death
  pub fewer : (n : ℕ) (mid after : List Column) (dev new : List (Option D)) → EndsByDeath g n mid after dev new → suc (device_count after) ≤ device_count mid
  fewer n mid after dev new ends = omega (arith, fewer_by_one mid ends.col ends.loses.device ends.loses.had, ap device_count ends.after_is)

  -- the last round of an array that is lost
  pub rounds_lost : (y : Shape) (cols : List ColumnState) (loss : Option Loss) (label next : Label) (columns mid after : List Column) (old new : List (Option D)) → IsLossBy y None cols loss → (NotLost y cols → ⊥) → ((l : Loss) → loss ≡ Some l → AreRounds g (Some l) label next columns mid after old new)
      → HaveRounds g loss label next columns after old new
  rounds_lost y cols None label next columns mid after old new is lost are = absurd (lost is)
  rounds_lost y cols (Some loss) label next columns mid after old new is lost are = (mid, are loss refl)

  pub rounds_there : (loss : Option Loss) (label next : Label) (columns mid after : List Column) (old new : List (Option D)) → is_some loss ≡ true → ((l : Loss) → loss ≡ Some l → AreRounds g (Some l) label next columns mid after old new) → HaveRounds g loss label next columns after old new
  rounds_there None label next columns mid after old new some are = let z : false ≡ true = some in absurd (let u : ⊥ = cc in u)
  rounds_there (Some loss) label next columns mid after old new some are = (mid, are loss refl)

-- ## Stages of rounds

-- rounds of two stages
pub counts-then : (k m : ℕ) (label before next : Label) (xs ys : List ℕ) → CountsRounds k label before (length xs) → CountsRounds m before next (length ys) → CountsRounds (k + m) label next (length (xs ++ ys))
counts-then k m label before next xs ys was is = record { least = omega (arith, was.least, is.least); most = omega (arith, was.most, is.most, length-append xs ys) }

-- no round
pub counts-none : (label next : Label) → next.counter ≡ label.counter → CountsRounds 0 label next 0
counts-none label next same = record { least = omega (arith, same); most = omega (arith, same) }

-- of a label with the same counter
pub counts_as : (k n : ℕ) (label before next : Label) → before.counter ≡ label.counter → CountsRounds k before next n → CountsRounds k label next n
counts_as k n label before next same c = record { least = omega (arith, same, c.least); most = omega (arith, same, c.most) }

module _ {D : Type 0} (g : Ghosts D) where
  -- rounds are a stage, of which the devices are listed that failed but in a last round
  abbrev pub stage_of_rounds : (lost : Option Loss) (label next : Label) (columns mid after : List Column) (old new : List (Option D)) → AreRounds g lost label next columns mid after old new → IsStage g (IsFirstInUse columns) (λ d. All IsLabelWrite) lost columns after old new
  stage_of_rounds lost label next columns mid after old new r = record {
    frame = r.frame;
    told = r.told;
    uncalled = told-others g columns old new r.others;
    dies = dies-then (DiesIn g lost columns old new) columns mid after r.began (dies-more (LosesDevice g columns old new) (DiesIn g lost columns old new) mid after (λ c f. inl f) r.ended);
    rises = r.rises;
    failed = r.failed;
    had = r.had;
    gone = r.gone;
    fewer = r.fewer;
  }

  -- a device that is in use in the end was written its label
  pub rounds-some : (lost : Option Loss) (label next : Label) (columns mid after : List Column) (old new : List (Option D)) → AreRounds g lost label next columns mid after old new → (c d : ℕ) → HasDeviceOn after c d → WritesSome (calls_of g old d) (calls_of g new d)
  rounds-some lost label next columns mid after old new r c d live =
      let between : HasDeviceOn mid c d = live_before (LosesDevice g columns old new) mid after c d r.ended live in
      elim (r.each c d (live_before (DiesIn g lost columns old new) columns mid c d r.began between)) [
        | inl told ↦ some-to (has_device (slice_get after c)) (calls_of g old d) (calls_of g new d) told
        | inr given ↦ elim (r.ended.each c) [
          | inr dead ↦ let z : Some d ≡ None = sym live ∙ ap device_set dead.0 in absurd (let u : ⊥ = cc in u)
          | inl same ↦ elim (r.began.each c) [
            | inr dead ↦ let z : Some d ≡ None = sym between ∙ ap device_set dead.0 in absurd (let u : ⊥ = cc in u)
            | inl kept ↦ absurd (none_to_give lost after c r.given_up (given_kept lost columns after c (same ∙ kept) given.0))
          ]
        ]
      ]

  -- the counter is greater by no more than there were rounds and columns
  pub counts_few : (may : ℕ → ℕ → Type 0) (calls : ℕ → List Call → Type 0) (lost : Option Loss) (rounds : ℕ) (label next : Label) (columns after : List Column) (old new : List (Option D)) (s : IsStage g may calls lost columns after old new) → CountsRounds rounds label next (length s.rises) → length columns ≤ 32 → next.counter ≤ label.counter + rounds + 32
  counts_few may calls lost rounds label next columns after old new s counter few = omega (arith, counter.most, s.fewer, count_by-le-length (λ x. has_device (Some x)) columns, few)

-- ## Ends

-- the labels of a lost array aren't clean
pub lost_clean : (y : Shape) (cols : List ColumnState) (loss : Option Loss) (clean : ℕ) → IsLossBy y None cols loss → (NotLost y cols → ⊥) → 0 ≡ clean_in_end loss clean
lost_clean y cols None clean is lost = absurd (lost is)
lost_clean y cols (Some loss) clean is lost = refl

pub no_loss_of : (lost : Option Loss) → is_some lost ≡ false → lost ≡ None
no_loss_of None h = refl
no_loss_of (Some loss) h = let z : true ≡ false = h in absurd (let u : ⊥ = cc in u)

-- a slice in place of a list as long
pub whole_slice : (n : ℕ) (xs ys : List Column) → length ys ≡ n → length xs ≡ n → take n (xs ++ drop (length xs) ys) ≡ xs
whole_slice n xs ys one other =
    ap (λ (l : List Column). take n (xs ++ l)) (drop_all (length xs) ys (omega (arith, one, other)))
    ∙ ap (take n) (append-nil xs)
    ∙ take_all n xs (omega (arith, other))
