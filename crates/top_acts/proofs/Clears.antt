-- An array that is closed, and whose maps are cleared behind that.
use Rattle.std.proofs.Common.{◌≡◌, ◌∙◌, ℕ, suc, ◌+◌, ◌≤◌, Bool, true, false, List, [], ◌∷◌, ◌++◌, length, Option, Some, None, refl, sym, ap, subst, inl, inr, append_assoc, arith}
use Rattle.std.specs.Prelude.{All, is_some, slice_get}
use Rattle.std.proofs.lemmas.List.{length-append}
use Rattle.std.proofs.lemmas.List.Elements.{All-append, All-cons, All-nil, All-weaker}
use Rattle.blk_disk.specs.declared.disk.Call.{Call}
use Rattle.blk_disk.specs.declared.disk.Disk.{Ghosts}
use Rattle.blk_disk.specs.Disk.{call_of}
use Rattle.blk_disk.specs.Devices.{Changes, RisesOn, calls_of, sector_of}
use Rattle.blk_disk.proofs.DeviceLaws.{changes-refl, changes_sector, changes_size, rises-wider}
use Rattle.lay_core.specs.Layout.{Shape}
use Rattle.eng_cols.specs.declared.column.Column.{Column}
use Rattle.eng_cols.specs.declared.spot.Loss.{Loss}
use Rattle.eng_cols.specs.Cols.{ColumnState, device_set, HasDeviceOn}
use Rattle.eng_cols.specs.Deaths.{Dies, LosesDevice}
use Rattle.eng_cols.specs.Stripes.{states_of}
use Rattle.raid_label.specs.declared.label.Label.{Label}
use Rattle.raid_map.specs.Marking.{CanBeMarked, IsMapSector, MarksOn}
use Rattle.raid_map.specs.Regions.{Marks as Map, IsBytesOf}
use Rattle.top_close.specs.Calls.{EndsSettled, MoreOn}
use Rattle.top_close.specs.Ended.{IsLossBy}
use Rattle.top_close.specs.Settled.{AreSettled}
use Rattle.top_close.specs.Stage.{DiesIn, IsGivenUp, IsGivenUpIn, IsInUse, IsStage, device_count}
use Rattle.top_close.proofs.CallLaws.{more-then}
use Rattle.top_close.proofs.SettledLaws.{device_within}
use Rattle.top_close.proofs.StageLaws.{live_before, live_less, stage-then, stage_as}
use Rattle.top_rounds.specs.Calls.{WritesSome, WritesWithin}
use Rattle.top_rounds.specs.Labels.{seating_in, seating_of, with_round}
use Rattle.top_rounds.specs.Passes.{HoldsLabel, IsKeptInUse}
use Rattle.top_rounds.specs.Rounds.{CountsRounds, HoldsTried, clean_in_end}
use Rattle.top_rounds.proofs.CallLaws.{some-before, some-behind, within-then}
use Rattle.top_rounds.proofs.RoundLaws.{any_death, counts-none, counts-then, counts_few, given_kept, round_again, tried-then}
use Rattle.top_acts.specs.Seats.{HasSeats}
use Rattle.top_acts.specs.Cleared.{ClearsIn, EndsInSteps, EndsMapped, EndsMappedSettled, IsEndingCall, TriesToClear}
use Rattle.top_acts.specs.Closed.{ClosesLabelled, ClosesSettled, settled_in_end}
use Rattle.top_acts.specs.Failed.{IsLeftLost}
use Rattle.top_acts.specs.Marking.{MarksAll}
use Rattle.top_acts.specs.Stages.{IsClosing}
use Rattle.top_acts.proofs.Endings.{calls_ending, ending_calls, endings-then, marked_ending}
use Rattle.top_acts.proofs.InTurn.{AreApart}
use Rattle.top_acts.proofs.Marked.{IsMarkCall, marks_dies, marks_second, marks_stage, marks_times, marks_uncalled}
use Rattle.top_acts.proofs.Seated.{seats-kept, seats-then}
use Rattle.top_acts.proofs.Ended.{no_loss}
use Rattle.top_acts.proofs.Settled.{Death, death_of}
use Rattle.top_acts.proofs.Tried.{strict}
use Rattle.top_rounds.proofs.Words.{IsFirstInUse}
use Rattle.top_acts.proofs.Words.{EndCleared, HoldsOr, EndingCalls, HoldsMap}
use Rattle.top_close.proofs.Words.{IsUncalled}

-- a label write, a write of a map or a settle
any_mark : (call : Call) → IsMarkCall call → IsEndingCall true call
any_mark call (inl write) = inr write
any_mark call (inr settle) = inl (inr settle)

settled_mark : (calls : Option (List Call)) (before : Option (List Call)) → MarksOn before calls true → EndsSettled calls
settled_mark None before h = tt
settled_mark (Some bs) None h = absurd h
settled_mark (Some bs) (Some xs) h = (xs ++ call_of 1 1 512 true ∷ [], h.2 ∙ (ap (λ (l : List Call). xs ++ l) h.1 ∙ sym (append_assoc xs (call_of 1 1 512 true ∷ []) (call_of 2 0 0 true ∷ []))))

-- the calls of a device that was cleared
clear_calls : (before calls : Option (List Call)) → MarksOn before calls true → MoreOn (λ more. more ≡ call_of 1 1 512 true ∷ (call_of 2 0 0 true ∷ [])) before calls
clear_calls before None h = tt
clear_calls None (Some bs) h = h
clear_calls (Some xs) (Some bs) h = (h.0, h.2, h.1)

module _ {D : Type 0} (g : Ghosts D) where
  -- what a closing leaves, with maps among what may be written
  pub record Ends (blank : Map) (was : Bool) (label next : Label) (columns after : List Column) (old new : List (Option D)) (lost : Option Loss) : Type 0 where
    pub stage : IsStage g (IsKeptInUse true columns) (λ d. All (IsEndingCall true)) lost columns after old new
    pub counter : CountsRounds 1 label next (length stage.rises)
    pub others : IsUncalled columns old new
    pub times : (d : ℕ) → WritesWithin label.counter next.counter (calls_of g old d) (calls_of g new d)
    pub label_is : next ≡ with_round label next.counter (clean_in_end lost label.clean) (seating_in next)
    pub seated : HasSeats g lost next columns after old new
    pub seating : lost ≡ None → seating_in next ≡ seating_of after
    pub given_up : IsGivenUpIn lost after
    pub held : (c d : ℕ) → HasDeviceOn after c d → HoldsLabel g new next c d
    pub labelled : (c d : ℕ) → HasDeviceOn after c d → WritesSome (calls_of g old d) (calls_of g new d)
    pub settled : lost ≡ None → (c d : ℕ) → HasDeviceOn after c d → EndsSettled (calls_of g new d)
    pub given : (c d : ℕ) → IsGivenUp lost columns c → HasDeviceOn columns c d → (RisesOn g old new d → ⊥) → HoldsTried g label next.counter old new c d
    pub each : EndingCalls g true lost was (settled_in_end lost) columns after old new
    pub maps : g.tells → (d : ℕ) → (RisesOn g old new d → ⊥) → HoldsOr g (Some blank) old new d

  -- ## A closing

  -- labels alone are written
  same_second : (was : Bool) (label next : Label) (columns after : List Column) (old new : List (Option D)) (lost : Option Loss) → ClosesLabelled g was label next columns after old new lost → g.tells → (d : ℕ) → sector_of g new d 1 ≡ sector_of g old d 1
  same_second was label next columns after old new lost k told d = changes_sector g (IsFirstInUse columns) old new d 1 k.counted.stage.frame told (λ f. omega (arith, f.kept))

  abbrev closing_stage : (was : Bool) (label next : Label) (columns after : List Column) (old new : List (Option D)) (lost : Option Loss) → ClosesLabelled g was label next columns after old new lost → IsStage g (IsKeptInUse true columns) (λ d. All (IsEndingCall true)) lost columns after old new
  closing_stage was label next columns after old new lost k =
      stage_as g (IsFirstInUse columns) (IsKeptInUse true columns) (λ d. All IsClosing) (λ d. All (IsEndingCall true)) lost columns after old new
      (λ d n f. record { col = f.col; live = f.live; kept = inl f.kept }) (λ d calls. All-weaker IsClosing (IsEndingCall true) (λ c h. inl h) calls) k.counted.stage

  pub ends_closed : (blank : Map) (was : Bool) (label next : Label) (columns after : List Column) (old new : List (Option D)) (lost : Option Loss) → ClosesLabelled g was label next columns after old new lost → Ends blank was label next columns after old new lost
  ends_closed blank was label next columns after old new lost k = record {
    stage = closing_stage was label next columns after old new lost k;
    counter = k.counted.counter;
    others = k.counted.others;
    times = k.counted.times;
    label_is = k.label_is;
    seated = k.seated;
    seating = k.seating;
    given_up = k.given_up;
    held = k.held;
    labelled = k.labelled;
    settled = k.settled;
    given = k.given;
    each = calls_ending g true lost was (settled_in_end lost) columns after old new k.each;
    maps = λ told d quiet. inl (same_second was label next columns after old new lost k told d);
  }

  -- where no map is cleared
  pub mapped_closed : (was : Bool) (label next : Label) (columns after : List Column) (old new : List (Option D)) (lost : Option Loss) → ClosesLabelled g was label next columns after old new lost → EndsMapped g None was label next columns after old new lost
  mapped_closed was label next columns after old new lost k = record {
    stage = k.counted.stage;
    counter = k.counted.counter;
    others = k.counted.others;
    times = k.counted.times;
    label_is = k.label_is;
    seated = k.seated;
    seating = k.seating;
    given_up = k.given_up;
    held = k.held;
    labelled = k.labelled;
    settled = k.settled;
    given = k.given;
    each = calls_ending g false lost was (settled_in_end lost) columns after old new k.each;
    maps = λ told d quiet. inl (same_second was label next columns after old new lost k told d);
    cleared = λ blank e. absurd (let u : ⊥ = cc in u);
    called = λ some. absurd (let z : false ≡ true = some in let u : ⊥ = cc in u);
  }

  pub closed_mapped : (was : Bool) (label next : Label) (columns after : List Column) (old new : List (Option D)) (lost : Option Loss) → EndsMapped g None was label next columns after old new lost → ClosesLabelled g was label next columns after old new lost
  closed_mapped was label next columns after old new lost k = record {
    counted = record { stage = k.stage; counter = k.counter; others = k.others; times = k.times };
    label_is = k.label_is;
    seated = k.seated;
    seating = k.seating;
    given_up = k.given_up;
    held = k.held;
    labelled = k.labelled;
    settled = k.settled;
    given = k.given;
    each = ending_calls g lost was (settled_in_end lost) columns after old new k.each;
  }

  -- ## Maps that are cleared

  module _ (blank : Map) (was : Bool) (label next : Label) (columns mid after : List Column) (old dev new : List (Option D)) (e : Ends blank was label next columns mid old dev None) (apart : AreApart columns) (m : MarksAll g blank mid after dev new) where
    live : (c d : ℕ) → HasDeviceOn mid c d → HasDeviceOn columns c d
    live c d h = live_before (DiesIn g None columns old dev) columns mid c d e.stage.dies h

    abbrev clearing : IsStage g (IsKeptInUse true mid) (λ d. All (IsEndingCall true)) None mid after dev new
    clearing = stage_as g (IsKeptInUse true mid) (IsKeptInUse true mid) (λ d. All IsMarkCall) (λ d. All (IsEndingCall true)) None mid after dev new
        (λ d n f. f) (λ d calls. All-weaker IsMarkCall (IsEndingCall true) any_mark calls) (marks_stage g blank mid after dev new m None)

    kept_mid : (d n : ℕ) → IsKeptInUse true mid d n → IsKeptInUse true columns d n
    kept_mid d n f = record { col = f.col; live = live f.col d f.live; kept = f.kept }

    marks_each : EndingCalls g true None true true mid after dev new
    marks_each = marked_ending g true mid after dev new (λ c d h. m.marked.once c d (device_within mid c d h) h)

    turns : EndingCalls g true None was true columns after old new
    turns = endings-then g true None (DiesIn g None columns old dev) (LosesDevice g mid dev new) was true true columns mid after old dev new apart e.stage.dies (marks_dies g blank mid after dev new m) e.each (marks_uncalled g blank mid after dev new m) marks_each

    before_it : (c d : ℕ) → HasDeviceOn after c d → HasDeviceOn mid c d
    before_it c d h = live_before (LosesDevice g mid dev new) mid after c d (marks_dies g blank mid after dev new m) h

    -- no label is written by the clear
    times_both : (d : ℕ) → WritesWithin label.counter next.counter (calls_of g old d) (calls_of g new d)
    times_both d = within-then label.counter next.counter next.counter (calls_of g old d) (calls_of g dev d) (calls_of g new d) (e.times d) (marks_times g blank mid after dev new m next.counter d)

    others_both : IsUncalled columns old new
    others_both d none = marks_uncalled g blank mid after dev new m d (λ c h. none c (live c d h)) ∙ e.others d none

    -- the label is where it was
    label_there : (c d : ℕ) → HasDeviceOn after c d → HoldsLabel g new next c d
    label_there c d h told = changes_sector g (IsMapSector mid) dev new d 0 m.marked.frame told (λ f. let e = f.1 in omega (arith, e)) ∙ e.held c d (before_it c d h) told

    -- what sector 1 holds behind the clear
    second_cleared : g.tells → (d : ℕ) → (RisesOn g old new d → ⊥) → HoldsOr g (Some blank) old new d
    second_cleared told d quiet = elim (marks_second g blank mid after dev new m told d (λ rose. quiet (rises-wider g (IsKeptInUse true columns) (IsKeptInUse true mid) old dev new new d e.stage.frame rose (changes-refl g (IsKeptInUse true mid) new)))) [
      | inr is ↦ inr (blank, refl, is)
      | inl kept ↦ elim (e.maps told d (λ rose. quiet (rises-wider g (IsKeptInUse true columns) (IsKeptInUse true mid) old old dev new d (changes-refl g (IsKeptInUse true columns) old) rose clearing.frame))) [
        | inl was ↦ inl (kept ∙ was)
        | inr is ↦ inr (is.0, is.1, subst (IsBytesOf is.0) (sym kept) is.2)
      ]
    ]

    -- no device failed
    pub ends_cleared : after ≡ mid → EndsMapped g (Some blank) was label next columns after old new None
    ends_cleared same = record {
      stage = stage-then g (IsKeptInUse true columns) (IsKeptInUse true mid) (IsKeptInUse true columns) (λ d. All (IsEndingCall true)) (λ d. All (IsEndingCall true)) (λ d. All (IsEndingCall true)) None columns mid after old dev new e.stage clearing
          (λ d n f. f) kept_mid (λ d. All-append (IsEndingCall true));
      counter = counts-then 1 0 label next next e.stage.rises [] e.counter (counts-none next next refl);
      others = others_both;
      times = times_both;
      label_is = e.label_is;
      seated = seats-kept g columns mid old dev new (IsKeptInUse true columns) (IsKeptInUse true mid) e.stage.frame clearing.frame next after e.stage.dies e.seated (marks_dies g blank mid after dev new m);
      seating = λ _. e.seating refl ∙ ap seating_of (sym same);
      given_up = tt;
      held = label_there;
      labelled = λ c d h. some-before (All (IsEndingCall true)) (calls_of g old d) (calls_of g dev d) (calls_of g new d) (e.labelled c d (before_it c d h)) (clearing.told d);
      settled = λ _ c d h. settled_mark (calls_of g new d) (calls_of g dev d) (subst (MarksOn (calls_of g dev d) (calls_of g new d)) (ap is_some h) (m.marked.once c d (device_within mid c d (before_it c d h)) (before_it c d h)));
      given = λ c d gave. absurd gave;
      each = turns;
      maps = second_cleared;
      cleared = λ other is _ c d h. subst (λ k. HoldsMap g new k d) (let z : blank ≡ other = cc in z) (m.held c d h);
      called = λ _ _ c d h. more-then (All (IsEndingCall true)) (λ calls. calls ≡ call_of 1 1 512 true ∷ (call_of 2 0 0 true ∷ [])) EndCleared (calls_of g old d) (calls_of g dev d) (calls_of g new d)
          (λ xs ys _ are. (xs, ap (λ (l : List Call). xs ++ l) are)) (e.stage.told d)
          (clear_calls (calls_of g dev d) (calls_of g new d) (subst (MarksOn (calls_of g dev d) (calls_of g new d)) (ap is_some h) (m.marked.once c d (device_within mid c d (before_it c d h)) (before_it c d h))));
    }

    -- ## One failed, and labels were written anew

    module _ (fewer : suc (device_count after) ≤ device_count mid) where
      death : Death (LosesDevice g mid dev new) after
      death = elim (death_of (LosesDevice g mid dev new) mid after (marks_dies g blank mid after dev new m)) [
        | inl same ↦ absurd (let e : device_count after ≡ device_count mid = ap device_count same in omega (arith, fewer, e))
        | inr d ↦ d
      ]

      gone : (c : ℕ) → HasDeviceOn after c death.why.device → ⊥
      gone c h =
          let d = death.why.device in
          let same : c ≡ death.col = apart c death.col d (live c d (before_it c d h)) (live death.col d death.why.had) in
          let z : Some d ≡ None = sym h ∙ ap device_set (ap (slice_get after) same ∙ death.dead) in absurd (let u : ⊥ = cc in u)

      -- the stage in which the device of the column is listed
      abbrev broke : IsStage g (IsKeptInUse true mid) (λ d. All (IsEndingCall true)) None mid after dev new
      broke = record {
        frame = clearing.frame;
        told = clearing.told;
        uncalled = clearing.uncalled;
        dies = clearing.dies;
        rises = death.why.device ∷ [];
        failed = record { apart = λ i j z before within. absurd (omega (arith, before, within)); rose = All-cons (RisesOn g dev new) death.why.device [] death.why.rose (All-nil (RisesOn g dev new)) };
        had = All-cons (IsInUse mid) death.why.device [] (record { col = death.col; live = death.why.had }) (All-nil (IsInUse mid));
        gone = All-cons (λ (k : ℕ). (c : ℕ) → HasDeviceOn after c k → ⊥) death.why.device [] gone (All-nil (λ (k : ℕ). (c : ℕ) → HasDeviceOn after c k → ⊥));
        fewer = omega (arith, fewer);
      }

      abbrev both : IsStage g (IsKeptInUse true columns) (λ d. All (IsEndingCall true)) None columns after old new
      both = stage-then g (IsKeptInUse true columns) (IsKeptInUse true mid) (IsKeptInUse true columns) (λ d. All (IsEndingCall true)) (λ d. All (IsEndingCall true)) (λ d. All (IsEndingCall true)) None columns mid after old dev new e.stage broke
          (λ d n f. f) kept_mid (λ d. All-append (IsEndingCall true))

      -- the label of the closing before
      tried_there : (c d : ℕ) → HasDeviceOn after c d → HoldsTried g label (next.counter + 1) old new c d
      tried_there c d h tells = inr (record { tried = next; newer = e.counter.least; older = omega arith; label_is = e.label_is; holds = label_there c d h tells })

      module _ (last : Label) (end : List Column) (more : List (Option D)) (lost : Option Loss) (k : ClosesLabelled g true next last after end new more lost) where
        abbrev behind : IsStage g (IsKeptInUse true after) (λ d. All (IsEndingCall true)) lost after end new more
        behind = closing_stage true next last after end new more lost k

        in_use : (d n : ℕ) → IsKeptInUse true after d n → IsKeptInUse true columns d n
        in_use d n f = record { col = f.col; live = live f.col d (before_it f.col d f.live); kept = f.kept }

        -- what the device holds of a column that is given up
        given_anew : (c d : ℕ) → IsGivenUp lost columns c → HasDeviceOn columns c d → (RisesOn g old more d → ⊥) → HoldsTried g label last.counter old more c d
        given_anew c d gave h quiet = elim (both.dies.each c) [
          | inr dead ↦ elim dead.1 [
            | inr never ↦ absurd never
            | inl loses ↦
                let same : d ≡ loses.device = (let z : Some d ≡ Some loses.device = sym h ∙ loses.had in cc) in
                absurd (quiet (rises-wider g (IsKeptInUse true columns) (IsKeptInUse true after) old old new more d (changes-refl g (IsKeptInUse true columns) old) (subst (λ x. RisesOn g old new x) (sym same) loses.rose) behind.frame))
          ]
          | inl kept ↦
              let here : HasDeviceOn after c d = ap device_set kept ∙ h in
              tried-then g label next (next.counter + 1) last.counter old new more c d (omega (arith, e.counter.least)) (omega (arith, k.counted.counter.least)) e.label_is
              (tried_there c d here)
              (k.given c d (given_kept lost columns after c kept gave) here (λ rose. quiet (rises-wider g (IsKeptInUse true columns) (IsKeptInUse true after) old new more more d both.frame rose (changes-refl g (IsKeptInUse true after) more))))
        ]

        abbrev stage_all : IsStage g (IsKeptInUse true columns) (λ d. All (IsEndingCall true)) lost columns end old more
        stage_all = stage-then g (IsKeptInUse true columns) (IsKeptInUse true after) (IsKeptInUse true columns) (λ d. All (IsEndingCall true)) (λ d. All (IsEndingCall true)) (λ d. All (IsEndingCall true)) lost columns after end old new more both behind
            (λ d n f. f) in_use (λ d. All-append (IsEndingCall true))

        -- and of sector 1
        second_anew : g.tells → (d : ℕ) → (RisesOn g old more d → ⊥) → HoldsOr g (Some blank) old more d
        second_anew told d quiet =
            let same = same_second true next last after end new more lost k told d in
            elim (second_cleared told d (λ rose. quiet (rises-wider g (IsKeptInUse true columns) (IsKeptInUse true after) old old new more d (changes-refl g (IsKeptInUse true columns) old) rose behind.frame))) [
              | inl was ↦ inl (same ∙ was)
              | inr is ↦ inr (is.0, is.1, subst (IsBytesOf is.0) (sym same) is.2)
            ]

        pub ends_anew : Ends blank was label last columns end old more lost
        ends_anew = record {
          stage = stage_all;
          counter = record {
            least = omega (arith, e.counter.least, k.counted.counter.least);
            most = omega (arith, e.counter.most, k.counted.counter.most, length-append (e.stage.rises ++ death.why.device ∷ []) k.counted.stage.rises, length-append e.stage.rises (death.why.device ∷ []));
          };
          others = λ d none. k.counted.others d (λ c h. none c (live c d (before_it c d h))) ∙ others_both d none;
          times = λ d. within-then label.counter next.counter last.counter (calls_of g old d) (calls_of g new d) (calls_of g more d) (times_both d) (k.counted.times d);
          label_is = round_again label next last label.clean last.counter (clean_in_end lost label.clean) (seating_in last) e.label_is
              (k.label_is ∙ ap (λ x. with_round next last.counter (clean_in_end lost x) (seating_in last)) (ap (λ (l : Label). l.clean) e.label_is));
          seated = seats-then g columns after old new more (IsKeptInUse true columns) (IsKeptInUse true after) both.frame behind.frame lost last end both.dies k.seated;
          seating = k.seating;
          given_up = k.given_up;
          held = k.held;
          labelled = λ c d h. some-behind (All (IsEndingCall true)) (calls_of g old d) (calls_of g new d) (calls_of g more d) (both.told d) (k.labelled c d h);
          settled = k.settled;
          given = given_anew;
          each = endings-then g true lost (DiesIn g None columns old new) (DiesIn g lost after new more) was true (settled_in_end lost) columns after end old new more apart both.dies behind.dies turns k.counted.others
              (calls_ending g true lost true (settled_in_end lost) after end new more k.each);
          maps = second_anew;
        }

  -- of a lost array no map is cleared
  pub ends_lost : (blank : Map) (was : Bool) (label next : Label) (columns after : List Column) (old new : List (Option D)) (lost : Option Loss) → is_some lost ≡ true → Ends blank was label next columns after old new lost → EndsMapped g (Some blank) was label next columns after old new lost
  ends_lost blank was label next columns after old new lost some e = record {
    stage = e.stage;
    counter = e.counter;
    others = e.others;
    times = e.times;
    label_is = e.label_is;
    seated = e.seated;
    seating = e.seating;
    given_up = e.given_up;
    held = e.held;
    labelled = e.labelled;
    settled = e.settled;
    given = e.given;
    each = e.each;
    maps = e.maps;
    cleared = λ other is none. let z : false ≡ true = ap is_some (sym none) ∙ some in absurd (let u : ⊥ = cc in u);
    called = λ _ none. let z : false ≡ true = ap is_some (sym none) ∙ some in absurd (let u : ⊥ = cc in u);
  }

  -- ## Tries

  pub tries_lost : (blank : Map) (label : Label) (columns : List Column) (ds : List (Option D)) (lost : Option Loss) → is_some lost ≡ true → TriesToClear g blank label label columns columns ds ds lost lost true
  tries_lost blank label columns ds None some = no_loss some
  tries_lost blank label columns ds (Some loss) some = (refl, refl, refl, refl, refl)

  pub marks_same : (map : Map) (columns after : List Column) (old new : List (Option D)) → MarksAll g map columns after old new → device_count after ≡ device_count columns → after ≡ columns
  marks_same map columns after old new m same = elim (death_of (LosesDevice g columns old new) columns after (marks_dies g map columns after old new m)) [
    | inl e ↦ e
    | inr death ↦ let fewer = strict columns after (any_death (LosesDevice g columns old new) columns after (marks_dies g map columns after old new m)) death.col (ap is_some death.why.had) death.dead in absurd (omega (arith, fewer, same))
  ]

  pub marks_fewer : (map : Map) (columns after : List Column) (old new : List (Option D)) → MarksAll g map columns after old new → (device_count after ≡ device_count columns → ⊥) → suc (device_count after) ≤ device_count columns
  marks_fewer map columns after old new m other = let less = live_less (LosesDevice g columns old new) columns after (marks_dies g map columns after old new m) in omega (arith, less, other)

  -- a try that isn't the last
  pub record Retries (blank : Map) (label next : Label) (columns after : List Column) (old new : List (Option D)) (before lost : Option Loss) : Type 0 where
    pub mid : List Column
    pub dev : List (Option D)
    pub none : before ≡ None
    pub marks : MarksAll g blank columns mid old dev
    pub fewer : suc (device_count mid) ≤ device_count columns
    pub closed : ClosesLabelled g true label next mid after dev new lost

  pub retries : (blank : Map) (label next : Label) (columns after : List Column) (old new : List (Option D)) (before lost : Option Loss) → TriesToClear g blank label next columns after old new before lost false → Retries blank label next columns after old new before lost
  retries blank label next columns after old new None lost h = record { mid = h.0; dev = h.1; none = refl; marks = h.2; fewer = h.3; closed = closed_mapped true label next h.0 after h.1 new lost h.4 }
  retries blank label next columns after old new (Some loss) lost h = let z : false ≡ true = h.0 in absurd (let u : ⊥ = cc in u)

  -- what the tries so far have left, behind the closing
  module _ (blank : Map) (was : Bool) (label before next : Label) (columns mid after : List Column) (old dev new : List (Option D)) (lost ended : Option Loss) (apart : AreApart columns) where
    pub ends_retried : Ends blank was label before columns mid old dev lost → Retries blank before next mid after dev new lost ended → Ends blank was label next columns after old new ended
    ends_retried e r = ends_anew blank was label before columns mid r.mid old dev r.dev (subst (Ends blank was label before columns mid old dev) r.none e) apart r.marks r.fewer next after new ended r.closed

    -- and what the last one does
    pub ends_last : Ends blank was label before columns mid old dev lost → TriesToClear g blank before next mid after dev new lost ended true → EndsMapped g (Some blank) was label next columns after old new ended
    ends_last e h = go lost e h
      where
        go : (o : Option Loss) → Ends blank was label before columns mid old dev o → TriesToClear g blank before next mid after dev new o ended true → EndsMapped g (Some blank) was label next columns after old new ended
        go None e h =
            let cleared = ends_cleared blank was label before columns mid after old dev new e apart h.1 h.2 in
            subst (λ o. EndsMapped g (Some blank) was label next columns after old new o) (sym h.3)
            (subst (λ (l : Label). EndsMapped g (Some blank) was label l columns after old new None) (sym h.0) cleared)
        go (Some loss) e h =
            let lost_too = ends_lost blank was label before columns mid old dev (Some loss) refl e in
            subst (λ o. EndsMapped g (Some blank) was label next columns after old new o) (sym h.4)
            (subst (λ ds. EndsMapped g (Some blank) was label next columns after old ds (Some loss)) (sym h.3)
            (subst (λ cs. EndsMapped g (Some blank) was label next columns cs old dev (Some loss)) (sym h.2)
            (subst (λ (l : Label). EndsMapped g (Some blank) was label l columns mid old dev (Some loss)) (sym h.1) lost_too)))

  -- first each device in use was settled, and then it ended so
  pub record EndsBehind (blank : Map) (label next : Label) (columns after : List Column) (old new : List (Option D)) (lost : Option Loss) : Type 0 where
    pub mid : List Column
    pub dev : List (Option D)
    pub settles : AreSettled g (length columns) columns mid old dev
    pub apart : AreApart mid
    pub ends : Ends blank true label next mid after dev new lost

  pub behind_closed : (blank : Map) (label next : Label) (columns after : List Column) (old new : List (Option D)) (lost : Option Loss) → AreApart columns → ClosesSettled g label next columns after old new lost → EndsBehind blank label next columns after old new lost
  behind_closed blank label next columns after old new lost apart s = record {
    mid = s.mid;
    dev = s.dev;
    settles = s.settles;
    apart = λ c k d one two. apart c k d (live_before (LosesDevice g columns old s.dev) columns s.mid c d s.settles.dies one) (live_before (LosesDevice g columns old s.dev) columns s.mid k d s.settles.dies two);
    ends = ends_closed blank true label next s.mid after s.dev new lost s.closes;
  }

  pub behind_retried : (blank : Map) (label before next : Label) (columns mid after : List Column) (old dev new : List (Option D)) (lost ended : Option Loss) → EndsBehind blank label before columns mid old dev lost → Retries blank before next mid after dev new lost ended → EndsBehind blank label next columns after old new ended
  behind_retried blank label before next columns mid after old dev new lost ended b r = record {
    mid = b.mid;
    dev = b.dev;
    settles = b.settles;
    apart = b.apart;
    ends = ends_retried blank true label before next b.mid mid after b.dev dev new lost ended b.apart b.ends r;
  }

  pub behind_last : (blank : Map) (label before next : Label) (columns mid after : List Column) (old dev new : List (Option D)) (lost ended : Option Loss) → EndsBehind blank label before columns mid old dev lost → TriesToClear g blank before next mid after dev new lost ended true → EndsMappedSettled g (Some blank) label next columns after old new ended
  behind_last blank label before next columns mid after old dev new lost ended b h = record {
    mid = b.mid;
    dev = b.dev;
    settles = b.settles;
    ends = ends_last blank true label before next b.mid mid after b.dev dev new lost ended b.apart b.ends h;
  }

  -- ## What the array was lost by

  pub lost_last : (y : Shape) (blank : Map) (was before lost : Option Loss) (label next : Label) (columns after : List Column) (old new : List (Option D)) → IsLossBy y was (states_of y columns) before → TriesToClear g blank label next columns after old new before lost true → IsLossBy y was (states_of y after) lost
  lost_last y blank was None lost label next columns after old new is h = subst (λ cs. IsLossBy y was (states_of y cs) lost) (sym h.2) (subst (IsLossBy y was (states_of y columns)) (sym h.3) is)
  lost_last y blank was (Some loss) lost label next columns after old new is h = subst (λ cs. IsLossBy y was (states_of y cs) lost) (sym h.2) (subst (IsLossBy y was (states_of y columns)) (sym h.4) is)

  pub lost_anew : (y : Shape) (was before lost : Option Loss) (columns after : List Column) → before ≡ None → IsLossBy y was (states_of y columns) before → IsLossBy y None (states_of y after) lost → IsLossBy y was (states_of y after) lost
  lost_anew y None before lost columns after none was is = is
  lost_anew y (Some loss) before lost columns after none was is = let z : None ≡ Some loss = sym none ∙ was in absurd (let u : ⊥ = cc in u)

  -- whatever comes of the tries from here on comes of all
  abbrev pub AllSteps : (blank : Map) (y : Shape) (was : Option Loss) (label first : Label) (columns mid : List Column) (old dev : List (Option D)) (behind : Option Loss) → Type 0
  AllSteps blank y was label first columns mid old dev behind =
      (n : ℕ) (next : Label) (after : List Column) (new : List (Option D)) (lost : Option Loss) → ClearsIn g n y blank first next mid after dev new behind lost → EndsInSteps g (Some blank) y was label next columns after old new lost

  -- what was lost before is so still
  pub kept_by : (y : Shape) (cols : List ColumnState) (was lost : Option Loss) → IsLossBy y was cols lost → (loss : Loss) → was ≡ Some loss → lost ≡ Some loss
  kept_by y cols None lost is loss e = absurd (let u : ⊥ = cc in u)
  kept_by y cols (Some old) lost is loss e = is ∙ e

  -- and its maps aren't cleared
  pub left_last : (blank : Map) (loss : Loss) (label first next : Label) (columns mid after : List Column) (old dev new : List (Option D)) (before lost : Option Loss) → before ≡ Some loss → IsLeftLost g loss label first columns mid old dev → TriesToClear g blank first next mid after dev new before lost true → IsLeftLost g loss label next columns after old new
  left_last blank loss label first next columns mid after old dev new None lost e was h = absurd (let u : ⊥ = cc in u)
  left_last blank loss label first next columns mid after old dev new (Some other) lost e was h =
      subst (λ ds. IsLeftLost g loss label next columns after old ds) (sym h.3)
      (subst (λ cs. IsLeftLost g loss label next columns cs old dev) (sym h.2)
      (subst (λ (l : Label). IsLeftLost g loss label l columns mid old dev) (sym h.1) was))

  -- ## What can be done with what is left

  pub ends_few : (blank : Map) (was : Bool) (label next : Label) (columns after : List Column) (old new : List (Option D)) (lost : Option Loss) → Ends blank was label next columns after old new lost → length columns ≤ 32 → next.counter ≤ label.counter + 33
  ends_few blank was label next columns after old new lost e many = omega (arith, counts_few g (IsKeptInUse true columns) (λ d. All (IsEndingCall true)) lost 1 label next columns after old new e.stage e.counter many)

  pub marked_after : (cause : ℕ → Type 0) (may : ℕ → ℕ → Type 0) (columns after : List Column) (old new : List (Option D)) → Dies cause columns after → Changes g may old new → CanBeMarked g columns old → CanBeMarked g after new
  marked_after cause may columns after old new dies changes can = record {
    sized = λ c d live. let was = can.sized c d (live_before cause columns after c d dies live) in omega (arith, was, changes_size g may old new d changes);
    apart = λ c k d one two. can.apart c k d (live_before cause columns after c d dies one) (live_before cause columns after k d dies two);
  }
