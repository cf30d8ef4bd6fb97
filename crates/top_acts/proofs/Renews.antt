-- Check units that are renewed, from the maps that are read to the last settle.
use Rattle.std.proofs.Common.{◌≡◌, ◌⊎◌, ◌∙◌, ℕ, ◌+◌, ◌<◌, ◌≤◌, Bool, List, [], ◌++◌, true, false, length, Option, Some, None, refl, sym, ap, subst, inl, inr, arith}
use Rattle.std.specs.Prelude.{All, count_by, if◌then◌else◌, is_some, option_map, slice_get}
use Rattle.std.specs.Bool.{then_some}
use Rattle.std.proofs.lemmas.List.Elements.{All-nil}
use Rattle.blk_disk.specs.declared.disk.Call.{Call}
use Rattle.blk_disk.specs.declared.disk.Disk.{Ghosts}
use Rattle.blk_disk.specs.Devices.{RisesOn, calls_of, sector_of}
use Rattle.blk_disk.proofs.DeviceLaws.{changes-more, changes-refl, changes-then, changes_sector, rises-wider}
use Rattle.lay_core.specs.Layout.{Shape, IsLayout}
use Rattle.eng_cols.specs.declared.column.Column.{Column}
use Rattle.eng_cols.specs.declared.spot.Loss.{Loss}
use Rattle.eng_cols.specs.Cols.{InOrder, is_set_filling, HasDeviceOn, has_device}
use Rattle.eng_cols.proofs.DeathLaws.{dies-more}
use Rattle.raid_label.specs.declared.label.Label.{Label}
use Rattle.raid_map.specs.Regions.{Marks as Map, IsBytesOf}
use Rattle.eng_cols.specs.Stripes.{states_of}
use Rattle.raid_recon.specs.Ends.{MayRewrite}
use Rattle.raid_recon.proofs.Backs.{Back}
use Rattle.top_close.specs.Calls.{EndsSettled, IsSettle, MoreOn}
use Rattle.top_close.specs.Ended.{IsLossBy}
use Rattle.top_close.specs.Settled.{AreSettled}
use Rattle.top_close.proofs.SettledLaws.{device_within}
use Rattle.top_rounds.specs.Labels.{seating_in, with_round}
use Rattle.top_close.specs.Stage.{DiesIn, IsGivenUpIn, IsStage}
use Rattle.top_rounds.specs.Rounds.{clean_in_end}
use Rattle.top_close.proofs.CallLaws.{more-then}
use Rattle.top_close.proofs.Counts.{deaths_pass_less}
use Rattle.top_close.proofs.StageLaws.{dies_over, live_before, stage-then, stage_as, told-others, told-then}
use Rattle.top_rounds.proofs.RoundLaws.{counts-none, counts-then, counts_as, none_given_in, round_again}
use Rattle.top_acts.specs.declared.done.Done.{Done}
use Rattle.top_acts.specs.declared.done.Done.TheVariants as done
use Rattle.top_acts.specs.declared.sweeping.Renewal.{Renewal}
use Rattle.top_acts.specs.Begun.{HasBegun, HasSwept, MayBegin, MaySweep}
use Rattle.top_acts.specs.Behind.{AreLast}
use Rattle.top_acts.specs.Cleared.{EndsInSteps, EndsMapped, EndsMappedSettled, IsEndingCall}
use Rattle.top_acts.specs.Done.{unless_lost}
use Rattle.top_acts.specs.Mapped.{LooksAtMaps, ReadsMap, is_any_marked}
use Rattle.top_acts.specs.Marking.{AreNotice}
use Rattle.top_acts.specs.Renewed.{IsRenewed, IsRenewedPlain, SettlesFirstOf, renewed}
use Rattle.top_acts.specs.Sweeps.{Over, Round, sweep_of}
use Rattle.top_acts.specs.Stages.{AreStaged, IsClosing}
use Rattle.top_acts.specs.Sweeping.{DoesSweep}
use Rattle.top_acts.proofs.Backs.{died}
use Rattle.top_acts.proofs.Begins.{no_none}
use Rattle.top_acts.proofs.Ended.{no_loss}
use Rattle.top_acts.proofs.Later.{IsSwept, Quiet, has_first, swept_later, sweep_high, sweep_was}
use Rattle.top_acts.proofs.Looked.{looks_stage}
use Rattle.top_acts.proofs.Named.{apart_in, loses_of, only_lose}
use Rattle.top_acts.proofs.Swept.{sweep_frame, swept_now}
use Rattle.top_acts.proofs.Uncalled.{told-units}
use Rattle.top_acts.proofs.Staged.{AreNone, last_ends, settles-ending, staged-as, staged-more, staged-read, staged-reads, staged-sweep}
use Rattle.top_rounds.proofs.Words.{IsFirstInUse}
use Rattle.top_acts.proofs.Words.{MayEnd, IsMapRead, clear_of}
use Rattle.top_rounds.specs.Passes.{IsKeptInUse}
use Rattle.eng_cols.specs.Deaths.{LosesDevice}

-- the settles come first
first_settled : {D : Type 0} (g : Ghosts D) (clear : Option Map) (label next : Label) (columns after : List Column) (old new : List (Option D)) (lost : Option Loss) → EndsMappedSettled g clear label next columns after old new lost → (c d : ℕ) → HasDeviceOn columns c d → MoreOn (SettlesFirstOf (is_some clear)) (calls_of g old d) (calls_of g new d)
first_settled g clear label next columns after old new lost s c d live =
    settles-ending (is_some clear) (has_device (slice_get s.mid c)) (calls_of g old d) (calls_of g s.dev d) (calls_of g new d) (s.settles.once c d (device_within columns c d live) live) (s.ends.stage.told d)

-- the sectors that an end may write, by columns of before
end_may : (clears : Bool) (columns mid : List Column) (d n : ℕ) → ((c : ℕ) → HasDeviceOn mid c d → HasDeviceOn columns c d) → MayEnd clears mid d n → MayEnd clears columns d n
end_may false columns mid d n live f = record { col = f.col; live = live f.col f.live; kept = f.kept }
end_may true columns mid d n live f = record { col = f.col; live = live f.col f.live; kept = f.kept }

first_may : (clears : Bool) (columns mid : List Column) (d n : ℕ) → ((c : ℕ) → HasDeviceOn mid c d → HasDeviceOn columns c d) → IsFirstInUse mid d n → MayEnd clears columns d n
first_may false columns mid d n live f = record { col = f.col; live = live f.col f.live; kept = f.kept }
first_may true columns mid d n live f = record { col = f.col; live = live f.col f.live; kept = inl f.kept }

low_end : (clears : Bool) (columns : List Column) (d n : ℕ) → MayEnd clears columns d n → n < 64
low_end false columns d n f = omega (arith, f.kept)
low_end true columns d n f = elim f.kept [ inl zero ↦ omega (arith, zero) | inr one ↦ omega (arith, one) ]

-- maps are cleared where one marks something
clears_is : (blank union : Map) → is_some (clear_of blank union) ≡ is_any_marked union
clears_is blank union = go (is_any_marked union)
  where
    go : (b : Bool) → is_some (if b then Some blank else None) ≡ b
    go true = refl
    go false = refl

clears_with : (blank union other : Map) → clear_of blank union ≡ Some other → blank ≡ other
clears_with blank union other h = go (is_any_marked union) h
  where
    go : (b : Bool) → (if b then Some blank else None) ≡ Some other → blank ≡ other
    go true e = cc
    go false e = absurd (let u : ⊥ = cc in u)

-- the map that is handed on for that
pub clear_if : {A : Type 0} (b : Bool) (blank union : Map) (x : A) (f : A → Map) → b ≡ is_any_marked union → f x ≡ blank → option_map f (then_some b x) ≡ clear_of blank union
clear_if b blank union x f same now = subst (λ k. option_map f (then_some b x) ≡ (if k then Some blank else None)) same (go b)
  where
    go : (k : Bool) → option_map f (then_some k x) ≡ (if k then Some blank else None)
    go true = ap (λ m. Some m) now
    go false = refl

module _ {D : Type 0} (g : Ghosts D) (kind : Renewal) (y : Shape) (blank union : Map) (columns read : List Column) (old looked : List (Option D)) where
  abbrev Calls : (ℕ → List Call → Type 0)
  Calls d = AreStaged (ReadsMap (All IsClosing)) (All (IsEndingCall (is_any_marked union))) (Over (sweep_of kind)) y (states_of y columns) d

  abbrev May : ℕ → ℕ → Type 0
  May d n = IsKeptInUse (is_any_marked union) columns d n ⊎ MaySweep g (Over (sweep_of kind)) y columns old d n

  -- the array was lost as its maps were read
  pub renewed_unread : (label : Label) (after : List Column) (lost : Option Loss) → is_some lost ≡ true → IsLossBy y None (states_of y after) lost → LooksAtMaps g y blank union columns after old looked lost → IsRenewed g kind y label label columns after old looked lost done.Nothing blank union
  renewed_unread label after None some is l = no_loss some
  renewed_unread label after (Some loss) some is l = record {
    read = after;
    looked = looked;
    unread = Some loss;
    looks = l;
    found = 0;
    told = refl;
    swept = λ e. no_none e;
    rounds = 0;
    some = λ e. no_none e;
    few = omega arith;
    two = λ e. no_none e;
    stage = stage_as g (λ _ _. ⊥) May (λ d. All IsMapRead) Calls (Some loss) columns after old looked (λ d n f. absurd f)
        (λ d calls reads. staged-read (All IsClosing) (All (IsEndingCall (is_any_marked union))) (Over (sweep_of kind)) y (states_of y columns) d calls (All-nil IsClosing) (All-nil (IsEndingCall (is_any_marked union))) reads)
        (looks_stage g y (Some loss) blank union columns after old looked l);
    counter = counts-none label label refl;
    label_is = λ e. no_none e;
    seating = λ e. no_none e;
    given_up = subst (IsGivenUpIn (Some loss)) (sym l.after_is) (none_given_in (Some loss) l.read);
    held = λ e. no_none e;
    settled = λ e. no_none e;
    ordered = λ e. no_none e;
    lost_is = is;
    map = λ told d quiet. inl (changes_sector g (λ _ _. ⊥) old looked d 1 l.reads.frame told (λ f. f));
    renews = (record { label_is = refl; columns_are = refl; devices_are = refl }, refl);
  }

  -- It wasn't lost by that.
  module _ (layout : IsLayout y) (order : InOrder (states_of y columns)) (few : count_by is_set_filling columns ≤ 1) (l : LooksAtMaps g y blank union columns read old looked None) where
    abbrev reads : IsStage g (λ _ _. ⊥) (λ d. All IsMapRead) None columns read old looked
    reads = looks_stage g y None blank union columns read old looked l

    live_read : (c d : ℕ) → HasDeviceOn read c d → HasDeviceOn columns c d
    live_read c d h = live_before (DiesIn g None columns old looked) columns read c d reads.dies h

    back_read : Back y (states_of y read) (states_of y columns)
    back_read = died (DiesIn g None columns old looked) y columns read reads.dies (apart_in g None columns read old looked reads.dies) few

    quiet_read : Quiet g y old looked
    quiet_read = changes-more g (λ _ _. ⊥) (λ d n. n < 64) old looked (λ d n f. absurd f) reads.frame

    begin_may : (d n : ℕ) → MayBegin g Round (Over (sweep_of kind)) y read looked d n → May d n
    begin_may d n (inl f) = inl (first_may (is_any_marked union) columns read d n (λ c h. live_read c d h) f)
    begin_may d n (inr m) = inr (sweep_was g y columns read old looked back_read quiet_read (Over (sweep_of kind)) d n m)

    swept_low : (d n : ℕ) → MayBegin g Round (Over (sweep_of kind)) y read looked d n → IsSwept g y columns read old looked back_read quiet_read (Over (sweep_of kind)) d n
    swept_low d n (inl f) = inl (omega (arith, f.kept))
    swept_low d n (inr m) = inr m

    no_second : (d : ℕ) → MayBegin g Round (Over (sweep_of kind)) y read looked d 1 → ⊥
    no_second d (inl f) = omega (arith, f.kept)
    no_second d (inr m) = omega (arith, sweep_high g y (Over (sweep_of kind)) read looked d 1 m)

    -- what was begun, behind the reads
    abbrev begun : (label first : Label) (mid : List Column) (dev : List (Option D)) (lost : Option Loss) (n : ℕ) → HasBegun g Round (Over (sweep_of kind)) y label first read mid looked dev lost n
        → IsStage g May (λ d. AreStaged (ReadsMap (All IsClosing)) (AreLast lost) (Over (sweep_of kind)) y (states_of y columns) d) lost columns mid old dev
    begun label first mid dev lost n b = stage-then g (λ _ _. ⊥) (MayBegin g Round (Over (sweep_of kind)) y read looked) May (λ d. All IsMapRead) (λ d. AreStaged (AreNotice Round) (AreLast lost) (Over (sweep_of kind)) y (states_of y read) d)
        (λ d. AreStaged (ReadsMap (All IsClosing)) (AreLast lost) (Over (sweep_of kind)) y (states_of y columns) d) lost columns read mid old looked dev reads b.stage
        (λ d n f. absurd f) begin_may (λ d xs ys. staged-reads (All IsClosing) (AreLast lost) (Over (sweep_of kind)) y (states_of y read) (states_of y columns) d xs ys back_read)

    -- the opening round was written
    wrote_first : (label first : Label) (mid : List Column) (dev : List (Option D)) (lost : Option Loss) (n : ℕ) → HasBegun g Round (Over (sweep_of kind)) y label first read mid looked dev lost n → label.counter < first.counter
    wrote_first label first mid dev lost n b = omega (arith, b.some, b.counter.least)

    -- it was lost before the closing round
    pub renewed_lost : (label next : Label) (after : List Column) (new : List (Option D)) (lost : Option Loss) (n : ℕ) → is_some lost ≡ true → IsLossBy y None (states_of y after) lost → HasBegun g Round (Over (sweep_of kind)) y label next read after looked new lost n
        → IsRenewed g kind y label next columns after old new lost done.Nothing blank union
    renewed_lost label next after new None n some is b = no_loss some
    renewed_lost label next after new (Some loss) n some is b =
        let was = begun label next after new (Some loss) n b in
        record {
          read = read;
          looked = looked;
          unread = None;
          looks = l;
          found = n;
          told = refl;
          swept = λ e. no_none e;
          rounds = b.rounds;
          some = λ e. b.some;
          few = omega (arith, b.few);
          two = λ e. no_none e;
          stage = stage_as g May May (λ d. AreStaged (ReadsMap (All IsClosing)) (AreLast (Some loss)) (Over (sweep_of kind)) y (states_of y columns) d) Calls (Some loss) columns after old new (λ d m f. f)
              (λ d calls. staged-as (ReadsMap (All IsClosing)) (AreLast (Some loss)) (All (IsEndingCall (is_any_marked union))) (Over (sweep_of kind)) y (states_of y columns) d calls (last_ends (is_any_marked union) (Some loss))) was;
          counter = b.counter;
          label_is = λ e. b.label_is (wrote_first label next after new (Some loss) n b);
          seating = λ e. no_none e;
          given_up = b.given_up;
          held = λ e. b.held (wrote_first label next after new (Some loss) n b);
          settled = λ e. no_none e;
          ordered = λ e. no_none e;
          lost_is = is;
          map = λ told d quiet. inl (changes_sector g (MayBegin g Round (Over (sweep_of kind)) y read looked) looked new d 1 b.stage.frame told (no_second d) ∙ changes_sector g (λ _ _. ⊥) old looked d 1 reads.frame told (λ f. f));
          renews = (after, new, next, Some loss, b, (record { label_is = refl; columns_are = refl; devices_are = refl }, refl));
        }

    -- it was closed
    module _ (label first before next : Label) (mid after : List Column) (dev new : List (Option D)) (ended : Option Loss) (n : ℕ) (result : Done) (fewer : count_by is_set_filling mid ≤ 1) (clean : before ≡ with_round first first.counter 1 (seating_in first)) (clean_is : before ≡ record first { clean = 1 }) (told : result ≡ unless_lost ended (renewed kind n))
        (is : IsLossBy y None (states_of y after) ended) (b : HasBegun g Round (Over (sweep_of kind)) y label first read mid looked dev None n) (k : EndsMapped g (clear_of blank union) false before next mid after dev new ended) (settles : EndsMappedSettled g (clear_of blank union) before next mid after dev new ended) (steps : EndsInSteps g (clear_of blank union) y None before next mid after dev new ended) where
      abbrev was : IsStage g May (λ d. AreStaged (ReadsMap (All IsClosing)) AreNone (Over (sweep_of kind)) y (states_of y columns) d) None columns mid old dev
      was = begun label first mid dev None n b

      live : (c d : ℕ) → HasDeviceOn mid c d → HasDeviceOn columns c d
      live c d h = live_before (DiesIn g None columns old dev) columns mid c d was.dies h

      clears : is_some (clear_of blank union) ≡ is_any_marked union
      clears = clears_is blank union

      abbrev end : IsStage g (MayEnd (is_any_marked union) mid) (λ d. All (IsEndingCall (is_any_marked union))) ended mid after dev new
      end = stage_as g (MayEnd (is_some (clear_of blank union)) mid) (MayEnd (is_any_marked union) mid) (λ d. All (IsEndingCall (is_some (clear_of blank union)))) (λ d. All (IsEndingCall (is_any_marked union))) ended mid after dev new
          (λ d m f. subst (λ x. MayEnd x mid d m) clears f) (λ d calls all. subst (λ x. All (IsEndingCall x) calls) clears all) k.stage

      abbrev all_stages : IsStage g May Calls ended columns after old new
      all_stages = stage-then g May (MayEnd (is_any_marked union) mid) May (λ d. AreStaged (ReadsMap (All IsClosing)) AreNone (Over (sweep_of kind)) y (states_of y columns) d) (λ d. All (IsEndingCall (is_any_marked union))) Calls
          ended columns mid after old dev new was end
          (λ d m h. h) (λ d m f. inl (end_may (is_any_marked union) columns mid d m (λ c h. live c d h) f))
          (λ d xs ys. staged-more (ReadsMap (All IsClosing)) (All (IsEndingCall (is_any_marked union))) (Over (sweep_of kind)) y (states_of y columns) d xs ys)

      back_mid : Back y (states_of y mid) (states_of y read)
      back_mid = died (DiesIn g None read looked dev) y read mid b.stage.dies (apart_in g None read mid looked dev b.stage.dies) (few_read few)
        where
          few_read : count_by is_set_filling columns ≤ 1 → count_by is_set_filling read ≤ 1
          few_read h = omega (arith, h, deaths_pass_less (DiesIn g None columns old looked) is_set_filling columns read refl reads.dies)

      swept : HasSwept g (sweep_of kind) y columns after old new n
      swept =
          let first_swept = has_first g y columns read old looked back_read quiet_read (Over (sweep_of kind)) layout order mid dev n back_mid
          (changes-more g (MayBegin g Round (Over (sweep_of kind)) y read looked) (IsSwept g y columns read old looked back_read quiet_read (Over (sweep_of kind))) looked dev swept_low b.stage.frame) (b.swept refl) in
          let quiet = changes-more g (MayEnd (is_any_marked union) mid) (λ d m. m < 64) dev new (low_end (is_any_marked union) mid) end.frame in
          swept_later g y (sweep_of kind) columns mid after old dev new n (died (DiesIn g ended mid dev new) y mid after k.stage.dies (apart_in g ended mid after dev new k.stage.dies) fewer) quiet first_swept

      -- sector 1
      second : g.tells → (d : ℕ) → (RisesOn g old new d → ⊥) → (sector_of g new d 1 ≡ sector_of g old d 1) ⊎ IsBytesOf blank (sector_of g new d 1)
      second told d quiet =
          let same = changes_sector g (MayBegin g Round (Over (sweep_of kind)) y read looked) looked dev d 1 b.stage.frame told (no_second d) ∙ changes_sector g (λ _ _. ⊥) old looked d 1 reads.frame told (λ f. f) in
          elim (k.maps told d (λ rose. quiet (rises-wider g May (MayEnd (is_any_marked union) mid) old dev new new d was.frame rose (changes-refl g (MayEnd (is_any_marked union) mid) new)))) [
            | inl kept ↦ inl (kept ∙ same)
            | inr held ↦ inr (subst (λ m. IsBytesOf m (sector_of g new d 1)) (sym (clears_with blank union held.0 held.1)) held.2)
          ]

      pub renewed_closed : IsRenewed g kind y label next columns after old new ended result blank union
      renewed_closed = record {
        read = read;
        looked = looked;
        unread = None;
        looks = l;
        found = n;
        told = told;
        swept = λ e. swept;
        rounds = b.rounds + 1;
        some = λ e. omega arith;
        few = omega (arith, b.one refl);
        two = λ e. omega (arith, b.one refl);
        stage = all_stages;
        counter = counts-then b.rounds 1 label first next ([] ++ b.stage.rises) k.stage.rises b.counter (counts_as 1 (length k.stage.rises) first before next (ap (λ (l : Label). l.counter) clean) k.counter);
        label_is = λ e. round_again label before next 1 next.counter (clean_in_end ended 1) (seating_in next) (round_again label first before 0 first.counter 1 (seating_in first) (b.label_is (wrote_first label first mid dev None n b)) clean)
            (k.label_is ∙ ap (λ c. with_round before next.counter (clean_in_end ended c) (seating_in next)) (ap (λ (l : Label). l.clean) clean));
        seating = k.seating;
        given_up = k.given_up;
        held = λ e. k.held;
        settled = k.settled;
        ordered = λ e c d h. more-then (AreStaged (ReadsMap (All IsClosing)) AreNone (Over (sweep_of kind)) y (states_of y columns) d) (SettlesFirstOf (is_any_marked union)) (AreStaged (ReadsMap (All IsClosing)) (SettlesFirstOf (is_any_marked union)) (Over (sweep_of kind)) y (states_of y columns) d)
            (calls_of g old d) (calls_of g dev d) (calls_of g new d) (λ xs ys. staged-more (ReadsMap (All IsClosing)) (SettlesFirstOf (is_any_marked union)) (Over (sweep_of kind)) y (states_of y columns) d xs ys) (was.told d)
            (subst (λ x. MoreOn (SettlesFirstOf x) (calls_of g dev d) (calls_of g new d)) clears (first_settled g (clear_of blank union) before next mid after dev new ended settles c d (live_before (DiesIn g ended mid dev new) mid after c d k.stage.dies h)));
        lost_is = is;
        map = second;
        renews = (mid, dev, first, None, b, ((settles.mid, settles.dev, settles.settles, subst (λ (l : Label). EndsMapped g (clear_of blank union) true l next settles.mid after settles.dev new ended) clean_is settles.ends), subst (λ (l : Label). EndsInSteps g (clear_of blank union) y None l next mid after dev new ended) clean_is steps));
      }

module _ {D : Type 0} (g : Ghosts D) (kind : Renewal) (y : Shape) where
  -- it has no labels
  pub renewed_plain : (columns mid after : List Column) (old dev new : List (Option D)) (ended : Option Loss) (n : ℕ) (result : Done) → y.checks ≤ 1 → count_by is_set_filling mid ≤ 1 → result ≡ unless_lost ended (renewed kind n) → IsLossBy y None (states_of y after) ended
      → DoesSweep g (sweep_of kind) y columns mid old dev n → AreSettled g (length mid) mid after dev new → ((c d : ℕ) → HasDeviceOn after c d → EndsSettled (calls_of g new d)) → IsRenewedPlain g kind y columns after old new ended result
  renewed_plain columns mid after old dev new ended n result most few told is s settled last =
      let quiet = changes-more g (λ _ _. ⊥) (λ d m. m < 64) dev new (λ d m f. absurd f) settled.frame in
      let dies = dies-more (LosesDevice g mid dev new) (DiesIn g None mid dev new) mid after (λ c f. inl (record { device = f.device; had = f.had; rose = f.rose })) settled.dies in
      let was = loses_of g y None columns mid old dev s.dies in
      record {
        found = n;
        told = told;
        swept = swept_later g y (sweep_of kind) columns mid after old dev new n (died (DiesIn g None mid dev new) y mid after dies (apart_in g None mid after dev new dies) few) quiet (swept_now g y (sweep_of kind) columns mid old dev n s);
        dies = only_lose g columns after old new (dies_over g None columns mid after old dev new (MayRewrite g (sweep_of kind) y columns old) (λ _ _. ⊥) s.frame settled.frame was dies);
        settled = last;
        frame = changes-then g (MaySweep g (Over (sweep_of kind)) y columns old) old dev new (sweep_frame g y (sweep_of kind) columns mid old dev n most s) (changes-more g (λ _ _. ⊥) (MaySweep g (Over (sweep_of kind)) y columns old) dev new (λ d m f. absurd f) settled.frame);
        calls = λ d. more-then (AreStaged AreNone AreNone (Over (sweep_of kind)) y (states_of y columns) d) (All IsSettle) (AreStaged AreNone (All IsSettle) (Over (sweep_of kind)) y (states_of y columns) d)
            (calls_of g old d) (calls_of g dev d) (calls_of g new d) (λ xs ys. staged-more AreNone (All IsSettle) (Over (sweep_of kind)) y (states_of y columns) d xs ys)
            (staged-sweep (sweep_of kind) y (states_of y columns) d (calls_of g old d) (calls_of g dev d) (s.calls d)) (settled.told d);
        uncalled = told-then g (DiesIn g None columns old dev) columns mid old dev new was (told-units g y columns old dev s.calls) (told-others g mid dev new (λ d free. settled.others d (λ c below live. free c live)));
        lost_is = is;
        mid = mid;
        dev = dev;
        sweeps = s;
        settles = settled;
      }
