-- An array that was begun, up to the death of the column that is to be rebuilt anew.
use Rattle.std.proofs.Common.{◌≡◌, ◌⊎◌, inl, inr, ℕ, ◌≤◌, List, length, Option, Some, None, slice_get, refl, sym, ◌∙◌, subst}
use Rattle.std.specs.Prelude.{count_by}
use Rattle.blk_disk.specs.declared.disk.Disk.{Ghosts}
use Rattle.blk_disk.specs.Devices.{Changes}
use Rattle.blk_disk.proofs.DeviceLaws.{changes-more, changes-refl, changes-then, rises-wider}
use Rattle.eng_array.specs.declared.start.Start.{Start}
use Rattle.eng_cols.specs.declared.column.Column.{Column}
use Rattle.eng_cols.specs.declared.column.Column.TheVariants as column
use Rattle.eng_cols.specs.declared.spot.Loss.{Loss}
use Rattle.eng_cols.specs.Deaths.{Dies}
use Rattle.eng_cols.specs.Fewer.{DieApart}
use Rattle.eng_cols.specs.Stripes.{states_of}
use Rattle.eng_cols.proofs.DeathLaws.{dies-more, dies-refl, dies-then}
use Rattle.lay_core.specs.Layout.{Shape}
use Rattle.raid_label.specs.declared.label.Label.{Label}
use Rattle.eng_cols.specs.Cols.{is_set_filling, HasDeviceOn}
use Rattle.raid_map.specs.Regions.{Marks as Map}
use Rattle.top_acts.specs.Begun.{MayBegin}
use Rattle.top_acts.specs.Behind.{AreLast}
use Rattle.top_acts.specs.Mapped.{LooksAtMaps, ReadsMap}
use Rattle.top_acts.specs.Marking.{AreNotice}
use Rattle.top_acts.specs.Stages.{AreStaged}
use Rattle.top_acts.specs.Sweeps.{Notice, Round, Marks}
use Rattle.top_acts.specs.Failed.{EndsFailed, StaysBegun}
use Rattle.top_acts.proofs.Counted.{counted_rounds}
use Rattle.top_acts.proofs.Named.{apart_in}
use Rattle.top_close.specs.Dying.{AnyCause}
use Rattle.top_close.specs.Stage.{DiesIn, IsGivenUp, IsGivenUpIn, IsStage}
use Rattle.top_close.proofs.StageLaws.{live_before, given_before}
use Rattle.top_rounds.proofs.RoundLaws.{given_after}
use Rattle.top_labelled.specs.Begun.{IsAlone, IsAnew, IsColumnWithin, sweeps_in, without}
use Rattle.top_labelled.specs.Between.{HasOpened}
use Rattle.top_labelled.specs.declared.opening.AskedOpening.{AskedOpening}
use Rattle.top_labelled.proofs.Looking.{begins-given, begins-stage}
use Rattle.top_labelled.proofs.Without.{alone-later, apart-then, without-apart, without-dead, without-dies}
use Rattle.top_rounds.proofs.Words.{IsFirstInUse}

-- ## Where no column dies

pub not-failed : {D : Type 0} (g : Ghosts D) (label : Label) (columns asked : List Column) (devices : List (Option D)) → columns ≡ asked → (lost : Option Loss) → EndsFailed g lost lost label label asked columns devices devices
not-failed g label columns asked devices is None = record { label_is = refl; columns_are = is; devices_are = refl }
not-failed g label columns asked devices is (Some loss) = record { label_is = refl; columns_are = is; devices_are = refl }

-- ## Behind the death

module _ {D : Type 0} (g : Ghosts D) (label next : Label) (columns after : List Column) (old new : List (Option D)) where
  stays-dies : (lost : Option Loss) → StaysBegun g label next columns after old new → Dies (DiesIn g lost columns old new) columns after
  stays-dies lost st = subst (λ (cs : List Column). Dies (DiesIn g lost columns old new) columns cs) (sym st.columns_are) (dies-refl (DiesIn g lost columns old new) columns)

  stays-moved : StaysBegun g label next columns after old new → Changes g (IsFirstInUse columns) old new
  stays-moved st = subst (λ (ds : List (Option D)). Changes g (IsFirstInUse columns) old ds) (sym st.devices_are) (changes-refl g (IsFirstInUse columns) old)

  pub fails-dies : (before lost : Option Loss) → EndsFailed g before lost label next columns after old new → Dies (DiesIn g lost columns old new) columns after
  fails-dies None None h = stays-dies None h
  fails-dies None (Some loss) h = (counted_rounds g (Some loss) label next columns h.rounds.0 after old new h.rounds.1).stage.dies
  fails-dies (Some before) None h = absurd h
  fails-dies (Some before) (Some loss) h = stays-dies (Some loss) h

  pub fails-moved : (before lost : Option Loss) → EndsFailed g before lost label next columns after old new → Changes g (IsFirstInUse columns) old new
  fails-moved None None h = stays-moved h
  fails-moved None (Some loss) h = (counted_rounds g (Some loss) label next columns h.rounds.0 after old new h.rounds.1).stage.frame
  fails-moved (Some before) None h = absurd h
  fails-moved (Some before) (Some loss) h = stays-moved h

  -- what was given up before is in the end
  fails-given : (before lost : Option Loss) (cs : List Column) (c : ℕ) → EndsFailed g before lost label next columns after old new → IsGivenUp before cs c → IsGivenUp lost cs c
  fails-given None lost cs c h gave = absurd gave
  fails-given (Some before) None cs c h gave = absurd h
  fails-given (Some before) (Some loss) cs c h gave = gave

  -- of an array that is lost none is filling
  fails-unfilled : (before lost : Option Loss) → EndsFailed g before lost label next columns after old new → IsGivenUpIn before columns → IsGivenUpIn lost after
  fails-unfilled None None h was = tt
  fails-unfilled None (Some loss) h was = h.rounds.1.given_up
  fails-unfilled (Some before) None h was = absurd h
  fails-unfilled (Some before) (Some loss) h was = subst (λ (cs : List Column). IsGivenUpIn (Some loss) cs) (sym h.columns_are) was

  -- an array that isn't lost wasn't lost before, and nothing was called
  pub fails-kept : (before lost : Option Loss) → lost ≡ None → EndsFailed g before lost label next columns after old new → (before ≡ None) × StaysBegun g label next columns after old new
  fails-kept None None none h = (refl, h)
  fails-kept None (Some loss) none h = let z : Some loss ≡ None = none in absurd (let u : ⊥ = cc in u)
  fails-kept (Some before) None none h = absurd h
  fails-kept (Some before) (Some loss) none h = let z : Some loss ≡ None = none in absurd (let u : ⊥ = cc in u)

-- ## All of it

module _ {D : Type 0} (g : Ghosts D) (y : Shape) (asked : AskedOpening) (notice : Notice) (blank union : Map) (unread : Option Loss) (newest next : Label) (columns read after : List Column) (taken looked new : List (Option D)) (lost : Option Loss) (began : Option Start)
    (few : count_by is_set_filling columns ≤ 1) (within : IsColumnWithin asked.start (length columns)) (looks : LooksAtMaps g y blank union columns read taken looked unread) (h : HasOpened g y asked notice union unread newest next read after looked new lost began) where
  abbrev start : Option Start
  start = asked.start

  abbrev Begun : ℕ → ℕ → Type 0
  Begun = MayBegin g notice (sweeps_in newest union) y columns taken

  stage : IsStage g Begun (λ d. AreStaged (ReadsMap (AreNotice notice)) (AreLast h.before) (sweeps_in newest union) y (states_of y columns) d) h.before columns h.begun taken h.opened
  stage = begins-stage g y notice (sweeps_in newest union) blank union newest h.first columns read h.begun taken looked h.opened h.before h.found few unread looks h.has

  pub begun-dies : Dies (DiesIn g h.before columns taken h.opened) columns h.begun
  begun-dies = stage.dies

  pub within-begun : IsColumnWithin start (length h.begun)
  within-begun = subst (λ n. IsColumnWithin start n) (sym stage.dies.count) within

  since : Dies (DiesIn g lost (without start h.begun) h.opened new) (without start h.begun) after
  since = fails-dies g h.first next (without start h.begun) after h.opened new h.before lost h.fails

  -- a column that has a device behind the death had it
  had-begun : (c d : ℕ) → HasDeviceOn (without start h.begun) c d → HasDeviceOn h.begun c d
  had-begun c d on = live_before (IsAnew start) h.begun (without start h.begun) c d (without-dies start h.begun) on

  had-first : (c d : ℕ) → HasDeviceOn h.begun c d → HasDeviceOn columns c d
  had-first c d on = live_before (DiesIn g h.before columns taken h.opened) columns h.begun c d stage.dies on

  first-may : (m : Notice) (d n : ℕ) → IsFirstInUse columns d n → MayBegin g m (sweeps_in newest union) y columns taken d n
  first-may Round d n on = inl on
  first-may (Marks map) d n on = inl (record { col = on.col; live = on.live; kept = inl on.kept })

  -- a device that is in use behind the death was in use
  was-first : (d n : ℕ) → IsFirstInUse (without start h.begun) d n → Begun d n
  was-first d n on = first-may notice d n (record { col = on.col; live = had-first on.col d (had-begun on.col d on.live); kept = on.kept })

  pub moved-first : Changes g (IsFirstInUse (without start h.begun)) h.opened new
  moved-first = fails-moved g h.first next (without start h.begun) after h.opened new h.before lost h.fails

  moved-since : Changes g Begun h.opened new
  moved-since = changes-more g (IsFirstInUse (without start h.begun)) Begun h.opened new was-first moved-first

  pub opened-moved : Changes g Begun taken new
  opened-moved = changes-then g Begun taken h.opened new stage.frame moved-since

  abbrev Why : ℕ → Type 0
  Why c = IsAnew start c ⊎ DiesIn g lost columns taken new c

  lost-first : (c : ℕ) → DiesIn g h.before columns taken h.opened c → Why c
  lost-first c (inl why) = inr (inl (record { device = why.device; had = why.had; rose = rises-wider g (λ _ _. ⊥) Begun taken taken h.opened new why.device (changes-refl g (λ _ _. ⊥) taken) why.rose moved-since }))
  lost-first c (inr gave) = inr (inr (fails-given g h.first next (without start h.begun) after h.opened new h.before lost columns c h.fails gave))

  lost-then : (c : ℕ) → DiesIn g lost (without start h.begun) h.opened new c → Why c
  lost-then c (inl why) =
      inr (inl
      (record {
        device = why.device;
        had = had-first c why.device (had-begun c why.device why.had);
        rose = rises-wider g Begun (λ _ _. ⊥) taken h.opened new new why.device stage.frame why.rose (changes-refl g (λ _ _. ⊥) new);
      }))
  lost-then c (inr gave) = inr (inr (given_before (DiesIn g h.before columns taken h.opened) lost columns h.begun c stage.dies (given_before (IsAnew start) lost h.begun (without start h.begun) c (without-dies start h.begun) gave)))

  pub opened-dies : Dies Why columns after
  opened-dies =
      dies-then Why columns h.begun after (dies-more (DiesIn g h.before columns taken h.opened) Why columns h.begun lost-first stage.dies)
      (dies-then Why h.begun (without start h.begun) after (dies-more (IsAnew start) Why h.begun (without start h.begun) (λ c of. inl of) (without-dies start h.begun))
      (dies-more (DiesIn g lost (without start h.begun) h.opened new) Why (without start h.begun) after lost-then since))

  pub opened-any : Dies AnyCause columns after
  opened-any = dies-more Why AnyCause columns after (λ c why. tt) opened-dies

  pub opened-apart : IsAlone start columns → DieApart columns after
  opened-apart alone =
      apart-then columns h.begun after (apart_in g h.before columns h.begun taken h.opened stage.dies)
      (apart-then h.begun (without start h.begun) after
      (without-apart start h.begun within-begun (alone-later start (DiesIn g h.before columns taken h.opened) columns h.begun stage.dies alone))
      (apart_in g lost (without start h.begun) after h.opened new since))

  pub opened-dead : (c : ℕ) → IsAnew start c → slice_get after c ≡ Some column.Dead
  opened-dead c of = elim (since.each c) [
    | inl same ↦ same ∙ without-dead start h.begun c within-begun of
    | inr dead ↦ dead.0
  ]

  begun-given : IsGivenUpIn h.before h.begun
  begun-given = begins-given g y notice (sweeps_in newest union) blank union newest h.first columns read h.begun taken looked h.opened h.before h.found few unread looks h.has

  pub opened-unfilled : IsGivenUpIn lost after
  opened-unfilled =
      fails-unfilled g h.first next (without start h.begun) after h.opened new h.before lost h.fails
      (given_after (IsAnew start) h.before h.begun (without start h.begun) (without-dies start h.begun) begun-given)
