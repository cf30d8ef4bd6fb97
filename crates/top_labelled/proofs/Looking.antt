-- An array that was begun once its maps were read, said by the columns and devices of before that.
use Rattle.std.proofs.Common.{◌≡◌, ◌⊎◌, inl, inr, ℕ, ◌<◌, ◌≤◌, List, [], Option, Some, None, refl, sym, ◌∙◌, subst}
use Rattle.std.specs.Prelude.{All, count_by}
use Rattle.std.proofs.lemmas.List.Elements.{All-nil}
use Rattle.blk_disk.specs.declared.disk.Call.{Call}
use Rattle.blk_disk.specs.declared.disk.Disk.{Ghosts}
use Rattle.blk_disk.specs.Devices.{Changes}
use Rattle.blk_disk.proofs.DeviceLaws.{changes-more, changes-then}
use Rattle.lay_core.specs.Layout.{Shape}
use Rattle.eng_cols.specs.declared.column.Column.{Column}
use Rattle.eng_cols.specs.declared.spot.Loss.{Loss}
use Rattle.eng_cols.specs.Cols.{is_set_filling, HasDeviceOn}
use Rattle.eng_cols.specs.Deaths.{Dies}
use Rattle.eng_cols.specs.Stripes.{states_of}
use Rattle.raid_label.specs.declared.label.Label.{Label}
use Rattle.raid_map.specs.Regions.{Marks as Map}
use Rattle.raid_recon.proofs.Backs.{Back}
use Rattle.top_close.specs.Calls.{IsSettle}
use Rattle.top_close.specs.Stage.{DiesIn, IsGivenUpIn, IsStage}
use Rattle.top_close.proofs.StageLaws.{dies_over, live_before, stage-then, stage_as}
use Rattle.top_acts.specs.Stages.{IsClosing}
use Rattle.top_rounds.proofs.RoundLaws.{none_given_in}
use Rattle.top_acts.specs.Begun.{HasBegun, MayBegin}
use Rattle.top_acts.specs.Behind.{AreLast}
use Rattle.top_acts.specs.Mapped.{LooksAtMaps, ReadsMap}
use Rattle.top_acts.specs.Marking.{AreNotice}
use Rattle.top_acts.specs.Stages.{AreStaged}
use Rattle.top_acts.specs.Sweeps.{Notice, Round, Marks, Sweeps}
use Rattle.top_acts.proofs.Backs.{died}
use Rattle.top_acts.proofs.Later.{Quiet, sweep_was}
use Rattle.top_acts.proofs.Looked.{looks_dies, looks_stage}
use Rattle.top_acts.proofs.Named.{apart_in}
use Rattle.top_acts.proofs.Staged.{none_last, staged-read, staged-reads}
use Rattle.top_labelled.specs.Words.{BeginsUnless}
use Rattle.top_acts.proofs.Words.{IsMapRead, IsMapWrite}

none-announced : (notice : Notice) → AreNotice notice []
none-announced Round = All-nil IsClosing
none-announced (Marks map) = All-nil (λ (call : Call). IsMapWrite call ⊎ IsClosing call)

-- ## It wasn't lost by the maps

module _ {D : Type 0} (g : Ghosts D) (y : Shape) (notice : Notice) (sweep : Sweeps) (blank union : Map) (newest first : Label) (columns read begun : List Column) (taken looked opened : List (Option D)) (lost : Option Loss) (found : ℕ)
    (few : count_by is_set_filling columns ≤ 1) (looks : LooksAtMaps g y blank union columns read taken looked None) where
  abbrev pub reads : IsStage g (λ _ _. ⊥) (λ d. All IsMapRead) None columns read taken looked
  reads = looks_stage g y None blank union columns read taken looked looks

  pub live-read : (c d : ℕ) → HasDeviceOn read c d → HasDeviceOn columns c d
  live-read c d h = live_before (DiesIn g None columns taken looked) columns read c d reads.dies h

  pub back-read : Back y (states_of y read) (states_of y columns)
  back-read = died (DiesIn g None columns taken looked) y columns read reads.dies (apart_in g None columns read taken looked reads.dies) few

  pub quiet-read : Quiet g y taken looked
  quiet-read = changes-more g (λ _ _. ⊥) (λ d n. n < 64) taken looked (λ d n f. absurd f) reads.frame

  pub may-before : (m : Notice) (d n : ℕ) → MayBegin g m sweep y read looked d n → MayBegin g m sweep y columns taken d n
  may-before Round d n (inl f) = inl (record { col = f.col; live = live-read f.col d f.live; kept = f.kept })
  may-before Round d n (inr m) = inr (sweep_was g y columns read taken looked back-read quiet-read sweep d n m)
  may-before (Marks map) d n (inl f) = inl (record { col = f.col; live = live-read f.col d f.live; kept = f.kept })
  may-before (Marks map) d n (inr m) = inr (sweep_was g y columns read taken looked back-read quiet-read sweep d n m)

  abbrev pub begun-stage : HasBegun g notice sweep y newest first read begun looked opened lost found → IsStage g (MayBegin g notice sweep y columns taken) (λ d. AreStaged (ReadsMap (AreNotice notice)) (AreLast lost) sweep y (states_of y columns) d) lost columns begun taken opened
  begun-stage has = stage-then g (λ _ _. ⊥) (MayBegin g notice sweep y read looked) (MayBegin g notice sweep y columns taken)
      (λ d. All IsMapRead) (λ d. AreStaged (AreNotice notice) (AreLast lost) sweep y (states_of y read) d) (λ d. AreStaged (ReadsMap (AreNotice notice)) (AreLast lost) sweep y (states_of y columns) d)
      lost columns read begun taken looked opened reads has.stage (λ d n f. absurd f) (may-before notice)
      (λ d xs ys. staged-reads (AreNotice notice) (AreLast lost) sweep y (states_of y read) (states_of y columns) d xs ys back-read)

-- ## Or it was

module _ {D : Type 0} (g : Ghosts D) (y : Shape) (notice : Notice) (sweep : Sweeps) (blank union : Map) (newest first : Label) (columns read : List Column) (taken looked : List (Option D)) (loss : Loss) (looks : LooksAtMaps g y blank union columns read taken looked (Some loss)) where
  abbrev lost-stage : IsStage g (MayBegin g notice sweep y columns taken) (λ d. AreStaged (ReadsMap (AreNotice notice)) (AreLast (Some loss)) sweep y (states_of y columns) d) (Some loss) columns read taken looked
  lost-stage = stage_as g (λ _ _. ⊥) (MayBegin g notice sweep y columns taken) (λ d. All IsMapRead) (λ d. AreStaged (ReadsMap (AreNotice notice)) (AreLast (Some loss)) sweep y (states_of y columns) d) (Some loss) columns read taken looked
      (λ d n f. absurd f)
      (λ d calls reads. staged-read (AreNotice notice) (AreLast (Some loss)) sweep y (states_of y columns) d calls (none-announced notice) (none_last (Some loss)) reads)
      (looks_stage g y (Some loss) blank union columns read taken looked looks)

  lost-given : IsGivenUpIn (Some loss) read
  lost-given = subst (IsGivenUpIn (Some loss)) (sym looks.after_is) (none_given_in (Some loss) looks.read)

-- ## Either

module _ {D : Type 0} (g : Ghosts D) (y : Shape) (notice : Notice) (sweep : Sweeps) (blank union : Map) (newest first : Label) (columns read begun : List Column) (taken looked opened : List (Option D)) (lost : Option Loss) (found : ℕ) (few : count_by is_set_filling columns ≤ 1) where
  abbrev Stage : Option Loss → List Column → List (Option D) → Type 0
  Stage o after new = IsStage g (MayBegin g notice sweep y columns taken) (λ d. AreStaged (ReadsMap (AreNotice notice)) (AreLast o) sweep y (states_of y columns) d) o columns after taken new

  pub begins-stage : (unread : Option Loss) → LooksAtMaps g y blank union columns read taken looked unread → BeginsUnless g unread notice sweep y newest first read begun looked opened lost found → Stage lost begun opened
  begins-stage None looks has = begun-stage g y notice sweep blank union newest first columns read begun taken looked opened lost found few looks has
  begins-stage (Some loss) looks has =
      subst (λ (o : Option Loss). Stage o begun opened) (sym has.1)
      (subst (λ (ds : List (Option D)). Stage (Some loss) begun ds) (sym has.0.devices_are)
      (subst (λ (cs : List Column). Stage (Some loss) cs looked) (sym has.0.columns_are)
      (lost-stage g y notice sweep blank union newest first columns read taken looked loss looks)))

  pub begins-given : (unread : Option Loss) → LooksAtMaps g y blank union columns read taken looked unread → BeginsUnless g unread notice sweep y newest first read begun looked opened lost found → IsGivenUpIn lost begun
  begins-given None looks has = has.given_up
  begins-given (Some loss) looks has =
      subst (λ (o : Option Loss). IsGivenUpIn o begun) (sym has.1)
      (subst (IsGivenUpIn (Some loss)) (sym has.0.columns_are) (lost-given g y notice sweep blank union newest first columns read taken looked loss looks))

  -- one that isn't lost wasn't by its maps
  pub begins-read : (unread : Option Loss) → lost ≡ None → BeginsUnless g unread notice sweep y newest first read begun looked opened lost found → unread ≡ None
  begins-read None none has = refl
  begins-read (Some loss) none has = let z : Some loss ≡ None = sym has.1 ∙ none in absurd (let u : ⊥ = cc in u)

  pub begins-has : (unread : Option Loss) → lost ≡ None → BeginsUnless g unread notice sweep y newest first read begun looked opened lost found → HasBegun g notice sweep y newest first read begun looked opened lost found
  begins-has None none has = has
  begins-has (Some loss) none has = let z : Some loss ≡ None = sym has.1 ∙ none in absurd (let u : ⊥ = cc in u)

-- ## Whatever was lost of it

module _ {D : Type 0} (g : Ghosts D) (y : Shape) (notice : Notice) (sweep : Sweeps) (blank union : Map) (newest first : Label) (columns read begun : List Column) (taken looked opened : List (Option D)) (lost : Option Loss) (found : ℕ) where
  -- no device is another
  pub begins-changes : (unread : Option Loss) → LooksAtMaps g y blank union columns read taken looked unread → BeginsUnless g unread notice sweep y newest first read begun looked opened lost found → Changes g (λ _ _. Unit {0}) taken opened
  begins-changes None looks has = changes-then g (λ _ _. Unit {0}) taken looked opened
      (changes-more g (λ _ _. ⊥) (λ _ _. Unit {0}) taken looked (λ d n f. tt) looks.reads.frame)
      (changes-more g (MayBegin g notice sweep y read looked) (λ _ _. Unit {0}) looked opened (λ d n f. tt) has.stage.frame)
  begins-changes (Some loss) looks has = subst (λ (ds : List (Option D)). Changes g (λ _ _. Unit {0}) taken ds) (sym has.0.devices_are) (changes-more g (λ _ _. ⊥) (λ _ _. Unit {0}) taken looked (λ d n f. tt) looks.reads.frame)

  pub begins-dies : (unread : Option Loss) → LooksAtMaps g y blank union columns read taken looked unread → BeginsUnless g unread notice sweep y newest first read begun looked opened lost found → Dies (DiesIn g lost columns taken opened) columns begun
  begins-dies None looks has = dies_over g lost columns read begun taken looked opened (λ _ _. ⊥) (MayBegin g notice sweep y read looked) looks.reads.frame has.stage.frame (looks_dies g y None blank union columns read taken looked looks) has.stage.dies
  begins-dies (Some loss) looks has =
      subst (λ (o : Option Loss). Dies (DiesIn g o columns taken opened) columns begun) (sym has.1)
      (subst (λ (ds : List (Option D)). Dies (DiesIn g (Some loss) columns taken ds) columns begun) (sym has.0.devices_are)
      (subst (λ (cs : List Column). Dies (DiesIn g (Some loss) columns taken looked) columns cs) (sym has.0.columns_are) (looks_dies g y (Some loss) blank union columns read taken looked looks)))
