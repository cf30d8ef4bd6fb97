-- The maps of the devices in use were read.
use Rattle.std.proofs.Common.{◌≤◌, ℕ, List, length, Option, Some, None, refl, sym, subst, inl, inr}
use Rattle.std.specs.Prelude.{All, count_by, option_and_then, slice_get}
use Rattle.blk_disk.specs.declared.disk.Disk.{Ghosts}
use Rattle.blk_disk.specs.Disk.{call_of}
use Rattle.blk_disk.specs.Devices.{calls_of}
use Rattle.blk_disk.proofs.DeviceLaws.{changes-refl}
use Rattle.lay_core.specs.Layout.{Shape}
use Rattle.eng_cols.specs.declared.column.Column.{Column}
use Rattle.eng_cols.specs.declared.spot.Loss.{Loss}
use Rattle.eng_cols.specs.Cols.{is_set_filling, is_set_spread, has_device}
use Rattle.eng_cols.specs.Deaths.{Dies, LosesDevice}
use Rattle.eng_cols.proofs.DeathLaws.{dies-more, dies-refl}
use Rattle.raid_map.specs.Reading.{AreRead}
use Rattle.raid_map.specs.Regions.{Marks as Map}
use Rattle.top_close.specs.Dying.{AnyCause}
use Rattle.top_close.specs.Calls.{MoreOn}
use Rattle.top_close.specs.Stage.{DiesIn, IsGivenUp, IsStage}
use Rattle.top_close.proofs.CallLaws.{more_all-none, more_all-one}
use Rattle.top_close.proofs.StageLaws.{dies_over, stage-plain, told-others}
use Rattle.top_close.proofs.DyingLaws.{dies_unfilled}
use Rattle.top_rounds.specs.Labels.{given_up}
use Rattle.top_rounds.specs.Rounds.{in_end}
use Rattle.top_rounds.proofs.RoundLaws.{given_death, gives_up, none_given}
use Rattle.top_acts.specs.Begun.{CanAct}
use Rattle.top_acts.specs.Mapped.{LooksAtMaps}
use Rattle.top_acts.proofs.Having.{acts_after}
use Rattle.top_acts.proofs.Marked.{on_or}
use Rattle.top_acts.proofs.Named.{apart_in}
use Rattle.top_acts.proofs.Words.{IsMapRead}
use Rattle.top_close.proofs.Words.{IsUncalled}

module _ {D : Type 0} (g : Ghosts D) (y : Shape) where
  -- columns whose devices failed are dead
  pub read_dies : (columns read : List Column) (old new : List (Option D)) → AreRead g (length columns) columns read old new → Dies (DiesIn g None columns old new) columns read
  read_dies columns read old new r = dies-more (LosesDevice g columns old new) (DiesIn g None columns old new) columns read (λ c f. inl f) r.dies

  -- and can be acted on
  pub acts_read : (columns read : List Column) (old new : List (Option D)) → count_by is_set_filling read ≤ count_by is_set_filling columns → count_by is_set_spread read ≤ count_by is_set_spread columns
      → AreRead g (length columns) columns read old new → CanAct g y columns old → CanAct g y read new
  acts_read columns read old new filling spread r can =
      let dies = read_dies columns read old new r in
      acts_after g y (DiesIn g None columns old new) (λ _ _. ⊥) columns read old new dies (apart_in g None columns read old new dies) r.frame filling spread can

  -- so can those of which one that was filling is given up
  pub acts_given : (lost : Option Loss) (read : List Column) (new : List (Option D)) → count_by is_set_filling (given_up read) ≤ count_by is_set_filling read → count_by is_set_spread (given_up read) ≤ count_by is_set_spread read
      → CanAct g y read new → CanAct g y (in_end lost read) new
  acts_given None read new filling spread can = can
  acts_given (Some loss) read new filling spread can =
      acts_after g y AnyCause (λ _ _. ⊥) read (given_up read) new new (given_death read) (dies_unfilled AnyCause read (given_up read) (given_death read) (none_given read)) (changes-refl g (λ _ _. ⊥) new) filling spread can

  -- each device in use had one call more
  pub read_told : (columns read : List Column) (old new : List (Option D)) → AreRead g (length columns) columns read old new → (d : ℕ) → MoreOn (All IsMapRead) (calls_of g old d) (calls_of g new d)
  read_told columns read old new r d = elim (on_or columns d (length columns)) [
    | inl one ↦ more_all-one IsMapRead (call_of 0 1 512 (has_device (slice_get read one.0))) (calls_of g old d) (calls_of g new d) (has_device (slice_get read one.0), refl) (r.once one.0 d one.1 one.2)
    | inr none ↦ subst (λ (o : Option D). MoreOn (All IsMapRead) (calls_of g old d) (option_and_then g.calls o)) (sym (r.others d none)) (more_all-none IsMapRead (calls_of g old d))
  ]

  pub read_uncalled : (columns read : List Column) (old new : List (Option D)) → AreRead g (length columns) columns read old new → IsUncalled columns old new
  read_uncalled columns read old new r d none = r.others d (λ c below live. none c live)

  -- columns behind it, of which one that was filling is given up where the array is lost
  gives_in : (lost : Option Loss) (read : List Column) (new : List (Option D)) → Dies (DiesIn g lost read new new) read (in_end lost read)
  gives_in None read new = dies-refl (DiesIn g None read new new) read
  gives_in (Some loss) read new = dies-more (IsGivenUp (Some loss) read) (DiesIn g (Some loss) read new new) read (given_up read) (λ c f. inr f) (gives_up loss read)

  pub looks_dies : (lost : Option Loss) (blank union : Map) (columns after : List Column) (old new : List (Option D)) → LooksAtMaps g y blank union columns after old new lost → Dies (DiesIn g lost columns old new) columns after
  looks_dies lost blank union columns after old new l = subst (Dies (DiesIn g lost columns old new) columns) (sym l.after_is)
      (dies_over g lost columns l.read (in_end lost l.read) old new new (λ _ _. ⊥) (λ _ _. ⊥) l.reads.frame (changes-refl g (λ _ _. ⊥) new) (read_dies columns l.read old new l.reads) (gives_in lost l.read new))

  -- no device is listed of it
  abbrev pub looks_stage : (lost : Option Loss) (blank union : Map) (columns after : List Column) (old new : List (Option D)) → LooksAtMaps g y blank union columns after old new lost → IsStage g (λ _ _. ⊥) (λ d. All IsMapRead) lost columns after old new
  looks_stage lost blank union columns after old new l =
      stage-plain g (λ _ _. ⊥) (λ d. All IsMapRead) lost columns after old new l.reads.frame (read_told columns l.read old new l.reads) (told-others g columns old new (read_uncalled columns l.read old new l.reads)) (looks_dies lost blank union columns after old new l)
