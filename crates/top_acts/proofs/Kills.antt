-- An array whose devices were settled, and which was then closed, or left since it was lost.
use Rattle.std.proofs.Common.{◌≡◌, ◌≤◌, List, Option, Some, None, length, true, false, refl, subst, sym, inl, inr}
use Rattle.std.specs.Prelude.{All, count_by, is_some}
use Rattle.blk_disk.specs.declared.disk.Disk.{Ghosts}
use Rattle.blk_disk.specs.Devices.{Changes}
use Rattle.blk_disk.proofs.DeviceLaws.{changes-more, changes-then}
use Rattle.lay_core.specs.Layout.{Shape}
use Rattle.eng_cols.specs.declared.column.Column.{Column}
use Rattle.eng_cols.specs.declared.spot.Loss.{Loss}
use Rattle.eng_cols.specs.Cols.{is_set_filling}
use Rattle.eng_cols.specs.Deaths.{Dies}
use Rattle.eng_cols.specs.Stripes.{states_of}
use Rattle.eng_cols.proofs.DeathLaws.{dies-more, dies-refl, dies-then}
use Rattle.raid_label.specs.declared.label.Label.{Label}
use Rattle.top_close.specs.Dying.{AnyCause}
use Rattle.top_close.specs.Ended.{IsLossBy}
use Rattle.top_close.specs.Settled.{AreSettled}
use Rattle.top_acts.specs.Closed.{ClosesLabelled}
use Rattle.top_rounds.specs.Labels.{given_up}
use Rattle.top_close.specs.Stage.{DiesIn, IsGivenUp, IsGivenUpIn, IsStage}
use Rattle.top_rounds.specs.Rounds.{in_end}
use Rattle.top_close.proofs.StageLaws.{live_before, given_before, dies_over}
use Rattle.top_rounds.proofs.RoundLaws.{gives_up, none_given}
use Rattle.top_acts.specs.Alive.{EndsAlive}
use Rattle.top_acts.proofs.Words.{ClosesUnless}
use Rattle.top_acts.specs.Stages.{IsClosing}
use Rattle.top_acts.proofs.Ended.{no_loss, still_lost}
use Rattle.top_acts.proofs.Settled.{settled}
use Rattle.top_rounds.proofs.Words.{IsFirstInUse}
use Rattle.top_acts.proofs.Clears.{mapped_closed}

-- what is given up as an array is lost
gives_in : (lost : Option Loss) (columns : List Column) → is_some lost ≡ true → Dies (IsGivenUp lost columns) columns (given_up columns)
gives_in None columns some = no_loss some
gives_in (Some loss) columns some = gives_up loss columns

given_in : (lost : Option Loss) (columns : List Column) → is_some lost ≡ true → IsGivenUpIn lost (given_up columns)
given_in None columns some = no_loss some
given_in (Some loss) columns some = none_given columns

module _ {D : Type 0} (g : Ghosts D) (y : Shape) where
  pub ends_closed : (label next : Label) (columns mid after : List Column) (old dev new : List (Option D)) (before lost : Option Loss) → AreSettled g (length columns) columns mid old dev → IsLossBy y None (states_of y mid) before → is_some before ≡ false
      → ClosesLabelled g true label next mid after dev new lost → EndsAlive g y label next columns after old new lost
  ends_closed label next columns mid after old dev new None lost settles is none closes = record { mid = mid; dev = dev; before = None; settles = settles; lost_is = is; ends = mapped_closed g true label next mid after dev new lost closes }
  ends_closed label next columns mid after old dev new (Some loss) lost settles is none closes = let z : true ≡ false = none in absurd (let u : ⊥ = cc in u)

  -- what was lost stays so where a column is given up that was filling
  pub ends_left : (label : Label) (columns mid after : List Column) (old dev : List (Option D)) (before lost : Option Loss) → count_by is_set_filling mid ≤ 1 → AreSettled g (length columns) columns mid old dev → IsLossBy y None (states_of y mid) before → is_some before ≡ true
      → IsLossBy y None (states_of y after) lost → after ≡ in_end lost mid → EndsAlive g y label label columns after old dev lost
  ends_left label columns mid after old dev None lost few settles was some is end = no_loss some
  ends_left label columns mid after old dev (Some loss) None few settles was some is end =
      no_loss (still_lost y AnyCause mid mid (Some loss) None (dies-refl AnyCause mid) (record { each = λ c. inl refl; spread = λ c d m e k. refl }) few was refl (subst (λ l. IsLossBy y None (states_of y l) None) end is))
  ends_left label columns mid after old dev (Some loss) (Some last) few settles was some is end = record {
    mid = mid;
    dev = dev;
    before = Some loss;
    settles = settles;
    lost_is = was;
    ends = (record { label_is = refl; columns_are = end; devices_are = refl }, refl);
  }

  -- columns have died whose devices failed, or of a lost array one that was filling, and no sector has changed but first ones of devices in use
  module _ (label next : Label) (columns after : List Column) (old new : List (Option D)) (lost : Option Loss) (e : EndsAlive g y label next columns after old new lost) where
    settles : IsStage g (IsFirstInUse columns) (λ d. All IsClosing) None columns e.mid old e.dev
    settles = settled g None columns e.mid old e.dev e.settles

    left_died : is_some lost ≡ true → Dies (DiesIn g lost columns old e.dev) columns (given_up e.mid)
    left_died some = dies-then (DiesIn g lost columns old e.dev) columns e.mid (given_up e.mid)
        (dies-more (DiesIn g None columns old e.dev) (DiesIn g lost columns old e.dev) columns e.mid (λ c f. elim f [ inl loses ↦ inl loses | inr given ↦ absurd given ]) settles.dies)
        (dies-more (IsGivenUp lost e.mid) (DiesIn g lost columns old e.dev) e.mid (given_up e.mid) (λ c gave. inr (given_before (DiesIn g None columns old e.dev) lost columns e.mid c settles.dies gave)) (gives_in lost e.mid some))

    pub alive_died : Dies (DiesIn g lost columns old new) columns after
    alive_died = by e.before e.ends
      where
        by : (before : Option Loss) → ClosesUnless g before label next e.mid after e.dev new lost → Dies (DiesIn g lost columns old new) columns after
        by None closes = dies_over g lost columns e.mid after old e.dev new (IsFirstInUse columns) (IsFirstInUse e.mid) settles.frame closes.stage.frame settles.dies closes.stage.dies
        by (Some loss) left =
            subst (λ (l : List (Option D)). Dies (DiesIn g lost columns old l) columns after) (sym left.0.devices_are)
            (subst (λ (l : List Column). Dies (DiesIn g lost columns old e.dev) columns l) (sym left.0.columns_are) (left_died left.1))

    pub alive_given : IsGivenUpIn lost after
    alive_given = by e.before e.ends
      where
        by : (before : Option Loss) → ClosesUnless g before label next e.mid after e.dev new lost → IsGivenUpIn lost after
        by None closes = closes.given_up
        by (Some loss) left = subst (λ (l : List Column). IsGivenUpIn lost l) (sym left.0.columns_are) (given_in lost e.mid left.1)

    pub alive_frame : Changes g (IsFirstInUse columns) old new
    alive_frame = by e.before e.ends
      where
        by : (before : Option Loss) → ClosesUnless g before label next e.mid after e.dev new lost → Changes g (IsFirstInUse columns) old new
        by None closes = changes-then g (IsFirstInUse columns) old e.dev new settles.frame
            (changes-more g (IsFirstInUse e.mid) (IsFirstInUse columns) e.dev new (λ d m h. record { col = h.col; live = live_before (DiesIn g None columns old e.dev) columns e.mid h.col d settles.dies h.live; kept = h.kept }) closes.stage.frame)
        by (Some loss) left = subst (λ (l : List (Option D)). Changes g (IsFirstInUse columns) old l) (sym left.0.devices_are) settles.frame
