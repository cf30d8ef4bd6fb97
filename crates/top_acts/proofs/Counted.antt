-- Rounds of labels, and the settling between them.
use Rattle.std.proofs.Common.{◌∙◌, ℕ, List, ◌++◌, length, Option, None, refl, inl, arith}
use Rattle.std.specs.Prelude.{All}
use Rattle.std.proofs.lemmas.List.Elements.{All-append, All-nil, All-weaker}
use Rattle.blk_disk.specs.declared.disk.Disk.{Ghosts}
use Rattle.blk_disk.specs.Devices.{calls_of}
use Rattle.eng_cols.specs.declared.column.Column.{Column}
use Rattle.eng_cols.specs.declared.spot.Loss.{Loss}
use Rattle.raid_label.specs.declared.label.Label.{Label}
use Rattle.top_close.specs.Stage.{DiesIn, IsStage}
use Rattle.top_close.proofs.StageLaws.{live_before, stage-none, stage-then, stage_as}
use Rattle.top_rounds.specs.Calls.{IsLabelWrite, WritesWithin}
use Rattle.top_rounds.specs.Rounds.{AreRounds, CountsRounds}
use Rattle.top_rounds.proofs.CallLaws.{within-none, within-then}
use Rattle.top_rounds.proofs.RoundLaws.{counts-none, stage_of_rounds}
use Rattle.top_acts.specs.Closed.{AreCounted}
use Rattle.top_acts.specs.Stages.{IsClosing}
use Rattle.top_rounds.proofs.Words.{IsFirstInUse}
use Rattle.eng_cols.specs.Cols.{HasDeviceOn}
use Rattle.top_close.proofs.Words.{IsUncalled}

module _ {D : Type 0} (g : Ghosts D) where
  -- nothing was done
  abbrev pub counted-none : (label : Label) (columns : List Column) (ds : List (Option D)) → AreCounted g None 0 label label columns columns ds ds
  counted-none label columns ds = record {
    stage = stage-none g (IsFirstInUse columns) (λ d. All IsClosing) columns ds (λ d. All-nil IsClosing);
    counter = counts-none label label refl;
    others = λ d none. refl;
    times = λ d. within-none label.counter label.counter (calls_of g ds d) (omega arith);
  }

  -- rounds are counted
  abbrev pub counted_rounds : (lost : Option Loss) (label next : Label) (columns mid after : List Column) (old new : List (Option D)) → AreRounds g lost label next columns mid after old new → AreCounted g lost 1 label next columns after old new
  counted_rounds lost label next columns mid after old new r = record {
    stage = stage_as g (IsFirstInUse columns) (IsFirstInUse columns) (λ d. All IsLabelWrite) (λ d. All IsClosing) lost columns after old new
        (λ d m h. h) (λ d calls. All-weaker IsLabelWrite IsClosing (λ c w. inl w) calls) (stage_of_rounds g lost label next columns mid after old new r);
    counter = record { least = r.least; most = r.most };
    others = r.others;
    times = r.times;
  }

  module _ (lost : Option Loss) (k : ℕ) (label before next : Label) (columns mid after : List Column) (old dev new : List (Option D)) (was : AreCounted g None k label before columns mid old dev) (is : IsStage g (IsFirstInUse mid) (λ d. All IsClosing) lost mid after dev new) (others : IsUncalled mid dev new)
      (times : (d : ℕ) → WritesWithin before.counter next.counter (calls_of g dev d) (calls_of g new d)) where
    pub live : (c d : ℕ) → HasDeviceOn mid c d → HasDeviceOn columns c d
    live c d h = live_before (DiesIn g None columns old dev) columns mid c d was.stage.dies h

    -- of both together so many rounds were named
    abbrev pub counted-then : (named : ℕ) → CountsRounds named label next (length (was.stage.rises ++ is.rises)) → AreCounted g lost named label next columns after old new
    counted-then named counter = record {
      stage = stage-then g (IsFirstInUse columns) (IsFirstInUse mid) (IsFirstInUse columns) (λ d. All IsClosing) (λ d. All IsClosing) (λ d. All IsClosing) lost columns mid after old dev new was.stage is
          (λ d m h. h) (λ d m h. record { col = h.col; live = live h.col d h.live; kept = h.kept }) (λ d. All-append IsClosing);
      counter = counter;
      others = λ d none. others d (λ c h. none c (live c d h)) ∙ was.others d none;
      times = λ d. within-then label.counter before.counter next.counter (calls_of g old d) (calls_of g dev d) (calls_of g new d) (was.times d) (times d);
    }
