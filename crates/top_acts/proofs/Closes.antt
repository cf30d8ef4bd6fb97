-- Attempts to close an array, one behind the other.
use Rattle.std.proofs.Common.{◌≡◌, ◌∙◌, ℕ, ◌+◌, ◌≤◌, Bool, true, List, length, Option, sym, ap, subst, inl, inr, arith}
use Rattle.std.specs.Prelude.{Some, None, All}
use Rattle.blk_disk.specs.declared.disk.Disk.{Ghosts}
use Rattle.blk_disk.specs.Devices.{RisesOn, calls_of}
use Rattle.blk_disk.proofs.DeviceLaws.{changes-refl, rises-wider}
use Rattle.eng_cols.specs.declared.column.Column.{Column}
use Rattle.eng_cols.specs.declared.spot.Loss.{Loss}
use Rattle.eng_cols.specs.Cols.{device_set, HasDeviceOn}
use Rattle.raid_label.specs.declared.label.Label.{Label}
use Rattle.top_rounds.specs.Labels.{seating_in, with_round}
use Rattle.top_close.specs.Stage.{DiesIn, IsGivenUp}
use Rattle.top_rounds.specs.Rounds.{HoldsTried, clean_in_end}
use Rattle.top_close.proofs.StageLaws.{live_before}
use Rattle.top_rounds.proofs.CallLaws.{some-behind}
use Rattle.top_rounds.proofs.RoundLaws.{given_kept, round_again, tried-then, counts-then, counts_few}
use Rattle.top_acts.specs.Closed.{AreCounted, CallInTurn, IsBroken, ClosesLabelled, settled_in_end}
use Rattle.top_acts.specs.Stages.{IsClosing}
use Rattle.top_acts.proofs.Counted.{counted-then}
use Rattle.top_acts.proofs.InTurn.{AreApart, in_turn-then}
use Rattle.top_acts.proofs.Seated.{seats-then}
use Rattle.top_rounds.proofs.Words.{IsFirstInUse}

module _ {D : Type 0} (g : Ghosts D) where
  -- no counter is greater than before by more than there were columns
  pub few : (label before : Label) (columns mid : List Column) (old dev : List (Option D)) → AreCounted g None 0 label before columns mid old dev → length columns ≤ 32 → before.counter ≤ label.counter + 32
  few label before columns mid old dev was most = omega (arith, counts_few g (IsFirstInUse columns) (λ d. All IsClosing) None 0 label before columns mid old dev was.stage was.counter most)

  module _ (label before next : Label) (columns mid after : List Column) (old dev new : List (Option D)) (was : AreCounted g None 0 label before columns mid old dev) (same : before ≡ with_round label before.counter label.clean (seating_in before)) where
    pub broken_again : IsBroken g before next mid after dev new → AreCounted g None 0 label next columns after old new
    broken_again b = counted-then g None 0 label before next columns mid after old dev new was b.counted.stage b.counted.others b.counted.times 0 (counts-then 0 0 label before next was.stage.rises b.counted.stage.rises was.counter b.counted.counter)

    pub label_again : (clean : ℕ) → next ≡ with_round before next.counter clean (seating_in next) → next ≡ with_round label next.counter clean (seating_in next)
    label_again clean is = round_again label before next label.clean next.counter clean (seating_in next) same is

    pub turns_again : (a : Bool) → AreApart columns → CallInTurn g None a true columns mid old dev → IsBroken g before next mid after dev new → CallInTurn g None a true columns after old new
    turns_again a apart turns b = in_turn-then g None (DiesIn g None columns old dev) (DiesIn g None mid dev new) a true true columns mid after old dev new apart was.stage.dies b.counted.stage.dies turns b.counted.others b.each

    -- what devices hold that are in use still
    pub holds_again : ((c d : ℕ) → HasDeviceOn mid c d → HoldsTried g label (before.counter + 1) old dev c d) → IsBroken g before next mid after dev new → (c d : ℕ) → HasDeviceOn after c d → HoldsTried g label (next.counter + 1) old new c d
    holds_again holds b c d live =
        tried-then g label before (before.counter + 1) (next.counter + 1) old dev new c d (omega (arith, was.counter.least)) (omega (arith, b.counted.counter.least)) same
        (holds c d (live_before (DiesIn g None mid dev new) mid after c d b.counted.stage.dies live)) (b.holds c d live)

    -- and the one that is given up as the array is lost
    given_then : (lost : Option Loss) → ((c d : ℕ) → HasDeviceOn mid c d → HoldsTried g label (before.counter + 1) old dev c d) → ClosesLabelled g true before next mid after dev new lost
        → (c d : ℕ) → IsGivenUp lost columns c → HasDeviceOn columns c d → (RisesOn g old new d → ⊥) → HoldsTried g label next.counter old new c d
    given_then lost holds h c d gave live quiet = elim (was.stage.dies.each c) [
      | inr dead ↦ elim dead.1 [
        | inr never ↦ absurd never
        | inl loses ↦
            let e : d ≡ loses.device = (let z : Some d ≡ Some loses.device = sym live ∙ loses.had in cc) in
            absurd (quiet (rises-wider g (IsFirstInUse columns) (IsFirstInUse mid) old old dev new d (changes-refl g (IsFirstInUse columns) old) (subst (λ k. RisesOn g old dev k) (sym e) loses.rose) h.counted.stage.frame))
      ]
      | inl kept ↦
          let here : HasDeviceOn mid c d = ap device_set kept ∙ live in
          tried-then g label before (before.counter + 1) next.counter old dev new c d (omega (arith, was.counter.least)) (omega (arith, h.counted.counter.least)) same
          (holds c d here) (h.given c d (given_kept lost columns mid c kept gave) here (λ rose. quiet (rises-wider g (IsFirstInUse columns) (IsFirstInUse mid) old dev new new d was.stage.frame rose (changes-refl g (IsFirstInUse mid) new))))
    ]

    pub closed_then : (a : Bool) (lost : Option Loss) → AreApart columns → CallInTurn g None a true columns mid old dev → ((c d : ℕ) → HasDeviceOn mid c d → HoldsTried g label (before.counter + 1) old dev c d) → ClosesLabelled g true before next mid after dev new lost → ClosesLabelled g a label next columns after old new lost
    closed_then a lost apart turns holds h = record {
      counted = counted-then g lost 0 label before next columns mid after old dev new was h.counted.stage h.counted.others h.counted.times 1 (counts-then 0 1 label before next was.stage.rises h.counted.stage.rises was.counter h.counted.counter);
      label_is = label_again (clean_in_end lost label.clean) (h.label_is ∙ ap (λ k. with_round before next.counter (clean_in_end lost k) (seating_in next)) (ap (λ (l : Label). l.clean) same));
      seated = seats-then g columns mid old dev new (IsFirstInUse columns) (IsFirstInUse mid) was.stage.frame h.counted.stage.frame lost next after was.stage.dies h.seated;
      seating = h.seating;
      given_up = h.given_up;
      held = h.held;
      labelled = λ c d live. some-behind (All IsClosing) (calls_of g old d) (calls_of g dev d) (calls_of g new d) (was.stage.told d) (h.labelled c d live);
      settled = h.settled;
      given = given_then lost holds h;
      each = in_turn-then g lost (DiesIn g None columns old dev) (DiesIn g lost mid dev new) a true (settled_in_end lost) columns mid after old dev new apart was.stage.dies h.counted.stage.dies turns h.counted.others h.each;
    }
