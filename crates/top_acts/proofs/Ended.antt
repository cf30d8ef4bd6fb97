-- The end of an array that is lost, and of one that is settled first.
use Rattle.std.proofs.Common.{◌≡◌, ◌∙◌, ℕ, ◌≤◌, Bool, List, true, false, length, Option, Some, None, refl, sym, ap, subst, inl, inr}
use Rattle.std.specs.Prelude.{All, count_by, is_some}
use Rattle.blk_disk.specs.declared.disk.Disk.{Ghosts}
use Rattle.blk_disk.specs.Devices.{RisesOn, calls_of, sector_of}
use Rattle.blk_disk.proofs.DeviceLaws.{changes-refl, rises-wider}
use Rattle.lay_core.specs.Layout.{Shape}
use Rattle.eng_cols.specs.declared.column.Column.{Column}
use Rattle.eng_cols.specs.declared.spot.Loss.{Loss}
use Rattle.eng_cols.specs.Cols.{ColumnState, device_set, is_set_filling, HasDeviceOn}
use Rattle.eng_cols.specs.Deaths.{Dies}
use Rattle.raid_label.specs.declared.label.Label.{Label}
use Rattle.eng_cols.specs.Fewer.{DieApart}
use Rattle.eng_cols.specs.Stripes.{states_of}
use Rattle.eng_cols.proofs.Lists.{count_at_most}
use Rattle.top_close.specs.Ended.{IsLossBy}
use Rattle.top_close.specs.Settled.{AreSettled}
use Rattle.top_close.proofs.DyingLaws.{columns_die, lost_no_less}
use Rattle.top_rounds.specs.Labels.{seating_in, with_round}
use Rattle.top_close.specs.Stage.{DiesIn, IsGivenUp}
use Rattle.top_rounds.specs.Rounds.{AreRounds, HaveRounds, HoldsTried, clean_in_end}
use Rattle.top_rounds.proofs.CallLaws.{some-behind}
use Rattle.top_rounds.proofs.RoundLaws.{counts-none, counts-then, given_kept, rounds-some}
use Rattle.top_acts.specs.Closed.{AreCounted, CallInTurn, ClosesLabelled}
use Rattle.top_acts.specs.Failed.{IsLeftLost}
use Rattle.top_acts.specs.Stages.{IsClosing}
use Rattle.top_acts.proofs.Counted.{counted-then, counted_rounds}
use Rattle.top_acts.proofs.InTurn.{AreApart, in_turn-then, in_turn-writes}
use Rattle.top_acts.proofs.Seated.{seats-then, seats_of_rounds}
use Rattle.top_acts.proofs.Settled.{settled, settled-times, unsettled}
use Rattle.top_acts.proofs.Tried.{not_lost}
use Rattle.top_rounds.proofs.Words.{IsFirstInUse}

pub no_loss : {A : Type 0} → false ≡ true → A
no_loss h = absurd (let u : ⊥ = cc in u)

-- an array that was lost is lost
pub still_lost : (y : Shape) (cause : ℕ → Type 0) (columns after : List Column) (before lost : Option Loss) → Dies cause columns after → DieApart columns after → count_by is_set_filling columns ≤ 1 → IsLossBy y None (states_of y columns) before → is_some before ≡ true → IsLossBy y None (states_of y after) lost → is_some lost ≡ true
still_lost y cause columns after before None dies apart few was some is =
    let none = not_lost y (states_of y columns) before was (lost_no_less y (states_of y columns) (states_of y after) (columns_die cause y columns after dies apart (count_at_most is_set_filling columns few)) is) in
    let z : false ≡ true = ap is_some (sym none) ∙ some in absurd (let u : ⊥ = cc in u)
still_lost y cause columns after before (Some loss) dies apart few was some is = refl

-- and one that stays lost by what it was
pub kept_loss : (y : Shape) (cols : List ColumnState) (before lost : Option Loss) → is_some before ≡ true → IsLossBy y before cols lost → is_some lost ≡ true
kept_loss y cols None lost some is = no_loss some
kept_loss y cols (Some loss) lost some is = ap is_some is ∙ refl

pub clean_lost : (lost : Option Loss) (clean : ℕ) → is_some lost ≡ true → clean_in_end lost clean ≡ 0
clean_lost None clean h = no_loss h
clean_lost (Some loss) clean h = refl

pub clean_none : (lost : Option Loss) → clean_in_end lost 0 ≡ 0
clean_none None = refl
clean_none (Some loss) = refl

module _ {D : Type 0} (g : Ghosts D) where
  -- the rounds began with some columns, lost or not
  pub rounds_of : (lost : Option Loss) (label next : Label) (columns after : List Column) (old new : List (Option D)) → HaveRounds g lost label next columns after old new → (mid : List Column) × AreRounds g lost label next columns mid after old new
  rounds_of None label next columns after old new h = (after, h)
  rounds_of (Some loss) label next columns after old new h = h

  -- what the device holds of a column that is given up, where no label was written before the rounds of a lost array
  given_settled : (label next : Label) (columns mid round after : List Column) (old dev new : List (Option D)) (loss : Loss) → AreCounted g None 0 label label columns mid old dev → ((c d : ℕ) → HasDeviceOn mid c d → g.tells → sector_of g dev d 0 ≡ sector_of g old d 0)
      → AreRounds g (Some loss) label next mid round after dev new → (c d : ℕ) → IsGivenUp (Some loss) columns c → HasDeviceOn columns c d → (RisesOn g old new d → ⊥) → HoldsTried g label next.counter old new c d
  given_settled label next columns mid round after old dev new loss was still rounds c d gave live quiet tells = elim (was.stage.dies.each c) [
    | inr dead ↦ elim dead.1 [
      | inr never ↦ absurd never
      | inl loses ↦
          let e : d ≡ loses.device = (let z : Some d ≡ Some loses.device = sym live ∙ loses.had in cc) in
          absurd (quiet (rises-wider g (IsFirstInUse columns) (IsFirstInUse mid) old old dev new d (changes-refl g (IsFirstInUse columns) old) (subst (λ k. RisesOn g old dev k) (sym e) loses.rose) rounds.frame))
    ]
    | inl kept ↦
        let here : HasDeviceOn mid c d = ap device_set kept ∙ live in
        elim (rounds.given c d (given_kept (Some loss) columns mid c kept gave) here (λ rose. quiet (rises-wider g (IsFirstInUse columns) (IsFirstInUse mid) old dev new new d was.stage.frame rose (changes-refl g (IsFirstInUse mid) new))) tells) [
          | inl held ↦ inl (held ∙ still c d here tells)
          | inr t ↦ inr t
        ]
  ]

  -- one round of a lost array ends it
  pub closed_lost : (a b : Bool) (lost : Option Loss) (label next : Label) (columns mid after : List Column) (old dev new : List (Option D)) → AreApart columns → CallInTurn g None a b columns mid old dev → is_some lost ≡ true → AreCounted g None 0 label label columns mid old dev → next ≡ with_round label next.counter 0 (seating_in next) → ((c d : ℕ) → HasDeviceOn mid c d → g.tells → sector_of g dev d 0 ≡ sector_of g old d 0) → HaveRounds g lost label next mid after dev new → ClosesLabelled g a label next columns after old new lost
  closed_lost a b None label next columns mid after old dev new apart turns some was is still h = no_loss some
  closed_lost a b (Some loss) label next columns mid after old dev new apart turns some was is still h =
      let rounds = h.1 in
      let last = counted_rounds g (Some loss) label next mid h.0 after dev new rounds in
      record {
        counted = counted-then g (Some loss) 0 label label next columns mid after old dev new was last.stage last.others last.times 1 (counts-then 0 1 label label next was.stage.rises rounds.rises was.counter last.counter);
        label_is = is;
        seated = seats-then g columns mid old dev new (IsFirstInUse columns) (IsFirstInUse mid) was.stage.frame rounds.frame (Some loss) next after was.stage.dies (seats_of_rounds g (Some loss) label next mid h.0 after dev new rounds);
        seating = λ e. let z : Some loss ≡ None = e in absurd (let u : ⊥ = cc in u);
        given_up = rounds.given_up;
        held = rounds.held;
        labelled = λ c d live. some-behind (All IsClosing) (calls_of g old d) (calls_of g dev d) (calls_of g new d) (was.stage.told d) (rounds-some g (Some loss) label next mid h.0 after dev new rounds c d live);
        settled = λ e. let z : Some loss ≡ None = e in absurd (let u : ⊥ = cc in u);
        given = given_settled label next columns mid h.0 after old dev new loss was still rounds;
        each = in_turn-then g (Some loss) (DiesIn g None columns old dev) (DiesIn g (Some loss) mid dev new) a b false columns mid after old dev new apart was.stage.dies last.stage.dies turns rounds.others (in_turn-writes g (Some loss) b mid after dev new rounds.each);
      }

  -- an array that was lost before has its one round
  pub left_lost : (y : Shape) (cols : List ColumnState) (label next : Label) (columns after : List Column) (old new : List (Option D)) (before lost : Option Loss) → IsLossBy y before cols lost → next ≡ with_round label next.counter (clean_in_end lost label.clean) (seating_in next)
      → HaveRounds g lost label next columns after old new → (loss : Loss) → before ≡ Some loss → IsLeftLost g loss label next columns after old new
  left_lost y cols label next columns after old new None lost is round h loss e = absurd (let u : ⊥ = cc in u)
  left_lost y cols label next columns after old new (Some was) lost is round h loss e =
      let now : lost ≡ Some loss = is ∙ e in
      record { label_is = round ∙ ap (λ o. with_round label next.counter (clean_in_end o label.clean) (seating_in next)) now; rounds = subst (λ o. HaveRounds g o label next columns after old new) now h }

  -- devices were settled, and no round was written
  abbrev pub counted_settled : (label : Label) (columns after : List Column) (old new : List (Option D)) → AreSettled g (length columns) columns after old new → AreCounted g None 0 label label columns after old new
  counted_settled label columns after old new s = record {
    stage = settled g None columns after old new s;
    counter = counts-none label label refl;
    others = unsettled g columns after old new s;
    times = settled-times g label.counter columns after old new s;
  }
