-- By what it was announced that sectors of the rows are going to be written: a round of labels, or maps.
use Rattle.std.proofs.Common.{◌≡◌, ◌⊎◌, ◌∙◌, ℕ, ◌+◌, ◌<◌, ◌≤◌, ◌&&◌, Bool, true, false, List, [], ◌++◌, length, Option, Some, None, refl, sym, ap, subst, inl, inr, arith, append-nil}
use Rattle.std.specs.Prelude.{All, is_some}
use Rattle.std.proofs.lemmas.List.Elements.{All-append, All-weaker}
use Rattle.std.proofs.lemmas.Slice.Eq.{bytes_eq-Decides}
use Rattle.blk_disk.specs.declared.disk.Call.{Call}
use Rattle.blk_disk.specs.declared.disk.Disk.{Ghosts}
use Rattle.blk_disk.specs.Devices.{Changes}
use Rattle.blk_disk.proofs.DeviceLaws.{changes_sector}
use Rattle.eng_cols.specs.declared.column.Column.{Column}
use Rattle.eng_cols.specs.declared.spot.Loss.{Loss}
use Rattle.eng_cols.specs.Deaths.{Dies, LosesDevice}
use Rattle.eng_cols.specs.Lost.{NotLost}
use Rattle.eng_cols.specs.Stripes.{states_of}
use Rattle.lay_core.specs.Layout.{Shape}
use Rattle.raid_label.specs.declared.label.Label.{Label}
use Rattle.raid_map.specs.Regions.{Marks as Map, IsBytesOf}
use Rattle.top_close.specs.Stage.{DiesIn, IsGivenUpIn, IsStage}
use Rattle.top_close.proofs.StageLaws.{live_before, stage-then, stage_as}
use Rattle.top_rounds.specs.Calls.{IsLabelWrite}
use Rattle.top_close.specs.Ended.{IsLossBy}
use Rattle.top_rounds.specs.Labels.{Seating, seating_in, seating_of, seats_of, with_round}
use Rattle.top_rounds.specs.Passes.{HoldsLabel, IsKeptInUse}
use Rattle.top_rounds.specs.Rounds.{CountsRounds, HaveRounds}
use Rattle.top_rounds.proofs.RoundLaws.{counts-none, counts-then, counts_as, counts_few, stage_of_rounds}
use Rattle.top_acts.specs.Begun.{Names, Opens}
use Rattle.top_acts.specs.Seats.{HasSeats, names}
use Rattle.top_acts.specs.Closed.{ClosesLabelled}
use Rattle.top_acts.specs.Stages.{IsClosing}
use Rattle.top_acts.specs.Behind.{AreLast}
use Rattle.top_acts.specs.Failed.{IsLeftLost, StaysBegun}
use Rattle.top_acts.specs.Marking.{AreNotice, MarksAll}
use Rattle.top_acts.proofs.Words.{HoldsMap, IsMapWrite}
use Rattle.top_acts.specs.Sweeps.{Notice, Round, Marks, clean_in, rounds_for}
use Rattle.top_acts.proofs.Ended.{clean_none, no_loss}
use Rattle.top_acts.proofs.InTurn.{AreApart}
use Rattle.top_acts.proofs.Marked.{IsMarkCall, broken_marks, marks_dies, marks_stage, marks_uncalled}
use Rattle.top_acts.proofs.Seated.{seats-then, seats_of_rounds}
use Rattle.top_acts.proofs.Settled.{death_of}
use Rattle.top_acts.proofs.Staged.{none_last}
use Rattle.top_rounds.proofs.Words.{IsFirstInUse}
use Rattle.eng_cols.specs.Cols.{HasDeviceOn}
use Rattle.top_close.proofs.Words.{IsUncalled}

pub no_bool : {A : Type 0} → true ≡ false → A
no_bool h = absurd (let u : ⊥ = cc in u)

-- the sector of the label of a device in use, or that of the map
abbrev pub MayAnnounce : Notice → List Column → ℕ → ℕ → Type 0
MayAnnounce Round columns d n = IsFirstInUse columns d n
MayAnnounce (Marks map) columns d n = IsKeptInUse true columns d n

-- such calls, and where the array is lost label writes behind them
pub record AreAnnounced (notice : Notice) (lost : Option Loss) (calls : List Call) : Type 0 where
  pub front : List Call
  pub back : List Call
  pub all : calls ≡ front ++ back
  pub at_first : AreNotice notice front
  pub at_last : AreLast lost back

only_first : (notice : Notice) (lost : Option Loss) (calls : List Call) → AreNotice notice calls → AreAnnounced notice lost calls
only_first notice lost calls h = record { front = calls; back = []; all = sym (append-nil calls); at_first = h; at_last = none_last lost }

-- at most one round is named
most_one : (map : Map) (b : Bool) → rounds_for (Marks map) b ≤ 1
most_one map true = omega arith
most_one map false = omega arith

two_of : (a b : Bool) → (a && b) ≡ true → (a ≡ true) × (b ≡ true)
two_of true b h = (refl, h)
two_of false b h = no_bool (sym h)

-- the mark of a map, or labels and settles behind it
abbrev pub IsNoticeCall : Call → Type 0
IsNoticeCall call = IsMapWrite call ⊎ IsClosing call

mark_notice : (call : Call) → IsMarkCall call → IsNoticeCall call
mark_notice call (inl h) = inl h
mark_notice call (inr h) = inr (inr h)

map_is : (map other : Map) → Marks map ≡ Marks other → map ≡ other
map_is map other h = cc

-- what isn't greater than before is as before
pub not_greater : {A : Type 0} (n m : ℕ) → n < m → m ≡ n → A
not_greater n m less same = absurd (omega (arith, less, same))

module _ {D : Type 0} (g : Ghosts D) (y : Shape) where
  -- what it did: its rounds, its calls and the columns that died; the labels, where some were written; and the maps
  pub record IsAnnounced (notice : Notice) (label next : Label) (columns after : List Column) (old new : List (Option D)) (lost : Option Loss) : Type 0 where
    pub rounds : ℕ
    pub some : rounds_for notice (names label columns) ≤ rounds
    pub few : rounds ≤ 1
    pub one : lost ≡ None → rounds ≡ rounds_for notice (names label columns)
    pub stage : IsStage g (MayAnnounce notice columns) (λ d. AreAnnounced notice lost) lost columns after old new
    pub counter : CountsRounds rounds label next (length stage.rises)
    pub wrote : is_some lost ≡ true → label.counter < next.counter
    pub label_is : label.counter < next.counter → next ≡ with_round label next.counter (clean_in notice lost label.clean) (seating_in next)
    pub seated : label.counter < next.counter → HasSeats g lost next columns after old new
    pub given_up : IsGivenUpIn lost after
    pub held : label.counter < next.counter → (c d : ℕ) → HasDeviceOn after c d → HoldsLabel g new next c d
    pub same : next.counter ≡ label.counter → next ≡ label
    pub named : lost ≡ None → next.seats ≡ seats_of after
    pub mapped : (map : Map) → notice ≡ Marks map → (c d : ℕ) → HasDeviceOn after c d → HoldsMap g new map d
    pub others : IsUncalled columns old new
    pub opens : Opens g notice y lost label next columns after old new

  -- the seats of a label that says what the columns are
  seats_said : (next : Label) (columns : List Column) → seating_in next ≡ seating_of columns → next.seats ≡ seats_of columns
  seats_said next columns is = ap (λ (s : Seating). s.seats) is

  -- ## By a round

  announced_round : (lost : Option Loss) (label next : Label) (columns after : List Column) (old new : List (Option D))
      → ClosesLabelled g true (record label { clean = 0 }) next columns after old new lost → IsAnnounced Round label next columns after old new lost
  announced_round lost label next columns after old new closes =
      let before : Label = record label { clean = 0 } in
      let stage = closes.counted.stage in
      let more : label.counter < next.counter = omega (arith, closes.counted.counter.least) in
      record {
        rounds = 1;
        some = omega arith;
        few = omega arith;
        one = λ e. refl;
        stage = stage_as g (IsKeptInUse false columns) (MayAnnounce Round columns) (λ d. All IsClosing) (λ d. AreAnnounced Round lost) lost columns after old new
            (λ d m f. f) (λ d calls. only_first Round lost calls) stage;
        counter = counts_as 1 (length stage.rises) label before next refl closes.counted.counter;
        wrote = λ some. more;
        label_is = λ less. closes.label_is ∙ ap (λ k. with_round label next.counter k (seating_in next)) (clean_none lost);
        seated = λ less. closes.seated;
        given_up = closes.given_up;
        held = λ less. closes.held;
        same = λ e. not_greater label.counter next.counter more e;
        named = λ none. seats_said next after (closes.seating none);
        mapped = λ map e. absurd (let u : ⊥ = cc in u);
        others = closes.counted.others;
        opens = closes;
      }

  -- ## By maps

  module _ (map : Map) (label : Label) (columns mid : List Column) (old dev : List (Option D)) (m : MarksAll g map columns mid old dev) where
    abbrev was : IsStage g (IsKeptInUse true columns) (λ d. All IsMarkCall) None columns mid old dev
    was = marks_stage g map columns mid old dev m None

    before : (c d : ℕ) → HasDeviceOn mid c d → HasDeviceOn columns c d
    before c d live = live_before (DiesIn g None columns old dev) columns mid c d was.dies live

    -- labels behind the marks leave sector 1 as it is
    mapped_behind : (lost : Option Loss) (after : List Column) (new : List (Option D)) → Changes g (IsFirstInUse mid) dev new → Dies (DiesIn g lost mid dev new) mid after
        → (other : Map) → Marks map ≡ Marks other → (c d : ℕ) → HasDeviceOn after c d → HoldsMap g new other d
    mapped_behind lost after new frame dies other e c d live told =
        subst (IsBytesOf other) (sym (changes_sector g (IsFirstInUse mid) dev new d 1 frame told (λ f. omega (arith, f.kept))))
        (subst (λ k. HoldsMap g dev k d) (map_is map other e) (m.held c d (live_before (DiesIn g lost mid dev new) mid after c d dies live)) told)

    others_behind : (after : List Column) (new : List (Option D)) → IsUncalled mid dev new → IsUncalled columns old new
    others_behind after new others d none = others d (λ c live. none c (before c d live)) ∙ marks_uncalled g map columns mid old dev m d none

    -- which lost it, so that its one round was written
    announced_lost : (marked : Option Loss) (is : IsLossBy y None (states_of y mid) marked) (by : Loss) → marked ≡ Some by → (loss : Loss) (next : Label) (after : List Column) (new : List (Option D)) → IsLeftLost g loss label next mid after dev new
        → Opens g (Marks map) y (Some loss) label next columns after old new → IsAnnounced (Marks map) label next columns after old new (Some loss)
    announced_lost marked is by e loss next after new left opens =
        let r = left.rounds.1 in
        let more : label.counter < next.counter = omega (arith, r.least) in
        let stage = stage-then g (IsKeptInUse true columns) (IsFirstInUse mid) (MayAnnounce (Marks map) columns) (λ d. All IsMarkCall) (λ d. All IsLabelWrite) (λ d. AreAnnounced (Marks map) (Some loss)) (Some loss) columns mid after old dev new
        was (stage_of_rounds g (Some loss) label next mid left.rounds.0 after dev new r)
        (λ d n f. f) (λ d n f. record { col = f.col; live = before f.col d f.live; kept = inl f.kept })
        (λ d xs ys one two. record { front = xs; back = ys; all = refl; at_first = All-weaker IsMarkCall IsNoticeCall mark_notice xs one; at_last = two }) in
        record {
          rounds = 1;
          some = most_one map (names label columns);
          few = omega arith;
          one = λ none. absurd (let u : ⊥ = cc in u);
          stage = stage;
          counter = counts-then 0 1 label label next [] r.rises (counts-none label label refl) (record { least = r.least; most = r.most });
          wrote = λ some. more;
          label_is = λ less. left.label_is;
          seated = λ less. seats-then g columns mid old dev new (IsKeptInUse true columns) (IsFirstInUse mid) was.frame r.frame (Some loss) next after was.dies (seats_of_rounds g (Some loss) label next mid left.rounds.0 after dev new r);
          given_up = r.given_up;
          held = λ less. r.held;
          same = λ same. not_greater label.counter next.counter more same;
          named = λ none. absurd (let u : ⊥ = cc in u);
          mapped = mapped_behind (Some loss) after new r.frame (stage_of_rounds g (Some loss) label next mid left.rounds.0 after dev new r).dies;
          others = others_behind after new r.others;
          opens = opens;
        }

    -- which didn't, and the label names the columns
    announced_named : names label columns ≡ true → names label mid ≡ true → NotLost y (states_of y mid) → (next : Label) (after : List Column) (new : List (Option D)) → StaysBegun g label next mid after dev new → Opens g (Marks map) y None label next columns after old new
        → IsAnnounced (Marks map) label next columns after old new None
    announced_named one two is next after new stays opens =
        subst (λ (l : Label). Opens g (Marks map) y None label l columns after old new → IsAnnounced (Marks map) label l columns after old new None) (sym stays.label_is)
        (subst (λ (cs : List Column). Opens g (Marks map) y None label label columns cs old new → IsAnnounced (Marks map) label label columns cs old new None) (sym stays.columns_are)
        (subst (λ (ds : List (Option D)). Opens g (Marks map) y None label label columns mid old ds → IsAnnounced (Marks map) label label columns mid old ds None) (sym stays.devices_are) marked_only)) opens
      where
        marked_only : Opens g (Marks map) y None label label columns mid old dev → IsAnnounced (Marks map) label label columns mid old dev None
        marked_only h = record {
          rounds = 0;
          some = omega (arith, ap (rounds_for (Marks map)) one);
          few = omega arith;
          one = λ e. sym (ap (rounds_for (Marks map)) one);
          stage = stage_as g (IsKeptInUse true columns) (MayAnnounce (Marks map) columns) (λ d. All IsMarkCall) (λ d. AreAnnounced (Marks map) None) None columns mid old dev
              (λ d n f. f) (λ d calls all. only_first (Marks map) None calls (All-weaker IsMarkCall IsNoticeCall mark_notice calls all)) was;
          counter = counts-none label label refl;
          wrote = λ some. no_bool (sym some);
          label_is = λ less. absurd (omega (arith, less));
          seated = λ less. absurd (omega (arith, less));
          given_up = tt;
          held = λ less. absurd (omega (arith, less));
          same = λ e. refl;
          named = λ e. (bytes_eq-Decides label.seats (seats_of mid)).0 two;
          mapped = λ other e c d live. subst (λ k. HoldsMap g dev k d) (map_is map other e) (m.held c d live);
          others = marks_uncalled g map columns mid old dev m;
          opens = h;
        }

    -- or it doesn't, and a round was written behind the marks
    module _ (lost : Option Loss) (next : Label) (after : List Column) (new : List (Option D)) (closes : ClosesLabelled g true label next mid after dev new lost) (opens : Opens g (Marks map) y lost label next columns after old new) where
      abbrev anew : (marked : IsStage g (IsKeptInUse true columns) (λ d. All IsMarkCall) None columns mid old dev) → IsStage g (MayAnnounce (Marks map) columns) (λ d. AreAnnounced (Marks map) lost) lost columns after old new
      anew marked = stage-then g (IsKeptInUse true columns) (IsKeptInUse false mid) (MayAnnounce (Marks map) columns) (λ d. All IsMarkCall) (λ d. All IsClosing) (λ d. AreAnnounced (Marks map) lost) lost columns mid after old dev new
          marked closes.counted.stage
          (λ d n f. f) (λ d n f. record { col = f.col; live = before f.col d f.live; kept = inl f.kept })
          (λ d xs ys one two. only_first (Marks map) lost (xs ++ ys)
          (All-append IsNoticeCall xs ys (All-weaker IsMarkCall IsNoticeCall mark_notice xs one) (All-weaker IsClosing IsNoticeCall (λ c h. inr h) ys two)))

      more : label.counter < next.counter
      more = omega (arith, closes.counted.counter.least)

      -- with so many rounds
      announced_with : (marked : IsStage g (IsKeptInUse true columns) (λ d. All IsMarkCall) None columns mid old dev) (rounds : ℕ) → rounds ≤ 1 → rounds ≡ rounds_for (Marks map) (names label columns) → CountsRounds rounds label next (length (marked.rises ++ closes.counted.stage.rises))
          → IsAnnounced (Marks map) label next columns after old new lost
      announced_with marked rounds few is counter = record {
        rounds = rounds;
        some = omega (arith, is);
        few = few;
        one = λ e. is;
        stage = anew marked;
        counter = counter;
        wrote = λ some. more;
        label_is = λ less. closes.label_is;
        seated = λ less. seats-then g columns mid old dev new (IsKeptInUse true columns) (IsFirstInUse mid) was.frame closes.counted.stage.frame lost next after was.dies closes.seated;
        given_up = closes.given_up;
        held = λ less. closes.held;
        same = λ same. not_greater label.counter next.counter more same;
        named = λ none. seats_said next after (closes.seating none);
        mapped = mapped_behind lost after new closes.counted.stage.frame closes.counted.stage.dies;
        others = others_behind after new closes.counted.others;
        opens = opens;
      }

      -- the label names the columns as they were, so that one died as its device was marked
      announced_broken : AreApart columns → names label columns ≡ true → names label mid ≡ false → IsAnnounced (Marks map) label next columns after old new lost
      announced_broken apart one two = elim (death_of (LosesDevice g columns old dev) columns mid (marks_dies g map columns mid old dev m)) [
        | inl same ↦ no_bool (sym one ∙ (sym (ap (names label) same) ∙ two))
        | inr death ↦ announced_with (broken_marks g map columns mid old dev m apart death) 0 (omega arith) (sym (ap (rounds_for (Marks map)) one))
            (record { least = omega (arith, closes.counted.counter.least); most = omega (arith, closes.counted.counter.most) })
      ]

      announced_anew : AreApart columns → (b : Bool) → names label columns ≡ b → (names label columns && names label mid) ≡ false → IsAnnounced (Marks map) label next columns after old new lost
      announced_anew apart true one both = announced_broken apart one (sym (ap (λ b. b && names label mid) one) ∙ both)
      announced_anew apart false one both =
          announced_with was 1 (omega arith) (sym (ap (rounds_for (Marks map)) one)) (counts-then 0 1 label label next [] closes.counted.stage.rises (counts-none label label refl) closes.counted.counter)

    -- by what the array is lost behind the marks, if it is, and whether the label names its columns
    announced_by : (marked lost : Option Loss) (b : Bool) → AreApart columns → IsLossBy y None (states_of y mid) marked → (names label columns && names label mid) ≡ b → (next : Label) (after : List Column) (new : List (Option D)) → Names g marked b label next mid after dev new lost
        → IsAnnounced (Marks map) label next columns after old new lost
    announced_by (Some by) lost b apart is e next after new n =
        subst (λ o. IsAnnounced (Marks map) label next columns after old new o) (sym n.1)
        (announced_lost (Some by) is by refl n.0 next after new n.2 (mid, dev, Some by, m, is, (n.0, refl, n.2)))
    announced_by None lost true apart is e next after new n =
        let both = two_of (names label columns) (names label mid) e in
        subst (λ o. IsAnnounced (Marks map) label next columns after old new o) (sym n.1)
        (announced_named both.0 both.1 is next after new n.0 (mid, dev, None, m, is, subst (λ b. Names g None b label next mid after dev new None) (sym e) (n.0, refl)))
    announced_by None lost false apart is e next after new n =
        announced_anew lost next after new n (mid, dev, None, m, is, subst (λ b. Names g None b label next mid after dev new lost) (sym e) n) apart (names label columns) refl e

  pub announced : (notice : Notice) (lost : Option Loss) (label next : Label) (columns after : List Column) (old new : List (Option D)) → AreApart columns
      → Opens g notice y lost label next columns after old new → IsAnnounced notice label next columns after old new lost
  announced Round lost label next columns after old new apart h = announced_round lost label next columns after old new h
  announced (Marks map) lost label next columns after old new apart h = announced_by map label columns h.0 old h.1 h.3 h.2 lost (names label columns && names label h.0) apart h.4 refl next after new h.5

  -- the counter has risen by few
  pub announced_few : (notice : Notice) (label next : Label) (columns after : List Column) (old new : List (Option D)) (lost : Option Loss) (a : IsAnnounced notice label next columns after old new lost) → length columns ≤ 32 → next.counter ≤ label.counter + 33
  announced_few notice label next columns after old new lost a many =
      omega (arith, a.few, counts_few g (MayAnnounce notice columns) (λ d. AreAnnounced notice lost) lost a.rounds label next columns after old new a.stage a.counter many)

module _ {D : Type 0} (g : Ghosts D) where
  -- ## What comes behind the marks

  -- the round of an array that is lost by them
  pub names_lost : (marked lost : Option Loss) (named : Bool) (label next : Label) (columns after : List Column) (old new : List (Option D)) → is_some marked ≡ true → is_some lost ≡ true → next ≡ with_round label next.counter 0 (seating_in next) → HaveRounds g lost label next columns after old new
      → Names g marked named label next columns after old new lost
  names_lost None lost named label next columns after old new one some is h = no_loss one
  names_lost (Some by) None named label next columns after old new one some is h = no_loss some
  names_lost (Some by) (Some loss) named label next columns after old new one some is h = (loss, refl, record { label_is = is; rounds = h })

  -- nothing, where the label names the columns
  pub names_kept : (marked : Option Loss) (named : Bool) (label : Label) (columns : List Column) (ds : List (Option D)) → marked ≡ None → named ≡ true → Names g marked named label label columns columns ds ds marked
  names_kept None true label columns ds none named = (record { label_is = refl; columns_are = refl; devices_are = refl }, refl)
  names_kept None false label columns ds none named = no_bool (sym named)
  names_kept (Some by) named label columns ds none is = absurd (let u : ⊥ = cc in u)

  -- labels that do, where it doesn't
  pub names_anew : (marked lost : Option Loss) (named : Bool) (label next : Label) (columns after : List Column) (old new : List (Option D)) → marked ≡ None → named ≡ false → ClosesLabelled g true label next columns after old new lost → Names g marked named label next columns after old new lost
  names_anew None lost true label next columns after old new none named h = no_bool named
  names_anew None lost false label next columns after old new none named h = h
  names_anew (Some by) lost named label next columns after old new none is h = absurd (let u : ⊥ = cc in u)
