-- What announces that sectors of the rows are going to be written, and a sweep behind it.
use Rattle.std.proofs.Common.{◌≡◌, ◌⊎◌, ◌∙◌, ℕ, ◌+◌, ◌<◌, ◌≤◌, List, [], ◌++◌, true, length, Option, Some, None, refl, sym, ap, subst, inl, inr, append-nil, arith}
use Rattle.std.specs.Prelude.{All, Bool, count_by, is_some}
use Rattle.std.proofs.lemmas.Bool.{cases_lt}
use Rattle.blk_disk.specs.declared.disk.Call.{Call}
use Rattle.blk_disk.specs.declared.disk.Disk.{Ghosts}
use Rattle.blk_disk.specs.Devices.{Changes}
use Rattle.blk_disk.proofs.DeviceLaws.{changes-more, changes-refl, changes_sector}
use Rattle.lay_core.specs.Layout.{Shape, IsLayout}
use Rattle.eng_cols.specs.declared.column.Column.{Column}
use Rattle.eng_cols.specs.declared.spot.Loss.{Loss}
use Rattle.eng_cols.specs.Cols.{InOrder, is_set_filling, HasDeviceOn}
use Rattle.eng_cols.specs.Deaths.{Dies}
use Rattle.eng_cols.specs.Lost.{NotLost}
use Rattle.raid_label.specs.declared.label.Label.{Label}
use Rattle.eng_cols.specs.Stripes.{states_of}
use Rattle.raid_map.specs.Regions.{IsBytesOf}
use Rattle.top_rounds.specs.Calls.{IsLabelWrite}
use Rattle.top_rounds.specs.Labels.{seating_in, with_round}
use Rattle.raid_recon.proofs.Backs.{Back}
use Rattle.top_close.specs.Ended.{IsLossBy}
use Rattle.top_close.specs.Stage.{DiesIn, IsGivenUpIn, IsStage}
use Rattle.top_rounds.specs.Rounds.{CountsRounds, HaveRounds, clean_in_end}
use Rattle.top_close.proofs.StageLaws.{live_before, stage-then, stage_as, told-others}
use Rattle.top_rounds.proofs.RoundLaws.{counts-none, counts-then, counts_few, round_again, stage_of_rounds}
use Rattle.top_acts.specs.Stages.{AreStaged}
use Rattle.top_acts.specs.Begun.{HasBegun, MayBegin, MaySweep, SweepHas}
use Rattle.top_acts.specs.Seats.{HasSeats, names}
use Rattle.top_acts.specs.Marking.{AreNotice}
use Rattle.top_acts.specs.Behind.{SweepsLabelled, AreLast}
use Rattle.top_acts.specs.Failed.{EndsFailed}
use Rattle.top_acts.specs.Sweeping.{DoesSweeps, SweepsBehind}
use Rattle.top_acts.specs.Sweeps.{Sweeps, Nothing, Over, Marked, Notice, Round, Marks, clean_in, rounds_for}
use Rattle.top_acts.proofs.Announced.{AreAnnounced, IsAnnounced, MayAnnounce, not_greater}
use Rattle.top_acts.proofs.Backs.{died}
use Rattle.top_acts.proofs.Counted.{counted_rounds}
use Rattle.top_acts.proofs.Ended.{clean_none, no_loss}
use Rattle.top_acts.proofs.Later.{IsSwept, Quiet, has_first, has_later, sweep_high, sweep_still, sweep_was, sync_later}
use Rattle.top_acts.proofs.Named.{apart_in, loses_of, only_lose}
use Rattle.top_acts.proofs.Seated.{seats-kept, seats-then, seats_of_rounds}
use Rattle.top_acts.proofs.Staged.{AreNone, staged-around, staged-as, staged-before, staged-more}
use Rattle.top_acts.proofs.Swept.{DidSweep, sweep_stage}
use Rattle.top_rounds.proofs.Words.{IsFirstInUse}

pub no_none : {A X : Type 0} {x : X} → Some x ≡ None → A
no_none h = absurd (let u : ⊥ = cc in u)

-- ## Labels

-- of numbers none of which is less than the one before, the last is as the first where all are
between : (l f n : ℕ) → l ≤ f → f ≤ n → n ≡ l → (f ≡ l) × (n ≡ f)
between l f n one two same = (omega (arith, one, two, same), omega (arith, one, two, same))

clean_again : (notice : Notice) (lost : Option Loss) (clean : ℕ) → clean_in_end lost (clean_in notice None clean) ≡ clean_in notice lost clean
clean_again Round lost clean = clean_none lost
clean_again (Marks map) lost clean = refl

clean_kept : (notice : Notice) (named : Bool) (lost : Option Loss) (clean : ℕ) → rounds_for notice named ≡ 0 → clean_in_end lost clean ≡ clean_in notice lost clean
clean_kept Round named lost clean none = absurd (let z : 1 ≡ 0 = none in omega (arith, z))
clean_kept (Marks map) named lost clean none = refl

-- the label in the end, behind a round or none
label_again : (notice : Notice) (named : Bool) (lost : Option Loss) (label first next : Label) → label.counter ≤ first.counter → (first.counter ≡ label.counter → rounds_for notice named ≡ 0)
    → (label.counter < first.counter → first ≡ with_round label first.counter (clean_in notice None label.clean) (seating_in first)) → (first.counter ≡ label.counter → first ≡ label)
    → next ≡ with_round first next.counter (clean_in_end lost first.clean) (seating_in next) → next ≡ with_round label next.counter (clean_in notice lost label.clean) (seating_in next)
label_again notice named lost label first next least none was same is = elim (cases_lt label.counter first.counter) [
  | inl less ↦
      round_again label first next (clean_in notice None label.clean) next.counter (clean_in notice lost label.clean) (seating_in next) (was less)
      (is ∙ ap (λ k. with_round first next.counter k (seating_in next)) (ap (clean_in_end lost) (ap (λ (l : Label). l.clean) (was less)) ∙ clean_again notice lost label.clean))
  | inr not ↦
      let equal : first.counter ≡ label.counter = omega (arith, least, not) in
      subst (λ (l : Label). next ≡ with_round l next.counter (clean_in notice lost label.clean) (seating_in next)) (same equal)
      (is ∙ ap (λ k. with_round first next.counter k (seating_in next)) (ap (clean_in_end lost) (ap (λ (l : Label). l.clean) (same equal)) ∙ clean_kept notice named lost label.clean (none equal)))
]

module _ {D : Type 0} (g : Ghosts D) (y : Shape) where
  -- ## The sweep

  -- labels are written to sector 0 alone
  pub quiet_in_use : (columns : List Column) (old new : List (Option D)) → Changes g (IsFirstInUse columns) old new → Quiet g y old new
  quiet_in_use columns old new h = changes-more g (IsFirstInUse columns) (λ d n. n < 64) old new (λ d n f. omega (arith, f.kept)) h

  -- behind which the array isn't lost
  pub sweeps_kept : (sweep : Sweeps) (label : Label) (columns after : List Column) (old new : List (Option D)) (lost : Option Loss) (n : ℕ) → lost ≡ None → IsLossBy y None (states_of y after) lost → DoesSweeps g sweep y columns after old new n → DidSweep g y sweep columns after old new n
      → SweepsLabelled g sweep y label label columns after old new lost n
  sweeps_kept sweep label columns after old new lost n kept is does s = record {
    rounds = 0;
    few = omega arith;
    none = λ e. refl;
    stage = stage_as g (MaySweep g sweep y columns old) (MayBegin g Round sweep y columns old) (λ d. AreStaged AreNone AreNone sweep y (states_of y columns) d) (λ d. AreStaged AreNone (AreLast lost) sweep y (states_of y columns) d) lost columns after old new
        (λ d m h. inr h) (λ d calls. staged-as AreNone AreNone (AreLast lost) sweep y (states_of y columns) d calls (λ xs h. subst (λ o. AreLast o xs) (sym kept) h)) (sweep_stage g y sweep lost columns after old new n s);
    counter = counts-none label label refl;
    label_is = ap (λ o. with_round label label.counter (clean_in_end o label.clean) (seating_in label)) (sym kept);
    seated = inl (kept, refl);
    given_up = subst (λ o. IsGivenUpIn o after) (sym kept) tt;
    held = λ c d live was told. changes_sector g (MaySweep g sweep y columns old) old new d 0 s.frame told (λ m. omega (arith, sweep_high g y sweep columns old d 0 m)) ∙ was kept told;
    same = λ e. refl;
    alone = λ e. s.frame;
    swept = s.has;
    behind = record {
      mid = after;
      dev = new;
      behind = lost;
      does = does;
      behind_is = is;
      lost_is = refl;
      ends = subst (λ o. EndsFailed g None o label label after after new new) (sym kept) (record { label_is = refl; columns_are = refl; devices_are = refl });
    };
  }

  -- by which it is lost, and which has one round behind it
  pub sweeps_lost : (sweep : Sweeps) (label next : Label) (columns mid after : List Column) (old dev new : List (Option D)) (lost behind : Option Loss) (n : ℕ) → count_by is_set_filling mid ≤ 1 → is_some lost ≡ true → is_some behind ≡ true → IsLossBy y None (states_of y mid) behind → DoesSweeps g sweep y columns mid old dev n → DidSweep g y sweep columns mid old dev n
      → next ≡ with_round label next.counter 0 (seating_in next) → HaveRounds g lost label next mid after dev new → SweepsLabelled g sweep y label next columns after old new lost n
  sweeps_lost sweep label next columns mid after old dev new None behind n few some was behind_is does s is h = no_loss some
  sweeps_lost sweep label next columns mid after old dev new (Some loss) behind n few some was behind_is does s is h =
      let r = h.1 in
      let last = counted_rounds g (Some loss) label next mid h.0 after dev new r in
      let dies = loses_of g y None columns mid old dev s.dies in
      record {
        rounds = 1;
        few = omega arith;
        none = λ e. no_none e;
        stage = stage-then g (MaySweep g sweep y columns old) (IsFirstInUse mid) (MayBegin g Round sweep y columns old)
            (λ d. AreStaged AreNone AreNone sweep y (states_of y columns) d) (λ d. All IsLabelWrite) (λ d. AreStaged AreNone (AreLast (Some loss)) sweep y (states_of y columns) d)
            (Some loss) columns mid after old dev new (sweep_stage g y sweep None columns mid old dev n s) (stage_of_rounds g (Some loss) label next mid h.0 after dev new r)
            (λ d m f. inr f) (λ d m f. inl (record { col = f.col; live = live_before (DiesIn g None columns old dev) columns mid f.col d dies f.live; kept = f.kept }))
            (λ d xs ys s w. staged-more AreNone (AreLast (Some loss)) sweep y (states_of y columns) d xs ys s w);
        counter = counts-then 0 1 label label next [] r.rises (counts-none label label refl) (record { least = r.least; most = r.most });
        label_is = is;
        seated = inr (seats-then g columns mid old dev new (MaySweep g sweep y columns old) (IsFirstInUse mid) s.frame r.frame (Some loss) next after dies (seats_of_rounds g (Some loss) label next mid h.0 after dev new r));
        given_up = r.given_up;
        held = λ c d live was. r.held c d live;
        same = λ e. no_none e;
        alone = λ e. no_none e;
        swept = has_later g y sweep columns mid after old dev new n (died (DiesIn g (Some loss) mid dev new) y mid after last.stage.dies (apart_in g (Some loss) mid after dev new last.stage.dies) few) (quiet_in_use mid dev new r.frame) s.has;
        behind = record { mid = mid; dev = dev; behind = behind; does = does; behind_is = behind_is; lost_is = sym was; ends = record { label_is = is; rounds = h } };
      }

  -- ## What announces it

  unswept : (sweep : Sweeps) (columns after : List Column) (old new : List (Option D)) → sweep ≡ Nothing → SweepHas g sweep y columns after old new 0
  unswept Nothing columns after old new e = refl
  unswept (Over kind) columns after old new e = absurd (let u : ⊥ = cc in u)
  unswept (Marked marks) columns after old new e = absurd (let u : ⊥ = cc in u)

  low_announced : (notice : Notice) (columns : List Column) (d n : ℕ) → MayAnnounce notice columns d n → n < 64
  low_announced Round columns d n f = omega (arith, f.kept)
  low_announced (Marks map) columns d n f = elim f.kept [ inl zero ↦ omega (arith, zero) | inr one ↦ omega (arith, one) ]

  announced_may : (notice : Notice) (sweep : Sweeps) (columns : List Column) (old : List (Option D)) (d n : ℕ) → MayAnnounce notice columns d n → MayBegin g notice sweep y columns old d n
  announced_may Round sweep columns old d n f = inl f
  announced_may (Marks map) sweep columns old d n f = inl f

  quiet_announced : (notice : Notice) (columns : List Column) (old new : List (Option D)) → Changes g (MayAnnounce notice columns) old new → Quiet g y old new
  quiet_announced notice columns old new h = changes-more g (MayAnnounce notice columns) (λ d n. n < 64) old new (low_announced notice columns) h

  -- where none is swept
  none_behind : (sweep : Sweeps) (label : Label) (columns : List Column) (ds : List (Option D)) → sweep ≡ Nothing → NotLost y (states_of y columns) → SweepsBehind g sweep y label label columns columns ds ds None 0
  none_behind Nothing label columns ds e is = record { mid = columns; dev = ds; behind = None; does = (refl, (refl, refl)); behind_is = is; lost_is = refl; ends = record { label_is = refl; columns_are = refl; devices_are = refl } }
  none_behind (Over kind) label columns ds e is = absurd (let u : ⊥ = cc in u)
  none_behind (Marked marks) label columns ds e is = absurd (let u : ⊥ = cc in u)

  -- and nothing behind it
  pub begun_only : (notice : Notice) (sweep : Sweeps) (label next : Label) (columns after : List Column) (old new : List (Option D)) (lost : Option Loss) → length columns ≤ 32 → count_by is_set_filling columns ≤ 1 → (lost ≡ None → sweep ≡ Nothing) → IsLossBy y None (states_of y after) lost
      → IsAnnounced g y notice label next columns after old new lost → HasBegun g notice sweep y label next columns after old new lost 0
  begun_only notice sweep label next columns after old new lost many few none is a =
      let stage = stage_as g (MayAnnounce notice columns) (MayBegin g notice sweep y columns old) (λ d. AreAnnounced notice lost) (λ d. AreStaged (AreNotice notice) (AreLast lost) sweep y (states_of y columns) d) lost columns after old new
      (announced_may notice sweep columns old)
      (λ d calls h. subst (AreStaged (AreNotice notice) (AreLast lost) sweep y (states_of y columns) d) (sym h.all) (staged-around (AreNotice notice) (AreLast lost) sweep y (states_of y columns) d h.front h.back h.at_first h.at_last)) a.stage in
      record {
        rounds = a.rounds;
        some = a.some;
        few = omega (arith, a.few);
        one = a.one;
        stage = stage;
        counter = a.counter;
        wrote = a.wrote;
        bounded = omega (arith, a.few, counts_few g (MayAnnounce notice columns) (λ d. AreAnnounced notice lost) lost a.rounds label next columns after old new a.stage a.counter many);
        label_is = a.label_is;
        seated = a.seated;
        given_up = a.given_up;
        held = a.held;
        same = a.same;
        mapped = a.mapped;
        others = λ e. a.others;
        swept = λ e. unswept sweep columns after old new (none e);
        still = λ told h. sync_later g y (states_of y columns) (states_of y after) old new (died (DiesIn g lost columns old new) y columns after a.stage.dies (apart_in g lost columns after old new a.stage.dies) few) (quiet_announced notice columns old new a.stage.frame) told h;
        left = after;
        dev = new;
        first = next;
        opened = lost;
        opens = a.opens;
        named = a.named;
        opened_is = is;
        stays = λ some. refl;
        unswept = λ some. (refl, record { label_is = refl; columns_are = refl; devices_are = refl });
        sweeps = λ e. subst (λ o. SweepsBehind g sweep y next next after after new new o 0) (sym e) (none_behind sweep next after new (none e) (subst (IsLossBy y None (states_of y after)) e is));
        behind = told-others g after new new (λ d none. refl);
        since = changes-refl g (λ d n. ((is_some lost ≡ true) × (n ≡ 0)) ⊎ MaySweep g sweep y columns old d n) new;
        lives = λ c d h. h;
      }

  -- and a sweep behind it
  module _ (layout : IsLayout y) (notice : Notice) (sweep : Sweeps) (some : sweep ≡ Nothing → ⊥) (label first next : Label) (columns mid after : List Column) (old dev new : List (Option D)) (lost : Option Loss) (n : ℕ) (order : InOrder (states_of y columns)) (many : length columns ≤ 32) (few : count_by is_set_filling columns ≤ 1) (fewer : count_by is_set_filling mid ≤ 1)
      (is : NotLost y (states_of y mid)) (a : IsAnnounced g y notice label first columns mid old dev None) (s : SweepsLabelled g sweep y first next mid after dev new lost n) where
    back : Back y (states_of y mid) (states_of y columns)
    back = died (DiesIn g None columns old dev) y columns mid a.stage.dies (apart_in g None columns mid old dev a.stage.dies) few

    later : Back y (states_of y after) (states_of y mid)
    later = died (DiesIn g lost mid dev new) y mid after s.stage.dies (apart_in g lost mid after dev new s.stage.dies) fewer

    quiet : Quiet g y old dev
    quiet = quiet_announced notice columns old dev a.stage.frame

    live : (c d : ℕ) → HasDeviceOn mid c d → HasDeviceOn columns c d
    live c d h = live_before (DiesIn g None columns old dev) columns mid c d a.stage.dies h

    -- which sectors the sweep, and a round behind it, may have changed
    second : (m : Notice) (d k : ℕ) → MayBegin g Round sweep y mid dev d k → MayBegin g m sweep y columns old d k
    second Round d k (inl used) = inl (record { col = used.col; live = live used.col d used.live; kept = used.kept })
    second Round d k (inr may) = inr (sweep_was g y columns mid old dev back quiet sweep d k may)
    second (Marks map) d k (inl used) = inl (record { col = used.col; live = live used.col d used.live; kept = inl used.kept })
    second (Marks map) d k (inr may) = inr (sweep_was g y columns mid old dev back quiet sweep d k may)

    swept_low : (d k : ℕ) → MayBegin g Round sweep y mid dev d k → IsSwept g y columns mid old dev back quiet sweep d k
    swept_low d k (inl used) = inl (omega (arith, used.kept))
    swept_low d k (inr may) = inr may

    has : SweepHas g sweep y columns after old new n
    has = has_first g y columns mid old dev back quiet sweep layout order after new n later
        (changes-more g (MayBegin g Round sweep y mid dev) (IsSwept g y columns mid old dev back quiet sweep) dev new swept_low s.stage.frame) s.swept

    abbrev MayFollow : ℕ → ℕ → Type 0
    MayFollow d k = ((is_some lost ≡ true) × (k ≡ 0)) ⊎ MaySweep g sweep y columns old d k

    follow : is_some lost ≡ true → (d k : ℕ) → MayBegin g Round sweep y mid dev d k → MayFollow d k
    follow some d k (inl used) = inl (some, used.kept)
    follow some d k (inr may) = inr (sweep_was g y columns mid old dev back quiet sweep d k may)

    -- labels are written behind the sweep where it lost the array
    followed : (o : Option Loss) → lost ≡ o → Changes g MayFollow dev new
    followed None e = changes-more g (MaySweep g sweep y mid dev) MayFollow dev new (λ d k may. inr (sweep_was g y columns mid old dev back quiet sweep d k may)) (s.alone e)
    followed (Some loss) e = changes-more g (MayBegin g Round sweep y mid dev) MayFollow dev new (follow (ap is_some e)) s.stage.frame

    -- sector 1 isn't one of those
    no_second : (d : ℕ) → MayBegin g Round sweep y mid dev d 1 → ⊥
    no_second d (inl used) = omega (arith, used.kept)
    no_second d (inr may) = omega (arith, sweep_high g y sweep mid dev d 1 may)

    front_alone : (xs : List Call) (h : AreAnnounced notice None xs) → xs ≡ h.front
    front_alone xs h = h.all ∙ (ap (λ (l : List Call). h.front ++ l) h.at_last ∙ append-nil h.front)

    abbrev stage_both : IsStage g (MayBegin g notice sweep y columns old) (λ d. AreStaged (AreNotice notice) (AreLast lost) sweep y (states_of y columns) d) lost columns after old new
    stage_both = stage-then g (MayAnnounce notice columns) (MayBegin g Round sweep y mid dev) (MayBegin g notice sweep y columns old)
        (λ d. AreAnnounced notice None) (λ d. AreStaged AreNone (AreLast lost) sweep y (states_of y mid) d) (λ d. AreStaged (AreNotice notice) (AreLast lost) sweep y (states_of y columns) d)
        lost columns mid after old dev new a.stage s.stage
        (announced_may notice sweep columns old) (second notice)
        (λ d xs ys h w. staged-before (AreNotice notice) (AreLast lost) sweep y (states_of y mid) (states_of y columns) d xs ys back (subst (AreNotice notice) (sym (front_alone xs h)) h.at_first) w)

    counter_both : CountsRounds (a.rounds + s.rounds) label next (length (a.stage.rises ++ s.stage.rises))
    counter_both = counts-then a.rounds s.rounds label first next a.stage.rises s.stage.rises a.counter s.counter

    -- a sweep by which the array is lost has a round behind it
    lost_wrote : (o : Option Loss) → lost ≡ o → is_some o ≡ true → first.counter < next.counter
    lost_wrote None e some = no_loss some
    lost_wrote (Some loss) e some =
        let left = subst (λ o. EndsFailed g None o first next s.behind.mid after s.behind.dev new) e s.behind.ends in
        omega (arith, left.rounds.1.least)

    begun_more : label.counter ≤ first.counter
    begun_more = omega (arith, a.counter.least)

    swept_more : first.counter ≤ next.counter
    swept_more = omega (arith, s.counter.least)

    -- no round is named where none was written
    unnamed : first.counter ≡ label.counter → rounds_for notice (names label columns) ≡ 0
    unnamed same = omega (arith, same, a.some, a.counter.least)

    written : label.counter < next.counter → lost ≡ None → label.counter < first.counter
    written wrote none = let e : next.counter ≡ first.counter = ap (λ (l : Label). l.counter) (s.same none) in omega (arith, wrote, e)

    same_both : (o : Option Loss) → lost ≡ o → next.counter ≡ label.counter → next ≡ label
    same_both None e same = let both = between label.counter first.counter next.counter begun_more swept_more same in s.same e ∙ a.same both.0
    same_both (Some loss) e same =
        let both = between label.counter first.counter next.counter begun_more swept_more same in
        not_greater first.counter next.counter (lost_wrote (Some loss) e refl) both.1

    seats : label.counter < next.counter → HasSeats g lost next columns after old new
    seats wrote = elim s.seated [
      | inl same ↦
          let h = a.seated (written wrote same.0) in
          subst (λ o. HasSeats g o next columns after old new) (sym same.0)
          (seats-kept g columns mid old dev new (MayAnnounce notice columns) (MayBegin g Round sweep y mid dev) a.stage.frame s.stage.frame next after a.stage.dies
          (record { round = h.round; seating = same.1 ∙ h.seating; came = h.came; went = h.went })
          (only_lose g mid after dev new (subst (λ o. Dies (DiesIn g o mid dev new) mid after) same.0 s.stage.dies)))
      | inr h ↦ seats-then g columns mid old dev new (MayAnnounce notice columns) (MayBegin g Round sweep y mid dev) a.stage.frame s.stage.frame lost next after a.stage.dies h
    ]

    before_it : (c d : ℕ) → HasDeviceOn after c d → HasDeviceOn mid c d
    before_it c d h = live_before (DiesIn g lost mid dev new) mid after c d s.stage.dies h

    pub begun_swept : HasBegun g notice sweep y label next columns after old new lost n
    begun_swept = record {
      rounds = a.rounds + s.rounds;
      some = omega (arith, a.some);
      few = omega (arith, a.one refl, s.few);
      one = λ e. omega (arith, a.one refl, s.none e);
      stage = stage_both;
      counter = counter_both;
      bounded = omega (arith, a.few, s.few, counts_few g (MayBegin g notice sweep y columns old) (λ d. AreStaged (AreNotice notice) (AreLast lost) sweep y (states_of y columns) d) lost (a.rounds + s.rounds) label next columns after old new stage_both counter_both many);
      wrote = λ some. let more : first.counter < next.counter = lost_wrote lost refl some in omega (arith, begun_more, more);
      label_is = λ less. label_again notice (names label columns) lost label first next begun_more unnamed a.label_is a.same s.label_is;
      seated = seats;
      given_up = s.given_up;
      held = λ wrote c d h. s.held c d h (λ none. a.held (written wrote none) c d (before_it c d h));
      same = same_both lost refl;
      mapped = λ map e c d h told. subst (IsBytesOf map) (sym (changes_sector g (MayBegin g Round sweep y mid dev) dev new d 1 s.stage.frame told (no_second d))) (a.mapped map e c d (before_it c d h) told);
      others = λ e. absurd (some e);
      swept = λ e. has;
      still = λ told h. sweep_still g y sweep columns after old new n some has told h;
      left = mid;
      dev = dev;
      first = first;
      opened = None;
      opens = a.opens;
      named = a.named;
      opened_is = is;
      stays = λ some. no_loss some;
      unswept = λ some. no_loss some;
      sweeps = λ e. s.behind;
      behind = s.stage.uncalled;
      since = followed lost refl;
      lives = before_it;
    }
