-- The labels of an array that was begun, served and closed.
use Rattle.std.proofs.Common.{◌≡◌, ◌≢◌, ◌⊎◌, inl, inr, ℕ, ◌<◌, ◌≤◌, ◌+◌, Bool, true, false, List, [], ◌++◌, length, get_or, Option, Some, None, refl, sym, ◌∙◌, ap, subst, arith}
use Rattle.std.specs.Prelude.{◌&&◌, count_by, is_some, slice_get}
use Rattle.std.proofs.lemmas.Bool.{cases_lt}
use Rattle.std.specs.Option.{option_map_or}
use Rattle.std.proofs.lemmas.List.{length-append}
use Rattle.std.proofs.lemmas.List.Elements.{All-append, All-get_or, All-weaker}
use Rattle.blk_disk.specs.declared.disk.Disk.{Ghosts}
use Rattle.blk_disk.specs.Devices.{size_of, sector_of, RisesOn, Changes}
use Rattle.blk_disk.proofs.DeviceLaws.{changes-refl, changes_sector, changes_size, rises-wider}
use Rattle.eng_cols.specs.declared.column.Column.{Column}
use Rattle.eng_cols.proofs.DeathLaws.{dies-more}
use Rattle.raid_label.specs.Bytes.{bytes_of}
use Rattle.raid_label.specs.declared.label.Label.{Label}
use Rattle.eng_cols.specs.declared.spot.Loss.{Loss}
use Rattle.eng_cols.specs.Cols.{device_set, is_set_filling, HasDeviceOn}
use Rattle.eng_cols.specs.Stripes.{states_of}
use Rattle.raid_map.specs.Marking.{IsMapSector}
use Rattle.raid_map.specs.Regions.{Marks as Map}
use Rattle.top_acts.specs.Begun.{HasBegun, MayBegin, MaySweep, Names, Opens}
use Rattle.top_acts.specs.Behind.{AreLast}
use Rattle.top_acts.specs.Cleared.{EndsMapped}
use Rattle.top_acts.specs.Mapped.{LooksAtMaps, ReadsMap, unmarked}
use Rattle.top_acts.specs.Marking.{AreNotice}
use Rattle.top_acts.specs.Seats.{names}
use Rattle.top_acts.specs.Stages.{AreStaged}
use Rattle.top_acts.specs.Sweeps.{Notice, Round, Marks, Sweeps, clean_in, rounds_for}
use Rattle.top_acts.proofs.Later.{sweep_high}
use Rattle.top_rounds.specs.Labels.{Seating, for_column, seating_in, with_round}
use Rattle.top_close.specs.Stage.{DiesIn, HaveFailed, IsGivenUp, IsInUse, IsStage}
use Rattle.top_rounds.specs.Rounds.{IsTriedOn, clean_in_end}
use Rattle.top_run.specs.Work.{Service, Work}
use Rattle.top_labelled.specs.Begun.{sweeps_in}
use Rattle.top_labelled.specs.Words.{notice_in, closing_label}
use Rattle.top_labelled.specs.Ran.{IsRelabelled}
use Rattle.top_labelled.proofs.Lists.{pairs-append, in-use-or-not}
use Rattle.top_labelled.proofs.Looking.{begun-stage}
use Rattle.top_labelled.proofs.Without.{some-same}
use Rattle.top_acts.proofs.Words.{MayEnd}
use Rattle.eng_cols.specs.Deaths.{LosesDevice}

same-device : (o : Option Column) (d e : ℕ) → device_set o ≡ Some d → device_set o ≡ Some e → d ≡ e
same-device o d e one two = some-same d e (sym one ∙ two)

module _ {D : Type 0} (g : Ghosts D) (a : Work) (newest : Label) (taken opened served back : List (Option D)) (columns kept : List Column) (keeps : Bool) (first last : Label) (s : Service) (may : ℕ → ℕ → Type 0) (clear : Option Map)
    (looked : List (Option D)) (read : List Column) (union marks : Map) (found : ℕ) (filling : count_by is_set_filling a.columns ≤ 1) (looks : LooksAtMaps g a.layout (unmarked a.layout.stripes newest.serial) union a.columns read taken looked None)
    (has : HasBegun g (notice_in keeps marks) (sweeps_in newest union) a.layout newest first read columns looked opened None found)
    (run : Changes g may opened served) (away : (d : ℕ) → 1 ≤ size_of g opened d → may d 0 → ⊥)
    (stays : (c d : ℕ) → HasDeviceOn kept c d → IsInUse a.columns d → (k : ℕ) × HasDeviceOn columns k d)
    (closes : EndsMapped g clear false (closing_label first) last kept s.ending.columns served back s.ending.lost) where
  abbrev notice : Notice
  notice = notice_in keeps marks

  abbrev sweep : Sweeps
  sweep = sweeps_in newest union

  abbrev Begun : ℕ → ℕ → Type 0
  Begun = MayBegin g notice sweep a.layout a.columns taken

  abbrev stage : IsStage g Begun (λ d. AreStaged (ReadsMap (AreNotice notice)) (AreLast None) sweep a.layout (states_of a.layout a.columns) d) None a.columns columns taken opened
  stage = begun-stage g a.layout notice sweep (unmarked a.layout.stripes newest.serial) union newest first a.columns read columns taken looked opened None found filling looks has

  abbrev Ends : ℕ → ℕ → Type 0
  Ends = MayEnd (is_some clear) kept

  -- ## Counts of faults

  rises-begun : (d : ℕ) → RisesOn g taken opened d → RisesOn g taken back d
  rises-begun d h =
      let served_more = rises-wider g (λ _ _. ⊥) may taken taken opened served d (changes-refl g (λ _ _. ⊥) taken) h run in
      rises-wider g (λ _ _. ⊥) Ends taken taken served back d (changes-refl g (λ _ _. ⊥) taken) served_more closes.stage.frame

  rises-closed : (d : ℕ) → RisesOn g served back d → RisesOn g taken back d
  rises-closed d h =
      let before = rises-wider g may (λ _ _. ⊥) opened served back back d run h (changes-refl g (λ _ _. ⊥) back) in
      rises-wider g Begun (λ _ _. ⊥) taken opened back back d stage.frame before (changes-refl g (λ _ _. ⊥) back)

  abbrev early : List ℕ
  early = stage.rises

  abbrev late : List ℕ
  late = closes.stage.rises

  -- a device that failed as the array was begun is none of the run's
  across : (i j : ℕ) (z : ℕ) → i < length early → j < length late → get_or early i z ≢ get_or late j z
  across i j z il jl same =
      let gone = All-get_or (λ (d : ℕ). (c : ℕ) → HasDeviceOn columns c d → ⊥) early i z il stage.gone in
      let was = All-get_or (IsInUse a.columns) early i z il stage.had in
      let had = All-get_or (IsInUse kept) late j z jl closes.stage.had in
      let live = stays had.col (get_or late j z) had.live (subst (λ (d : ℕ). IsInUse a.columns d) same was) in
      gone live.0 (subst (λ (d : ℕ). HasDeviceOn columns live.0 d) (sym same) live.1)

  failed : HaveFailed g taken back (early ++ late)
  failed = record {
    apart = pairs-append (λ d e. d ≢ e) early late stage.failed.apart closes.stage.failed.apart across;
    rose =
        All-append (RisesOn g taken back) early late
        (All-weaker (RisesOn g taken opened) (RisesOn g taken back) rises-begun early stage.failed.rose)
        (All-weaker (RisesOn g served back) (RisesOn g taken back) rises-closed late closes.stage.failed.rose);
  }

  -- ## The last label

  abbrev named : Bool
  named = names newest read

  no-less : newest.counter ≤ first.counter
  no-less = omega (arith, has.counter.least)

  -- the label of the opening round, or the newest where none was written
  first-is : (n : Notice) → (newest.counter < first.counter → first ≡ with_round newest first.counter (clean_in n None newest.clean) (seating_in first)) → (first.counter ≡ newest.counter → first ≡ newest)
      → (counter clean : ℕ) (seating : Seating) → with_round (closing_label first) counter clean seating ≡ with_round newest counter clean seating
  first-is n was same counter clean seating = elim (cases_lt newest.counter first.counter) [
    | inl less ↦ ap (λ (l : Label). with_round (closing_label l) counter clean seating) (was less)
    | inr not ↦ ap (λ (l : Label). with_round (closing_label l) counter clean seating) (same (omega (arith, not, no-less)))
  ]

  label-is : last ≡ with_round newest last.counter (clean_in_end s.ending.lost 1) (seating_in last)
  label-is = closes.label_is ∙ first-is notice has.label_is has.same last.counter (clean_in_end s.ending.lost 1) (seating_in last)

  two-rounds : newest.counter + (rounds_for notice named + 1) ≤ last.counter
  two-rounds =
      let one = has.counter.least in
      let some = has.some in
      let two : first.counter + 1 ≤ last.counter = closes.counter.least in
      omega (arith, one, some, two)

  at-most : last.counter ≤ newest.counter + (rounds_for notice named + 1) + length (early ++ late)
  at-most =
      let one : first.counter ≤ newest.counter + has.rounds + length early = has.counter.most in
      let rounds = has.one refl in
      let two : last.counter ≤ first.counter + 1 + length late = closes.counter.most in
      let long = length-append early late in
      omega (arith, one, rounds, two, long)

  -- ## Other devices

  -- a column that had a device whose count didn't rise has it
  live-begun : (d : ℕ) → (RisesOn g taken back d → ⊥) → (c : ℕ) → HasDeviceOn a.columns c d → HasDeviceOn columns c d
  live-begun d quiet c live = elim (stage.dies.each c) [
    | inl same ↦ ap device_set same ∙ live
    | inr dead ↦ elim dead.1 [
      | inr given ↦ absurd given
      | inl loses ↦
          let e : d ≡ loses.device = same-device (slice_get a.columns c) d loses.device live loses.had in
          absurd (quiet (rises-begun d (subst (λ (n : ℕ). RisesOn g taken opened n) (sym e) loses.rose)))
    ]
  ]

  no-first : (n : Notice) (d : ℕ) → ((c : ℕ) → HasDeviceOn a.columns c d → ⊥) → MayBegin g n sweep a.layout a.columns taken d 0 → ⊥
  no-first Round d none (inl on) = none on.col on.live
  no-first Round d none (inr swept) = omega (arith, sweep_high g a.layout sweep a.columns taken d 0 swept)
  no-first (Marks map) d none (inl on) = none on.col on.live
  no-first (Marks map) d none (inr swept) = omega (arith, sweep_high g a.layout sweep a.columns taken d 0 swept)

  untouched : g.tells → (d : ℕ) → ((c : ℕ) → HasDeviceOn a.columns c d → ⊥) → sector_of g opened d 0 ≡ sector_of g taken d 0
  untouched tells d none = changes_sector g Begun taken opened d 0 stage.frame tells (no-first notice d none)

  -- the run writes no first sector
  as-served : g.tells → (d : ℕ) → 1 ≤ size_of g taken d → sector_of g served d 0 ≡ sector_of g opened d 0
  as-served tells d sized =
      let size = changes_size g Begun taken opened d stage.frame in
      changes_sector g may opened served d 0 run tells (away d (omega (arith, size, sized)))

  -- one that isn't in use as the array is closed has what it had as it was begun
  not-called : g.tells → (d : ℕ) → 1 ≤ size_of g taken d → ((c : ℕ) → HasDeviceOn kept c d → ⊥) → sector_of g back d 0 ≡ sector_of g opened d 0
  not-called tells d sized none =
      ap (λ (x : Option D). option_map_or (λ (z : D). g.sector z 0) x []) (closes.others d none) ∙ as-served tells d sized

  abbrev Wrote : ℕ → Type 0
  Wrote d = (c : ℕ) × (newest.counter < first.counter) × HasDeviceOn columns c d × (sector_of g back d 0 ≡ bytes_of (for_column first c))

  abbrev Holds : ℕ → Type 0
  Holds d = (sector_of g back d 0 ≡ sector_of g taken d 0)
      ⊎ (Wrote d ⊎ ((c : ℕ) × IsGivenUp s.ending.lost kept c × HasDeviceOn kept c d × IsTriedOn g (record first { clean = 1 }) last.counter back c d))

  -- behind maps that didn't lose the array no device was called where the counter is what it was
  none-behind : (marked : Option Loss) (same : Bool) (after : Label) (mid left : List Column) (dev new : List (Option D)) → Names g marked same newest after mid left dev new None → after.counter ≡ newest.counter → new ≡ dev
  none-behind (Some by) same after mid left dev new n equal = let z : None ≡ Some n.0 = n.1 in absurd (let u : ⊥ = cc in u)
  none-behind None true after mid left dev new n equal = n.0.devices_are
  none-behind None false after mid left dev new n equal = absurd (omega (arith, equal, n.counted.counter.least))

  -- where maps announced it, and no round was written, no label was
  marked-first : (map : Map) (b : HasBegun g (Marks map) sweep a.layout newest first read columns looked opened None found) → first.counter ≡ newest.counter → g.tells → (d : ℕ) → sector_of g opened d 0 ≡ sector_of g looked d 0
  marked-first map b equal tells d = by b.opened refl
    where
      by : (o : Option Loss) → b.opened ≡ o → sector_of g opened d 0 ≡ sector_of g looked d 0
      by (Some loss) is = let z : None ≡ Some loss = b.stays (ap is_some is) ∙ is in absurd (let u : ⊥ = cc in u)
      by None is =
          let behind = subst (λ o. Opens g (Marks map) a.layout o newest b.first read b.left looked b.dev) is b.opens in
          let kept : first ≡ b.first = (b.sweeps is).ends.label_is in
          let stays : b.dev ≡ behind.1 = none-behind behind.2 (names newest read && names newest behind.0) b.first behind.0 b.left behind.1 b.dev behind.5 (ap (λ (l : Label). l.counter) (sym kept) ∙ equal) in
          changes_sector g (λ d n. ((false ≡ true) × (n ≡ 0)) ⊎ MaySweep g sweep a.layout read looked d n) b.dev opened d 0 b.since tells (λ h. elim h [
            | inl never ↦ let z = never.0 in let u : ⊥ = cc in u
            | inr swept ↦ omega (arith, sweep_high g a.layout sweep read looked d 0 swept)
          ])
          ∙ (ap (λ (ds : List (Option D)). sector_of g ds d 0) stays
          ∙ changes_sector g (IsMapSector read) looked behind.1 d 0 behind.3.marked.frame tells (λ h. let e = h.1 in omega (arith, e)))

  -- where none was written, nothing was
  quiet-first : (n : Notice) → HasBegun g n sweep a.layout newest first read columns looked opened None found → first.counter ≡ newest.counter → g.tells → (d : ℕ) → sector_of g opened d 0 ≡ sector_of g taken d 0
  quiet-first Round b equal tells d = absurd (omega (arith, equal, b.some, b.counter.least))
  quiet-first (Marks map) b equal tells d = marked-first map b equal tells d ∙ changes_sector g (λ _ _. ⊥) taken looked d 0 looks.reads.frame tells (λ f. f)

  -- sector 0 of a device that is in use as it was begun
  opened-first : (n : Notice) → HasBegun g n sweep a.layout newest first read columns looked opened None found → g.tells → (c d : ℕ) → HasDeviceOn columns c d
      → (sector_of g opened d 0 ≡ sector_of g taken d 0) ⊎ ((newest.counter < first.counter) × (sector_of g opened d 0 ≡ bytes_of (for_column first c)))
  opened-first n b tells c d live = elim (cases_lt newest.counter first.counter) [
    | inl less ↦ inr (less, b.held less c d live tells)
    | inr not ↦ inl (quiet-first n b (omega (arith, not, no-less)) tells d)
  ]

  -- and that is what it had before, or the label of the opening round
  as-opened : g.tells → (d : ℕ) → (RisesOn g taken back d → ⊥) → sector_of g back d 0 ≡ sector_of g opened d 0 → Holds d
  as-opened tells d quiet same = elim (in-use-or-not a.columns d) [
    | inl was ↦
        let here = live-begun d quiet was.0 was.1 in
        elim (opened-first notice has tells was.0 d here) [
          | inl kept ↦ inl (same ∙ kept)
          | inr wrote ↦ inr (inl (was.0, wrote.0, here, same ∙ wrote.1))
        ]
    | inr never ↦ inl (same ∙ untouched tells d never)
  ]

  rest : g.tells → (d : ℕ) → 1 ≤ size_of g taken d → ((c : ℕ) → HasDeviceOn s.ending.columns c d → ⊥) → (RisesOn g taken back d → ⊥) → Holds d
  rest tells d sized free quiet = elim (in-use-or-not kept d) [
    | inl live ↦ elim (closes.stage.dies.each live.0) [
      | inl same ↦ absurd (free live.0 (ap device_set same ∙ live.1))
      | inr dead ↦ elim dead.1 [
        | inl loses ↦
            let e : d ≡ loses.device = same-device (slice_get kept live.0) d loses.device live.1 loses.had in
            absurd (quiet (rises-closed d (subst (λ (n : ℕ). RisesOn g served back n) (sym e) loses.rose)))
        | inr given ↦ elim (closes.given live.0 d given live.1 (λ h. quiet (rises-closed d h)) tells) [
          | inl same ↦ as-opened tells d quiet (same ∙ as-served tells d sized)
          | inr tried ↦ inr (inr (live.0, given, live.1, tried))
        ]
      ]
    ]
    | inr none ↦ as-opened tells d quiet (not-called tells d sized none)
  ]

  -- what the close says of counts is so in all
  later-loses : (c : ℕ) → LosesDevice g kept served back c → LosesDevice g kept taken back c
  later-loses c f = record { device = f.device; had = f.had; rose = rises-closed f.device f.rose }

  later-dies : (c : ℕ) → DiesIn g s.ending.lost kept served back c → DiesIn g s.ending.lost kept taken back c
  later-dies c (inl loses) = inl (later-loses c loses)
  later-dies c (inr given) = inr given

  pub relabelled : IsRelabelled g a newest taken s back notice (names newest read) columns kept first last
  relabelled = record {
    rises = early ++ late;
    failed = failed;
    least = two-rounds;
    most = at-most;
    later = closes.counter.least;
    label_is = label-is;
    seating = closes.seating;
    seated = record {
      round = closes.seated.round;
      seating = closes.seated.seating;
      came = dies-more (DiesIn g s.ending.lost kept served back) (DiesIn g s.ending.lost kept taken back) kept closes.seated.round later-dies closes.seated.came;
      went = dies-more (LosesDevice g kept served back) (LosesDevice g kept taken back) closes.seated.round s.ending.columns later-loses closes.seated.went;
    };
    given_up = closes.given_up;
    held = closes.held;
    rest = rest;
  }
