-- What an array that was begun, served and closed leaves on its devices.
use Rattle.std.proofs.Common.{◌≡◌, ◌⊎◌, inl, inr, ℕ, suc, ◌≤◌, ◌*◌, List, [], ◌∷◌, ◌++◌, Bool, true, false, Option, Some, None, refl, sym, ◌∙◌, ap, subst, arith}
use Rattle.std.specs.Prelude.{All, Vec, count_by, is_some, option_and_then, slice_get, slice_index}
use Rattle.std.specs.declared.alloc.Global.{Global}
use Rattle.std.proofs.Math.Nat.{mul-le-mul_right}
use Rattle.blk_disk.specs.declared.disk.Call.{Call}
use Rattle.blk_disk.specs.declared.disk.Disk.{Ghosts as DiskGhosts}
use Rattle.blk_disk.specs.Disk.{call_of}
use Rattle.blk_disk.specs.Devices.{calls_of, contents_of, RisesOn, Changes}
use Rattle.blk_disk.proofs.DeviceLaws.{changes-more, changes-refl, changes-then, changes_sector, changes_size, rises-wider}
use Rattle.lay_core.specs.Layout.{Shape, IsLayout}
use Rattle.lay_core.specs.declared.layout.Layout.{Ghosts as LayoutGhosts}
use Rattle.eng_cols.specs.declared.column.Column.{Column}
use Rattle.eng_cols.specs.declared.spot.Loss.{Loss}
use Rattle.eng_cols.specs.Cols.{HasDevice, device_set, is_set_filling, HasDeviceOn, has_device}
use Rattle.eng_cols.specs.Deaths.{Dies, LosesDevice}
use Rattle.eng_cols.specs.Stripes.{states_of}
use Rattle.eng_cols.proofs.DeathLaws.{dies-more}
use Rattle.eng_cols.proofs.Spots.{seat-device, seat-within}
use Rattle.eng_array.specs.declared.start.Start.{Start}
use Rattle.eng_array.specs.declared.start.Start.TheVariants as start
use Rattle.eng_world.specs.Rows.{IsInRows}
use Rattle.eng_state.specs.Shows.{AreTold}
use Rattle.eng_parts.specs.declared.setup.Setup.{Setup}
use Rattle.eng_parts.specs.declared.setup.Closed.{Closed}
use Rattle.raid_label.specs.declared.label.Label.{Label}
use Rattle.raid_map.specs.Regions.{Marks as Map}
use Rattle.raid_recon.specs.Array.{IsCheckSector}
use Rattle.raid_recon.proofs.Frames.{last-unit}
use Rattle.top_acts.specs.Begun.{MayBegin, MaySweep}
use Rattle.top_acts.specs.Behind.{AreLast}
use Rattle.top_acts.specs.Cleared.{AreEndingInTurn, EndsInTurn}
use Rattle.top_acts.specs.Closed.{settled_in_end}
use Rattle.top_acts.specs.Mapped.{ReadsMap, unmarked}
use Rattle.top_acts.specs.Marking.{AreNotice}
use Rattle.top_acts.specs.Renewed.{SettlesFirstOf}
use Rattle.top_acts.specs.Stages.{AreStaged}
use Rattle.top_acts.specs.Sweeps.{Marked, Marks, Nothing, Notice, Over, Round, Sweeps, marks_maps}
use Rattle.top_acts.proofs.Having.{has_live}
use Rattle.top_acts.proofs.Later.{of_check}
use Rattle.top_acts.proofs.Named.{live_of, only_lose}
use Rattle.top_acts.proofs.Staged.{settles-ending}
use Rattle.top_close.specs.Calls.{MoreOn}
use Rattle.top_rounds.specs.Calls.{IsLabelWrite}
use Rattle.top_close.specs.Reserved.{IsReserved}
use Rattle.top_close.proofs.SettledLaws.{device_within}
use Rattle.top_close.specs.Stage.{DiesIn, IsGivenUp, IsInUse, IsStage}
use Rattle.top_close.proofs.StageLaws.{live_before}
use Rattle.top_serve.specs.Served as served
use Rattle.top_serve.specs.Setups.{begun_in, with_start}
use Rattle.top_serve.proofs.Deaths.{later}
use Rattle.top_run.specs.Work.{Service, Work}
use Rattle.top_run.specs.Works.{work_of}
use Rattle.top_run.specs.Ends.{EndsSo}
use Rattle.top_labelled.specs.Begun.{BeginsLabelled, IsAnew, is_kept, sweeps_in, without}
use Rattle.top_labelled.specs.Words.{began_of, notice_in, writes_maps}
use Rattle.top_labelled.specs.Between.{HasEnded}
use Rattle.top_labelled.specs.Given.{RebuildsIf}
use Rattle.top_labelled.specs.Ran.{LeavesLabelled, MayChangeLabelled}
use Rattle.top_labelled.proofs.Kept.{FillsOn, had-started, kept-device}
use Rattle.top_labelled.proofs.Looking.{begins-stage}
use Rattle.top_labelled.proofs.Restart.{target-alone}
use Rattle.top_labelled.proofs.Without.{began-asked, not-some, still-lives, without-dies}
use Rattle.top_acts.proofs.Words.{MayEnd, FailsEnding}

-- ## Calls

-- calls of an end where maps may be cleared are such too where they are
turn-wider : (a b : Bool) → (a ≡ true → b ≡ true) → (was is : Bool) (calls : List Call) → AreEndingInTurn a was calls is → AreEndingInTurn b was calls is
turn-wider a b wide was is [] h = h
turn-wider a b wide was is (c ∷ cs) h = elim h [
  | inl w ↦ inl (w.0, turn-wider a b wide false is cs w.1)
  | inr more ↦ elim more [
    | inl m ↦ inr (inl (wide m.0, m.1, turn-wider a b wide false is cs m.2))
    | inr s ↦ inr (inr (s.0, s.1, turn-wider a b wide true is cs s.2))
  ]
]

fails-wider : (a b : Bool) → (a ≡ true → b ≡ true) → (is : Bool) (call : Call) → FailsEnding a is call → FailsEnding b is call
fails-wider a b wide is call (inl w) = inl w
fails-wider a b wide is call (inr (inl m)) = inr (inl (wide m.0, m.1))
fails-wider a b wide is call (inr (inr s)) = inr (inr s)

ends-wider : (a b : Bool) → (a ≡ true → b ≡ true) → (stays was is : Bool) (calls : List Call) → EndsInTurn a stays was calls is → EndsInTurn b stays was calls is
ends-wider a b wide true was is calls h = turn-wider a b wide was is calls h
ends-wider a b wide false was is calls h = (h.0, h.1, h.2, h.3, turn-wider a b wide was h.2 h.0 h.4, fails-wider a b wide h.2 h.1 h.5)

-- calls that are told, behind those of the run
pub turn-behind : {D : Type 0} (g : DiskGhosts D) (P : List Call → Type 0) (o : Option (List Call)) (calls told : List Call) → AreTold g o calls → MoreOn P o (Some told) → (closing : List Call) × (told ≡ calls ++ closing) × P closing
turn-behind g P None calls told are on = absurd on
turn-behind g P (Some before) calls told are on = (on.0, on.1 ∙ ap (λ l. l ++ on.0) (sym are), on.2)

-- a settle first
settle-behind : {D : Type 0} (g : DiskGhosts D) (clears : Bool) (o : Option (List Call)) (calls told : List Call) → AreTold g o calls → MoreOn (SettlesFirstOf clears) o (Some told) → (good : Bool) × (more : List Call) × (told ≡ calls ++ call_of 2 0 0 good ∷ more)
settle-behind g clears None calls told are on = absurd on
settle-behind g clears (Some before) calls told are on = let f = on.2 in (f.0, f.1, on.1 ∙ (ap (λ l. before ++ l) f.2 ∙ ap (λ l. l ++ call_of 2 0 0 f.0 ∷ f.1) (sym are)))

-- or none
pub none-behind : {D : Type 0} (g : DiskGhosts D) (o : Option (List Call)) (calls told : List Call) → AreTold g o calls → o ≡ Some told → told ≡ calls
none-behind g None calls told are is = not-some told is
none-behind g (Some before) calls told are is = let z : Some before ≡ Some told = is in let e : before ≡ told = cc in sym e ∙ sym are

-- ## The end

-- which sectors it may write
pub end-reserved : (clears mapped : Bool) → (clears ≡ true → mapped ≡ true) → (columns : List Column) (d n : ℕ) → MayEnd clears columns d n → ((c : ℕ) × HasDeviceOn columns c d) × IsReserved mapped n
end-reserved false false wide columns d n on = ((on.col, on.live), on.kept)
end-reserved false true wide columns d n on = ((on.col, on.live), inl on.kept)
end-reserved true mapped wide columns d n on = ((on.col, on.live), subst (λ b. IsReserved b n) (sym (wide refl)) on.kept)

-- what was closed has ended, as a run does
pub ends-so : {L D : Type 0} (lay : LayoutGhosts L) (disk : DiskGhosts D) (closed : Closed L D) (label : Label) (clear : Option Map) (asked : Option Start) (device : Option ℕ) (v : Service) (back : List (Option D)) → HasEnded lay disk closed label clear asked device v back → EndsSo lay closed disk v back
ends-so lay disk closed label clear asked device v back e = record {
  told = e.told;
  frame = changes-more disk (MayEnd (is_some clear) closed.columns.items) (λ d n. IsReserved true n) closed.devices.items back (λ d n on. (end-reserved (is_some clear) true (λ _. refl) closed.columns.items d n on).1) e.closes.stage.frame;
  dies =
      dies-more (DiesIn disk v.ending.lost closed.columns.items closed.devices.items back) (λ c. LosesDevice disk closed.columns.items closed.devices.items back c ⊎ IsGivenUp v.ending.lost closed.columns.items c) closed.columns.items v.ending.columns
      (λ c why. elim why [ inl lost ↦ inl (record { device = lost.device; had = lost.had; rose = lost.rose }) | inr gave ↦ inr gave ]) e.closes.stage.dies;
  given_up = e.closes.given_up;
  lost = e.lost;
}

-- ## What the beginning may write

one-check : {D : Type 0} (g : DiskGhosts D) (y : Shape) (sweep : Sweeps) (columns : List Column) (old : List (Option D)) (d n : ℕ) → MaySweep g sweep y columns old d n → y.checks ≡ 1
one-check g y Nothing columns old d n never = absurd never
one-check g y (Over kind) columns old d n h = h.0
one-check g y (Marked marks) columns old d n h = h.0

-- a check unit's sectors are in rows, on the device of a column
swept-in-rows : {D : Type 0} (g : DiskGhosts D) (y : Shape) (layout : IsLayout y) (sweep : Sweeps) (columns : List Column) (old : List (Option D)) (d n : ℕ) → MaySweep g sweep y columns old d n
    → ((c : ℕ) × HasDevice (states_of y columns) c d) × IsInRows y n
swept-in-rows g y layout sweep columns old d n h =
    let turn = of_check g y sweep columns old d n h in
    let at : IsCheckSector y (states_of y columns) turn.stripe d n = turn.sector in
    let size = last-unit y layout (one-check g y sweep columns old d n h) in
    let on = seat-device y (states_of y columns) turn.stripe _ at.at at.stands in
    let row : suc at.at.row ≤ y.rows = (seat-within y (states_of y columns) turn.stripe _ at.at layout turn.within (omega (arith, size)) at.stands).1 in
    let most : suc at.at.row * y.unit_sectors ≤ y.rows * y.unit_sectors = mul-le-mul_right y.unit_sectors row in
    let n_is = at.sector in
    let within = at.within in
    ((at.at.column, subst (λ (k : ℕ). HasDevice (states_of y columns) at.at.column k) (sym at.device) on), (omega (arith, n_is), omega (arith, n_is, within, most)))

-- maps are among that where they are to be written
pub notice-maps : (keeps : Bool) (marks union : Map) → marks_maps (notice_in keeps marks) ≡ true → writes_maps keeps union ≡ true
notice-maps true marks union h = refl
notice-maps false marks union h = let z : false ≡ true = h in absurd (let u : ⊥ = cc in u)

-- a sector of those that stand before the rows, of a device in use, or one of the rows
pub begun-where : {D : Type 0} (g : DiskGhosts D) (y : Shape) (layout : IsLayout y) (notice : Notice) (sweep : Sweeps) (mapped : Bool) → (marks_maps notice ≡ true → mapped ≡ true) → (columns : List Column) (old : List (Option D)) (d n : ℕ) → MayBegin g notice sweep y columns old d n
    → ((c : ℕ) × HasDevice (states_of y columns) c d) × (IsReserved mapped n ⊎ IsInRows y n)
begun-where g y layout Round sweep false wide columns old d n (inl on) = ((on.col, has_live y columns on.col d on.live), inl on.kept)
begun-where g y layout Round sweep true wide columns old d n (inl on) = ((on.col, has_live y columns on.col d on.live), inl (inl on.kept))
begun-where g y layout Round sweep mapped wide columns old d n (inr swept) = let h = swept-in-rows g y layout sweep columns old d n swept in (h.0, inr h.1)
begun-where g y layout (Marks map) sweep mapped wide columns old d n (inl on) = ((on.col, has_live y columns on.col d on.live), inl (subst (λ b. IsReserved b n) (sym (wide refl)) on.kept))
begun-where g y layout (Marks map) sweep mapped wide columns old d n (inr swept) = let h = swept-in-rows g y layout sweep columns old d n swept in (h.0, inr h.1)

module _ {L D : Type 0} (lay : LayoutGhosts L) (disk : DiskGhosts D) (old : Setup L D) (asked began : Option Start) (faulty map : Bool) (devices : Vec (Option D) Global) (columns : Vec Column Global) (begun : List Column) (closed : Closed L D)
    (newest first : Label) (layout : IsLayout (lay.shape old.layout)) (few : count_by is_set_filling old.columns.items ≤ 1) (can : RebuildsIf lay disk old asked)
    (begins : BeginsLabelled disk (work_of lay old asked) newest old.devices.items devices.items begun (is_kept map newest) first None) (named : columns.items ≡ without asked begun) (began_is : began ≡ began_of faulty asked old.columns.items begun)
    (s : served.IsServed lay disk (later old devices columns) began closed) (clear : Option Map) (clears : is_some clear ≡ true → writes_maps (is_kept map newest) begins.union ≡ true) (device : Option ℕ) (v : Service) (back : List (Option D)) (e : HasEnded lay disk closed first clear asked device v back) where
  abbrev setup : Setup L D
  setup = later old devices columns

  abbrev a : Work
  a = work_of lay old asked

  abbrev y : Shape
  y = lay.shape old.layout

  abbrev taken : List (Option D)
  taken = old.devices.items

  abbrev opened : List (Option D)
  opened = devices.items

  abbrev keeps : Bool
  keeps = is_kept map newest

  abbrev notice : Notice
  notice = notice_in (is_kept map newest) begins.marks

  abbrev sweep : Sweeps
  sweep = sweeps_in newest begins.union

  -- maps are written in the call
  abbrev mapped : Bool
  mapped = writes_maps (is_kept map newest) begins.union

  abbrev Begun : ℕ → ℕ → Type 0
  Begun = MayBegin disk notice sweep y old.columns.items taken

  abbrev May : ℕ → ℕ → Type 0
  May = MayChangeLabelled disk a newest taken v back mapped began

  pub stage : IsStage disk (MayBegin disk notice sweep y old.columns.items taken) (λ d. AreStaged (ReadsMap (AreNotice notice)) (AreLast None) sweep y (states_of y old.columns.items) d) None old.columns.items begun taken opened
  stage = begins-stage disk y notice sweep (unmarked y.stripes newest.serial) begins.union newest first old.columns.items begins.read begun taken begins.looked opened None begins.found few begins.unread begins.looks begins.has

  -- ## Devices of columns

  pub loses : Dies (LosesDevice disk old.columns.items taken opened) old.columns.items begun
  loses = only_lose disk old.columns.items begun taken opened stage.dies

  pub named-dies : Dies (IsAnew asked) begun columns.items
  named-dies = subst (λ (cs : List Column). Dies (IsAnew asked) begun cs) (sym named) (without-dies asked begun)

  pub had-begun : (c d : ℕ) → HasDeviceOn columns.items c d → HasDeviceOn begun c d
  had-begun c d live = live_before (IsAnew asked) begun columns.items c d named-dies live

  had-first : (c d : ℕ) → HasDeviceOn begun c d → HasDeviceOn old.columns.items c d
  had-first c d live = live_before (LosesDevice disk old.columns.items taken opened) old.columns.items begun c d loses live

  -- what has a device as the clients' own events find it had it, but for one that is rebuilt onto it anew
  started-had : (c d : ℕ) → HasDeviceOn (with_start began columns.items) c d → HasDeviceOn begun c d ⊎ FillsOn began c d
  started-had c d live = elim (had-started began columns.items c d live) [ inl was ↦ inl (had-begun c d was) | inr is ↦ inr is ]

  had-or-goes : (c d : ℕ) → HasDevice (begun_in lay setup began) c d → HasDevice (states_of y old.columns.items) c d ⊎ FillsOn began c d
  had-or-goes c d has = elim (started-had c d (live_of y (with_start began columns.items) c d has)) [ inl was ↦ inl (has_live y old.columns.items c d (had-first c d was)) | inr is ↦ inr is ]

  -- a column that has a device at the run's end had it as the array was begun, or is the one that was rebuilt onto it anew
  pub live-kept : (c d : ℕ) → HasDeviceOn closed.columns.items c d → HasDeviceOn begun c d ⊎ FillsOn began c d
  live-kept c d live = elim (s.causes.ends c) [
    | inl kept ↦ started-had c d (kept-device (slice_get (with_start began columns.items) c) (slice_get closed.columns.items c) d kept live)
    | inr dead ↦ not-some d (ap device_set (sym dead.0) ∙ live)
  ]

  -- the device onto which a rebuild goes is in no other column
  alone : (c d : ℕ) → FillsOn began c d → (k : ℕ) → HasDeviceOn old.columns.items k d → k ≡ c
  alone c d is k live = target-alone lay disk old asked c d is.0 can (began-asked faulty asked old.columns.items begun (start.Fill c d is.0) (sym began_is ∙ is.1)) k live

  -- a device that was in use, and is at the run's end, was so as the array was begun
  pub stays : (c d : ℕ) → HasDeviceOn closed.columns.items c d → IsInUse old.columns.items d → (k : ℕ) × HasDeviceOn begun k d
  stays c d live used = elim (live-kept c d live) [
    | inl was ↦ (c, was)
    | inr is ↦ (
      c,
      still-lives faulty asked old.columns.items begun c d is.0 (sym began_is ∙ is.1) (subst (λ k. HasDeviceOn old.columns.items k d) (alone c d is used.col used.live) used.live),
    )
  ]

  -- ## What may have changed

  begun-may : (d n : ℕ) → Begun d n → May d n
  begun-may d n on = let h = begun-where disk y layout notice sweep mapped (notice-maps keeps begins.marks begins.union) old.columns.items taken d n on in inl (inl h.0, h.1)

  served-may : (d n : ℕ) → served.CoreMayChange lay disk setup began closed d n → May d n
  served-may d n (inl rows) = elim (had-or-goes rows.0.0 d rows.0.1) [
    | inl was ↦ inl (inl (rows.0.0, was), inr rows.1)
    | inr is ↦ inl (inr (rows.0.0, is.0, is.1), inr rows.1)
  ]
  served-may d n (inr past) = let size = changes_size disk Begun taken opened d stage.frame in inr (omega (arith, size, past))

  closed-may : (d n : ℕ) → MayEnd (is_some clear) closed.columns.items d n → May d n
  closed-may d n on =
      let h = end-reserved (is_some clear) mapped clears closed.columns.items d n on in
      elim (live-kept h.0.0 d h.0.1) [
        | inl was ↦ inl (inl (h.0.0, has_live y old.columns.items h.0.0 d (had-first h.0.0 d was)), inl h.1)
        | inr is ↦ inl (inr (h.0.0, is.0, is.1), inl h.1)
      ]

  pub since : Changes disk May opened back
  since =
      changes-then disk May opened closed.devices.items back
      (changes-more disk (served.CoreMayChange lay disk setup began closed) May opened closed.devices.items served-may s.leaves.frame)
      (changes-more disk (MayEnd (is_some clear) closed.columns.items) May closed.devices.items back closed-may e.closes.stage.frame)

  pub frame : Changes disk May taken back
  frame = changes-then disk May taken opened back (changes-more disk Begun May taken opened begun-may stage.frame) since

  -- no sector changes at the end but those of labels and maps
  same-contents : disk.tells → (d n k : ℕ) → (IsReserved mapped n → ⊥) → contents_of disk back d n k ≡ contents_of disk closed.devices.items d n k
  same-contents tells d n k other =
      ap (λ (l : List ℕ). slice_index l k)
      (changes_sector disk (MayEnd (is_some clear) closed.columns.items) closed.devices.items back d n e.closes.stage.frame tells (λ on. other (end-reserved (is_some clear) mapped clears closed.columns.items d n on).1))

  abbrev InTurn : ℕ → List Call → Type 0
  InTurn c closing = EndsInTurn mapped (has_device (slice_get v.ending.columns c)) false closing (settled_in_end v.ending.lost) ⊎ (IsGivenUp v.ending.lost closed.columns.items c × ((settled : Bool) × AreEndingInTurn mapped false closing settled))

  calls : (c d : ℕ) (told : List Call) → HasDeviceOn closed.columns.items c d → calls_of disk back d ≡ Some told → (closing : List Call) × (told ≡ s.now.calls d ++ closing) × InTurn c closing
  calls c d told live is =
      let before = calls_of disk closed.devices.items d in
      elim (e.closes.each c d live) [
        | inl turn ↦
            let t = turn-behind disk (λ more. EndsInTurn (is_some clear) (has_device (slice_get v.ending.columns c)) false more (settled_in_end v.ending.lost)) before (s.now.calls d) told (s.leaves.calls d)
            (subst (λ o. MoreOn (λ more. EndsInTurn (is_some clear) (has_device (slice_get v.ending.columns c)) false more (settled_in_end v.ending.lost)) before o) is turn) in
            (t.0, t.1, inl (ends-wider (is_some clear) mapped clears (has_device (slice_get v.ending.columns c)) false (settled_in_end v.ending.lost) t.0 t.2))
        | inr gave ↦
            let t = turn-behind disk (λ more. AreEndingInTurn (is_some clear) false more gave.1.0) before (s.now.calls d) told (s.leaves.calls d)
            (subst (λ o. MoreOn (λ more. AreEndingInTurn (is_some clear) false more gave.1.0) before o) is gave.1.1) in
            (t.0, t.1, inr (gave.0, (gave.1.0, turn-wider (is_some clear) mapped clears false gave.1.0 t.0 t.2)))
      ]

  first-settled : s.now.lost ≡ None → (c d : ℕ) (told : List Call) → HasDeviceOn closed.columns.items c d → calls_of disk back d ≡ Some told → (good : Bool) × (more : List Call) × (told ≡ s.now.calls d ++ call_of 2 0 0 good ∷ more)
  first-settled none c d told live is =
      let f = e.first (s.tells.lost ∙ none) in
      settle-behind disk (is_some clear) (calls_of disk closed.devices.items d) (s.now.calls d) told (s.leaves.calls d) (subst (λ o. MoreOn (SettlesFirstOf (is_some clear)) (calls_of disk closed.devices.items d) o) is
      (settles-ending (is_some clear) (has_device (slice_get f.mid c)) (calls_of disk closed.devices.items d) (calls_of disk f.dev d) (calls_of disk back d) (f.settles.once c d (device_within closed.columns.items c d live) live) (f.ends.stage.told d)))

  left-labelled : (loss : Loss) → s.now.lost ≡ Some loss → (c d : ℕ) (told : List Call) → HasDeviceOn closed.columns.items c d → calls_of disk back d ≡ Some told → (closing : List Call) × (told ≡ s.now.calls d ++ closing) × All IsLabelWrite closing
  left-labelled loss lost c d told live is =
      let rounds = (e.left loss (s.tells.lost ∙ lost)).rounds.1 in
      turn-behind disk (All IsLabelWrite) (calls_of disk closed.devices.items d) (s.now.calls d) told (s.leaves.calls d) (subst (λ o. MoreOn (All IsLabelWrite) (calls_of disk closed.devices.items d) o) is (rounds.told d))

  others : (d : ℕ) (told : List Call) → ((c : ℕ) → HasDeviceOn closed.columns.items c d → ⊥) → calls_of disk back d ≡ Some told → told ≡ s.now.calls d
  others d told free is = none-behind disk (calls_of disk closed.devices.items d) (s.now.calls d) told (s.leaves.calls d) (ap (λ o. option_and_then disk.calls o) (sym (e.closes.others d free)) ∙ is)

  pub leaves : LeavesLabelled disk a newest taken v back mapped began closed.columns.items s.now
  leaves = record {
    contents = λ tells d n k other kb. same-contents tells d n k other ∙ sym (s.leaves.contents tells d n k kb);
    calls = calls;
    first = first-settled;
    left = left-labelled;
    others = others;
    settled = λ none c d has. e.closes.settled none c d (live_of y v.ending.columns c d has);
    frame = frame;
  }

  -- ## Counts of faults

  pub rises-behind : (d : ℕ) → RisesOn disk opened back d → RisesOn disk taken back d
  rises-behind d h = rises-wider disk Begun (λ _ _. ⊥) taken opened back back d stage.frame h (changes-refl disk (λ _ _. ⊥) back)

  pub rises-before : (d : ℕ) → RisesOn disk taken opened d → RisesOn disk taken back d
  rises-before d h = rises-wider disk (λ _ _. ⊥) May taken taken opened back d (changes-refl disk (λ _ _. ⊥) taken) h since
