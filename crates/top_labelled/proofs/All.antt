-- All that is said of a run over an array with labels.
use Rattle.std.proofs.Common.{◌≡◌, ◌⊎◌, inl, inr, ℕ, ◌+◌, ◌<◌, ◌≤◌, List, ◌++◌, Bool, true, false, length, Option, Some, None, refl, sym, ◌∙◌, ap, subst, arith}
use Rattle.std.specs.Prelude.{Vec, ◌&&◌, ◌||◌, count_by, is_some, not}
use Rattle.std.specs.declared.alloc.Global.{Global}
use Rattle.blk_disk.specs.declared.disk.Call.{Call}
use Rattle.blk_disk.specs.declared.disk.Disk.{Ghosts as DiskGhosts}
use Rattle.blk_disk.specs.Devices.{Changes, RisesOn, calls_of, size_of}
use Rattle.lay_core.specs.Layout.{IsLayout, Shape}
use Rattle.lay_core.specs.declared.layout.Layout.{Ghosts as LayoutGhosts}
use Rattle.eng_array.proofs.Promised.{library-promises}
use Rattle.eng_array.specs.declared.start.Start.{Start}
use Rattle.eng_array.specs.Starts.{column_of}
use Rattle.eng_array.specs.declared.start.Start.TheVariants as start
use Rattle.eng_cols.specs.declared.column.Column.{Column}
use Rattle.eng_cols.specs.declared.spot.Loss.{Loss}
use Rattle.eng_cols.specs.Cols.{HasDevice, is_set_filling, HasDeviceOn}
use Rattle.eng_cols.specs.Deaths.{Dies, LosesDevice}
use Rattle.eng_cols.specs.Lost.{NotLost}
use Rattle.eng_cols.specs.Settable.{IsSettable}
use Rattle.eng_world.specs.Planning.{Graphs}
use Rattle.eng_world.specs.Rows.{HasHad}
use Rattle.eng_world.specs.World.{World}
use Rattle.eng_cols.specs.Stripes.{states_of}
use Rattle.eng_events.specs.Opened.{IsSetup}
use Rattle.eng_parts.specs.declared.setup.Setup.{Setup}
use Rattle.eng_parts.specs.declared.setup.Closed.{Closed}
use Rattle.raid_label.specs.declared.label.Label.{Label}
use Rattle.raid_map.specs.Asking.{file_of}
use Rattle.raid_map.specs.Regions.{Marks as Map}
use Rattle.raid_recon.specs.Array.{IsArray}
use Rattle.top_acts.specs.Begun.{HasBegun}
use Rattle.top_acts.specs.Cleared.{EndsInSteps, EndsMappedSettled}
use Rattle.top_acts.specs.Mapped.{LooksAtMaps, is_any_marked, unmarked}
use Rattle.top_acts.specs.Seats.{names}
use Rattle.top_acts.proofs.Having.{has_live}
use Rattle.top_acts.proofs.Named.{live_of}
use Rattle.top_close.specs.Calls.{MoreOn}
use Rattle.top_close.specs.Stage.{IsInUse}
use Rattle.top_close.proofs.StageLaws.{live_before}
use Rattle.top_rounds.specs.Calls.{label_writes}
use Rattle.top_serve.specs.Setups.{IsFew, graphs_in}
use Rattle.top_serve.specs.Served as served
use Rattle.top_serve.proofs.Deaths.{later}
use Rattle.top_run.specs.Work.{Service, Work}
use Rattle.top_run.specs.Works.{work_of}
use Rattle.top_run.specs.Ends.{EndsSo}
use Rattle.top_run.specs.Ran.{Ran}
use Rattle.top_run.proofs.All.{runs, runs-graphs, runs-kept, runs-now}
use Rattle.top_labelled.specs.Begun.{BeginsLabelled, IsColumnWithin, is_kept, opened_as, sweeps_in, without}
use Rattle.top_labelled.specs.Words.{began_of, notice_in, writes_maps, closing_label, clear_if, MarksAsked, line_of}
use Rattle.top_labelled.specs.Between.{HasEnded}
use Rattle.top_labelled.specs.Given.{RebuildsIf}
use Rattle.top_labelled.specs.Maps.{MapsEnd, MapsInOrder}
use Rattle.top_labelled.specs.Ran.{ClosesInSteps, IsRelabelled, LeavesLabelled, MayChangeLabelled, RanLabelled, onto}
use Rattle.top_labelled.proofs.Ending.{count, ends}
use Rattle.top_labelled.proofs.Exactly.{exactly}
use Rattle.top_labelled.proofs.Holding.{holding}
use Rattle.top_labelled.proofs.Kept.{FillsOn}
use Rattle.top_labelled.proofs.Labels.{relabelled}
use Rattle.top_labelled.proofs.Leaving.{ends-so, frame, had-begun, leaves, live-kept, loses, none-behind, rises-before, rises-behind, since, stays, turn-behind}
use Rattle.top_labelled.proofs.Looking.{begins-has, begins-read}
use Rattle.top_labelled.proofs.Ordered.{still-tells}
use Rattle.top_labelled.proofs.Restart.{rebuilds-alone, rebuilds-within, target-alone, target-sized}
use Rattle.top_labelled.proofs.Seconds.{clears-only, cleared, exact, kept-so, lost-so, others, untouched, unlost-so}
use Rattle.top_labelled.proofs.Turns.{in-order, same-calls}
use Rattle.top_labelled.proofs.Uncalled.{fill-is, quiet-calls}
use Rattle.top_labelled.proofs.Without.{began-asked, still-lives, why-unbegun}
use Rattle.top_close.proofs.Words.{NoCalls}

module _ {L D : Type 0} (lay : LayoutGhosts L) (disk : DiskGhosts D) (old : Setup L D) (asked began : Option Start) (faulty map : Bool) (devices : Vec (Option D) Global) (columns : Vec Column Global) (begun : List Column) (closed : Closed L D)
    (newest first : Label) (layout : IsLayout (lay.shape old.layout)) (can : RebuildsIf lay disk old asked)
    (begins : BeginsLabelled disk (work_of lay old asked) newest old.devices.items devices.items begun (is_kept map newest) first None) (named : columns.items ≡ without asked begun) (began_is : began ≡ began_of faulty asked old.columns.items begun)
    (marked : is_kept map newest ≡ true → MarksAsked (lay.shape old.layout) (file_of old.graphs.items) old.clients.items begins.read asked begins.union (unmarked (lay.shape old.layout).stripes newest.serial) begins.marks)
    (stripes : begins.marks.stripes ≡ (lay.shape old.layout).stripes) (serial : begins.marks.serial ≡ newest.serial)
    (array : IsArray disk (lay.shape old.layout) old.columns.items old.devices.items) (settable : IsSettable (lay.shape old.layout) old.columns.items) (kept : NotLost (lay.shape old.layout) (states_of (lay.shape old.layout) columns.items))
    (given : IsSetup lay disk (later old devices columns)) (few : IsFew (later old devices columns)) (s : served.IsServed lay disk (later old devices columns) began closed)
    (clear : Option Map) (clear_is : clear ≡ clear_if (writes_maps (is_kept map newest) begins.union && not (is_some closed.lost)) (unmarked (lay.shape old.layout).stripes newest.serial))
    (v : Service) (back : List (Option D)) (e : HasEnded lay disk closed first clear asked (onto asked old.columns.items) v back) where
  abbrev a : Work
  a = work_of lay old asked

  abbrev y : Shape
  y = lay.shape old.layout

  abbrev device : Option ℕ
  device = onto asked old.columns.items

  abbrev keeps : Bool
  keeps = is_kept map newest

  abbrev setup : Setup L D
  setup = later old devices columns

  abbrev taken : List (Option D)
  taken = old.devices.items

  abbrev opened : List (Option D)
  opened = devices.items

  abbrev back-from : List (Option D)
  back-from = closed.devices.items

  abbrev so : EndsSo lay closed disk v back
  so = ends-so lay disk closed first clear asked device v back e

  clears : is_some clear ≡ true → writes_maps (is_kept map newest) begins.union ≡ true
  clears = clears-only (writes_maps (is_kept map newest) begins.union) (not (is_some closed.lost)) (unmarked y.stripes newest.serial) clear clear_is

  abbrev filling : count_by is_set_filling old.columns.items ≤ 1
  filling = settable.filling

  -- ## The run

  -- a run over these columns, with its graphs and its last world, and the columns as its core is closed
  abbrev RunOver : List Column → Type 0
  RunOver cs = (run : Ran disk (opened_as a cs began) devices.items v back) × (run.now ≡ s.now) × (run.ends.kept ≡ closed.columns.items) × (run.graphs ≡ graphs_in setup)

  abbrev by-columns : Ran disk (opened_as a columns.items began) devices.items v back
  by-columns = runs lay disk setup began closed given few s v back so layout

  run-over : RunOver (without asked begun)
  run-over = subst RunOver named (by-columns, runs-now lay disk setup began closed given few s v back so layout, runs-kept lay disk setup began closed given few s v back so layout, runs-graphs lay disk setup began closed given few s v back so layout)

  abbrev run : Ran disk (opened_as a (without asked begun) began) devices.items v back
  run = run-over.0

  -- the run changes no sector before the rows, on a device that has it
  away : (n d : ℕ) → n < 64 → n < size_of disk devices.items d → served.CoreMayChange lay disk setup began closed d n → ⊥
  away n d low sized (inl rows) = let from = rows.1.0 in omega (arith, from, low)
  away n d low sized (inr past) = omega (arith, sized, past)

  kept-so-far : NotLost y (states_of y (without asked begun))
  kept-so-far = subst (λ (cs : List Column). NotLost y (states_of y cs)) named kept

  abbrev lost-since : Dies (LosesDevice disk old.columns.items old.devices.items devices.items) old.columns.items begun
  lost-since = loses lay disk old asked began faulty map devices columns begun closed newest first layout filling can begins named began_is s clear clears device v back e

  -- where no rebuild begins that was asked, its device had failed
  unbegun : began ≡ None → (asked ≡ None) ⊎ ((faulty ≡ true) ⊎ ((col : ℕ) × (device : ℕ) × (onto a.start a.columns ≡ Some device)
      × ((rebuild : Start) → a.start ≡ Some rebuild → column_of rebuild ≡ col) × HasDeviceOn a.columns col device × RisesOn disk old.devices.items devices.items device))
  unbegun none = elim (why-unbegun disk old.devices.items devices.items old.columns.items begun lost-since faulty asked (sym began_is ∙ none)) [
    | inl h ↦ inl h
    | inr h ↦ inr (elim h [
      | inl f ↦ inl f
      | inr w ↦ inr (w.col, w.device, w.asked, w.column, w.had, w.rose)
    ])
  ]

  line-is : v.line ≡ line_of y asked device run.ends.kept v.ending.lost
  line-is = e.line ∙ (ap (λ z. line_of (lay.shape z) asked device closed.columns.items v.ending.lost) s.tells.layout ∙ ap (λ (cs : List Column). line_of y asked device cs v.ending.lost) (sym run-over.2))

  -- what began was asked
  asked-so : (t : Start) → began ≡ Some t → asked ≡ Some t
  asked-so t is = began-asked faulty asked old.columns.items begun t (sym began_is ∙ is)

  abbrev before : (d : ℕ) → RisesOn disk old.devices.items devices.items d → RisesOn disk old.devices.items back d
  before = rises-before lay disk old asked began faulty map devices columns begun closed newest first layout filling can begins named began_is s clear clears device v back e

  abbrev behind : (d : ℕ) → RisesOn disk devices.items back d → RisesOn disk old.devices.items back d
  behind = rises-behind lay disk old asked began faulty map devices columns begun closed newest first layout filling can begins named began_is s clear clears device v back e

  abbrev within : IsColumnWithin asked (length old.columns.items)
  within = rebuilds-within lay disk old asked can

  abbrev staying : (c d : ℕ) → HasDeviceOn closed.columns.items c d → IsInUse old.columns.items d → (k : ℕ) × HasDeviceOn begun k d
  staying = stays lay disk old asked began faulty map devices columns begun closed newest first layout filling can begins named began_is s clear clears device v back e

  -- ## The beginning

  looks-none : LooksAtMaps disk y (unmarked y.stripes newest.serial) begins.union old.columns.items begins.read taken begins.looked None
  looks-none = subst (λ (o : Option Loss). LooksAtMaps disk y (unmarked y.stripes newest.serial) begins.union old.columns.items begins.read taken begins.looked o)
      (begins-read disk y (notice_in keeps begins.marks) (sweeps_in newest begins.union) (unmarked y.stripes newest.serial) begins.union newest first old.columns.items begins.read begun taken begins.looked opened None begins.found filling begins.unread refl begins.has) begins.looks

  has : HasBegun disk (notice_in keeps begins.marks) (sweeps_in newest begins.union) y newest first begins.read begun begins.looked opened None begins.found
  has = begins-has disk y (notice_in keeps begins.marks) (sweeps_in newest begins.union) (unmarked y.stripes newest.serial) begins.union newest first old.columns.items begins.read begun taken begins.looked opened None begins.found filling begins.unread refl begins.has

  -- ## Maps

  -- devices of columns have a second sector
  sized : (c d : ℕ) → HasDeviceOn closed.columns.items c d → 2 ≤ size_of disk taken d
  sized c d live = elim (live-kept lay disk old asked began faulty map devices columns begun closed newest first layout filling can begins named began_is s clear clears device v back e c d live) [
    | inl was ↦
        let on = live_before (LosesDevice disk old.columns.items taken opened) old.columns.items begun c d lost-since was in
        let large = array.there c d (has_live y old.columns.items c d on) in omega (arith, large)
    | inr is ↦ target-sized lay disk old asked c d is.0 can (asked-so (start.Fill c d is.0) is.1)
  ]

  unlost : v.ending.lost ≡ None → closed.lost ≡ None
  unlost = unlost-so (lay.shape closed.layout) closed.lost v.ending.lost (states_of (lay.shape closed.layout) v.ending.columns) e.lost

  maps-now : MapsEnd disk a newest taken v back map begins.read begins.union begins.marks (graphs_in setup) s.now
  maps-now = record {
    untouched = untouched disk a newest first e.last taken opened back-from back begun closed.columns.items v map closed.lost clear filling begins stripes serial (served.CoreMayChange lay disk setup began closed) s.leaves.frame (λ d size. away 1 d (omega arith) (omega (arith, size))) sized staying e.closes clear_is unlost;
    cleared = cleared disk a newest first e.last taken opened back-from back begun closed.columns.items v map closed.lost clear filling begins stripes serial (served.CoreMayChange lay disk setup began closed) s.leaves.frame (λ d size. away 1 d (omega arith) (omega (arith, size))) sized staying e.closes clear_is unlost;
    asked = λ clean one. exactly y old.graphs.items old.clients.items s.now few.clients s.rests.items begins.read asked newest.serial begins.union begins.marks begins.looks.grows (marked (kept-so map newest one clean));
    exact = λ tells clean one loss lost. exact disk a newest first e.last taken opened back-from back begun closed.columns.items v map closed.lost clear filling begins stripes serial (served.CoreMayChange lay disk setup began closed) s.leaves.frame (λ d size. away 1 d (omega arith) (omega (arith, size))) sized staying e.closes clear_is unlost tells clean one loss (s.tells.lost ∙ lost);
    others = others disk a newest first e.last taken opened back-from back begun closed.columns.items v map closed.lost clear filling begins stripes serial (served.CoreMayChange lay disk setup began closed) s.leaves.frame (λ d size. away 1 d (omega arith) (omega (arith, size))) sized staying e.closes clear_is unlost;
  }

  -- ## Calls

  -- a device that no column has as the core is opened isn't called before it is closed, if it was in use
  idle : (d : ℕ) → ((c : ℕ) → HasDeviceOn begun c d → ⊥) → (c : ℕ) → HasDeviceOn old.columns.items c d → NoCalls (calls_of disk opened d) (calls_of disk back-from d)
  idle d none c was = same-calls disk (calls_of disk opened d) (calls_of disk back-from d) (s.start.calls d) (s.now.calls d) (s.opens.calls d) (s.leaves.calls d)
      (quiet-calls y layout (graphs_in setup) (library-promises old.graphs.items) s.start s.opens.opening s.events s.now s.rests.run d never-had)
      (still-tells disk (served.CoreMayChange lay disk setup began closed) opened back-from d s.leaves.frame)
    where
      filled : (k : ℕ) → FillsOn began k d → ⊥
      filled k is =
          let same = target-alone lay disk old asked k d is.0 can (asked-so (start.Fill k d is.0) is.1) c was in
          none k (still-lives faulty asked old.columns.items begun k d is.0 (sym began_is ∙ is.1) (subst (λ (i : ℕ). HasDeviceOn old.columns.items i d) same was))

      never-had : (k : ℕ) → HasHad s.start s.events k d → ⊥
      never-had k (inl has) = none k (had-begun lay disk old asked began faulty map devices columns begun closed newest first layout filling can begins named began_is s clear clears device v back e k d
          (live_of y columns.items k d (subst (λ cs. HasDevice cs k d) s.opens.columns has)))
      never-had k (inr has) = filled k (fill-is began (length (s.now.clients 16).items) s.events s.rests.begins k d has.0 has.1)

  order : is_kept map newest ≡ true → MapsInOrder disk a taken v back
  order is = in-order disk a newest first e.last taken opened back-from back begun closed.columns.items v (is_kept map newest) clear begins is (served.CoreMayChange lay disk setup began closed) s.leaves.frame idle
      (λ c d k live was. staying c d live (record { col = k; live = was })) e.closes (λ none. e.first (unlost none))
      (λ none. ap (λ (o : Option Map). is_some o) clear_is ∙ lost-so (writes_maps (is_kept map newest) begins.union) closed.lost (unmarked y.stripes newest.serial) (ap (λ b. b || is_any_marked begins.union) is) (unlost none))

  -- ## The end, step by step

  steps-now : EndsInSteps disk (clear_if (writes_maps (is_kept map newest) begins.union && not (is_some s.now.lost)) (unmarked a.layout.stripes newest.serial)) y s.now.lost (closing_label first) e.last closed.columns.items v.ending.columns back-from back v.ending.lost
  steps-now =
      subst (λ (o : Option Loss). EndsInSteps disk (clear_if (writes_maps (is_kept map newest) begins.union && not (is_some o)) (unmarked a.layout.stripes newest.serial)) y o (closing_label first) e.last closed.columns.items v.ending.columns back-from back v.ending.lost) s.tells.lost
      (subst (λ (m : Option Map). EndsInSteps disk m y closed.lost (closing_label first) e.last closed.columns.items v.ending.columns back-from back v.ending.lost) clear_is
      (subst (λ l. EndsInSteps disk clear (lay.shape l) closed.lost (closing_label first) e.last closed.columns.items v.ending.columns back-from back v.ending.lost) s.tells.layout e.steps))

  -- an array that wasn't lost in the run clears its maps where some were written
  clear-unlost : closed.lost ≡ None → clear ≡ clear_if (writes_maps (is_kept map newest) begins.union) (unmarked y.stripes newest.serial)
  clear-unlost none = clear_is ∙ ap (λ (b : Bool). clear_if b (unmarked y.stripes newest.serial)) (ap (λ (o : Option Loss). writes_maps (is_kept map newest) begins.union && not (is_some o)) none ∙ and-true (writes_maps (is_kept map newest) begins.union))
    where
      and-true : (b : Bool) → (b && true) ≡ b
      and-true true = refl
      and-true false = refl

  -- all devices were settled before any of them got a label
  before-now : s.now.lost ≡ None → EndsMappedSettled disk (clear_if (writes_maps (is_kept map newest) begins.union) (unmarked a.layout.stripes newest.serial)) (closing_label first) e.last closed.columns.items v.ending.columns back-from back v.ending.lost
  before-now none =
      let was : closed.lost ≡ None = s.tells.lost ∙ none in
      subst (λ (m : Option Map). EndsMappedSettled disk m (closing_label first) e.last closed.columns.items v.ending.columns back-from back v.ending.lost) (clear-unlost was) (e.first was)

  -- no more labels are written behind the run than the counter rises by
  times-now : (d : ℕ) (told : List Call) → calls_of disk back d ≡ Some told → (closing : List Call) × (told ≡ s.now.calls d ++ closing) × (first.counter + label_writes closing ≤ e.last.counter)
  times-now d told is = turn-behind disk (λ more. first.counter + label_writes more ≤ e.last.counter) (calls_of disk back-from d) (s.now.calls d) told (s.leaves.calls d)
      (subst (λ o. MoreOn (λ more. first.counter + label_writes more ≤ e.last.counter) (calls_of disk back-from d) o) is (e.closes.times d))

  labelled-now : (c d : ℕ) (told : List Call) → HasDeviceOn v.ending.columns c d → calls_of disk back d ≡ Some told → (closing : List Call) × (told ≡ s.now.calls d ++ closing) × (1 ≤ label_writes closing)
  labelled-now c d told live is = turn-behind disk (λ more. 1 ≤ label_writes more) (calls_of disk back-from d) (s.now.calls d) told (s.leaves.calls d)
      (subst (λ o. MoreOn (λ more. 1 ≤ label_writes more) (calls_of disk back-from d) o) is (e.closes.labelled c d live))

  closes-now : ClosesInSteps disk a newest taken v back (writes_maps (is_kept map newest) begins.union) closed.columns.items first e.last s.now
  closes-now = record {
    served = back-from;
    holds = λ tells d n k within. sym (s.leaves.contents tells d n k within);
    calls = λ d told is. none-behind disk (calls_of disk back-from d) (s.now.calls d) told (s.leaves.calls d) is;
    steps = steps-now;
    before = before-now;
    labelled = labelled-now;
    times = times-now;
  }

  -- ## All of it

  pub ran : RanLabelled disk a newest old.devices.items v back faulty map
  ran = record {
    opened = devices.items;
    begun = begun;
    first = first;
    last = e.last;
    began = began;
    begins = begins;
    kept = kept-so-far;
    began_is = began_is;
    unbegun = unbegun;
    run = run;
    line = line-is;
    holds = holding disk a layout newest old.devices.items devices.items begun keeps first began begins.looked begins.read begins.union begins.marks begins.found looks-none has begins.lost_is array settable within (rebuilds-alone lay disk old asked can) kept-so-far run.start run.opens;
    leaves =
        subst (λ (w : World). LeavesLabelled disk a newest old.devices.items v back (writes_maps (is_kept map newest) begins.union) began run.ends.kept w) (sym run-over.1)
        (subst (λ (cs : List Column). LeavesLabelled disk a newest old.devices.items v back (writes_maps (is_kept map newest) begins.union) began cs s.now) (sym run-over.2)
        (leaves lay disk old asked began faulty map devices columns begun closed newest first layout filling can begins named began_is s clear clears device v back e));
    since = since lay disk old asked began faulty map devices columns begun closed newest first layout filling can begins named began_is s clear clears device v back e;
    closes =
        subst (λ (w : World). ClosesInSteps disk a newest taken v back (writes_maps (is_kept map newest) begins.union) run.ends.kept first e.last w) (sym run-over.1)
        (subst (λ (cs : List Column). ClosesInSteps disk a newest taken v back (writes_maps (is_kept map newest) begins.union) cs first e.last s.now) (sym run-over.2) closes-now);
    maps =
        subst (λ (w : World). MapsEnd disk a newest taken v back map begins.read begins.union begins.marks run.graphs w) (sym run-over.1)
        (subst (λ (gs : Graphs). MapsEnd disk a newest taken v back map begins.read begins.union begins.marks gs s.now) (sym run-over.3) maps-now);
    order = order;
    labels =
        subst (λ (cs : List Column). IsRelabelled disk a newest old.devices.items v back (notice_in (is_kept map newest) begins.marks) (names newest begins.read) begun cs first e.last) (sym run-over.2)
        (relabelled disk a newest old.devices.items devices.items closed.devices.items back begun closed.columns.items keeps first e.last v (served.CoreMayChange lay disk setup began closed) clear
        begins.looked begins.read begins.union begins.marks begins.found filling looks-none has s.leaves.frame (λ d size. away 0 d (omega arith) (omega (arith, size))) staying e.closes);
    count = count disk a newest old.devices.items devices.items back begun began v device lost-since before behind within asked-so run line-is;
    ends = ends disk a newest old.devices.items devices.items back begun began v device lost-since before behind within asked-so run line-is;
  }

  -- all that may have changed, from the beginning on
  pub moved : Changes disk (MayChangeLabelled disk a newest old.devices.items v back (writes_maps (is_kept map newest) begins.union) began) old.devices.items back
  moved = frame lay disk old asked began faulty map devices columns begun closed newest first layout filling can begins named began_is s clear clears device v back e
