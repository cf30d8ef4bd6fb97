-- Each event keeps all that a core keeps, and there is room for it.
use Rattle.std.proofs.Common.{◌≡◌, ◌⊎◌, ℕ, ◌<◌, ◌≤◌, ◌+◌, ◌++◌, List, [], ◌∷◌, length, Bool, if◌then◌else◌, subst, sym, ap, ◌∙◌, arith, inl, inr, refl, true, Option, Some, None, slice_get}
use Rattle.std.specs.Prelude.{slice_index_or}
use Rattle.std.proofs.lemmas.Bool.{cases_lt}
use Rattle.std.proofs.lemmas.List.{get_or_past, length_push}
use Rattle.blk_plain.specs.declared.op.Op.{Op}
use Rattle.blk_disk.specs.declared.disk.Disk.{Ghosts as DiskGhosts}
use Rattle.lay_core.specs.Layout.{Shape}
use Rattle.lay_core.specs.declared.layout.Layout.{Ghosts as LayoutGhosts}
use Rattle.graph_mean.specs.Graph.{Held}
use Rattle.eng_world.specs.declared.item.Item.{Item}
use Rattle.eng_world.specs.declared.item.Item.TheVariants as item
use Rattle.eng_world.specs.declared.item.Traced.{Traced}
use Rattle.eng_world.specs.declared.item.Traced.TheVariants as event
use Rattle.eng_world.specs.declared.item.Reply.{Reply}
use Rattle.eng_world.specs.World.{Running, Current, Client, World, Nothing as Idles, Waits as IsWaiting}
use Rattle.graph_mean.specs.declared.step.Phase.{Phase}
use Rattle.graph_mean.specs.declared.step.Phase.TheVariants.{Undone}
use Rattle.eng_one.specs.Control.{mark_of}
use Rattle.eng_cols.specs.Cols.{ColumnState, Dead}
use Rattle.eng_world.specs.Step.{Step}
use Rattle.eng_world.specs.Pool.{HaveItems}
use Rattle.eng_rest.specs.Left.{below, cost, run_left, current_left, alive, IsOwn, EachWithin, IsIndexed}
use Rattle.eng_rest.proofs.Summing.{below-le}
use Rattle.eng_clients.specs.declared.stage.Stage.{Stage}
use Rattle.eng_clients.specs.declared.stage.Stage.TheVariants.{Nothing, Waits, Runs}
use Rattle.eng_state.specs.declared.array.Array.{Array}
use Rattle.eng_log.specs.declared.region.Region.{Region}
use Rattle.eng_ends.specs.Copied.{AreLaid}
use Rattle.eng_clients.specs.Desk.{Desk, desk_at, no_desk, item_at}
use Rattle.eng_log.specs.Handed.{no_region}
use Rattle.eng_log.specs.Log.{Logged, noted}
use Rattle.eng_events.specs.Opened.{FitThePool}
use Rattle.eng_state.specs.Room.{HasRoom}
use Rattle.eng_array.specs.Run.{HasRun, Notes}
use Rattle.eng_array.specs.Serving.{IsServing, AreServing, most_for}
use Rattle.eng_state.specs.Shows.{Shows, ShowsCurrent}
use Rattle.eng_state.specs.Sound.{IsSound, RunsWell}
use Rattle.eng_array.specs.Steady.{events_left, IsSteady}
use Rattle.eng_state.specs.Steps.{graphs_of, Follows}
use Rattle.eng_array.proofs.EventsLeft.{reached-indexed, own-falls, fail-falls, alive-some, node-left, item-left}
use Rattle.eng_array.proofs.Reaching.{run-on}
use Rattle.eng_array.proofs.Stocked.{stock-on}
use Rattle.eng_state.proofs.Running.{runs_below}
use Rattle.eng_state.proofs.Served.{item-below}
use Rattle.eng_state.proofs.Shown.{runs-shown, shown-running, replies-shown}

-- an event of an item, or the failure of a column
abbrev pub IsEvent : Traced → Type 0
IsEvent e = IsOwn e ⊎ ((c : ℕ) × (e ≡ event.Fail c))

-- an event that was noted alone is traced
pub notes-of : (l : Logged) (e : Traced) (m : Logged) → m ≡ noted l e → Notes l e m
notes-of l e m is = subst (Notes l e) (sym is) (record { keeps = refl; trace = refl; history_room = refl; trace_room = refl; regions = refl })

module _ {L D : Type 0} (lay : LayoutGhosts L) (disk : DiskGhosts D) where
  -- a client with an item is one of them
  pub item-among : (core : Array L D) → IsSound lay disk core → (c : ℕ) (i : Item) → item_at (desk_at core.clients c) ≡ Some i → c < 17
  item-among core sound c i at = elim (cases_lt c 17) [
    | inl lt ↦ lt
    | inr over ↦
        let all = sound.well.all in
        let there = item-below (desk_at core.clients c) i at in
        let past : length (desk_at core.clients c).items ≡ 0 = ap (λ (e : Desk). length e.items) (get_or_past core.clients c no_desk (omega (arith, all, over))) in
        absurd (let u : ⊥ = omega (arith, past, there) in u)
  ]

  -- what an event keeps beside soundness
  pub record Keeps (old : Array L D) (e : Traced) (new : Array L D) : Type 0 where
    pub layout : new.layout ≡ old.layout
    pub graphs : new.graphs ≡ old.graphs
    pub log : Notes old.log e new.log
    pub there : length new.pool.seats ≡ length old.pool.seats
    pub items : (c : ℕ) → (desk_at new.clients c).items ≡ (desk_at old.clients c).items
    pub serving : (c : ℕ) → IsServing (lay.shape old.layout) old.graphs.items (desk_at new.clients c)

  -- only seventeen clients have items
  pub shown-items : (core : Array L D) (w : World) → IsSound lay disk core → Shows disk core w → HaveItems w 17
  shown-items core w sound s = (omega arith, λ c l. (s.clients c).items ∙ ap (λ (d : Desk). d.items) (get_or_past core.clients c no_desk (let all = sound.well.all in omega (arith, all, l))))

  -- no operation that runs has a graph of more nodes than its item may have
  pub shown-within : (core : Array L D) (w : World) (most : ℕ → ℕ → ℕ) → IsSound lay disk core → Shows disk core w → AreServing lay core
      → ((c n : ℕ) (op : Op) (file : Option ℕ) → slice_get (desk_at core.clients c).items n ≡ Some (item.Run op file) → most_for (lay.shape core.layout) core.graphs.items op file ≤ most c n)
      → EachWithin most w
  shown-within core w most sound s serving bound c i r runs at =
      let d = desk_at core.clients c in
      let h = runs-shown disk core w s c r runs in
      let well : RunsWell (lay.shape core.layout) core.graphs.items core.pool d = (sound.well.each c (runs_below (lay.shape core.layout) core.graphs.items core.pool core.clients c sound.well h.0)).runs h.0 in
      let p = (serving c).runs h.0 well.op d.file well.item in
      let n = p.nodes in
      let b = bound c (length d.replies) well.op d.file well.item in
      let index : length d.replies ≡ i = sym (ap (λ (q : Running). q.plan.index) h.2) ∙ at in
      let m : most c (length d.replies) ≡ most c i = ap (most c) index in
      let g : length r.plan.graph.nodes ≡ length d.run.graph.nodes = ap (λ (q : Running). length q.plan.graph.nodes) h.2 in
      omega (arith, n, b, m, g)

  -- the run that led to what a steady core shows
  pub steady-indexed : (core : Array L D) → IsSteady lay disk core → (s : HasRun lay disk core) → IsIndexed s.now
  steady-indexed core k s = reached-indexed (lay.shape core.layout) (graphs_of core.graphs.items) s.opening s.events s.now s.is_opening s.run

  -- where an event may come the trace has room for one
  pub has-room : (core : Array L D) → (k : IsSteady lay disk core) → 1 ≤ events_left k.places.most k.reached.now → HasRoom core.log
  has-room core k some keeps = let a = k.places.trace keeps in omega (arith, a, some)

  -- ## Room for an event that may come

  module _ (core : Array L D) (k : IsSteady lay disk core) (none : core.lost ≡ None) (c : ℕ) where
    abbrev d : Desk
    d = desk_at core.clients c

    abbrev seen : Client
    seen = k.reached.now.clients c

    -- a client with an item of which an event is left
    item-room : (i : Item) → item_at d ≡ Some i → ((m : ℕ) → 1 ≤ current_left m seen.current) → HasRoom core.log
    item-room i at some = has-room core k (item-left k.places.most k.reached.now c (item-among core k.sound c i at) left some)
      where
        there : length d.replies < length d.items
        there = item-below d i at

        left : length seen.replies < length seen.items
        left =
            let a = ap (λ (l : List Reply). length l) (replies-shown disk core k.reached.now k.reached.shows none c) in
            let b = ap (λ (l : List Item). length l) (k.reached.shows.clients c).items in
            let l = there in
            omega (arith, a, b, l)

    run-room : (runs : d.stage ≡ Runs) → ((m : ℕ) → 1 ≤ run_left m d.run.phase (mark_of d.run) (length d.run.graph.nodes)) → HasRoom core.log
    run-room runs some =
        let well : RunsWell (lay.shape core.layout) core.graphs.items core.pool d = (k.sound.well.each c (runs_below (lay.shape core.layout) core.graphs.items core.pool core.clients c k.sound.well runs)).runs runs in
        let s = shown-running disk.tells core.lost core.pool d seen (k.reached.shows.clients c) runs in
        item-room (item.Run well.op d.file) well.item (λ m. subst (λ (a : Current). 1 ≤ current_left m a) (sym s.1) (some m))

    -- one that runs, and has a node that may be fired or end
    pub node-room : (n : ℕ) → d.stage ≡ Runs → n < length d.run.graph.nodes → 1 ≤ cost (mark_of d.run n) → HasRoom core.log
    node-room n runs below more = run-room runs (λ m. node-left m d.run.phase (mark_of d.run) n (length d.run.graph.nodes) below more)

    -- one that was undone
    pub undone-room : d.stage ≡ Runs → d.run.phase ≡ Undone → HasRoom core.log
    undone-room runs undone = run-room runs (λ m. subst (λ (p : Phase). 1 ≤ run_left m p (mark_of d.run) (length d.run.graph.nodes)) (sym undone) (omega arith))

    -- one that waits, or whose item hasn't begun
    pub waits-room : (i : Item) → item_at d ≡ Some i → d.stage ≡ Waits → HasRoom core.log
    waits-room i at waits =
        let s : seen.current ≡ IsWaiting = subst (λ (t : Stage). ShowsCurrent disk.tells core.pool t d seen.current) waits (k.reached.shows.clients c).current in
        item-room i at (λ m. subst (λ (a : Current). 1 ≤ current_left m a) (sym s) (omega arith))

    pub begin-room : (i : Item) → item_at d ≡ Some i → d.stage ≡ Nothing → HasRoom core.log
    begin-room i at nothing =
        let s : seen.current ≡ Idles = subst (λ (t : Stage). ShowsCurrent disk.tells core.pool t d seen.current) nothing (k.reached.shows.clients c).current in
        item-room i at (λ m. subst (λ (a : Current). 1 ≤ current_left m a) (sym s) (omega arith))

  -- a column that may fail
  pub fail-room : (core : Array L D) (k : IsSteady lay disk core) (column : ℕ) → column < length core.cols.states → (slice_get core.cols.states column ≡ Some Dead → ⊥) → HasRoom core.log
  fail-room core k column below there =
      let a = alive-some core.cols.states column below there in
      let e : alive k.reached.now.columns ≡ alive core.cols.states = ap alive k.reached.shows.columns in
      has-room core k (omega (arith, a, e))

  module _ (old new : Array L D) (e : Traced) (is : IsEvent e) (steady : IsSteady lay disk old) (sound : IsSound lay disk new) (follows : Follows lay disk old e new) (keeps : Keeps old e new) where
    abbrev y : Shape
    y = lay.shape old.layout

    abbrev gs : List Held
    gs = old.graphs.items

    same-shape : lay.shape new.layout ≡ y
    same-shape = ap lay.shape keeps.layout

    same-graphs : new.graphs.items ≡ gs
    same-graphs = ap (λ v. v.items) keeps.graphs

    serving : AreServing lay new
    serving = λ c. subst (λ (v : Shape). IsServing v new.graphs.items (desk_at new.clients c)) (sym same-shape) (subst (λ (v : List Held). IsServing y v (desk_at new.clients c)) (sym same-graphs) (keeps.serving c))

    abbrev reached : HasRun lay disk new
    reached = run-on lay disk old new e same-shape same-graphs keeps.log follows steady.reached

    bound : (c n : ℕ) (op : Op) (file : Option ℕ) → slice_get (desk_at new.clients c).items n ≡ Some (item.Run op file) → most_for (lay.shape new.layout) new.graphs.items op file ≤ steady.places.most c n
    bound c n op file at =
        subst (λ (v : Shape). most_for v new.graphs.items op file ≤ steady.places.most c n) (sym same-shape) (subst (λ (v : List Held). most_for y v op file ≤ steady.places.most c n) (sym same-graphs)
        (steady.places.bound c n op file (ap (λ (l : List Item). slice_get l n) (sym (keeps.items c)) ∙ at)))

    abbrev was : World
    was = steady.reached.now

    abbrev now : World
    now = (follows steady.reached.now steady.reached.shows).0

    falls : events_left steady.places.most now < events_left steady.places.most was
    falls =
        let f = follows steady.reached.now steady.reached.shows in
        let x = steady-indexed old steady steady.reached in
        let before = shown-within old was steady.places.most steady.sound steady.reached.shows steady.serving steady.places.bound in
        let after = shown-within new f.0 steady.places.most sound f.1 serving bound in
        elim is [
          | inl own ↦ own-falls y (graphs_of gs) was f.0 x e steady.places.most own (shown-items old was steady.sound steady.reached.shows) before after f.2
          | inr at ↦ fail-falls y (graphs_of gs) was f.0 x at.0 steady.places.most (ap (λ (cols : List ColumnState). length cols) steady.reached.shows.columns ∙ steady.sound.seated.fit.columns) before after (subst (λ (v : Traced). Step y (graphs_of gs) v was f.0) at.1 f.2)
        ]

    traced : new.log.keeps ≡ true → length new.log.trace + events_left steady.places.most now ≤ new.log.trace_room
    traced on =
        let kept : old.log.keeps ≡ true = sym keeps.log.keeps ∙ on in
        let one : length new.log.trace ≡ length old.log.trace + 1 = ap (λ (t : List Traced). length t) (keeps.log.trace ∙ ap (λ (b : Bool). if b then old.log.trace ++ e ∷ [] else old.log.trace) kept) ∙ length_push old.log.trace e in
        let a = steady.places.trace kept in
        let b = keeps.log.trace_room in
        let f = falls in
        omega (arith, one, a, b, f)

    history : below (λ c. length (desk_at new.clients c).items) 17 ≤ new.log.history_room
    history =
        let a = below-le (λ c. length (desk_at old.clients c).items) (λ c. length (desk_at new.clients c).items) 17 (λ c l. let z = ap (λ (i : List Item). length i) (keeps.items c) in omega (arith, z)) in
        let b = steady.places.history in
        let d = keeps.log.history_room in
        omega (arith, a, b, d)

    laid : AreLaid new.log.handed new.clients
    laid = record {
      clients = let a = steady.laid.clients in let b = steady.sound.well.all in let d = sound.well.all in let r = ap (λ (l : List (List Region)). length l) keeps.log.regions in omega (arith, a, b, d, r);
      items = λ c l.
          let a = steady.laid.items c (let b = steady.sound.well.all in let d = sound.well.all in omega (arith, l, b, d)) in
          let i = ap (λ (v : List Item). length v) (keeps.items c) in
          let r = ap (λ (v : List (List Region)). length (slice_index_or v c [])) keeps.log.regions in
          omega (arith, a, i, r);
      reads = λ c i span file at.
          ap (λ (v : List (List Region)). (slice_index_or (slice_index_or v c []) i no_region).count) keeps.log.regions
          ∙ steady.laid.reads c i span file (ap (λ (v : List Item). slice_get v i) (sym (keeps.items c)) ∙ at);
    }

    pub steady-on : IsSteady lay disk new
    steady-on = record {
      sound = sound;
      reached = reached;
      serving = serving;
      places = record { most = steady.places.most; bound = bound; trace = traced; history = history };
      laid = laid;
      fit = subst (λ (v : List Held). FitThePool (graphs_of v)) (sym same-graphs) steady.fit;
      stock = stock-on lay disk old new keeps.layout keeps.graphs keeps.there keeps.items steady.stock;
    }
