-- What a sound core whose world is reached by a run knows of its clients while the array isn't lost.
use Rattle.std.proofs.Common.{◌≡◌, ◌≢◌, ℕ, ◌<◌, List, length, subst, sym, ap, ◌∙◌, inl, inr, refl, Bool, true, Option, Some, None, slice_get}
use Rattle.std.specs.Prelude.{IsSome, cond, slice_index}
use Rattle.blk_plain.specs.declared.op.Op.{Op}
use Rattle.blk_plain.specs.declared.op.Op.TheVariants.{Write, Writes, Read, Rebuild, Sync}
use Rattle.blk_disk.specs.declared.disk.Disk.{Ghosts as DiskGhosts}
use Rattle.lay_core.specs.Layout.{Shape}
use Rattle.lay_core.specs.declared.layout.Layout.{Ghosts as LayoutGhosts}
use Rattle.graph_mean.specs.declared.graph.Node.{Node}
use Rattle.graph_mean.specs.declared.graph.Node.TheVariants.{Rd, Wr, Xor, Cmt, Trm}
use Rattle.graph_mean.specs.declared.task.Kind.{Kind}
use Rattle.graph_mean.specs.declared.step.Status.TheVariants as status
use Rattle.graph_mean.specs.declared.step.Phase.TheVariants as phase
use Rattle.graph_mean.specs.Graph.{Held, kind_at}
use Rattle.graph_mean.specs.Atomic.{IsLate}
use Rattle.graph_mean.specs.Steps.{IsCall, IsRunning, UnitOf, stripe_of, is_good}
use Rattle.eng_one.specs.Control.{mark_of}
use Rattle.eng_cols.specs.declared.spot.Spot.{Spot}
use Rattle.eng_cols.specs.Cols.{ColumnState, HasDevice}
use Rattle.eng_cols.specs.Seats.{is_available, seat, spot}
use Rattle.eng_cols.specs.Lost.{NotLost}
use Rattle.eng_cols.specs.Contents.{InSync}
use Rattle.eng_cols.proofs.Spots.{available-seat}
use Rattle.eng_world.specs.declared.item.Item.{Item}
use Rattle.eng_world.specs.declared.item.Item.TheVariants as item
use Rattle.eng_world.specs.declared.item.Reply.{Reply}
use Rattle.eng_world.specs.World.{Running, item_now, Nothing as Idles, Waits as IsWaiting, Runs as IsRunningAs}
use Rattle.eng_world.specs.Planning.{InReach}
use Rattle.eng_world.specs.Invariant.{IsKind, IsServed, WasSeat, Invariant, Reached}
use Rattle.eng_world.specs.Laws.{RunsAtomic}
use Rattle.eng_world.specs.Legal.{StandsAt}
use Rattle.eng_world.specs.Tracks.{is_forward}
use Rattle.eng_world.proofs.Reaching.{reaches}
use Rattle.eng_world.proofs.Promised.{not-lost, runs-atomic}
use Rattle.eng_world.proofs.Open.{IsOpen, run-open}
use Rattle.eng_world.proofs.Settling.{undone-none, none-out-not}
use Rattle.eng_clients.specs.declared.stage.Stage.{Stage}
use Rattle.eng_clients.specs.declared.stage.Stage.TheVariants.{Nothing, Waits, Runs}
use Rattle.eng_state.specs.declared.array.Array.{Array}
use Rattle.eng_clients.specs.Desk.{Desk, desk_at, item_at, spot_at}
use Rattle.eng_state.specs.Shows.{ShowsCurrent, HoldBytes, running_as}
use Rattle.eng_state.specs.Sound.{IsSound, IsOutOf, RunsWell, mode_for}
use Rattle.eng_state.specs.Steps.{graphs_of}
use Rattle.eng_plan.specs.Asked.{IsInside, mode_by}
use Rattle.eng_state.specs.Beginning.{IsAsked}
use Rattle.eng_plan.specs.Asked.{HasBlocks}
use Rattle.eng_state.specs.Serves.{Serves, RunsOn, Stands}
use Rattle.eng_state.specs.Bad.{Standing, IsOnColumn}
use Rattle.eng_array.specs.Run.{HasRun}
use Rattle.eng_array.specs.Serving.{NamesGraph, AreServing}
use Rattle.eng_array.proofs.OnSeats.{OnSeat, run-on-seats}
use Rattle.eng_array.proofs.Promised.{library-promises}
use Rattle.eng_state.proofs.Shown.{shown-running, replies-shown}
use Rattle.eng_state.proofs.Running.{runs_below, read_buf, read_unit, write_buf, write_unit}
use Rattle.eng_state.proofs.Served.{same-op}

-- an operation in reach whose span has blocks touches some
inside-of : (y : Shape) → (op : Op) → HasBlocks op → InReach y op → IsInside y op
inside-of y op blocks reach = record { asked = blocks; inside = reach.0; short = reach.1 }

-- a task of an operation's kind is held as the operation is
mode-of : (op : Op) (k : Kind) → IsKind op k → mode_for k ≡ mode_by op
mode-of (Write span pattern) k is = ap mode_for is
mode-of (Writes patches) k is = ap mode_for is
mode-of (Read span) k is = ap mode_for is
mode-of (Rebuild stripe) k is = ap mode_for is.1
mode-of (Sync stripe) k is = ap mode_for is

-- an item that may be asked has blocks
asked-blocks : (y : Shape) (op : Op) (file : Option ℕ) → IsAsked y (item.Run op file) → HasBlocks op
asked-blocks y op file h = h

named-there : (graphs : List Held) (op : Op) (file : Option ℕ) → NamesGraph graphs (item.Run op file) → (n : ℕ) → file ≡ Some n → n < length graphs
named-there graphs op None h n is = let z : None ≡ Some n = is in absurd (let u : ⊥ = cc in u)
named-there graphs op (Some m) h n is = let z : m ≡ n = cc in subst (λ k. k < length graphs) z h

runs-not : {r : Running} → IsRunningAs r ≡ Idles → ⊥
runs-not h = let u : ⊥ = cc in u

waits-not : IsWaiting ≡ Idles → ⊥
waits-not h = let u : ⊥ = cc in u

module _ {L D : Type 0} (lay : LayoutGhosts L) (disk : DiskGhosts D) (core : Array L D) (sound : IsSound lay disk core) (r : HasRun lay disk core) where
  abbrev y : Shape
  y = lay.shape core.layout

  abbrev sync : Type 0
  sync = InSync y r.opening.contents r.opening.columns

  pub reached : Reached y sync r.opening.blocks r.now
  reached = reaches y sound.layout (graphs_of core.graphs.items) (library-promises core.graphs.items) r.opening r.events r.now r.is_opening r.run

  opens : IsOpen r.now
  opens = run-open y (graphs_of core.graphs.items) r.opening r.events r.now r.is_opening r.run

  -- ## Where the units of nodes that are out stand, also once the array is lost

  stood-on : (c n : ℕ) (at : Spot) → IsOutOf (desk_at core.clients c) n → spot_at (desk_at core.clients c) n ≡ Some at → OnSeat y r.now at
  stood-on c n at out here =
      let s = shown-running disk.tells core.lost core.pool (desk_at core.clients c) (r.now.clients c) (r.shows.clients c) out.runs in
      run-on-seats y sound.layout (graphs_of core.graphs.items) (library-promises core.graphs.items) r.opening r.events r.now r.is_opening r.run c n (running_as (desk_at core.clients c) s.0) at s.1 out.mark here

  -- on a column of the array
  pub run-within : (c n : ℕ) (at : Spot) → IsOutOf (desk_at core.clients c) n → spot_at (desk_at core.clients c) n ≡ Some at → at.column < y.columns
  run-within c n at out here = (stood-on c n at out here).0

  -- which has the device still, or the device has failed
  pub run-on-column : (c n : ℕ) → IsOutOf (desk_at core.clients c) n → IsOnColumn core c n
  run-on-column c n out at here = elim (stood-on c n at out here).1 [
    | inl has ↦ inr (subst (λ (cols : List ColumnState). HasDevice cols at.column at.device) r.shows.columns has)
    | inr gone ↦ inl (sym (r.shows.failed at.device) ∙ gone.0)
  ]

  module _ (serving : AreServing lay core) (none : core.lost ≡ None) where
    none-now : r.now.lost ≡ None
    none-now = r.shows.lost ∙ none

    inv : Invariant y sync r.opening.blocks r.now
    inv = not-lost y sync r.opening.blocks r.now reached none-now

    item-shown : (c : ℕ) → item_now (r.now.clients c) ≡ item_at (desk_at core.clients c)
    item-shown c =
        ap (λ (l : List Item). slice_get l (length (r.now.clients c).replies)) (r.shows.clients c).items
        ∙ ap (λ (l : List Reply). slice_get (desk_at core.clients c).items (length l)) (replies-shown disk core r.now r.shows none c)

    -- ## What runs

    module _ (c : ℕ) (runs : (desk_at core.clients c).stage ≡ Runs) where
      abbrev d : Desk
      d = desk_at core.clients c

      shown : (buf : ℕ → ℕ → ℕ → ℕ) × ((r.now.clients c).current ≡ IsRunningAs (running_as d buf)) × HoldBytes disk.tells core.pool d buf
      shown = shown-running disk.tells core.lost core.pool d (r.now.clients c) (r.shows.clients c) runs

      abbrev was : Running
      was = running_as d shown.0

      served : IsServed y r.now c was
      served = inv.control.served c was shown.1

      well : RunsWell y core.graphs.items core.pool d
      well = (sound.well.each c (runs_below y core.graphs.items core.pool core.clients c sound.well runs)).runs runs

      undone-calm : d.run.phase ≡ phase.Undone → (n : ℕ) → mark_of d.run n ≢ status.Out
      undone-calm is n out =
          none-out-not was.node (length d.run.graph.nodes) (undone-none y r.now.columns was (inv.walks c was shown.1) is) n (opens.below c n was shown.1 out) out

      by-some : d.run.phase ≡ phase.Undone → IsSome d.by
      by-some is = let a = served.abandoned (ap is_forward is) in subst (λ (o : Option ℕ). IsSome o) (sym a.1) refl

      runs-on : (op : Op) (file : Option ℕ) → item_at d ≡ Some (item.Run op file) → RunsOn core.graphs.items y d op file
      runs-on op file is =
          let p = (serving c).runs runs op file is in
          let same : served.op ≡ op = same-op served.op op served.graph file (item_at d) (sym (item-shown c) ∙ served.item) is in
          record {
            split = p.split;
            mode = mode-of op d.task.kind (subst (λ (o : Op). IsKind o d.task.kind) same served.kind);
            lease = p.lease;
            undone = undone-calm;
            by = by-some;
          }

    -- ## Who waits or runs

    item-busy : (c : ℕ) (t : Stage) → (desk_at core.clients c).stage ≡ t → t ≢ Nothing → ((r.now.clients c).current ≢ Idles) × (op : Op) × (file : Option ℕ) × (item_at (desk_at core.clients c) ≡ Some (item.Run op file))
    item-busy c Nothing is busy = absurd (busy refl)
    item-busy c Waits is busy =
        let waits : (r.now.clients c).current ≡ IsWaiting = subst (λ (t : Stage). ShowsCurrent disk.tells core.pool t (desk_at core.clients c) (r.now.clients c).current) is (r.shows.clients c).current in
        let i = opens.waiting none-now c waits in
        ((λ z. waits-not (sym waits ∙ z)), i.0, i.1, sym (item-shown c) ∙ i.2)
    item-busy c Runs is busy =
        let s = served c is in
        ((λ z. runs-not (sym (shown c is).1 ∙ z)), s.op, s.graph, sym (item-shown c) ∙ s.item)

    busy-serves : (c : ℕ) → (desk_at core.clients c).stage ≢ Nothing → (op : Op) × (file : Option ℕ) × Serves core.graphs.items y (desk_at core.clients c) op file
    busy-serves c busy =
        let i = item-busy c (desk_at core.clients c).stage refl busy in
        let n = length (desk_at core.clients c).replies in (
          i.1,
          i.2,
          record {
            item = i.3;
            inside = inside-of y i.1 (asked-blocks y i.1 i.2 ((serving c).asked n (item.Run i.1 i.2) i.3)) (inv.control.within c i.1 i.2 i.0 (item-shown c ∙ i.3));
            there = named-there core.graphs.items i.1 i.2 ((serving c).named n (item.Run i.1 i.2) i.3);
          },
        )

    pub run-stands : Stands lay core
    run-stands = record {
      kept = λ lost. subst (λ (cols : List ColumnState). NotLost y cols) r.shows.columns inv.control.not_lost;
      serves = λ c. record { busy = busy-serves c; runs = λ is op file s. runs-on c is op file s.item };
    }

    -- ## Where the units of nodes that are out stand

    module _ (c n : ℕ) (out : IsOutOf (desk_at core.clients c) n) where
      below : n < length (desk_at core.clients c).run.graph.nodes
      below = opens.below c n (was c out.runs) (shown c out.runs).1 out.mark

      stood : (i b : ℕ) (at : Spot) → UnitOf (desk_at core.clients c).run.graph (kind_at (desk_at core.clients c).run.graph n) (stripe_of (desk_at core.clients c).run.graph b) i → spot_at (desk_at core.clients c) n ≡ Some at
          → WasSeat y r.now (slice_index (desk_at core.clients c).map.stripes (stripe_of (desk_at core.clients c).run.graph b)) i at
      stood i b at unit here =
          let f = (served c out.runs).fired n (stripe_of (desk_at core.clients c).run.graph b) i out.mark unit in
          let same : Some f.0 ≡ Some at = sym f.1 ∙ here in
          subst (λ (to : Spot). WasSeat y r.now (slice_index (desk_at core.clients c).map.stripes (stripe_of (desk_at core.clients c).run.graph b)) i to) (let e : f.0 ≡ at = cc in e) f.2

      seat-within : (s i : ℕ) (at : Spot) → s < y.stripes → i < y.width → WasSeat y r.now s i at → at.column < y.columns
      seat-within s i at ls li w = elim w.place [
        | inl own ↦ subst (λ k. k < y.columns) (sym own.0) (sound.layout.within s i ls li).0
        | inr spare ↦ subst (λ k. k < y.columns) (sym spare.2) (sound.layout.spare_within s spare.0 ls spare.1).0
      ]

      stripe-below : (b : ℕ) → stripe_of (desk_at core.clients c).run.graph b < (desk_at core.clients c).task.stripes → slice_index (desk_at core.clients c).map.stripes (stripe_of (desk_at core.clients c).run.graph b) < y.stripes
      stripe-below b l = ((served c out.runs).task.stripes (stripe_of (desk_at core.clients c).run.graph b) l).0

      nowhere : (at : Spot) → spot_at (desk_at core.clients c) n ≡ Some at → (IsCall (kind_at (desk_at core.clients c).run.graph n) → ⊥) → at.column < y.columns
      nowhere at here not = let z : None ≡ Some at = sym (sound.devices.unplaced c n out not) ∙ here in absurd (let u : ⊥ = cc in u)

      within-by : (at : Spot) → spot_at (desk_at core.clients c) n ≡ Some at → (k : Node) → kind_at (desk_at core.clients c).run.graph n ≡ k → at.column < y.columns
      within-by at here (Rd i b) is =
          let w = well c out.runs in
          let buf = read_buf y core.graphs.items core.pool (desk_at core.clients c) w n i b below is in
          seat-within _ i at (stripe-below b buf.stripe) (read_unit y core.graphs.items core.pool (desk_at core.clients c) w n i b below is)
          (stood i b at (subst (λ (k : Node). UnitOf (desk_at core.clients c).run.graph k (stripe_of (desk_at core.clients c).run.graph b) i) (sym is) (refl, refl)) here)
      within-by at here (Wr i b) is =
          let w = well c out.runs in
          let buf = write_buf y core.graphs.items core.pool (desk_at core.clients c) w n i b below is in
          seat-within _ i at (stripe-below b buf.stripe) (write_unit y core.graphs.items core.pool (desk_at core.clients c) w n i b below is)
          (stood i b at (subst (λ (k : Node). UnitOf (desk_at core.clients c).run.graph k (stripe_of (desk_at core.clients c).run.graph b) i) (sym is) (refl, refl)) here)
      within-by at here (Xor to) is = nowhere at here (subst (λ (k : Node). IsCall k → ⊥) (sym is) (λ z. z))
      within-by at here Cmt is = nowhere at here (subst (λ (k : Node). IsCall k → ⊥) (sym is) (λ z. z))
      within-by at here Trm is = nowhere at here (subst (λ (k : Node). IsCall k → ⊥) (sym is) (λ z. z))

      reads-stand : (i b : ℕ) (at : Spot) → (desk_at core.clients c).run.phase ≡ phase.Before → kind_at (desk_at core.clients c).run.graph n ≡ Rd i b → spot_at (desk_at core.clients c) n ≡ Some at
          → spot y core.cols.states (slice_index (desk_at core.clients c).map.stripes (stripe_of (desk_at core.clients c).run.graph b)) i ≡ Some at
      reads-stand i b at before is here =
          let d2 = desk_at core.clients c in
          let s = slice_index d2.map.stripes (stripe_of d2.run.graph b) in
          let atomic : RunsAtomic y r.now c (was c out.runs) = runs-atomic y sync r.opening.blocks r.now inv c (was c out.runs) (shown c out.runs).1 in
          let there : is_available y r.now.columns s i ≡ true = atomic.read (subst IsRunning (sym before) tt) n i b below is (ap is_good out.mark) in
          let to = available-seat y r.now.columns s i there in
          let same : to.0 ≡ at = (stood i b at (subst (λ (k : Node). UnitOf d2.run.graph k (stripe_of d2.run.graph b) i) (sym is) (refl, refl)) here).kept to.0 to.1 in
          subst (λ (cols : List ColumnState). spot y cols s i ≡ Some at) r.shows.columns
          (ap (λ (a : Bool). cond a (seat y r.now.columns s i) None) there ∙ (to.1 ∙ ap (λ (v : Spot). Some v) same))

    pub run-standing : Standing lay core
    run-standing = record {
      within = λ c n at out here. within-by c n out at here (kind_at (desk_at core.clients c).run.graph n) refl;
      reads = λ c n i b at out before is here. reads-stand c n out i b at before is here;
    }

    -- ## What isn't in the history

    -- an operation that runs and hasn't committed
    pub run-uncommitted : (c : ℕ) → (desk_at core.clients c).stage ≡ Runs → (IsLate (desk_at core.clients c).run.phase → ⊥) → (n : ℕ) → StandsAt r.now.history n (record { client = c; index = length (desk_at core.clients c).replies }) → ⊥
    run-uncommitted c runs early n at = (served c runs).uncommitted early n at
