-- What the end of a node rests on in a steady core: the trace has room for it, the history for a commit, and a stripe may be counted.
use Rattle.std.proofs.Common.{◌≡◌, ℕ, zero, suc, ◌<◌, ◌≤◌, List, length, subst, sym, ap, ◌∙◌, arith, inl, inr, refl, Option, Some, None}
use Rattle.std.proofs.lemmas.Bool.{cases_eq}
use Rattle.blk_plain.specs.declared.op.OpId.{OpId}
use Rattle.blk_disk.specs.declared.disk.Disk.{Ghosts as DiskGhosts}
use Rattle.lay_core.specs.declared.layout.Layout.{Ghosts as LayoutGhosts}
use Rattle.graph_mean.specs.declared.graph.Node.TheVariants.{Cmt}
use Rattle.graph_mean.specs.declared.step.Status.{Status}
use Rattle.graph_mean.specs.declared.step.Status.TheVariants as status
use Rattle.graph_mean.specs.Atomic.{IsLate}
use Rattle.graph_mean.specs.Graph.{kind_at}
use Rattle.graph_mean.specs.Task.{missing_of}
use Rattle.graph_mean.specs.Steps.{HasEnded}
use Rattle.eng_one.specs.Control.{mark_of}
use Rattle.eng_one.proofs.Walking.{late-commit}
use Rattle.eng_cols.specs.declared.spot.Loss.{Loss}
use Rattle.eng_world.specs.declared.item.Item.{Item}
use Rattle.eng_world.specs.declared.item.Item.TheVariants as item
use Rattle.eng_world.specs.World.{Running, World, RunsAs}
use Rattle.eng_world.specs.World as world
use Rattle.eng_world.specs.Pool.{job_of, out_below}
use Rattle.eng_world.specs.Invariant.{IsTold}
use Rattle.eng_world.proofs.Promised.{reached-told}
use Rattle.eng_rest.specs.Left.{below, left, cost, run_left, current_left, outs_of, item_left, IsIndexed}
use Rattle.eng_rest.proofs.Items.{left-done, left-now, outs-of-it}
use Rattle.eng_rest.proofs.Summing.{below-le, below-less}
use Rattle.eng_clients.specs.declared.stage.Stage.TheVariants.{Runs}
use Rattle.eng_state.specs.declared.array.Array.{Array}
use Rattle.eng_clients.specs.Desk.{Desk, desk_at}
use Rattle.eng_state.specs.Room.{HasRoom, MayEnter}
use Rattle.eng_state.specs.Shows.{running_as}
use Rattle.eng_state.specs.Sound.{IsOutOf, RunsWell}
use Rattle.eng_array.specs.Steady.{IsSteady}
use Rattle.eng_state.specs.Steps.{graphs_of}
use Rattle.eng_array.proofs.EventsLeft.{below-part, node-left}
use Rattle.eng_array.proofs.HistoryRoom.{history-room}
use Rattle.eng_array.proofs.Reached.{reached, run-uncommitted}
use Rattle.eng_array.proofs.RebuiltRoom.{replied_of, run-rebuilt}
use Rattle.eng_state.proofs.Running.{runs_below}
use Rattle.eng_state.proofs.Served.{item-below}
use Rattle.eng_state.proofs.Shown.{shown-running}
use Rattle.eng_array.proofs.Steady.{steady-indexed, shown-items, has-room}
use Rattle.eng_log.specs.Log.{MayCount}

-- ## What becomes of a client

-- ## Room for the end of a node, also once the array is lost

-- a node that is out is one job
out-part : (node : ℕ → Status) (n len : ℕ) → n < len → node n ≡ status.Out → 1 ≤ out_below node len
out-part node n zero l out = absurd (omega (arith, l))
out-part node n (suc len) l out = elim (cases_eq n len) [
  | inl here ↦ let a : job_of (node len) ≡ 1 = ap job_of (ap node (sym here) ∙ out) in omega (arith, a)
  | inr ne ↦ let a = out-part node n len (omega (arith, l, ne)) out in omega (arith, a)
]

module _ {L D : Type 0} (lay : LayoutGhosts L) (disk : DiskGhosts D) (core : Array L D) (k : IsSteady lay disk core) (c n : ℕ) (out : IsOutOf (desk_at core.clients c) n) (inside : n < length (desk_at core.clients c).run.graph.nodes) where
  abbrev d : Desk
  d = desk_at core.clients c

  abbrev w : World
  w = k.reached.now

  below17 : c < 17
  below17 = runs_below (lay.shape core.layout) core.graphs.items core.pool core.clients c k.sound.well out.runs

  well : RunsWell (lay.shape core.layout) core.graphs.items core.pool d
  well = (k.sound.well.each c below17).runs out.runs

  indexed : IsIndexed w
  indexed = steady-indexed lay disk core k k.reached

  runs-with : (buf : ℕ → ℕ → ℕ → ℕ) × RunsAs w c (running_as d buf)
  runs-with = let s = shown-running disk.tells core.lost core.pool d (w.clients c) (k.reached.shows.clients c) out.runs in (s.0, s.1)

  abbrev was : Running
  was = running_as d runs-with.0

  -- something is left of the item that runs
  some-left : (m : ℕ) (o : Option Loss) → w.lost ≡ o → 1 ≤ item_left m (w.clients c) was.plan.index
  some-left m None e =
      let a = left-now m (w.clients c) was.plan.index (indexed.now e c was runs-with.1) in
      let b : current_left m (w.clients c).current ≡ run_left m d.run.phase (mark_of d.run) (length d.run.graph.nodes) = ap (current_left m) runs-with.1 in
      let h = node-left m d.run.phase (mark_of d.run) n (length d.run.graph.nodes) inside (let z : cost (mark_of d.run n) ≡ 1 = ap cost out.mark in omega (arith, z)) in
      omega (arith, a, b, h)
  some-left m (Some loss) e =
      let full = indexed.replied loss e c in
      let asked = indexed.asked c was runs-with.1 in
      let a = left-done m (w.clients c) was.plan.index (omega (arith, full, asked)) in
      let b : outs_of was.plan.index (w.clients c).current ≡ outs_of was.plan.index (world.Runs was) = ap (outs_of was.plan.index) runs-with.1 in
      let h = outs-of-it was.plan.index was refl in
      let z = out-part (mark_of d.run) n (length d.run.graph.nodes) inside out.mark in
      omega (arith, a, b, h, z)

  pub out-room : HasRoom core.log
  out-room =
      let most = k.places.most in
      let i = was.plan.index in
      let a = below-part (λ j. below (λ q. left (most j q) w j q) (length (w.clients j).items)) 17 c below17 in
      let b = below-part (λ q. left (most c q) w c q) (length (w.clients c).items) i (indexed.asked c was runs-with.1) in
      let e = some-left (most c i) w.lost refl in
      has-room lay disk core k (omega (arith, a, b, e))

  -- ## Room for a commit

  pub may-enter : core.lost ≡ None → kind_at d.run.graph n ≡ Cmt → MayEnter core.log
  may-enter none commit =
      let told : IsTold k.reached.opening.blocks w = reached-told _ _ _ w (reached lay disk core k.sound k.reached) in
      let a = history-room w (shown-items lay disk core w k.sound k.reached.shows) w.history told.ops told.are_ops told.legal.once c (length d.replies) below17 there (run-uncommitted lay disk core k.sound k.reached k.serving none c out.runs early) in
      let b = below-le (λ j. length (desk_at core.clients j).items) (λ j. length (w.clients j).items) 17 (λ j l. let z = ap (λ (l : List Item). length l) (k.reached.shows.clients j).items in omega (arith, z)) in
      let h = k.places.history in
      let e = ap (λ (l : List OpId). length l) k.reached.shows.history in
      omega (arith, a, b, h, e)
    where
      there : length d.replies < length (w.clients c).items
      there = let a = item-below d (item.Run well.op d.file) well.item in let e = ap (λ (l : List Item). length l) (k.reached.shows.clients c).items in omega (arith, a, e)

      early : IsLate d.run.phase → ⊥
      early late =
          let ended = late-commit d.run.graph d.task (missing_of d.missing) well.accepted.0 well.accepted.1 well.accepted.2 d.run well.reached late in
          let here : n ≡ well.accepted.0 = well.accepted.2.commit.only n inside commit in
          subst HasEnded (ap (mark_of d.run) (sym here) ∙ out.mark) ended

  -- ## Room for a stripe that is counted

  pub may-count : core.lost ≡ None → MayCount core.log
  may-count none =
      let few : (j : ℕ) → 17 ≤ j → replied_of w j ≡ 0 = λ j l. let a = indexed.few j in let z = ap (λ (l : List Item). length l) ((shown-items lay disk core w k.sound k.reached.shows).1 j l) in omega (arith, a, z) in
      let run = run-rebuilt (lay.shape core.layout) (graphs_of core.graphs.items) k.reached.opening k.reached.events w k.reached.is_opening.rebuilt k.reached.run few in
      let less : replied_of w c < length (w.clients c).items = let a = indexed.asked c was runs-with.1 in let b = indexed.now (k.reached.shows.lost ∙ none) c was runs-with.1 in omega (arith, a, b) in
      let a = below-less (λ j. length (w.clients j).items) (replied_of w) 17 c below17 (λ j l. indexed.few j) less in
      let b = below-le (λ j. length (desk_at core.clients j).items) (λ j. length (w.clients j).items) 17 (λ j l. let z = ap (λ (l : List Item). length l) (k.reached.shows.clients j).items in omega (arith, z)) in
      let h = k.places.history in
      let e = k.reached.shows.rebuilt in
      omega (arith, run, a, b, h, e)
