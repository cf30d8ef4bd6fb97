-- What a job that comes home rests on in a steady core, and that it leaves one.
use Rattle.std.proofs.Common.{◌≡◌, ℕ, ◌<◌, List, length, subst, sym, arith, inl, inr, refl, Bool, true, false, Option, Some, None, slice_get}
use Rattle.std.specs.Prelude.{if◌then◌else◌}
use Rattle.blk_plain.specs.declared.op.Op.{Op}
use Rattle.blk_plain.specs.declared.op.Op.TheVariants as op
use Rattle.blk_plain.specs.declared.op.OpId.{OpId}
use Rattle.blk_plain.specs.declared.op.Outcome.{Outcome}
use Rattle.blk_disk.specs.declared.disk.Disk.{Ghosts as DiskGhosts}
use Rattle.lay_core.specs.Layout.{Shape}
use Rattle.lay_core.specs.declared.layout.Layout.{Ghosts as LayoutGhosts}
use Rattle.graph_mean.specs.declared.graph.Node.{Node}
use Rattle.graph_mean.specs.declared.graph.Node.TheVariants.{Rd, Wr, Xor, Cmt, Trm}
use Rattle.graph_mean.specs.Graph.{Held, kind_at}
use Rattle.eng_cols.specs.Cols.{ColumnState}
use Rattle.eng_cols.specs.declared.spot.Loss.{Loss}
use Rattle.eng_cols.specs.declared.spot.Spot.{Spot}
use Rattle.eng_job.specs.declared.job.Job.{Job}
use Rattle.eng_world.specs.declared.item.Item.{Item}
use Rattle.eng_world.specs.declared.item.Item.TheVariants as item
use Rattle.eng_world.specs.declared.item.Traced.{Traced}
use Rattle.eng_world.specs.declared.item.Traced.TheVariants as event
use Rattle.eng_state.specs.declared.array.Array.{Array}
use Rattle.eng_state.specs.Bad.{Standing, IsOnColumn}
use Rattle.eng_state.specs.Beginning.{IsAsked}
use Rattle.eng_clients.specs.Desk.{Desk, desk_at, item_at, spot_at}
use Rattle.eng_ends.specs.EndLog.{LogEnds, LogEndsItem, LogEndsOp}
use Rattle.eng_state.specs.GoesOn.{ServesOn, GoesOn}
use Rattle.eng_log.specs.Log.{Logged, MayCount}
use Rattle.eng_state.specs.Moves.{id_of}
use Rattle.eng_state.specs.Out.{CameBack}
use Rattle.eng_fails.specs.Returned.{ends_bad, ended_by}
use Rattle.eng_state.specs.Room.{HasRoom, MayEnter}
use Rattle.eng_array.specs.Run.{Notes}
use Rattle.eng_array.specs.Serving.{NamesGraph, IsServing}
use Rattle.eng_state.specs.Sound.{IsSound, IsOutOf}
use Rattle.eng_array.specs.Steady.{IsSteady}
use Rattle.eng_state.specs.Steps.{Follows}
use Rattle.eng_array.proofs.OneServing.{same-serving}
use Rattle.eng_state.proofs.Putting.{out-below}
use Rattle.eng_array.proofs.Reached.{run-within, run-on-column, run-standing}
use Rattle.eng_state.proofs.Ripe.{runs-well}
use Rattle.eng_array.proofs.Steady.{IsEvent, Keeps, notes-of, steady-on}
use Rattle.eng_array.proofs.SteadyEnds.{out-room, may-enter, may-count}

-- what serves on serves as it was planned
on-serving : (y : Shape) (graphs : List Held) (old new : Desk) → ServesOn old new → IsServing y graphs old → IsServing y graphs new
on-serving y graphs old new on s = record {
  asked = subst (λ (l : List Item). (n : ℕ) (i : Item) → slice_get l n ≡ Some i → IsAsked y i) (sym on.items) s.asked;
  named = subst (λ (l : List Item). (n : ℕ) (i : Item) → slice_get l n ≡ Some i → NamesGraph graphs i) (sym on.items) s.named;
  runs = λ is. (same-serving y graphs old new on.items on.ran (on.replies is) on.map (on.lease is) (on.graph is) s).runs is;
}

-- ## What an end writes is traced

module _ (y : Shape) (cols : List ColumnState) (d : Desk) (old : Logged) (e : Traced) (new : Logged) where
  op-notes : (o : Op) → LogEndsOp y cols d old e new o → Notes old e new
  op-notes (op.Write span pattern) h = notes-of old e new h
  op-notes (op.Writes patches) h = notes-of old e new h
  op-notes (op.Read span) h = subst (λ (l : Logged). Notes old e l) (sym h) (record { keeps = refl; trace = refl; history_room = refl; trace_room = refl; regions = refl })
  op-notes (op.Rebuild stripe) (inl h) = subst (λ (l : Logged). Notes old e l) (sym h.2) (record { keeps = refl; trace = refl; history_room = refl; trace_room = refl; regions = refl })
  op-notes (op.Rebuild stripe) (inr h) = notes-of old e new h.1
  op-notes (op.Sync stripe) h = notes-of old e new h

  item-notes : (i : Option Item) → LogEndsItem y cols d old e new i → Notes old e new
  item-notes (Some (item.Run o file)) h = op-notes o h
  item-notes (Some (item.Fail column)) h = notes-of old e new h
  item-notes None h = notes-of old e new h

  ends-notes : (id : OpId) (k : Node) (lost : Option Loss) → LogEnds y cols d old e new id k lost → Notes old e new
  ends-notes id (Rd unit buf) lost h = notes-of old e new h
  ends-notes id (Wr unit buf) lost h = notes-of old e new h
  ends-notes id (Xor to) lost h = notes-of old e new h
  ends-notes id Cmt None h = subst (λ (l : Logged). Notes old e l) (sym h) (record { keeps = refl; trace = refl; history_room = refl; trace_room = refl; regions = refl })
  ends-notes id Cmt (Some loss) h = notes-of old e new h
  ends-notes id Trm None h = item-notes (item_at d) h
  ends-notes id Trm (Some loss) h = notes-of old e new h

end-event : (b : Bool) (id : OpId) (n : ℕ) → IsEvent (if b then event.Bad id n else event.Good id n)
end-event true id n = inl tt
end-event false id n = inl tt

module _ {L D : Type 0} (lay : LayoutGhosts L) (disk : DiskGhosts D) (old : Array L D) (job : Job D) (outcome : Outcome) (steady : IsSteady lay disk old) (back : CameBack disk lay old job outcome) where
  abbrev d : Desk
  d = desk_at old.clients job.client

  out : IsOutOf d job.node
  out =
      subst (λ (n : ℕ). IsOutOf d n) (sym back.2.node)
      (subst (λ (c : ℕ). IsOutOf (desk_at old.clients c) back.0.node) (sym back.2.client) back.1.is.out)

  inside : job.node < length d.run.graph.nodes
  inside =
      let w = runs-well lay disk old job.client steady.sound out.runs in
      let marks = out-below d.run.marks job.node out.mark in
      let many = w.marks in
      omega (arith, marks, many)

  -- ## What it rests on

  pub home-room : HasRoom old.log
  home-room = out-room lay disk old steady job.client job.node out inside

  pub home-enters : old.lost ≡ None → kind_at d.run.graph job.node ≡ Cmt → MayEnter old.log
  home-enters none commit = may-enter lay disk old steady job.client job.node out inside none commit

  pub home-counts : old.lost ≡ None → MayCount old.log
  home-counts none = may-count lay disk old steady job.client job.node out inside none

  pub home-standing : old.lost ≡ None → Standing lay old
  home-standing none = run-standing lay disk old steady.sound steady.reached steady.serving none

  pub home-within : (at : Spot) → spot_at d job.node ≡ Some at → at.column < (lay.shape old.layout).columns
  home-within at here = run-within lay disk old steady.sound steady.reached job.client job.node at out here

  pub home-on : IsOnColumn old job.client job.node
  home-on = run-on-column lay disk old steady.sound steady.reached job.client job.node out

  -- ## What it leaves

  pub home-keeps : (new : Array L D) → GoesOn old new
      → LogEnds (lay.shape old.layout) old.cols.states d old.log (ended_by old job outcome) new.log (id_of old.clients job.client) (kind_at d.run.graph job.node) old.lost → Keeps lay disk old (ended_by old job outcome) new
  home-keeps new goes trace = record {
    layout = goes.layout;
    graphs = goes.graphs;
    log = ends-notes (lay.shape old.layout) old.cols.states d old.log (ended_by old job outcome) new.log (id_of old.clients job.client) (kind_at d.run.graph job.node) old.lost trace;
    there = goes.there;
    items = λ k. (goes.desks k).items;
    serving = λ k. on-serving (lay.shape old.layout) old.graphs.items (desk_at old.clients k) (desk_at new.clients k) (goes.desks k) (steady.serving k);
  }

  pub home-steady : (new : Array L D) → Follows lay disk old (ended_by old job outcome) new → IsSound lay disk new → GoesOn old new
      → LogEnds (lay.shape old.layout) old.cols.states d old.log (ended_by old job outcome) new.log (id_of old.clients job.client) (kind_at d.run.graph job.node) old.lost → IsSteady lay disk new
  home-steady new follows sound goes trace = steady-on lay disk old new (ended_by old job outcome) (end-event (ends_bad old job outcome) (id_of old.clients job.client) job.node) steady sound follows (home-keeps new goes trace)
