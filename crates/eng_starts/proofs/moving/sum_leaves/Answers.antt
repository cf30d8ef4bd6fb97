use Rattle.std.proofs.Common.{sym, ap, subst, refl}
use Rattle.buf_pool.specs.Pool.{IsLease}
use Rattle.graph_mean.specs.declared.graph.Buf.{Buf}
use Rattle.graph_mean.specs.Graph.{vertex_at}
use Rattle.eng_state.specs.declared.array.Array.{Array}
use Rattle.eng_clients.specs.Desk.{Lends, desk_at}
use Rattle.eng_clients.specs.Gathered.{AreInLease}
use Rattle.eng_starts.proofs.Summing.{well, to-below, named-in, target-lease, target-buf, target-home, out-sources, out-pool}
use Rattle.eng_starts.proofs.moving.sum_leaves.Goals as goal

pub buf-range-requires-clause-buf : goal.buf-range-requires-clause-buf
buf-range-requires-clause-buf g c = to-below g.L.Layout g.D.Disk c.args.array.now c.args.client c.args.node c.args.to c.requires.sound c.requires.can c.requires.sum

pub sources_leave-requires-clause-lends : goal.sources_leave-requires-clause-lends
sources_leave-requires-clause-lends g c =
    subst (λ (s : Array g.row.L.Denot g.row.D.Denot). Lends s.graphs.items (desk_at s.clients c.args.client)) (sym c.list_leaves-sources.ensures.now) (well g.L.Layout g.D.Disk c.args.array.now c.args.client c.args.node c.args.to c.requires.sound c.requires.can c.requires.sum).lends

pub sources_leave-requires-clause-lease : goal.sources_leave-requires-clause-lease
sources_leave-requires-clause-lease g c =
    subst (λ (s : Array g.row.L.Denot g.row.D.Denot). IsLease s.pool (desk_at s.clients c.args.client).lease) (sym c.list_leaves-sources.ensures.now) (well g.L.Layout g.D.Disk c.args.array.now c.args.client c.args.node c.args.to c.requires.sound c.requires.can c.requires.sum).lease

pub sources_leave-requires-clause-named : goal.sources_leave-requires-clause-named
sources_leave-requires-clause-named g c =
    subst (λ (s : Array g.row.L.Denot g.row.D.Denot). AreInLease (desk_at s.clients c.args.client).lease (vertex_at (desk_at s.clients c.args.client).run.graph c.args.node).sources) (sym c.list_leaves-sources.ensures.now) (named-in g.L.Layout g.D.Disk c.args.array.now c.args.client c.args.node c.args.to c.requires.sound c.requires.can c.requires.sum)

pub buffer_leaves-target-requires-clause-lease : goal.buffer_leaves-target-requires-clause-lease
buffer_leaves-target-requires-clause-lease g c = target-lease g.L.Layout g.D.Disk c.args.array.now c.args.client c.args.node c.args.to c.requires.sound c.requires.can c.requires.sum c.list_leaves-sources.new.array c.sources_leave.new.array c.sources_leave.new.sources.items c.list_leaves-sources.ensures.now c.sources_leave.ensures.gathered c.sources_leave.ensures.rest

pub buffer_leaves-target-requires-clause-buf : goal.buffer_leaves-target-requires-clause-buf
buffer_leaves-target-requires-clause-buf g c = target-buf g.L.Layout g.D.Disk c.args.array.now c.args.client c.args.node c.args.to c.requires.sound c.requires.can c.requires.sum c.list_leaves-sources.new.array c.sources_leave.new.array c.sources_leave.new.sources.items c.list_leaves-sources.ensures.now c.sources_leave.ensures.gathered c.sources_leave.ensures.rest

pub buffer_leaves-target-requires-clause-home : goal.buffer_leaves-target-requires-clause-home
buffer_leaves-target-requires-clause-home g c = target-home g.L.Layout g.D.Disk c.args.array.now c.args.client c.args.node c.args.to c.requires.sound c.requires.can c.requires.sum c.list_leaves-sources.new.array c.sources_leave.new.array c.sources_leave.new.sources.items c.list_leaves-sources.ensures.now c.sources_leave.ensures.gathered c.sources_leave.ensures.rest

pub returns-clause-work : goal.returns-clause-work
returns-clause-work g c = (
  c.buffer_leaves-target.result,
  c.buf-range.result.count,
  refl,
  out-sources g.L.Layout g.D.Disk c.args.array.now c.args.client c.args.node c.args.to c.requires.sound c.requires.can c.requires.sum c.list_leaves-sources.new.array c.sources_leave.new.array c.sources_leave.new.sources.items c.list_leaves-sources.ensures.now c.sources_leave.ensures.gathered c.sources_leave.ensures.rest c.buffer_leaves-target.new.self c.buffer_leaves-target.ensures.now c.buffer_leaves-target.result c.buf-range.result.count
      c.buffer_leaves-target.ensures.bytes c.buffer_leaves-target.ensures.long (ap (λ (b : Buf). b.count) c.buf-range.ensures),
)

pub returns-clause-pool : goal.returns-clause-pool
returns-clause-pool g c = out-pool g.L.Layout g.D.Disk c.args.array.now c.args.client c.args.node c.args.to c.requires.sound c.requires.can c.requires.sum c.list_leaves-sources.new.array c.sources_leave.new.array c.sources_leave.new.sources.items c.list_leaves-sources.ensures.now c.sources_leave.ensures.gathered c.sources_leave.ensures.rest c.buffer_leaves-target.new.self c.buffer_leaves-target.ensures.now
