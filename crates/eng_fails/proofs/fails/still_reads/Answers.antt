use Rattle.std.proofs.Common.{◌<◌, sym, subst, ◌∙◌, ℕ, ◌&&◌, not}
use Rattle.graph_mean.specs.Graph.{kind_at}
use Rattle.graph_mean.specs.Steps.{reads, is_good}
use Rattle.graph_mean.proofs.Lost.{any_below-from}
use Rattle.eng_one.specs.Control.{mark_of}
use Rattle.eng_state.specs.declared.array.Array.{Array}
use Rattle.eng_clients.specs.Desk.{Desk, desk_at}
use Rattle.eng_state.specs.Failing.{dying}
use Rattle.eng_fails.proofs.fails.still_reads.Goals as goal

pub returns-then-node_reads : goal.returns-then-node_reads
returns-then-node_reads g c =
    let core : Array g.row.L.Denot g.row.D.Denot = c.args.array.now in
    let d : Desk = desk_at core.clients c.args.client in
    let y = g.L.Layout.shape core.layout in
    sym (any_below-from (λ (n : ℕ). reads d.run.graph (kind_at d.run.graph n) (dying y core.cols.states c.args.column d) && not (is_good (mark_of d.run n))) c.loop-node.node _ (subst (λ (m : ℕ). c.loop-node.node < m) c.nodes-node-end.ensures c.loop-node-test.true) (sym c.node_reads.ensures ∙ c.if-node_reads.true))
