use Rattle.std.proofs.Common.{◌≡◌, sym, ◌∙◌, ap, ◌+◌, arith}
use Rattle.graph_mean.specs.declared.graph.Buf.{Buf}
use Rattle.graph_mean.specs.Graph.{buf_at}
use Rattle.eng_clients.proofs.client.Client.written_by.Goals as goal

pub buf-range-requires-clause-buf : goal.buf-range-requires-clause-buf
buf-range-requires-clause-buf c = (c.requires.accepted.2.write c.args.node c.in-Wr.own c.in-Wr.buf c.requires.node (sym c.node.ensures ∙ c.in-Wr.is)).1.below

pub overflow_add-end : goal.overflow_add-end
overflow_add-end c =
    let fits = (c.requires.accepted.2.write c.args.node c.in-Wr.own c.in-Wr.buf c.requires.node (sym c.node.ensures ∙ c.in-Wr.is)).1.within in
    let most = c.requires.task.unit_most in
    let same : c.buf-range.result.from + c.buf-range.result.count ≡ (buf_at c.args.self.now.run.graph c.in-Wr.buf).from + (buf_at c.args.self.now.run.graph c.in-Wr.buf).count = ap (λ (b : Buf). b.from + b.count) c.buf-range.ensures in
    omega (arith, fits, most, same)
