use Rattle.std.proofs.Common.{◌∙◌, List, ap, arith, length}
use Rattle.std.proofs.lemmas.List.{length_push}
use Rattle.graph_text.specs.Format.{Named}
use Rattle.graph_text.proofs.NamedGraphs.{length_named}
use Rattle.graph_text.proofs.book.Book.push.Goals as goal

pub invariant_of-self : goal.invariant_of-self
invariant_of-self c =
    let i = c.self.invariant in
    let names = c.self.inside.names.items in
    let graphs = c.self.inside.graphs.items in
    let n = ap length c.push_reserved.ensures.items ∙ length_push names c.args.name in
    let g = ap length c.push_reserved-2.ensures.items ∙ length_push graphs c.args.graph in
    let l = length_named names graphs i.pairs in
    let v = ap (λ (gs : List Named). length gs) c.self.view_is in
    let p = i.pairs in
    let r = c.requires in
    let a = i.room.0 in
    let b = i.room.1 in
    let x = c.push_reserved.ensures.capacity in
    let y = c.push_reserved-2.ensures.capacity in
    record { pairs = omega arith; few = omega arith; room = (omega arith, omega arith) }
