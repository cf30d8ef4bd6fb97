use Rattle.std.proofs.Common.{arith, subst}
use Rattle.graph_lib.specs.Walk.{IsNextEdge}
use Rattle.graph_lib.proofs.EdgeRanges.{edge-range}
use Rattle.graph_lib.proofs.cutting.range_at.Goals as goal

pub returns-clause-some : goal.returns-clause-some
returns-clause-some c = let p = c.next_edge.ensures.past in omega arith

pub returns-clause-within : goal.returns-clause-within
returns-clause-within c = let p = c.next_edge.ensures.past in let w = c.next_edge.ensures.within in let u = c.unit_sectors.ensures in omega arith

pub returns-clause-range : goal.returns-clause-range
returns-clause-range c stripe parts =
    let e : IsNextEdge c.args.parts.now c.args.from c.args.task.now.unit_sectors c.next_edge.result = subst (λ u. IsNextEdge c.args.parts.now c.args.from u c.next_edge.result) c.unit_sectors.ensures c.next_edge.ensures in
    let p = e.past in
    let w = e.within in
    record {
      some = omega arith;
      within = omega arith;
      first = edge-range c.args.task.now stripe c.args.parts.now parts c.args.from c.args.task.now.unit_sectors c.next_edge.result e;
    }
