use Rattle.std.proofs.Common.{◌∙◌, ◌<◌, ◌≤◌, ℕ, sym, subst, ap, arith, take, length, get_or, List}
use Rattle.std.specs.Prelude.{IsTrue}
use Rattle.std.proofs.lemmas.List.{length-take-le, take_all}
use Rattle.graph_mean.specs.declared.graph.Node.{Node}
use Rattle.graph_mean.specs.Graph.{Held, edge_count, is_xor, last_vertex, with_source}
use Rattle.graph_text.specs.Pushed.{with_sources}
use Rattle.graph_text.proofs.PushedNodes.{source_more, sources_edges, sources_none, sources_room, take_more, sources_kind}
use Rattle.graph_text.proofs.push.push_sources.Goals as goal

pub push_source-requires-clause-sum : goal.push_source-requires-clause-sum
push_source-requires-clause-sum c =
    let some : 0 < length c.args.sources.now = let t = c.loop-source-test.true in omega arith in
    let kind = sources_kind c.args.graph.now (take c.loop-source.source-index c.args.sources.now) in
    subst (λ (h : Held). IsTrue (is_xor (last_vertex h.drawn).kind)) (sym c.loop-source.invariant) (subst (λ (k : Node). IsTrue (is_xor k)) (sym kind) (c.requires.sum some))

pub push_source-requires-clause-room : goal.push_source-requires-clause-room
push_source-requires-clause-room c =
    let h = c.args.graph.now in
    let ns = take c.loop-source.source-index c.args.sources.now in
    let e = sources_edges h ns c.requires.some in
    let r = sources_room h ns in
    let room = c.requires.room in
    let t = c.loop-source-test.true in
    let within : c.loop-source.source-index ≤ length c.args.sources.now = omega arith in
    let l = length-take-le c.loop-source.source-index c.args.sources.now within in
    subst (λ (h : Held). edge_count h.drawn < h.edge_room) (sym c.loop-source.invariant) (omega arith)

pub loop-source-init : goal.loop-source-init
loop-source-init c = sym (sources_none c.args.graph.now c.requires.some)

pub loop-source-preserved : goal.loop-source-preserved
loop-source-preserved c =
    let ns = take c.loop-source.source-index c.args.sources.now in
    c.push_source.ensures
    ∙ (ap (λ (h : Held). with_source h (get_or c.args.sources.now c.loop-source.source-index 0)) c.loop-source.invariant
    ∙ (source_more c.args.graph.now ns (get_or c.args.sources.now c.loop-source.source-index 0)
    ∙ ap (λ (xs : List ℕ). with_sources c.args.graph.now xs) (take_more c.args.sources.now c.loop-source.source-index c.loop-source-test.true)))

pub returns : goal.returns
returns c = c.loop-source.invariant ∙ ap (λ (xs : List ℕ). with_sources c.args.graph.now xs) (take_all c.loop-source.source-index c.args.sources.now c.loop-source-test.false)
