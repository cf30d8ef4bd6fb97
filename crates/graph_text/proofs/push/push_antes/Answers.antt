use Rattle.std.proofs.Common.{◌∙◌, ◌<◌, ◌≤◌, ℕ, sym, subst, ap, arith, take, length, get_or, List}
use Rattle.std.proofs.lemmas.List.{length-take-le, take_all}
use Rattle.graph_mean.specs.Graph.{Held, edge_count, with_ante}
use Rattle.graph_text.specs.Pushed.{with_antes}
use Rattle.graph_text.proofs.PushedNodes.{ante_more, antes_edges, antes_none, antes_room, antes_some, take_more}
use Rattle.graph_text.proofs.push.push_antes.Goals as goal

pub push_ante-requires-clause-some : goal.push_ante-requires-clause-some
push_ante-requires-clause-some c = subst (λ (h : Held). 0 < length h.drawn.nodes) (sym c.loop-ante.invariant) (antes_some c.args.graph.now (take c.loop-ante.ante-index c.args.antes.now))

pub push_ante-requires-clause-room : goal.push_ante-requires-clause-room
push_ante-requires-clause-room c =
    let h = c.args.graph.now in
    let ns = take c.loop-ante.ante-index c.args.antes.now in
    let e = antes_edges h ns c.requires.some in
    let r = antes_room h ns in
    let room = c.requires.room in
    let t = c.loop-ante-test.true in
    let within : c.loop-ante.ante-index ≤ length c.args.antes.now = omega arith in
    let l = length-take-le c.loop-ante.ante-index c.args.antes.now within in
    subst (λ (h : Held). edge_count h.drawn < h.edge_room) (sym c.loop-ante.invariant) (omega arith)

pub loop-ante-init : goal.loop-ante-init
loop-ante-init c = sym (antes_none c.args.graph.now c.requires.some)

pub loop-ante-preserved : goal.loop-ante-preserved
loop-ante-preserved c =
    let ns = take c.loop-ante.ante-index c.args.antes.now in
    c.push_ante.ensures
    ∙ (ap (λ (h : Held). with_ante h (get_or c.args.antes.now c.loop-ante.ante-index 0)) c.loop-ante.invariant
    ∙ (ante_more c.args.graph.now ns (get_or c.args.antes.now c.loop-ante.ante-index 0)
    ∙ ap (λ (xs : List ℕ). with_antes c.args.graph.now xs) (take_more c.args.antes.now c.loop-ante.ante-index c.loop-ante-test.true)))

pub returns : goal.returns
returns c = c.loop-ante.invariant ∙ ap (λ (xs : List ℕ). with_antes c.args.graph.now xs) (take_all c.loop-ante.ante-index c.args.antes.now c.loop-ante-test.false)
