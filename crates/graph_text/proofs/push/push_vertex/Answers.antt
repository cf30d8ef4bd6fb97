use Rattle.std.proofs.Common.{◌≡◌, ◌∙◌, ◌<◌, ◌≤◌, ◌+◌, sym, subst, ap, arith, length}
use Rattle.graph_mean.specs.Graph.{Held, edge_count, with_node}
use Rattle.graph_text.specs.Pushed.{with_antes, with_sources}
use Rattle.graph_text.proofs.PushedNodes.{new_edges, new_some, sources_edges, sources_room, sources_some, vertex_pushed}
use Rattle.graph_text.proofs.push.push_vertex.Goals as goal

pub push_antes-requires-clause-some : goal.push_antes-requires-clause-some
push_antes-requires-clause-some c = subst (λ (h : Held). 0 < length h.drawn.nodes) (sym c.push_sources.ensures) (sources_some c.push_node.new.self c.args.sources.now)

pub push_antes-requires-clause-room : goal.push_antes-requires-clause-room
push_antes-requires-clause-room c =
    let h = c.args.graph.now in
    let n = with_node h c.args.node in
    let e = sources_edges n c.args.sources.now (new_some h c.args.node) in
    let r = sources_room n c.args.sources.now in
    let d = new_edges h c.args.node in
    let room = c.requires.edges in
    let is : c.push_sources.new.graph ≡ with_sources n c.args.sources.now = c.push_sources.ensures ∙ ap (λ (g : Held). with_sources g c.args.sources.now) c.push_node.ensures in
    subst (λ (h : Held). edge_count h.drawn + length c.args.antes.now ≤ h.edge_room) (sym is) (omega arith)

pub returns : goal.returns
returns c =
    c.push_antes.ensures
    ∙ (ap (λ (g : Held). with_antes g c.args.antes.now) (c.push_sources.ensures ∙ ap (λ (g : Held). with_sources g c.args.sources.now) c.push_node.ensures)
    ∙ vertex_pushed c.args.graph.now c.args.node c.args.sources.now c.args.antes.now)
