use Rattle.std.proofs.Common.{◌∙◌, ℕ, [], ◌∷◌, ◌++◌, map, length, ap, arith}
use Rattle.graph_mean.specs.declared.graph.Node.TheVariants.{Cmt, Trm}
use Rattle.graph_mean.specs.Graph.{Held, View}
use Rattle.graph_merge.specs.declared.half.Group.TheVariants.{Early, Rest}
use Rattle.graph_merge.specs.Joined.{joint_by_tables, moved_buf, moved_group, moved_ret}
use Rattle.graph_merge.proofs.Assembling.{assembled}
use Rattle.graph_merge.proofs.Totals.{blank_edges, blank_nodes, edges_few, nodes_few, total_edges, total_nodes}
use Rattle.graph_merge.proofs.joining.push_all.Goals as goal

pub push_group-requires-clause-room : goal.push_group-requires-clause-room
push_group-requires-clause-room c =
    let ta = total_nodes c.args.a.now.drawn c.args.first c.args.late_a.now c.requires.first c.requires.late_a.marks in
    let tb = total_nodes c.args.b.now.drawn c.args.second c.args.late_b.now c.requires.second c.requires.late_b.marks in
    let few = nodes_few c.args.a.now.drawn c.args.b.now.drawn c.requires.small in
    let none = blank_nodes c.args.out.now c.requires.blank in
    let room = c.requires.rooms.nodes in
    let g0 = c.push_bufs.ensures.grows.nodes in
    let r0 = c.push_bufs.ensures.grows.node_room in
    let g1 = c.push_bufs-2.ensures.grows.nodes in
    let r1 = c.push_bufs-2.ensures.grows.node_room in
    let g2 = c.push_rets.ensures.grows.nodes in
    let r2 = c.push_rets.ensures.grows.node_room in
    let g3 = c.push_rets-2.ensures.grows.nodes in
    let r3 = c.push_rets-2.ensures.grows.node_room in
    omega arith

pub push_group-requires-clause-edges : goal.push_group-requires-clause-edges
push_group-requires-clause-edges c =
    let ta = total_edges c.args.a.now.drawn c.args.first c.args.late_a.now c.requires.first c.requires.late_a.marks c.args.places_a.now 0 in
    let tb = total_edges c.args.b.now.drawn c.args.second c.args.late_b.now c.requires.second c.requires.late_b.marks c.args.places_b.now c.bufs-up.result in
    let few = edges_few c.args.a.now.drawn c.args.b.now.drawn c.requires.small in
    let none = blank_edges c.args.out.now c.requires.blank in
    let room = c.requires.rooms.edges in
    let g0 = c.push_bufs.ensures.grows.edges in
    let r0 = c.push_bufs.ensures.grows.edge_room in
    let g1 = c.push_bufs-2.ensures.grows.edges in
    let r1 = c.push_bufs-2.ensures.grows.edge_room in
    let g2 = c.push_rets.ensures.grows.edges in
    let r2 = c.push_rets.ensures.grows.edge_room in
    let g3 = c.push_rets-2.ensures.grows.edges in
    let r3 = c.push_rets-2.ensures.grows.edge_room in
    omega arith

pub push_group-requires-2-clause-room : goal.push_group-requires-2-clause-room
push_group-requires-2-clause-room c =
    let ta = total_nodes c.args.a.now.drawn c.args.first c.args.late_a.now c.requires.first c.requires.late_a.marks in
    let tb = total_nodes c.args.b.now.drawn c.args.second c.args.late_b.now c.requires.second c.requires.late_b.marks in
    let few = nodes_few c.args.a.now.drawn c.args.b.now.drawn c.requires.small in
    let none = blank_nodes c.args.out.now c.requires.blank in
    let room = c.requires.rooms.nodes in
    let g0 = c.push_bufs.ensures.grows.nodes in
    let r0 = c.push_bufs.ensures.grows.node_room in
    let g1 = c.push_bufs-2.ensures.grows.nodes in
    let r1 = c.push_bufs-2.ensures.grows.node_room in
    let g2 = c.push_rets.ensures.grows.nodes in
    let r2 = c.push_rets.ensures.grows.node_room in
    let g3 = c.push_rets-2.ensures.grows.nodes in
    let r3 = c.push_rets-2.ensures.grows.node_room in
    let g4 = c.push_group.ensures.grows.nodes in
    let r4 = c.push_group.ensures.grows.node_room in
    omega arith

pub push_group-requires-2-clause-edges : goal.push_group-requires-2-clause-edges
push_group-requires-2-clause-edges c =
    let ta = total_edges c.args.a.now.drawn c.args.first c.args.late_a.now c.requires.first c.requires.late_a.marks c.args.places_a.now 0 in
    let tb = total_edges c.args.b.now.drawn c.args.second c.args.late_b.now c.requires.second c.requires.late_b.marks c.args.places_b.now c.bufs-up.result in
    let few = edges_few c.args.a.now.drawn c.args.b.now.drawn c.requires.small in
    let none = blank_edges c.args.out.now c.requires.blank in
    let room = c.requires.rooms.edges in
    let g0 = c.push_bufs.ensures.grows.edges in
    let r0 = c.push_bufs.ensures.grows.edge_room in
    let g1 = c.push_bufs-2.ensures.grows.edges in
    let r1 = c.push_bufs-2.ensures.grows.edge_room in
    let g2 = c.push_rets.ensures.grows.edges in
    let r2 = c.push_rets.ensures.grows.edge_room in
    let g3 = c.push_rets-2.ensures.grows.edges in
    let r3 = c.push_rets-2.ensures.grows.edge_room in
    let g4 = c.push_group.ensures.grows.edges in
    let r4 = c.push_group.ensures.grows.edge_room in
    omega arith

pub push_joint-requires-clause-room : goal.push_joint-requires-clause-room
push_joint-requires-clause-room c =
    let ta = total_nodes c.args.a.now.drawn c.args.first c.args.late_a.now c.requires.first c.requires.late_a.marks in
    let tb = total_nodes c.args.b.now.drawn c.args.second c.args.late_b.now c.requires.second c.requires.late_b.marks in
    let few = nodes_few c.args.a.now.drawn c.args.b.now.drawn c.requires.small in
    let none = blank_nodes c.args.out.now c.requires.blank in
    let room = c.requires.rooms.nodes in
    let g0 = c.push_bufs.ensures.grows.nodes in
    let r0 = c.push_bufs.ensures.grows.node_room in
    let g1 = c.push_bufs-2.ensures.grows.nodes in
    let r1 = c.push_bufs-2.ensures.grows.node_room in
    let g2 = c.push_rets.ensures.grows.nodes in
    let r2 = c.push_rets.ensures.grows.node_room in
    let g3 = c.push_rets-2.ensures.grows.nodes in
    let r3 = c.push_rets-2.ensures.grows.node_room in
    let g4 = c.push_group.ensures.grows.nodes in
    let r4 = c.push_group.ensures.grows.node_room in
    let g5 = c.push_group-2.ensures.grows.nodes in
    let r5 = c.push_group-2.ensures.grows.node_room in
    omega arith

pub push_joint-requires-clause-edges : goal.push_joint-requires-clause-edges
push_joint-requires-clause-edges c =
    let ta = total_edges c.args.a.now.drawn c.args.first c.args.late_a.now c.requires.first c.requires.late_a.marks c.args.places_a.now 0 in
    let tb = total_edges c.args.b.now.drawn c.args.second c.args.late_b.now c.requires.second c.requires.late_b.marks c.args.places_b.now c.bufs-up.result in
    let few = edges_few c.args.a.now.drawn c.args.b.now.drawn c.requires.small in
    let none = blank_edges c.args.out.now c.requires.blank in
    let room = c.requires.rooms.edges in
    let g0 = c.push_bufs.ensures.grows.edges in
    let r0 = c.push_bufs.ensures.grows.edge_room in
    let g1 = c.push_bufs-2.ensures.grows.edges in
    let r1 = c.push_bufs-2.ensures.grows.edge_room in
    let g2 = c.push_rets.ensures.grows.edges in
    let r2 = c.push_rets.ensures.grows.edge_room in
    let g3 = c.push_rets-2.ensures.grows.edges in
    let r3 = c.push_rets-2.ensures.grows.edge_room in
    let g4 = c.push_group.ensures.grows.edges in
    let r4 = c.push_group.ensures.grows.edge_room in
    let g5 = c.push_group-2.ensures.grows.edges in
    let r5 = c.push_group-2.ensures.grows.edge_room in
    omega arith

pub push_group-requires-3-clause-room : goal.push_group-requires-3-clause-room
push_group-requires-3-clause-room c =
    let ta = total_nodes c.args.a.now.drawn c.args.first c.args.late_a.now c.requires.first c.requires.late_a.marks in
    let tb = total_nodes c.args.b.now.drawn c.args.second c.args.late_b.now c.requires.second c.requires.late_b.marks in
    let few = nodes_few c.args.a.now.drawn c.args.b.now.drawn c.requires.small in
    let none = blank_nodes c.args.out.now c.requires.blank in
    let room = c.requires.rooms.nodes in
    let g0 = c.push_bufs.ensures.grows.nodes in
    let r0 = c.push_bufs.ensures.grows.node_room in
    let g1 = c.push_bufs-2.ensures.grows.nodes in
    let r1 = c.push_bufs-2.ensures.grows.node_room in
    let g2 = c.push_rets.ensures.grows.nodes in
    let r2 = c.push_rets.ensures.grows.node_room in
    let g3 = c.push_rets-2.ensures.grows.nodes in
    let r3 = c.push_rets-2.ensures.grows.node_room in
    let g4 = c.push_group.ensures.grows.nodes in
    let r4 = c.push_group.ensures.grows.node_room in
    let g5 = c.push_group-2.ensures.grows.nodes in
    let r5 = c.push_group-2.ensures.grows.node_room in
    let g6 = c.push_joint.ensures.grows.nodes in
    let r6 = c.push_joint.ensures.grows.node_room in
    omega arith

pub push_group-requires-3-clause-edges : goal.push_group-requires-3-clause-edges
push_group-requires-3-clause-edges c =
    let ta = total_edges c.args.a.now.drawn c.args.first c.args.late_a.now c.requires.first c.requires.late_a.marks c.args.places_a.now 0 in
    let tb = total_edges c.args.b.now.drawn c.args.second c.args.late_b.now c.requires.second c.requires.late_b.marks c.args.places_b.now c.bufs-up.result in
    let few = edges_few c.args.a.now.drawn c.args.b.now.drawn c.requires.small in
    let none = blank_edges c.args.out.now c.requires.blank in
    let room = c.requires.rooms.edges in
    let g0 = c.push_bufs.ensures.grows.edges in
    let r0 = c.push_bufs.ensures.grows.edge_room in
    let g1 = c.push_bufs-2.ensures.grows.edges in
    let r1 = c.push_bufs-2.ensures.grows.edge_room in
    let g2 = c.push_rets.ensures.grows.edges in
    let r2 = c.push_rets.ensures.grows.edge_room in
    let g3 = c.push_rets-2.ensures.grows.edges in
    let r3 = c.push_rets-2.ensures.grows.edge_room in
    let g4 = c.push_group.ensures.grows.edges in
    let r4 = c.push_group.ensures.grows.edge_room in
    let g5 = c.push_group-2.ensures.grows.edges in
    let r5 = c.push_group-2.ensures.grows.edge_room in
    let g6 = c.push_joint.ensures.grows.edges in
    let r6 = c.push_joint.ensures.grows.edge_room in
    omega arith

pub push_group-requires-4-clause-room : goal.push_group-requires-4-clause-room
push_group-requires-4-clause-room c =
    let ta = total_nodes c.args.a.now.drawn c.args.first c.args.late_a.now c.requires.first c.requires.late_a.marks in
    let tb = total_nodes c.args.b.now.drawn c.args.second c.args.late_b.now c.requires.second c.requires.late_b.marks in
    let few = nodes_few c.args.a.now.drawn c.args.b.now.drawn c.requires.small in
    let none = blank_nodes c.args.out.now c.requires.blank in
    let room = c.requires.rooms.nodes in
    let g0 = c.push_bufs.ensures.grows.nodes in
    let r0 = c.push_bufs.ensures.grows.node_room in
    let g1 = c.push_bufs-2.ensures.grows.nodes in
    let r1 = c.push_bufs-2.ensures.grows.node_room in
    let g2 = c.push_rets.ensures.grows.nodes in
    let r2 = c.push_rets.ensures.grows.node_room in
    let g3 = c.push_rets-2.ensures.grows.nodes in
    let r3 = c.push_rets-2.ensures.grows.node_room in
    let g4 = c.push_group.ensures.grows.nodes in
    let r4 = c.push_group.ensures.grows.node_room in
    let g5 = c.push_group-2.ensures.grows.nodes in
    let r5 = c.push_group-2.ensures.grows.node_room in
    let g6 = c.push_joint.ensures.grows.nodes in
    let r6 = c.push_joint.ensures.grows.node_room in
    let g7 = c.push_group-3.ensures.grows.nodes in
    let r7 = c.push_group-3.ensures.grows.node_room in
    omega arith

pub push_group-requires-4-clause-edges : goal.push_group-requires-4-clause-edges
push_group-requires-4-clause-edges c =
    let ta = total_edges c.args.a.now.drawn c.args.first c.args.late_a.now c.requires.first c.requires.late_a.marks c.args.places_a.now 0 in
    let tb = total_edges c.args.b.now.drawn c.args.second c.args.late_b.now c.requires.second c.requires.late_b.marks c.args.places_b.now c.bufs-up.result in
    let few = edges_few c.args.a.now.drawn c.args.b.now.drawn c.requires.small in
    let none = blank_edges c.args.out.now c.requires.blank in
    let room = c.requires.rooms.edges in
    let g0 = c.push_bufs.ensures.grows.edges in
    let r0 = c.push_bufs.ensures.grows.edge_room in
    let g1 = c.push_bufs-2.ensures.grows.edges in
    let r1 = c.push_bufs-2.ensures.grows.edge_room in
    let g2 = c.push_rets.ensures.grows.edges in
    let r2 = c.push_rets.ensures.grows.edge_room in
    let g3 = c.push_rets-2.ensures.grows.edges in
    let r3 = c.push_rets-2.ensures.grows.edge_room in
    let g4 = c.push_group.ensures.grows.edges in
    let r4 = c.push_group.ensures.grows.edge_room in
    let g5 = c.push_group-2.ensures.grows.edges in
    let r5 = c.push_group-2.ensures.grows.edge_room in
    let g6 = c.push_joint.ensures.grows.edges in
    let r6 = c.push_joint.ensures.grows.edge_room in
    let g7 = c.push_group-3.ensures.grows.edges in
    let r7 = c.push_group-3.ensures.grows.edge_room in
    omega arith

pub push_joint-requires-2-clause-room : goal.push_joint-requires-2-clause-room
push_joint-requires-2-clause-room c =
    let ta = total_nodes c.args.a.now.drawn c.args.first c.args.late_a.now c.requires.first c.requires.late_a.marks in
    let tb = total_nodes c.args.b.now.drawn c.args.second c.args.late_b.now c.requires.second c.requires.late_b.marks in
    let few = nodes_few c.args.a.now.drawn c.args.b.now.drawn c.requires.small in
    let none = blank_nodes c.args.out.now c.requires.blank in
    let room = c.requires.rooms.nodes in
    let g0 = c.push_bufs.ensures.grows.nodes in
    let r0 = c.push_bufs.ensures.grows.node_room in
    let g1 = c.push_bufs-2.ensures.grows.nodes in
    let r1 = c.push_bufs-2.ensures.grows.node_room in
    let g2 = c.push_rets.ensures.grows.nodes in
    let r2 = c.push_rets.ensures.grows.node_room in
    let g3 = c.push_rets-2.ensures.grows.nodes in
    let r3 = c.push_rets-2.ensures.grows.node_room in
    let g4 = c.push_group.ensures.grows.nodes in
    let r4 = c.push_group.ensures.grows.node_room in
    let g5 = c.push_group-2.ensures.grows.nodes in
    let r5 = c.push_group-2.ensures.grows.node_room in
    let g6 = c.push_joint.ensures.grows.nodes in
    let r6 = c.push_joint.ensures.grows.node_room in
    let g7 = c.push_group-3.ensures.grows.nodes in
    let r7 = c.push_group-3.ensures.grows.node_room in
    let g8 = c.push_group-4.ensures.grows.nodes in
    let r8 = c.push_group-4.ensures.grows.node_room in
    omega arith

pub push_joint-requires-2-clause-edges : goal.push_joint-requires-2-clause-edges
push_joint-requires-2-clause-edges c =
    let ta = total_edges c.args.a.now.drawn c.args.first c.args.late_a.now c.requires.first c.requires.late_a.marks c.args.places_a.now 0 in
    let tb = total_edges c.args.b.now.drawn c.args.second c.args.late_b.now c.requires.second c.requires.late_b.marks c.args.places_b.now c.bufs-up.result in
    let few = edges_few c.args.a.now.drawn c.args.b.now.drawn c.requires.small in
    let none = blank_edges c.args.out.now c.requires.blank in
    let room = c.requires.rooms.edges in
    let g0 = c.push_bufs.ensures.grows.edges in
    let r0 = c.push_bufs.ensures.grows.edge_room in
    let g1 = c.push_bufs-2.ensures.grows.edges in
    let r1 = c.push_bufs-2.ensures.grows.edge_room in
    let g2 = c.push_rets.ensures.grows.edges in
    let r2 = c.push_rets.ensures.grows.edge_room in
    let g3 = c.push_rets-2.ensures.grows.edges in
    let r3 = c.push_rets-2.ensures.grows.edge_room in
    let g4 = c.push_group.ensures.grows.edges in
    let r4 = c.push_group.ensures.grows.edge_room in
    let g5 = c.push_group-2.ensures.grows.edges in
    let r5 = c.push_group-2.ensures.grows.edge_room in
    let g6 = c.push_joint.ensures.grows.edges in
    let r6 = c.push_joint.ensures.grows.edge_room in
    let g7 = c.push_group-3.ensures.grows.edges in
    let r7 = c.push_group-3.ensures.grows.edge_room in
    let g8 = c.push_group-4.ensures.grows.edges in
    let r8 = c.push_group-4.ensures.grows.edge_room in
    omega arith

pub returns : goal.returns
returns c =
    let a = c.args.a.now.drawn in
    let b = c.args.b.now.drawn in
    let up : ℕ → View = λ u. record {
      bufs = map (moved_buf 0) a.bufs ++ map (moved_buf c.args.shift) b.bufs;
      nodes = moved_group a Early c.args.first c.args.late_a.now 0 c.args.places_a.now (length a.nodes) ++ moved_group b Early c.args.second c.args.late_b.now u c.args.places_b.now (length b.nodes) ++ joint_by_tables a c.args.first.commit c.args.places_a.now b c.args.second.commit c.args.places_b.now Cmt ∷ [] ++ moved_group a Rest c.args.first c.args.late_a.now 0 c.args.places_a.now (length a.nodes) ++ moved_group b Rest c.args.second c.args.late_b.now u c.args.places_b.now (length b.nodes) ++ joint_by_tables a c.args.first.end c.args.places_a.now b c.args.second.end c.args.places_b.now Trm ∷ [];
      rets = map (moved_ret 0) a.rets ++ map (moved_ret u) b.rets;
    } in
    assembled c.args.out.now c.push_bufs.new.out c.push_bufs-2.new.out c.push_rets.new.out c.push_rets-2.new.out c.push_group.new.out c.push_group-2.new.out c.push_joint.new.out c.push_group-3.new.out c.push_group-4.new.out c.push_joint-2.new.out _ _ _ _ _ _ _ _ _ _
    c.requires.blank c.push_bufs.ensures.drawn c.push_bufs-2.ensures.drawn c.push_rets.ensures.drawn c.push_rets-2.ensures.drawn c.push_group.ensures.drawn c.push_group-2.ensures.drawn c.push_joint.ensures.drawn c.push_group-3.ensures.drawn c.push_group-4.ensures.drawn c.push_joint-2.ensures.drawn
    ∙ ap (λ (u : ℕ). let g : Held = record c.args.out.now { drawn = up u } in g) c.bufs-up.ensures
