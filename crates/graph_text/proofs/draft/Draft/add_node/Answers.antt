use Rattle.std.proofs.Common.{◌≡◌, ◌∙◌, ◌+◌, Ok, Err, true, false, sym, ap, subst, arith, eq-eqb, length}
use Rattle.std.specs.Prelude.{◌&&◌, nat_eq, nat_le, nat_lt}
use Rattle.raid_text.specs.Seen.{words_left}
use Rattle.graph_mean.specs.Graph.{View, edge_count}
use Rattle.graph_text.specs.FormatLines.{node_of}
use Rattle.graph_text.specs.Format.{with_node_line}
use Rattle.graph_text.specs.Kept.{kept_node}
use Rattle.graph_text.proofs.NodeLines.{node_added, node_over}
use Rattle.graph_text.proofs.draft.Draft.add_node.Goals as goal

pub returns-then-not-has_room : goal.returns-then-not-has_room
returns-then-not-has_room c =
    let g = c.self.inside.graph.drawn in
    let words = words_left c.args.words.now in
    let ss = c.as_slice-sources.result.now in
    let aa = c.as_slice-antes.result.now in
    let none : length g.rets ≡ 0 = let e = c.rets.ensures in let f = c.if-rets-ne0.false in omega arith in
    let order : nat_eq (length g.rets) 0 ≡ true = eq-eqb (length g.rets) 0 none in
    let read : kept_node (node_of (length g.nodes) words) ≡ Ok (record { kind = c.in_ok-node.node; sources = ss; antes = aa }) =
    rw (c.as_slice-sources.ensures.all, c.as_slice-antes.ensures.all, ← c.nodes.ensures) c.in_ok-node.ensures.node in
    let room : (nat_lt (length g.nodes) 2048 && nat_le (edge_count g + (length ss + length aa)) 16384) ≡ false =
    sym (rw (c.nodes-2.ensures, c.self.invariant.count) at c.has_room.ensures) ∙ c.if-not-has_room.true in
    subst (λ (g : View). with_node_line g words ≡ Err 5) c.self.view_is (node_over g words c.in_ok-node.node ss aa order read room)

pub returns : goal.returns
returns c =
    let g = c.self.inside.graph.drawn in
    let words = words_left c.args.words.now in
    let ss = c.as_slice-sources.result.now in
    let aa = c.as_slice-antes.result.now in
    let none : length g.rets ≡ 0 = let e = c.rets.ensures in let f = c.if-rets-ne0.false in omega arith in
    let order : nat_eq (length g.rets) 0 ≡ true = eq-eqb (length g.rets) 0 none in
    let read : kept_node (node_of (length g.nodes) words) ≡ Ok (record { kind = c.in_ok-node.node; sources = ss; antes = aa }) =
    rw (c.as_slice-sources.ensures.all, c.as_slice-antes.ensures.all, ← c.nodes.ensures) c.in_ok-node.ensures.node in
    let room : (nat_lt (length g.nodes) 2048 && nat_le (edge_count g + (length ss + length aa)) 16384) ≡ true =
    sym (rw (c.nodes-2.ensures, c.self.invariant.count) at c.has_room.ensures) ∙ c.if-not-has_room.false in
    subst (λ (h : View). with_node_line h words ≡ Ok c.push_vertex.new.graph.drawn) c.self.view_is
    (node_added g words c.in_ok-node.node ss aa order read room ∙ ap (λ (h : View). Ok h) (sym (ap (λ h. h.drawn) c.push_vertex.ensures)))
