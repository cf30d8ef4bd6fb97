use Rattle.std.proofs.Common.{rules, ◌≡◌, ℕ, ◌+◌, List, [], ◌∷◌, ◌++◌, ap, sym, ◌∙◌, subst, arith, length, length-append}
use Rattle.std.specs.List.{sum_by}
use Rattle.std.proofs.lemmas.List.Sums.{sum_by-append, sum_by-cons}
use Rattle.std.proofs.lemmas.List.FromFn.{length-range_with_len}
use Rattle.graph_mean.specs.Graph.{Held, edges_at, edge_count, blank}
use Rattle.graph_mean.specs.Task.{Aim, missing_of}
use Rattle.graph_lib.specs.Piece.{Piece, start}
use Rattle.graph_lib.specs.Assembled.{commit_node, read_part, sum_part, write_part, commit_of, assembled}
use Rattle.graph_lib.specs.Library.{pieces_upto}
use Rattle.graph_lib.specs.Laws.{HasRoom}
use Rattle.graph_lib.specs.Section.{pieces_of}
use Rattle.graph_lib.specs.Passes.{with_rets, with_nodes, with_front, ret_part, buf_part, back_part, back_edges, Fits}
use Rattle.graph_lib.specs.declared.section.Section.{Section}
use Rattle.graph_lib.proofs.Roles.{commit-is}
use Rattle.graph_lib.proofs.Edges.{edges-written}
use Rattle.graph_lib.proofs.Drawing.{writes-are, edges-sum, nodes-are}
use Rattle.graph_lib.proofs.Promises.{fit-of, pieces-most, fits}
use Rattle.graph_lib.proofs.planner.plan_by.Goals as goal

-- the sections are the library's
here : (t : Aim) (ps : List Piece) (w : ℕ) (xs ys : List Section) → w ≡ t.width → xs ≡ ys → pieces_of t.width ys ≡ ps → pieces_of w xs ≡ ps
here t ps w xs ys e f g = ap (λ k. pieces_of k xs) e ∙ ap (pieces_of t.width) f ∙ g

-- so the front is that of the library's pieces
front-is : (g h x : Held) (ps qs : List Piece) → h ≡ record g { drawn = blank } → x ≡ with_front h qs → qs ≡ ps → x ≡ with_front (record g { drawn = blank }) ps
front-is g h x ps qs e f k = f ∙ ap (λ w. with_front w qs) e ∙ ap (with_front (record g { drawn = blank })) k

edges-here : (ps : List Piece) → sum_by edges_at (write_part ps) ≡ length (write_part ps)
edges-here ps = ap (sum_by edges_at) (sym (writes-are ps)) ∙ edges-written (commit_of ps) ps start ∙ ap length (writes-are ps)

-- what the front has: its nodes, edges and returns
module _ (g x : Held) (ps : List Piece) (e : x ≡ with_front (record g { drawn = blank }) ps) where
  front-nodes : length x.drawn.nodes ≡ commit_of ps + 1
  front-nodes =
      let a = ap (λ (w : Held). length w.drawn.nodes) e in
      let b = length-append (read_part ps) (sum_part ps ++ commit_node (commit_of ps) ∷ []) in
      let c = length-append (sum_part ps) (commit_node (commit_of ps) ∷ []) in
      let d = commit-is ps in
      omega arith

  front-edges : edge_count x.drawn ≡ sum_by edges_at (read_part ps) + (sum_by edges_at (sum_part ps) + commit_of ps)
  front-edges =
      let a = ap (λ (w : Held). edge_count w.drawn) e in
      let b = sum_by-append edges_at (read_part ps) (sum_part ps ++ commit_node (commit_of ps) ∷ []) in
      let c = sum_by-append edges_at (sum_part ps) (commit_node (commit_of ps) ∷ []) in
      let d = sum_by-cons edges_at (commit_node (commit_of ps)) [] in
      let f = length-range_with_len 0 (commit_of ps) in
      omega arith

  whole : (y : Held) → y ≡ with_rets (with_nodes x (back_part ps)) (ret_part ps) → y ≡ record g { drawn = assembled ps }
  whole y k =
      k ∙ ap (λ w. with_rets (with_nodes w (back_part ps)) (ret_part ps)) e
      ∙ ap (λ ns. record g { drawn = record { bufs = buf_part ps; nodes = ns; rets = ret_part ps } }) (nodes-are ps)

pub cut-requires : goal.cut-requires
cut-requires g c = (search rules, (c.width-width.ensures.task, (fit-of c.args.task.now (missing_of c.args.missing.now) c.width-width.ensures.task c.requires.gone, (c.requires.missing, (c.requires.task.ascend, (c.empty-list.ensures, (pieces-most c.args.task.now (missing_of c.args.missing.now) c.args.target g.row.MOST c.requires.ranges c.requires.stripes, c.requires.most)))))))

pub draw_front-requires-clause-room : goal.draw_front-requires-clause-room
draw_front-requires-clause-room g c = subst HasRoom (sym c.clear.ensures) (record { nodes = c.requires.room.nodes; bufs = c.requires.room.bufs; edges = c.requires.room.edges })

pub draw_front-requires-clause-fits : goal.draw_front-requires-clause-fits
draw_front-requires-clause-fits g c =
    subst Fits (sym (here c.args.task.now (pieces_upto c.args.task.now (missing_of c.args.missing.now) c.args.target c.args.task.now.stripes) c.width-width.result c.as_slice.result.now c.cut.new.list c.width-width.ensures.value c.as_slice.ensures c.cut.ensures))
    (fits c.args.task.now (missing_of c.args.missing.now) c.args.target c.width-width.ensures.task c.requires.gone c.requires.task.few)

pub overflow_sub-commit : goal.overflow_sub-commit
overflow_sub-commit g c =
    let ps : List Piece = pieces_upto c.args.task.now (missing_of c.args.missing.now) c.args.target c.args.task.now.stripes in
    let k = here c.args.task.now ps c.width-width.result c.as_slice.result.now c.cut.new.list c.width-width.ensures.value c.as_slice.ensures c.cut.ensures in
    let e = front-is c.args.graph.now c.clear.new.self c.draw_front.new.graph ps (pieces_of c.width-width.result c.as_slice.result.now) c.clear.ensures c.draw_front.ensures k in
    let n = front-nodes c.args.graph.now c.draw_front.new.graph ps e in
    let r = c.nodes-commit.ensures in
    omega arith

pub draw_back-requires-clause-commit : goal.draw_back-requires-clause-commit
draw_back-requires-clause-commit g c =
    let ps : List Piece = pieces_upto c.args.task.now (missing_of c.args.missing.now) c.args.target c.args.task.now.stripes in
    let k = here c.args.task.now ps c.width-width.result c.as_slice.result.now c.cut.new.list c.width-width.ensures.value c.as_slice.ensures c.cut.ensures in
    let e = front-is c.args.graph.now c.clear.new.self c.draw_front.new.graph ps (pieces_of c.width-width.result c.as_slice.result.now) c.clear.ensures c.draw_front.ensures k in
    let q = here c.args.task.now ps c.width-width.result c.as_slice-2.result.now c.cut.new.list c.width-width.ensures.value c.as_slice-2.ensures c.cut.ensures in
    let n = front-nodes c.args.graph.now c.draw_front.new.graph ps e in
    let r = c.nodes-commit.ensures in
    let m = ap commit_of q in
    omega arith

pub draw_back-requires-clause-fits : goal.draw_back-requires-clause-fits
draw_back-requires-clause-fits g c =
    subst Fits (sym (here c.args.task.now (pieces_upto c.args.task.now (missing_of c.args.missing.now) c.args.target c.args.task.now.stripes) c.width-width.result c.as_slice-2.result.now c.cut.new.list c.width-width.ensures.value c.as_slice-2.ensures c.cut.ensures))
    (fits c.args.task.now (missing_of c.args.missing.now) c.args.target c.width-width.ensures.task c.requires.gone c.requires.task.few)

pub draw_back-requires-clause-node_room : goal.draw_back-requires-clause-node_room
draw_back-requires-clause-node_room g c =
    let ps : List Piece = pieces_upto c.args.task.now (missing_of c.args.missing.now) c.args.target c.args.task.now.stripes in
    let k = here c.args.task.now ps c.width-width.result c.as_slice.result.now c.cut.new.list c.width-width.ensures.value c.as_slice.ensures c.cut.ensures in
    let e = front-is c.args.graph.now c.clear.new.self c.draw_front.new.graph ps (pieces_of c.width-width.result c.as_slice.result.now) c.clear.ensures c.draw_front.ensures k in
    let q = here c.args.task.now ps c.width-width.result c.as_slice-2.result.now c.cut.new.list c.width-width.ensures.value c.as_slice-2.ensures c.cut.ensures in
    let f = fits c.args.task.now (missing_of c.args.missing.now) c.args.target c.width-width.ensures.task c.requires.gone c.requires.task.few in
    let a = f.nodes in
    let r = c.requires.room.nodes in
    let b = ap (λ (w : Held). w.node_room) e in
    let m = ap (λ (qs : List Piece). length (assembled qs).nodes) q in
    omega arith

pub draw_back-requires-clause-edge_room : goal.draw_back-requires-clause-edge_room
draw_back-requires-clause-edge_room g c =
    let ps : List Piece = pieces_upto c.args.task.now (missing_of c.args.missing.now) c.args.target c.args.task.now.stripes in
    let k = here c.args.task.now ps c.width-width.result c.as_slice.result.now c.cut.new.list c.width-width.ensures.value c.as_slice.ensures c.cut.ensures in
    let e = front-is c.args.graph.now c.clear.new.self c.draw_front.new.graph ps (pieces_of c.width-width.result c.as_slice.result.now) c.clear.ensures c.draw_front.ensures k in
    let q = here c.args.task.now ps c.width-width.result c.as_slice-2.result.now c.cut.new.list c.width-width.ensures.value c.as_slice-2.ensures c.cut.ensures in
    let f = fits c.args.task.now (missing_of c.args.missing.now) c.args.target c.width-width.ensures.task c.requires.gone c.requires.task.few in
    let a = f.edges in
    let r = c.requires.room.edges in
    let b = ap (λ (w : Held). w.edge_room) e in
    let m = ap back_edges q in
    let n = front-edges c.args.graph.now c.draw_front.new.graph ps e in
    let s = edges-sum ps in
    let w = edges-here ps in
    omega arith

pub draw_back-requires-clause-ret_room : goal.draw_back-requires-clause-ret_room
draw_back-requires-clause-ret_room g c =
    let ps : List Piece = pieces_upto c.args.task.now (missing_of c.args.missing.now) c.args.target c.args.task.now.stripes in
    let k = here c.args.task.now ps c.width-width.result c.as_slice.result.now c.cut.new.list c.width-width.ensures.value c.as_slice.ensures c.cut.ensures in
    let e = front-is c.args.graph.now c.clear.new.self c.draw_front.new.graph ps (pieces_of c.width-width.result c.as_slice.result.now) c.clear.ensures c.draw_front.ensures k in
    let q = here c.args.task.now ps c.width-width.result c.as_slice-2.result.now c.cut.new.list c.width-width.ensures.value c.as_slice-2.ensures c.cut.ensures in
    let f = fits c.args.task.now (missing_of c.args.missing.now) c.args.target c.width-width.ensures.task c.requires.gone c.requires.task.few in
    let a = f.rets in
    let r = c.requires.room.bufs in
    let b = ap (λ (w : Held). w.buf_room) e in
    let m = ap (λ (qs : List Piece). length (ret_part qs)) q in
    let n = ap (λ (w : Held). length w.drawn.rets) e in
    omega arith

pub returns : goal.returns
returns g c =
    let ps : List Piece = pieces_upto c.args.task.now (missing_of c.args.missing.now) c.args.target c.args.task.now.stripes in
    let k = here c.args.task.now ps c.width-width.result c.as_slice.result.now c.cut.new.list c.width-width.ensures.value c.as_slice.ensures c.cut.ensures in
    let e = front-is c.args.graph.now c.clear.new.self c.draw_front.new.graph ps (pieces_of c.width-width.result c.as_slice.result.now) c.clear.ensures c.draw_front.ensures k in
    let q = here c.args.task.now ps c.width-width.result c.as_slice-2.result.now c.cut.new.list c.width-width.ensures.value c.as_slice-2.ensures c.cut.ensures in
    let b = c.draw_back.ensures ∙ ap (λ (qs : List Piece). with_rets (with_nodes c.draw_front.new.graph (back_part qs)) (ret_part qs)) q in
    whole c.args.graph.now c.draw_front.new.graph ps e c.draw_back.new.graph b
