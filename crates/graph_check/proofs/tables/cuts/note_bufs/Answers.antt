use Rattle.std.proofs.Common.{false, sym, ap, ◌∙◌, arith, get_or, take}
use Rattle.std.specs.Prelude.{◌||◌}
use Rattle.std.specs.List.{list_any}
use Rattle.std.proofs.lemmas.List.{take_all}
use Rattle.std.proofs.lemmas.List.Folds.{list_any_more}
use Rattle.graph_mean.specs.Graph.{buf_at}
use Rattle.graph_check.specs.Pieces.{buf_cuts, cut_place}
use Rattle.graph_check.proofs.Cutting.{cuts-more}
use Rattle.graph_check.proofs.tables.cuts.note_bufs.Goals as goal
use Rattle.graph_mean.proofs.Words.{no_buf}

pub loop-b-preserved : goal.loop-b-preserved
loop-b-preserved c = λ s o l m.
    let xs = c.args.graph.now.drawn.bufs in
    let b = c.loop-b.b in
    let old = get_or c.args.cuts.now (cut_place s o) false in
    let f = buf_cuts s o in
    c.note_ends.ensures s o l m
    ∙ ap (λ v. f v || get_or c.loop-b.cuts (cut_place s o) false) c.buf-buf.ensures
    ∙ ap (λ x. f (buf_at c.args.graph.now.drawn b) || x) (c.loop-b.invariant s o l m)
    ∙ cuts-more (f (buf_at c.args.graph.now.drawn b)) (list_any f (take b xs)) old
    ∙ ap (λ x. x || old) (sym (list_any_more f xs b no_buf (omega arith)))

pub returns : goal.returns
returns c = λ s o l m. c.loop-b.invariant s o l m ∙ ap (λ xs. list_any (buf_cuts s o) xs || get_or c.args.cuts.now (cut_place s o) false) (take_all c.loop-b.b c.args.graph.now.drawn.bufs (omega arith))
