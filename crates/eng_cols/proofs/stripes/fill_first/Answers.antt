use Rattle.std.proofs.Common.{Some, None, sym, ap, ◌∙◌, arith}
use Rattle.eng_cols.specs.Cols.{none_done}
use Rattle.eng_cols.specs.Stripes.{filled_from, spreads}
use Rattle.eng_cols.proofs.Counting.{drop-end, filled-all, filled-end, filled-next}
use Rattle.eng_cols.proofs.stripes.fill_first.Goals as goal

pub loop-column-init : goal.loop-column-init
loop-column-init g c = (c.mark_all.ensures ∙ ap none_done c.requires.stripes, filled-all (g.L.Layout.shape c.args.layout.now) c.args.columns.now)

pub returns-in-Some : goal.returns-in-Some
returns-in-Some g c =
    c.mark_first.ensures
    ∙ sym (filled-next (g.L.Layout.shape c.args.layout.now) c.args.columns.now c.loop-column.column (Some c.in-Some.done) (omega arith) (sym c.done_at.ensures ∙ c.in-Some.is))
    ∙ c.loop-column.invariant.1

pub loop-column-preserved : goal.loop-column-preserved
loop-column-preserved g c = (
  c.loop-column.invariant.0,
  sym (filled-next (g.L.Layout.shape c.args.layout.now) c.args.columns.now c.loop-column.column None (omega arith) (sym c.done_at.ensures ∙ c.in_default.is)) ∙ c.loop-column.invariant.1,
)

pub returns : goal.returns
returns g c =
    let y = g.L.Layout.shape c.args.layout.now in
    c.loop-column.invariant.0
    ∙ sym (ap (λ l. filled_from y (spreads c.args.columns.now) l c.loop-column.column) (drop-end c.args.columns.now c.loop-column.column (omega arith)) ∙ filled-end y (spreads c.args.columns.now) c.loop-column.column)
    ∙ c.loop-column.invariant.1
