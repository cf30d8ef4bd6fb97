use Rattle.std.proofs.Common.{◌≡◌, ◌∙◌, ap, length, subst, sym, arith}
use Rattle.eng_cols.specs.Settable.{IsSettable}
use Rattle.top_rounds.proofs.RoundLaws.{whole_slice}
use Rattle.top_acts.specs.Alive.{IsWithout}
use Rattle.top_acts.proofs.judging.lose_column.Goals as goal

pub lose_in-requires-clause-columns : goal.lose_in-requires-clause-columns
lose_in-requires-clause-columns g c = subst (IsSettable (g.L.Layout.shape c.args.layout.now)) (sym c.as_mut_slice.ensures.value) c.requires.columns

pub lose_in-requires-clause-within : goal.lose_in-requires-clause-within
lose_in-requires-clause-within g c = omega (arith, ap length c.as_mut_slice.ensures.value, c.requires.within)

pub returns-clause-without : goal.returns-clause-without
returns-clause-without g c =
    let y = g.L.Layout.shape c.args.layout.now in
    let e = c.args.hand.now.ending in
    let r = c.lose_in in
    let own : length e.columns.items ≡ e.columns.len = sym e.columns.ok.0 in
    let same = whole_slice e.columns.len r.new.columns e.columns.items own (r.auto.columns ∙ (ap length c.as_mut_slice.ensures.value ∙ own)) in
    subst (IsWithout y c.args.column e.columns.items) (sym same)
    (subst (λ l. IsWithout y c.args.column l r.new.columns) c.as_mut_slice.ensures.value r.ensures.without)
