use Rattle.std.proofs.Common.{◌∙◌, sym, ap, arith}
use Rattle.std.specs.Prelude.{ℕ, ◌==◌}
use Rattle.std.proofs.lemmas.Bool.{eq-eqb}
use Rattle.lay_core.specs.declared.place.Place.{Place}
use Rattle.top_layout.proofs.Counting.{any-here}
use Rattle.top_layout.proofs.tally.lies_among.Goals as goal

pub returns-then-place-column : goal.returns-then-place-column
returns-then-place-column g c =
    let y = g.L.Layout.shape c.args.layout.now in
    sym (any-here (λ (i : ℕ). (y.place c.args.stripe i).column == c.args.column) c.args.units c.loop-unit.unit
    (omega (arith, c.loop-unit-test.true))
    (eq-eqb _ _ (ap (λ (p : Place). p.column) (sym c.place.ensures) ∙ c.if-place-column.true)))
