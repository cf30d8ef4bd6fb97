use Rattle.std.proofs.Common.{◌≡◌, ◌∙◌, ap, refl, ℕ, length, Some, false, arith}
use Rattle.std.specs.Prelude.{slice_get}
use Rattle.std.proofs.lemmas.Option.{slice_get-get_or}
use Rattle.eng_cols.specs.declared.column.Column.{Column}
use Rattle.eng_cols.specs.declared.column.Column.TheVariants as column
use Rattle.eng_cols.specs.Cols.{is_set_filling, passes}
use Rattle.top_duty.proofs.Firsts.{filling_here, filling_none, first_more, first_zero}
use Rattle.top_duty.proofs.opening.filling_at.Goals as goal

pub loop-column-init : goal.loop-column-init
loop-column-init c = first_zero (λ i. passes is_set_filling (slice_get c.args.columns.now i))

pub returns-in-Filling : goal.returns-in-Filling
returns-in-Filling c =
    let n = c.loop-column.column in
    let xs = c.args.columns.now in
    let here = ap (passes is_set_filling) (slice_get-get_or xs n _ (omega (arith, c.loop-column-test.true)) ∙ ap (λ x. Some x) c.in-Filling.is) in
    filling_here xs n c.loop-column.invariant here (omega (arith, c.loop-column-test.true))

pub loop-column-preserved : goal.loop-column-preserved
loop-column-preserved c =
    let n = c.loop-column.column in
    let xs = c.args.columns.now in
    let other = ap (passes is_set_filling) (slice_get-get_or xs n _ (omega (arith, c.loop-column-test.true))) ∙ unfilled _ (λ d done e. c.in_default.not-Filling d done e) in
    first_more (λ i. passes is_set_filling (slice_get xs i)) n c.loop-column.invariant other
  where
    unfilled : (x : Column) → ((d done : ℕ) → x ≡ column.Filling d done → ⊥) → is_set_filling x ≡ false
    unfilled (column.Live d) not = refl
    unfilled column.Dead not = refl
    unfilled (column.Filling d done) not = absurd (not d done refl)
    unfilled column.Spread not = refl

pub returns : goal.returns
returns c =
    let n = c.loop-column.column in
    let xs = c.args.columns.now in
    let end : n ≡ length xs = omega arith in
    filling_none xs n c.loop-column.invariant end
