use Rattle.std.proofs.Common.{◌≡◌, ◌∙◌, ap, ap₂, sym, refl, Some, false, arith}
use Rattle.std.proofs.lemmas.Option.{slice_get-get_or}
use Rattle.eng_cols.specs.declared.column.Column.{Column}
use Rattle.eng_cols.specs.declared.column.Column.TheVariants as column
use Rattle.eng_cols.specs.Cols.{is_set_filling}
use Rattle.eng_cols.proofs.Counting.{drop-end, drop-get}
use Rattle.top_rounds.specs.Labels.{done_in, filling_from}
use Rattle.top_rounds.proofs.SeatLaws.{filling_skip}
use Rattle.top_rounds.proofs.seating.filling.Goals as goal

pub returns-in-Filling : goal.returns-in-Filling
returns-in-Filling c =
    let n = c.loop-column.column in
    let xs = c.args.columns.now in
    let rest = drop-get xs n _ (slice_get-get_or xs n _ (omega (arith, c.loop-column-test.true)) ∙ ap (λ x. Some x) c.in-Filling.is) in
    ap₂ (λ a b. (a, b))
    (sym (ap (λ l. filling_from l n) rest) ∙ c.loop-column.invariant.0)
    (sym (ap done_in rest) ∙ c.loop-column.invariant.1)

pub loop-column-preserved : goal.loop-column-preserved
loop-column-preserved c =
    let skip = filling_skip c.args.columns.now c.loop-column.column _ (omega (arith, c.loop-column-test.true)) (unfilled _ (λ d done e. c.in_default.not-Filling d done e)) in
    (sym skip.0 ∙ c.loop-column.invariant.0, sym skip.1 ∙ c.loop-column.invariant.1)
  where
    unfilled : (x : Column) → ((d done : Rattle.std.specs.Prelude.ℕ) → x ≡ column.Filling d done → ⊥) → is_set_filling x ≡ false
    unfilled (column.Live d) not = refl
    unfilled column.Dead not = refl
    unfilled (column.Filling d done) not = absurd (not d done refl)
    unfilled column.Spread not = refl

pub returns : goal.returns
returns c =
    let n = c.loop-column.column in
    let xs = c.args.columns.now in
    let rest = drop-end xs n (omega (arith, c.loop-column-test.false)) in
    ap₂ (λ a b. (a, b))
    (sym (ap (λ l. filling_from l n) rest) ∙ c.loop-column.invariant.0)
    (sym (ap done_in rest) ∙ c.loop-column.invariant.1)
