use Rattle.std.specs.Prelude.{◌≡◌, ℕ, Some, slice_index_or, slice_set}
use Rattle.std.proofs.Common.{◌∙◌, ap, arith, sym}
use Rattle.lay_core.specs.Layout.{Shape}
use Rattle.eng_cols.specs.declared.column.Column.TheVariants as column
use Rattle.raid_conf.specs.Layouts.{shape_of}
use Rattle.raid_conf.proofs.TableLaws.{shape-columns}
use Rattle.top_open.specs.Steps.{kept_if_left}
use Rattle.top_duty.specs.Opening.{filling_at, stripes_on}
use Rattle.top_duty.specs.Steps.{left_at}
use Rattle.top_duty.proofs.Firsts.{filling_is}
use Rattle.top_duty.proofs.opening.judge_filling.Goals as goal

pub filling_at-requires : goal.filling_at-requires
filling_at-requires c = omega (arith, c.requires.entries, c.requires.conf.columns_most)

pub rebuild_count-count-requires-clause-entries : goal.rebuild_count-count-requires-clause-entries
rebuild_count-count-requires-clause-entries c = c.requires.entries ∙ (sym (shape-columns c.args.conf.now c.args.rows c.requires.conf) ∙ sym (ap (λ (y : Shape). y.columns) c.in-Ok.ensures.shape))

pub rebuild_count-count-requires-clause-column : goal.rebuild_count-count-requires-clause-column
rebuild_count-count-requires-clause-column c =
    let is = filling_is c.args.columns.now c.in-Some.column (sym c.filling_at.ensures ∙ c.in-Some.is) in
    omega (arith, is.0, c.requires.entries ∙ (sym (shape-columns c.args.conf.now c.args.rows c.requires.conf) ∙ sym (ap (λ (y : Shape). y.columns) c.in-Ok.ensures.shape)))

pub keep_if_left-requires : goal.keep_if_left-requires
keep_if_left-requires c = let is = filling_is c.args.columns.now c.in-Some.column (sym c.filling_at.ensures ∙ c.in-Some.is) in is.0

pub returns-clause-judged : goal.returns-clause-judged
returns-clause-judged c =
    let columns = c.args.columns.now in
    let i = c.in-Some.column in
    let found : filling_at columns ≡ Some i = sym c.filling_at.ensures ∙ c.in-Some.is in
    c.keep_if_left.ensures
    ∙ (ap (λ (n : ℕ). slice_set columns i (kept_if_left n (slice_index_or columns i column.Dead))) (c.rebuild_count-count.ensures.count ∙ ap (λ (y : Shape). stripes_on y columns i) c.in-Ok.ensures.shape)
    ∙ sym (ap (left_at (shape_of c.args.conf.now c.args.rows) columns) found))

pub returns-in-None-clause-judged : goal.returns-in-None-clause-judged
returns-in-None-clause-judged c = sym (ap (left_at (shape_of c.args.conf.now c.args.rows) c.args.columns.now) (sym c.filling_at.ensures ∙ c.in-None.is))
