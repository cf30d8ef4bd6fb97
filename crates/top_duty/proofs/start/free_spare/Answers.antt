use Rattle.std.specs.Prelude.{◌≡◌, ◌+◌, ◌*◌, true, false, List}
use Rattle.std.proofs.Common.{sym, ap, ap₂, ℕ, ◌∙◌}
use Rattle.eng_cols.specs.declared.column.Column.{Column}
use Rattle.top_open.specs.Opening.{opened_seen}
use Rattle.top_duty.specs.Steps.{is_free}
use Rattle.top_duty.proofs.Firsts.{first_more, first_zero, spare_found}
use Rattle.top_duty.proofs.start.free_spare.Goals as goal

pub loop-spare-init : goal.loop-spare-init
loop-spare-init c = first_zero (λ j. is_free (64 + c.from.result * c.from-2.result) c.args.sizes.now c.args.fronts.now c.args.opened.now.seats.items (c.args.conf.now.columns + j))

pub returns-then-is_free : goal.returns-then-is_free
returns-then-is_free c =
    let needs : ℕ = 64 + c.from.result * c.from-2.result in
    let same : needs ≡ 64 + c.args.opened.now.rows * c.args.conf.now.unit = ap₂ (λ (a b : ℕ). 64 + a * b) c.from.ensures c.from-2.ensures in
    let free : is_free needs c.args.sizes.now c.args.fronts.now c.args.opened.now.seats.items (c.args.conf.now.columns + c.loop-spare.spare) ≡ true =
    ap (λ (l : List Column). is_free needs c.args.sizes.now c.args.fronts.now l (c.args.conf.now.columns + c.loop-spare.spare)) (sym c.deref.ensures.value) ∙ (sym c.is_free.ensures ∙ c.if-is_free.true) in
    spare_found c.args.conf.now (opened_seen c.args.opened.now) c.args.sizes.now c.args.fronts.now needs same c.loop-spare.spare c.loop-spare.invariant free c.loop-spare-test.true

pub loop-spare-preserved : goal.loop-spare-preserved
loop-spare-preserved c =
    let needs : ℕ = 64 + c.from.result * c.from-2.result in
    let not_free : is_free needs c.args.sizes.now c.args.fronts.now c.args.opened.now.seats.items (c.args.conf.now.columns + c.loop-spare.spare) ≡ false =
    ap (λ (l : List Column). is_free needs c.args.sizes.now c.args.fronts.now l (c.args.conf.now.columns + c.loop-spare.spare)) (sym c.deref.ensures.value) ∙ (sym c.is_free.ensures ∙ c.if-is_free.false) in
    first_more (λ j. is_free needs c.args.sizes.now c.args.fronts.now c.args.opened.now.seats.items (c.args.conf.now.columns + j)) c.loop-spare.spare c.loop-spare.invariant not_free
