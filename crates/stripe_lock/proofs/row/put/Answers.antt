use Rattle.std.proofs.Common.{◌≡◌, List, ◌∙◌, sym, subst, true, is_ok}
use Rattle.std.proofs.lemmas.Bool.{cond-true}
use Rattle.stripe_lock.specs.declared.row.Row.{Row}
use Rattle.stripe_lock.specs.Rows.{HasRow, IsPlace}
use Rattle.stripe_lock.proofs.Growing.{grows_by_change, grows_by_new}
use Rattle.stripe_lock.proofs.row.put.Goals as goal

pub returns-then-has_row-clause-grows : goal.returns-then-has_row-clause-grows
returns-then-has_row-clause-grows c =
    let rows = c.args.rows.now.items in
    let has = subst (λ (xs : List Row). HasRow xs c.args.stripe c.place-at.result) c.deref-2.ensures.value (c.has_row.ensures.0 c.if-has_row.true) in
    grows_by_change rows c.place-at.result c.args.owner c.args.stripe c.args.mode c.index_mut-row.result.now c.with-row.result c.requires.owner c.requires.ascending has c.requires.free c.index_mut-row.ensures.value c.with-row.ensures

pub returns-else-has_row-clause-grows : goal.returns-else-has_row-clause-grows
returns-else-has_row-clause-grows c =
    let rows = c.args.rows.now.items in
    let place = subst (λ (xs : List Row). IsPlace xs c.args.stripe c.place-at.result) c.deref.ensures.value c.place-at.ensures in
    let none : ¬ HasRow rows c.args.stripe c.place-at.result = λ has.
    let t = c.has_row.ensures.1 (subst (λ (xs : List Row). HasRow xs c.args.stripe c.place-at.result) (sym c.deref-2.ensures.value) has) in
    let f = c.if-has_row.false in
    absurd cc
    in
    let done : is_ok c.insert.result ≡ true = sym c.is_ok-done.ensures.value ∙ c.if-prove.false in
    grows_by_new rows c.insert.new.self.items c.place-at.result c.args.owner c.args.stripe c.args.mode c.only.result c.requires.owner c.requires.ascending place none c.only.ensures
    (c.insert.ensures.items ∙ cond-true (is_ok c.insert.result) _ _ done)
