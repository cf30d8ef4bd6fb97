use Rattle.std.proofs.Common.{◌≡◌, ◌<◌, ◌≤◌, ◌++◌, List, length, filter, map, take, drop, ◌∙◌, ap, arith, rules}
use Rattle.std.proofs.lemmas.List.{take_all, drop_all, append-nil}
use Rattle.std.proofs.lemmas.Fn.{filter_same}
use Rattle.stripe_lock.specs.declared.row.Row.{Row}
use Rattle.stripe_lock.specs.Rows.{without_owner, has_holder}
use Rattle.stripe_lock.proofs.Leaving.{left_more}
use Rattle.stripe_lock.proofs.row.leave.Goals as goal

pub loop-i-preserved : goal.loop-i-preserved
loop-i-preserved c =
    let long = c.args.rows.now.ok.0 in
    let within : c.loop-i.i < length c.args.rows.now.items = omega arith in (
      left_more c.args.owner c.args.rows.now.items c.loop-i.rows.items c.loop-i.i c.index_mut-row.result.now c.without-row.result within c.loop-i.invariant.0 c.index_mut-row.ensures.value c.without-row.ensures,
      c.loop-i.invariant.1,
    )

pub returns-clause-rows : goal.returns-clause-rows
returns-clause-rows c =
    let rows = c.args.rows.now.items in
    let long = c.args.rows.now.ok.0 in
    let past : length rows ≤ c.loop-i.i = omega arith in
    let all : map (without_owner c.args.owner) (take c.loop-i.i rows) ++ drop c.loop-i.i rows ≡ map (without_owner c.args.owner) rows = rw (take_all c.loop-i.i rows past, drop_all c.loop-i.i rows past) (append-nil (map (without_owner c.args.owner) rows)) in
    filter_same _ has_holder _ (λ x b f' k. search rules) _ _ c.retain.ensures.filtered
    ∙ ap (λ (xs : List Row). filter has_holder xs) (c.loop-i.invariant.0 ∙ all)
