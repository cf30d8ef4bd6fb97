use Rattle.std.proofs.Common.{◌≡◌, ◌∙◌, ◌≤◌, ℕ, length, get_or, ap, arith}
use Rattle.std.specs.Prelude.{sum_by}
use Rattle.std.proofs.lemmas.List.{take_all}
use Rattle.std.proofs.lemmas.List.Sums.{sum_by_more}
use Rattle.std.proofs.lemmas.Option.{get_or_from_slice_get, slice_get_within}
use Rattle.raid_script.specs.Summary.{item_writes}
use Rattle.raid_script.proofs.sums.row_writes.Goals as goal

pub loop-at-preserved : goal.loop-at-preserved
loop-at-preserved c =
    let items = c.args.items.now.items in
    let at = c.loop-at.at in
    let x = c.get.result in
    let more = sum_by_more item_writes items at x (slice_get_within items at x c.get.ensures) in
    let here : item_writes (get_or items at x) ≡ item_writes x = ap item_writes (get_or_from_slice_get items at x x c.get.ensures) in
    let one : c.from-total.result ≡ item_writes x = c.from-total.ensures ∙ c.item_writes.ensures.value in
    let wide = c.from-total.ensures in
    let few = c.item_writes.ensures.small in
    let sum = c.loop-at.invariant.sum in
    let small = c.loop-at.invariant.small in
    record {
      sum = omega (arith, more, here, one, sum);
      small = omega (arith, wide, few, small);
    }

pub returns-clause-value : goal.returns-clause-value
returns-clause-value c =
    let items = c.args.items.now.items in
    let all : length items ≤ c.loop-at.at = omega (arith, c.loop-at-test.false, c.len-at-end.ensures) in
    c.loop-at.invariant.sum ∙ ap (sum_by item_writes) (take_all c.loop-at.at items all)
