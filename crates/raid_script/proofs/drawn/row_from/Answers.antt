use Rattle.std.proofs.Common.{◌≡◌, ◌∙◌, ℕ, ◌+◌, ◌*◌, sym, ap, arith}
use Rattle.std.proofs.lemmas.List.{map_push}
use Rattle.raid_script.specs.Asked.{seen}
use Rattle.raid_script.specs.DrawnParts.{after}
use Rattle.raid_script.proofs.DrawnWords.{after_more, after_none, row_more, row_none}
use Rattle.raid_script.proofs.drawn.row_from.Goals as goal

pub loop-i-init : goal.loop-i-init
loop-i-init c = record {
  items = rw (c.in_ok-items.ensures.items) (sym (row_none c.args.client c.args.wide c.args.words.now));
  rest = sym (after_none c.args.words.now);
}

pub loop-i-preserved : goal.loop-i-preserved
loop-i-preserved c =
    let n = c.loop-i._i in
    let start = c.args.words.now in
    let three : 3 * n + 3 ≡ 3 * (n + 1) = omega arith in
    record {
      items = rw (c.in_ok-push.ensures.items, map_push seen c.loop-i.items.items c.item_from.result, c.loop-i.invariant.items, c.item_from.ensures.item, c.loop-i.invariant.rest) (sym (row_more c.args.client c.args.wide n start));
      rest = c.item_from.ensures.rest ∙ (ap (after 3) c.loop-i.invariant.rest ∙ (after_more (3 * n) 3 start ∙ ap (λ (k : ℕ). after k start) three));
    }
