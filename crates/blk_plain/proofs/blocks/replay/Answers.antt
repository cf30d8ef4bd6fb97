use Rattle.std.proofs.Common.{◌≡◌, ℕ, ◌+◌, List, take, get_or, ◌∙◌}
use Rattle.std.proofs.lemmas.List.Sums.{fold_more}
use Rattle.std.specs.Prelude.{slice_get}
use Rattle.blk_plain.specs.Plain.{after_option, replayed}
use Rattle.blk_plain.proofs.blocks.replay.Goals as goal

pub loop-i-preserved : goal.loop-i-preserved
loop-i-preserved c =
    let at : ℕ = get_or c.args.order.now c.loop-i.i-index 0 in
    let step : replayed c.args.ops.now (take (c.loop-i.i-index + 1) c.args.order.now) c.args.blocks.now ≡ after_option (slice_get c.args.ops.now at) (replayed c.args.ops.now (take c.loop-i.i-index c.args.order.now) c.args.blocks.now) = fold_more (λ (now : List (List ℕ)) i. after_option (slice_get c.args.ops.now i) now) c.args.blocks.now c.args.order.now c.loop-i.i-index 0 c.loop-i-test.true in
    record {
      now = rw (step, ← c.loop-i.invariant.now) c.apply_at.ensures.now;
      count = c.apply_at.ensures.count ∙ c.loop-i.invariant.count;
    }
