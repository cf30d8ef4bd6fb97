use Rattle.std.proofs.Common.{◌≡◌, ◌∙◌, List, ℕ, length, sym, ap, subst}
use Rattle.blk_plain.specs.Plain.{IsInRange}
use Rattle.blk_plain.specs.Laws.{length-after}
use Rattle.base_tests.proofs.spans.replayed.Goals as goal

pub returns : goal.returns
returns c =
    let blocks = c.in_ok-blocks.blocks in
    let long : length blocks ≡ 4 = ap (λ (bs : List (List ℕ)). length bs) c.in_ok-blocks.ensures in
    ap (λ (bs : List (List ℕ)). length bs) c.replay.ensures ∙ (length-after c.args.op blocks (subst (λ n. IsInRange n c.args.op) (sym long) c.requires) ∙ long)
