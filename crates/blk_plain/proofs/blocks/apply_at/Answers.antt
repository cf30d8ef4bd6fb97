use Rattle.std.proofs.Common.{List, ℕ, length, sym, subst, ap, ◌∙◌, arith}
use Rattle.blk_plain.specs.Plain.{IsInRange}
use Rattle.blk_plain.specs.Laws.{length-after}
use Rattle.blk_plain.proofs.blocks.apply_at.Goals as goal

-- an operation keeps the number of blocks
pub returns-clause-count : goal.returns-clause-count
returns-clause-count c =
    let op = c.index-ops-at.result in
    let at = subst (IsInRange (length c.args.blocks.now)) (sym c.index-ops-at.is) (c.requires.in_range c.args.at op (let k = c.requires.known in omega (arith, k))) in
    ap (λ (bs : List (List ℕ)). length bs) c.apply.ensures ∙ length-after op c.args.blocks.now at
