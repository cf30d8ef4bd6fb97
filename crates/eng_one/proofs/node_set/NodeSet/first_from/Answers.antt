use Rattle.std.proofs.Common.{◌≡◌, ℕ, ◌∙◌, ap, sym, subst, arith, List}
use Rattle.std.specs.Prelude.{length, ◌/◌, ◌*◌, ◌+◌, slice_index_or}
use Rattle.std.specs.Int.{bit_at}
use Rattle.eng_one.specs.Bits.{has}
use Rattle.eng_one.proofs.Sets.{past-none, found-before, none-left}
use Rattle.eng_one.proofs.node_set.NodeSet.first_from.Goals as goal

pub returns-then-from-ge2048 : goal.returns-then-from-ge2048
returns-then-from-ge2048 c k l h = past-none c.args.self.now k (ap length (sym c.self.view_is) ∙ c.self.invariant.long) (omega (arith, l, c.if-from-ge2048.true)) h

pub returns-in-None : goal.returns-in-None
returns-in-None c =
    let from = c.args.from in
    found-before (has c.args.self.now) from (64 * (from / 64) + 64) c.first_after.result (omega arith)
    (λ k l m h. none-left c.args.self.now from k (λ j n. subst (λ (ws : List ℕ). bit_at (slice_index_or ws (from / 64) 0) j ≡ 0) c.self.view_is (c.in-None.ensures j n)) l m h)
    c.first_after.ensures
