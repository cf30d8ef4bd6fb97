use Rattle.std.proofs.Common.{◌≡◌, ◌∙◌, ℕ, get_or, sym, arith, below_more}
use Rattle.std.proofs.lemmas.Bool.{false≢true}
use Rattle.std.proofs.lemmas.List.{get_or_default}
use Rattle.raid_script.proofs.runs.run_length.Goals as goal

pub loop-i-preserved : goal.loop-i-preserved
loop-i-preserved c = λ k d.
    below_more (λ (n : ℕ). get_or c.args.sectors.now n d ≡ get_or c.args.sectors.now 0 d) c.loop-i.i
    (λ n h. c.loop-i.invariant n d h)
    (get_or_default c.args.sectors.now c.loop-i.i d _ c.loop-i-test.true ∙ (c.are_equal.ensures.0 c.if-not-are_equal.false ∙ get_or_default c.args.sectors.now 0 _ d (omega arith)))
    k

pub returns-then-not-are_equal-clause-maximal : goal.returns-then-not-are_equal-clause-maximal
returns-then-not-are_equal-clause-maximal c = λ d h e.
    false≢true (sym c.if-not-are_equal.true ∙ c.are_equal.ensures.1 (get_or_default c.args.sectors.now c.loop-i.i _ d c.loop-i-test.true ∙ (e ∙ get_or_default c.args.sectors.now 0 d _ (omega arith))))
