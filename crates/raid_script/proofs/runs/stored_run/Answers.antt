use Rattle.std.proofs.Common.{◌≡◌, ◌∙◌, ℕ, ◌+◌, ◌-◌, sym, ap, arith, inl, inr}
use Rattle.std.proofs.lemmas.Bool.{cases_eq, false≢true}
use Rattle.blk_disk.specs.Disk.{sector_at}
use Rattle.raid_script.proofs.runs.stored_run.Goals as goal

pub loop-at-init : goal.loop-at-init
loop-at-init c = λ k lt. ap (λ (i : ℕ). sector_at c.args.sectors.now i) (let e : c.args.from + k ≡ c.args.from = omega (arith, lt) in e)

pub loop-at-preserved : goal.loop-at-preserved
loop-at-preserved c = λ k lt. elim (cases_eq (c.args.from + k) c.loop-at.at) [
  | inl is ↦ ap (λ (i : ℕ). sector_at c.args.sectors.now i) is ∙ c.same.ensures.0 c.if-not-same.false
  | inr ne ↦ c.loop-at.invariant k (omega (arith, lt, ne))
]

pub returns-then-not-same-clause-equal : goal.returns-then-not-same-clause-equal
returns-then-not-same-clause-equal c = λ k lt. c.loop-at.invariant k (omega (arith, lt))

pub returns-then-not-same-clause-maximal : goal.returns-then-not-same-clause-maximal
returns-then-not-same-clause-maximal c = λ lt e.
    let at : c.loop-at.at ≡ c.args.from + (c.loop-at.at - c.args.from) = let a = c.loop-at.auto.at in omega (arith, a, lt) in
    false≢true (sym c.if-not-same.true ∙ c.same.ensures.1 (ap (λ (i : ℕ). sector_at c.args.sectors.now i) at ∙ e))

pub returns-clause-equal : goal.returns-clause-equal
returns-clause-equal c = λ k lt. c.loop-at.invariant k (let past = c.loop-at-test.false in omega (arith, lt, past))
