use Rattle.eng_log.proofs.Repeating.{pattern-sector, one-byte}
use Rattle.eng_log.proofs.fill.written.Goals as goal

-- a pattern of one byte
pub returns-then-pattern-eq1-clause-bytes : goal.returns-then-pattern-eq1-clause-bytes
returns-then-pattern-eq1-clause-bytes c = λ k below. pattern-sector c.args.pattern.now _ k (one-byte c.args.pattern.now c.if-pattern-eq1.true) below

pub returns-then-pattern-eq1-clause-sector : goal.returns-then-pattern-eq1-clause-sector
returns-then-pattern-eq1-clause-sector c = one-byte c.args.pattern.now c.if-pattern-eq1.true

pub returns-clause-bytes : goal.returns-clause-bytes
returns-clause-bytes c = λ k below. pattern-sector c.args.pattern.now c.fill.new.to k c.fill.ensures below
