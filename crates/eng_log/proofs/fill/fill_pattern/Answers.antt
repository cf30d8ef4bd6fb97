use Rattle.std.proofs.Common.{◌∙◌, ap, ℕ, List, length, arith, ◌≡◌}
use Rattle.blk_disk.specs.Disk.{sector_at}
use Rattle.blk_plain.specs.Plain.{sector_of}
use Rattle.blk_plain.specs.Laws.{length-sector_of}
use Rattle.eng_log.proofs.Repeating.{one-byte, first-put}
use Rattle.eng_log.proofs.fill.fill_pattern.Goals as goal

-- a pattern of one byte
pub returns-then-pattern-eq1 : goal.returns-then-pattern-eq1
returns-then-pattern-eq1 c = λ j h. c.set_all.ensures j h ∙ one-byte c.args.pattern.now c.if-pattern-eq1.true

-- a longer one
pub returns-then-count-gt0 : goal.returns-then-count-gt0
returns-then-count-gt0 c =
    let long = ap (λ (l : List ℕ). length l) c.written.ensures.sector ∙ length-sector_of c.args.pattern.now in
    c.spread.ensures (sector_of c.args.pattern.now) (λ j h.
    let first : j ≡ 0 = omega (arith, h) in
    ap (λ (i : ℕ). sector_at c.put_at.new.bytes i) first ∙ (ap (λ (l : List ℕ). sector_at l 0) c.put_at.ensures ∙ (first-put c.args.bytes.now c.written.result long ∙ c.written.ensures.sector)))
