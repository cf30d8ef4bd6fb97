use Rattle.std.proofs.Common.{◌∙◌, sym, ap, ℕ, bit_xor}
use Rattle.eng_job.specs.Performed.{byte_at}
use Rattle.eng_job.proofs.Front.{sum_more}
use Rattle.eng_job.proofs.bytes.sum_front.Goals as goal

pub loop-i-preserved : goal.loop-i-preserved
loop-i-preserved c = (
  λ k h.
      c.add_source.ensures.sum k h ∙ (ap (λ (x : ℕ). bit_xor x (byte_at c.index-from-i.result k)) (c.loop-i.invariant.0 k h) ∙ sym (sum_more c.args.from.now c.loop-i.i k c.index-from-i.result c.loop-i-test.true c.index-from-i.is)),
  c.add_source.ensures.rest ∙ c.loop-i.invariant.1,
)
