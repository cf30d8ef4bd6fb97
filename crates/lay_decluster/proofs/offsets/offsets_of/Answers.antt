use Rattle.std.proofs.Common.{length, arith, ap, sym, ◌∙◌}
use Rattle.std.proofs.lemmas.List.{get_or-replicate}
use Rattle.lay_design.specs.Blocks.{has}
use Rattle.lay_decluster.specs.Counted.{count_none}
use Rattle.lay_decluster.proofs.offsets.offsets_of.Goals as goal

pub loop-tuple-init : goal.loop-tuple-init
loop-tuple-init c =
    let d = c.args.design.now in
    record {
      offsets = record {
        long = ap length c.in_ok-offsets.ensures.items ∙ omega arith;
        each = λ t p h hp. absurd (omega (arith, h));
      };
      counts = λ x h. get_or-replicate 32 x 0 0 (omega (arith, h, c.b.ensures.design.numbers.objects_most)) ∙ sym (count_none (has d.k d.objects x));
      long = omega arith;
    }
