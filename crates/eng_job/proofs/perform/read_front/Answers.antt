use Rattle.std.proofs.Common.{arith, rules, ◌≡◌, ◌∙◌, ◌*◌, length, take, drop, subst, true}
use Rattle.std.proofs.lemmas.List.{length-take, drop_at}
use Rattle.blk_disk.specs.Disk.{Tells}
use Rattle.blk_disk.specs.declared.disk.Call.{Call}
use Rattle.blk_plain.specs.declared.op.Outcome.TheVariants.{Good, Bad}
use Rattle.eng_job.proofs.Front.{sector_front, call_on}
use Rattle.eng_job.proofs.perform.read_front.Goals as goal

pub returns-in-Ok : goal.returns-in-Ok
returns-in-Ok g c =
    let n = 512 * c.args.count in
    let long = length-take n c.args.into.now in
    let fits = c.requires.in_buffer in
    let kept : length c.read.new.into ≡ length (take n c.args.into.now) = search rules in
    record {
      calls = record {
        size = c.in-Ok.ensures.size;
        later = c.in-Ok.ensures.later;
        cause = λ e. let z : Good ≡ Bad = e in cc;
        told = subst (λ (one : Call). Tells (g.D.Disk.calls c.args.disk.now) (g.D.Disk.calls c.read.new.self) one) (call_on 0 c.args.first c.args.count (length (take n c.args.into.now)) true (omega arith) (omega arith)) c.in-Ok.ensures.told;
      };
      same = c.in-Ok.ensures.same;
      long = search rules;
      bytes = λ good tells k h. sector_front c.read.new.into (drop n c.args.into.now) k (omega arith) ∙ c.in-Ok.ensures.bytes tells k (omega arith);
      rest = drop_at c.read.new.into (drop n c.args.into.now) n (omega (arith, kept, long));
    }
