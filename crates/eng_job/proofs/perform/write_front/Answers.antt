use Rattle.std.proofs.Common.{arith, ◌≡◌, ◌∙◌, ◌*◌, length, take, subst, true}
use Rattle.std.proofs.lemmas.List.{length-take}
use Rattle.blk_disk.specs.Disk.{Tells}
use Rattle.blk_disk.specs.declared.disk.Call.{Call}
use Rattle.blk_plain.specs.declared.op.Outcome.TheVariants.{Good, Bad}
use Rattle.eng_job.proofs.Front.{sector_take, call_on}
use Rattle.eng_job.proofs.perform.write_front.Goals as goal

pub returns-in-Ok : goal.returns-in-Ok
returns-in-Ok g c =
    let n = 512 * c.args.count in
    let long = length-take n c.args.from.now in
    let fits = c.requires.in_buffer in
    record {
      calls = record {
        size = c.in-Ok.ensures.size;
        later = c.in-Ok.ensures.later;
        cause = λ e. let z : Good ≡ Bad = e in cc;
        told = subst (λ (one : Call). Tells (g.D.Disk.calls c.args.disk.now) (g.D.Disk.calls c.write.new.self) one) (call_on 1 c.args.first c.args.count (length (take n c.args.from.now)) true (omega arith) (omega arith)) c.in-Ok.ensures.told;
      };
      before = c.in-Ok.ensures.before;
      behind = λ tells s h. c.in-Ok.ensures.behind tells s (omega arith);
      bytes = λ good tells k h. c.in-Ok.ensures.bytes tells k (omega arith) ∙ sector_take c.args.from.now n k (omega arith);
    }
