use Rattle.std.proofs.Common.{◌≡◌, ◌+◌, ◌∙◌, ap, ℕ, List, length, arith}
use Rattle.blk_disk.specs.Disk.{sector_at}
use Rattle.blk_plain.specs.Plain.{used_of, patched_sector, zero_sector}
use Rattle.eng_log.proofs.Repeating.{sectors-more}
use Rattle.eng_log.proofs.patched.patch_bytes.Goals as goal

pub loop-j-preserved : goal.loop-j-preserved
loop-j-preserved c =
    let long : length c.patch_sector-sector.result ≡ 512 = search in
    let at : ℕ → List ℕ = λ j. patched_sector (used_of c.args.patches.now) (c.args.first + j) zero_sector in
    record {
      done = λ j h. ap (λ (l : List ℕ). sector_at l j) c.put_at.ensures ∙ sectors-more c.loop-j.bytes c.patch_sector-sector.result at c.loop-j.j long (omega (arith, c.loop-j.auto.bytes, c.loop-j-test.true, c.requires.room)) c.patch_sector-sector.ensures c.loop-j.invariant.done j h;
    }
