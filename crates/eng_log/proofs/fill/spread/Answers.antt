use Rattle.std.proofs.Common.{◌≤◌, ◌+◌, ◌*◌, ◌∙◌, ap, ℕ, List, length, arith}
use Rattle.blk_disk.specs.Disk.{sector_at}
use Rattle.eng_log.proofs.Repeating.{doubled}
use Rattle.eng_log.proofs.fill.spread.Goals as goal

pub loop-done-preserved : goal.loop-done-preserved
loop-done-preserved c =
    let inv = c.loop-done.invariant in
    let least = c.min-more.ensures in
    let apart : c.min-more.result ≤ c.loop-done.done = omega (arith, least) in
    let room : 512 * c.loop-done.done + 512 * c.min-more.result ≤ length c.loop-done.bytes = omega (arith, least, c.loop-done-test.true, inv.long, c.requires.room) in
    record {
      some = omega (arith, inv.some);
      long = omega (arith, c.copy_front.auto.bytes, inv.long);
      same = λ sector front j h. ap (λ (l : List ℕ). sector_at l j) c.copy_front.ensures ∙ doubled c.loop-done.bytes sector c.loop-done.done c.min-more.result apart room (inv.same sector front) j h;
    }

pub returns : goal.returns
returns c = λ sector front j h. c.loop-done.invariant.same sector front j (omega (arith, h, c.loop-done-test.false))
