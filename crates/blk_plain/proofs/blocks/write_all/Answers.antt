use Rattle.std.proofs.Common.{◌≡◌, ap, refl, subst, ◌∙◌, arith, length, get_or}
use Rattle.blk_plain.specs.declared.op.Patch.{Patch}
use Rattle.blk_plain.specs.Plain.{sector_of, written, Fits}
use Rattle.blk_plain.specs.Laws.{patched-next, patched_from, length-used, used-at}
use Rattle.blk_plain.proofs.blocks.write_all.Goals as goal

pub loop-i-init : goal.loop-i-init
loop-i-init c = record { now = patched_from _ c.args.sectors.now c.args.sectors.now refl (λ b below. refl); count = refl }

pub write-requires : goal.write-requires
write-requires c =
    let d = c.index-patches-i.result in
    let long : length c.args.patches.now.list ≡ 8 = search in
    let many = length-used c.args.patches.now long c.requires.sound.few in
    let fit = subst (Fits (length c.args.sectors.now)) (used-at c.args.patches.now c.loop-i.i d c.loop-i-test.true) (c.requires.fit c.loop-i.i d (let l = c.loop-i-test.true in omega (arith, many, l))) in
    let n = c.loop-i.invariant.count in
    omega (arith, fit, n)

pub loop-i-preserved : goal.loop-i-preserved
loop-i-preserved c =
    let long : length c.args.patches.now.list ≡ 8 = search in
    let p : Patch = get_or c.args.patches.now.list c.loop-i.i c.index-patches-i.result in
    record {
      now = c.write.ensures ∙ (ap (λ s. written p.span (sector_of p.pattern) s) c.loop-i.invariant.now ∙ patched-next c.args.patches.now c.args.sectors.now c.loop-i.i c.index-patches-i.result long c.requires.sound c.requires.fit c.loop-i-test.true);
      count = c.write.auto.sectors ∙ c.loop-i.invariant.count;
    }
