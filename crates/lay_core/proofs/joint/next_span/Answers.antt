use Rattle.std.proofs.Common.{◌≡◌, ◌+◌, List, take, length, get_or, subst, sym}
use Rattle.std.specs.Prelude.{Option}
use Rattle.blk_plain.specs.declared.op.Span.{Span}
use Rattle.blk_plain.specs.Plain.{spans_of}
use Rattle.lay_core.specs.Joined.{IsNext, nearer}
use Rattle.lay_core.proofs.NextSpan.{next-more, spans-more}
use Rattle.lay_core.proofs.joint.next_span.Goals as goal

pub loop-i-preserved : goal.loop-i-preserved
loop-i-preserved c =
    let long : length c.args.patches.now.list ≡ 8 = search in
    let i = c.loop-i.i in
    let d = c.index-patches-i.result in
    let s = (get_or c.args.patches.now.list i d).span in
    let xs = spans_of c.args.patches.now in
    let more = next-more c.args.at (take i xs) c.loop-i.next s c.loop-i.invariant in
    let here : IsNext c.args.at (take (i + 1) xs) (nearer c.args.at c.loop-i.next s) = subst (λ (ss : List Span). IsNext c.args.at ss (nearer c.args.at c.loop-i.next s)) (sym (spans-more c.args.patches.now long c.requires i d c.loop-i-test.true)) more in
    subst (λ (n : Option Span). IsNext c.args.at (take (i + 1) xs) n) (sym c.nearer-next.ensures) here
