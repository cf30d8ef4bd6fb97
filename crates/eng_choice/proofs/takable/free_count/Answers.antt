use Rattle.std.proofs.Common.{ap, ◌∙◌, subst, sym}
use Rattle.blk_plain.specs.declared.op.Op.{Op}
use Rattle.eng_state.specs.Doing.{AreFree}
use Rattle.eng_plan.specs.Asked.{IsInside, stripes_by}
use Rattle.eng_plan.proofs.SpanStripes.{span-many, short-few}
use Rattle.eng_choice.proofs.FreeCounts.{free-same}
use Rattle.eng_choice.proofs.takable.free_count.Goals as goal

pub returns-in-Write : goal.returns-in-Write
returns-in-Write g c =
    let core = c.args.array.now in
    let y = g.L.Layout.shape core.layout in
    let is = subst (λ (o : Op). IsInside y o) c.in-Write.is c.requires in
    free-same c.free_span.result _ _ _ _
    (λ free. subst (λ (o : Op). AreFree g.L.Layout core c.args.client o) (sym c.in-Write.is) free)
    (λ free. subst (λ (o : Op). AreFree g.L.Layout core c.args.client o) c.in-Write.is free)
    (span-many y (g.met.L.Layout.is_layout core.layout) c.in-Write.span is.asked is.inside (short-few _ is.short) ∙ ap (stripes_by y) (sym c.in-Write.is))
    c.free_span.ensures

pub returns-in-Read : goal.returns-in-Read
returns-in-Read g c =
    let core = c.args.array.now in
    let y = g.L.Layout.shape core.layout in
    let is = subst (λ (o : Op). IsInside y o) c.in-Read.is c.requires in
    free-same c.free_span-in-Read.result _ _ _ _
    (λ free. subst (λ (o : Op). AreFree g.L.Layout core c.args.client o) (sym c.in-Read.is) free)
    (λ free. subst (λ (o : Op). AreFree g.L.Layout core c.args.client o) c.in-Read.is free)
    (span-many y (g.met.L.Layout.is_layout core.layout) c.in-Read.span is.asked is.inside (short-few _ is.short) ∙ ap (stripes_by y) (sym c.in-Read.is))
    c.free_span-in-Read.ensures
