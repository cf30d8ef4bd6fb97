use Rattle.std.proofs.Common.{ap, ◌∙◌, subst, sym}
use Rattle.blk_plain.specs.declared.op.Op.{Op}
use Rattle.eng_plan.specs.Asked.{IsInside, stripes_by}
use Rattle.eng_plan.proofs.Maps.{not-past}
use Rattle.eng_plan.proofs.SpanStripes.{span-many, whole-many, short-few}
use Rattle.eng_choice.proofs.takable.count_stripes.Goals as goal

pub returns-in-Write-clause-count : goal.returns-in-Write-clause-count
returns-in-Write-clause-count g c =
    let y = g.L.Layout.shape c.args.layout.now in
    let is = subst (λ (o : Op). IsInside y o) c.in-Write.is c.requires in
    c.stripes_of.ensures.count ∙ (span-many y (g.met.L.Layout.is_layout c.args.layout.now) c.in-Write.span is.asked is.inside (short-few _ is.short) ∙ ap (stripes_by y) (sym c.in-Write.is))

pub returns-in-Read-clause-count : goal.returns-in-Read-clause-count
returns-in-Read-clause-count g c =
    let y = g.L.Layout.shape c.args.layout.now in
    let is = subst (λ (o : Op). IsInside y o) c.in-Read.is c.requires in
    c.stripes_of-in-Read.ensures.count ∙ (span-many y (g.met.L.Layout.is_layout c.args.layout.now) c.in-Read.span is.asked is.inside (short-few _ is.short) ∙ ap (stripes_by y) (sym c.in-Read.is))

pub returns-in-Rebuild-clause-count : goal.returns-in-Rebuild-clause-count
returns-in-Rebuild-clause-count g c =
    let y = g.L.Layout.shape c.args.layout.now in
    let is = subst (λ (o : Op). IsInside y o) c.in-Rebuild.is c.requires in
    whole-many y (g.met.L.Layout.is_layout c.args.layout.now) c.in-Rebuild.stripe (not-past c.in-Rebuild.stripe y.stripes is.inside) ∙ ap (stripes_by y) (sym c.in-Rebuild.is)

pub returns-in-Sync-clause-count : goal.returns-in-Sync-clause-count
returns-in-Sync-clause-count g c =
    let y = g.L.Layout.shape c.args.layout.now in
    let is = subst (λ (o : Op). IsInside y o) c.in-Sync.is c.requires in
    whole-many y (g.met.L.Layout.is_layout c.args.layout.now) c.in-Sync.stripe (not-past c.in-Sync.stripe y.stripes is.inside) ∙ ap (stripes_by y) (sym c.in-Sync.is)
