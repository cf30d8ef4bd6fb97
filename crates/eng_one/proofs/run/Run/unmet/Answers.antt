use Rattle.std.proofs.Common.{◌<◌, ap, sym, subst, refl, ◌∙◌, arith, length}
use Rattle.std.proofs.lemmas.List.{get_or_read_under}
use Rattle.eng_one.specs.Control.{Control}
use Rattle.eng_one.specs.Counts.{unmet_of}
use Rattle.eng_one.proofs.Kept.{count-is}
use Rattle.eng_one.proofs.run.Run.unmet.Goals as goal

pub returns : goal.returns
returns c =
    let h = c.self.invariant in
    let counts = c.self.inside.unmet.items in
    let below = subst (λ (r : Control). c.args.node < length r.graph.nodes) (sym c.self.view_is) c.requires in
    get_or_read_under counts c.args.node (length counts) c.index.result.now 0 c.index.ensures (omega (arith, below, h.long)) refl
    ∙ count-is _ _ _ _ _ _ _ _ _ h c.args.node below
    ∙ ap (λ (r : Control). unmet_of r c.args.node) c.self.view_is
