use Rattle.std.proofs.Common.{◌≡◌, ◌∙◌, ap, subst}
use Rattle.blk_plain.specs.declared.op.Op.{Op}
use Rattle.blk_plain.specs.declared.op.Op.TheVariants.{Writes}
use Rattle.eng_plan.specs.Asked.{HasBlocks}
use Rattle.eng_world.specs.declared.item.Item.{Item}
use Rattle.eng_world.specs.declared.item.Item.TheVariants.{Run}
use Rattle.raid_script.specs.Asked.{seen}
use Rattle.top_bound.specs.Bound.{MayBeAsked}
use Rattle.top_bound.proofs.Patched.{asked-few, has-blocks}
use Rattle.top_bound.proofs.bound.item_nodes.Goals as goal

pub patches_nodes-requires-clause-sound : goal.patches_nodes-requires-clause-sound
patches_nodes-requires-clause-sound g c =
    let asked = subst (λ (i : Item). MayBeAsked (seen i)) (c.in-Run.is ∙ ap (λ (o : Op). Run o c.in-Run.graph) c.in-Writes.is) c.requires in
    let few = asked-few asked.0 asked.1 c.in-Writes.patches c.in-Run.graph asked.2 in
    (has-blocks c.in-Writes.patches few.0 few.1).0

pub patches_nodes-requires-clause-some : goal.patches_nodes-requires-clause-some
patches_nodes-requires-clause-some g c =
    let asked = subst (λ (i : Item). MayBeAsked (seen i)) (c.in-Run.is ∙ ap (λ (o : Op). Run o c.in-Run.graph) c.in-Writes.is) c.requires in
    let few = asked-few asked.0 asked.1 c.in-Writes.patches c.in-Run.graph asked.2 in
    (has-blocks c.in-Writes.patches few.0 few.1).1
