use Rattle.std.proofs.Common.{ℕ, ap, ◌∙◌, refl, arith, replicate}
use Rattle.graph_mean.specs.declared.step.Status.TheVariants.{Idle}
use Rattle.graph_mean.specs.Graph.{Held}
use Rattle.eng_one.proofs.Kept.{begun-as}
use Rattle.eng_one.proofs.run.Run.start.Goals as goal

pub invariant_of-self : goal.invariant_of-self
invariant_of-self c =
    let begun = c.begin_all.ensures in
    let counts = c.begin_all.new.unmet.items in
    begun-as c.args.graph.now.drawn c.of.result.value.drawn c.refill.new.items.items c.begin_all.new.followers counts counts c.begin_all.new.ready _ _
    (ap (λ (h : Held). h.drawn) c.of.ensures)
    (c.refill.ensures.items ∙ ap (λ (n : ℕ). replicate n Idle) c.nodes-nodes.ensures)
    refl
    c.requires
    begun.long
    begun.nodes
    begun.all
    begun.counts
    begun.ready
    (omega (arith, c.refill.ensures.room, c.self.invariant.mark_room))
    (omega (arith, begun.room, c.self.invariant.count_room))
