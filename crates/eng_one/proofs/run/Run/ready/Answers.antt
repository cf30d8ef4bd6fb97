use Rattle.std.proofs.Common.{◌↔◌, Bool, sym, subst, ◌∙◌}
use Rattle.std.specs.Prelude.{IsTrue}
use Rattle.eng_one.specs.contracts.run.Run.{the_view}
use Rattle.eng_one.specs.Control.{Control, IsReadyIn}
use Rattle.eng_one.proofs.Kept.{ready-iff, running-either}
use Rattle.eng_one.proofs.run.Run.ready.Goals as goal

pub returns-in-Before : goal.returns-in-Before
returns-in-Before c =
    let h = c.self.invariant in
    let node = c.args.node in
    subst (λ (r : Control). IsTrue c.contains.result ↔ IsReadyIn r node) c.self.view_is
    (subst (λ (b : Bool). IsTrue b ↔ IsReadyIn (the_view c.self.inside) node) (sym (c.contains.ensures ∙ h.ready.each node)) (ready-iff _ _ _ _ _ _ _ _ _ h node (running-either _ c.in-Before.is)))
