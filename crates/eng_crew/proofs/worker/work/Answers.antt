use Rattle.std.proofs.Common.{◌≡◌, ◌∙◌, sym, inl, inr}
use Rattle.eng_crew.specs.declared.turns.Found.TheVariants.{Event, Nothing, Rest}
use Rattle.eng_crew.proofs.worker.work.Goals as goal

pub returns-in-Rest-clause-idle : goal.returns-in-Rest-clause-idle
returns-in-Rest-clause-idle g c = elim c.in-Some-turn_by.ensures.idle [ inl e ↦ let z : Rest ≡ Event = sym c.in-Rest.is ∙ e in cc | inr h ↦ h.1 ]

pub returns-then-empty-eq-EMPTY-clause-idle : goal.returns-then-empty-eq-EMPTY-clause-idle
returns-then-empty-eq-EMPTY-clause-idle g c = elim c.in-Some-turn_by.ensures.idle [ inl e ↦ let z : Nothing ≡ Event = sym c.in-Nothing.is ∙ e in cc | inr h ↦ h.1 ]
