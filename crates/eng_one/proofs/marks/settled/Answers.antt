use Rattle.std.proofs.Common.{sym, ap, ◌∙◌, Bool}
use Rattle.std.specs.Prelude.{if◌then◌else◌}
use Rattle.graph_mean.specs.declared.step.Phase.TheVariants.{RollingBack, Undone}
use Rattle.eng_one.specs.Control.{settled_in}
use Rattle.eng_one.proofs.Settled.{still-is, not-still}
use Rattle.eng_one.proofs.marks.settled.Goals as goal

pub returns-then-out-eq0 : goal.returns-then-out-eq0
returns-then-out-eq0 c marks outs =
    sym (ap (λ (b : Bool). if b then Undone else RollingBack) (still-is marks (sym outs ∙ c.if-out-eq0.true))) ∙ ap (settled_in marks) (sym c.in-RollingBack.is)

pub returns-else-out-eq0 : goal.returns-else-out-eq0
returns-else-out-eq0 c marks outs =
    sym (ap (λ (b : Bool). if b then Undone else RollingBack) (not-still marks (λ none. c.if-out-eq0.false (outs ∙ none)))) ∙ ap (settled_in marks) (sym c.in-RollingBack.is)
