use Rattle.blk_plain.specs.Plain.{spans_of}
use Rattle.lay_core.proofs.Walked.{few-among}
use Rattle.lay_core.proofs.joint.split_all.Goals as goal

pub returns-in-Ok-clause-too_long : goal.returns-in-Ok-clause-too_long
returns-in-Ok-clause-too_long g c = (λ e. absurd (let u : ⊥ = cc in u), λ h. absurd (few-among (g.L.Layout.shape c.args.layout.now) (spans_of c.args.patches.now) c.add_all.new.map c.in-Ok.ensures.split h.1))
