use Rattle.std.proofs.Common.{◌∙◌, sym}
use Rattle.top_duty.proofs.Sized.{sizes_kept}
use Rattle.top_duty.proofs.looking.look.Goals as goal

pub returns-clause-sizes : goal.returns-clause-sizes
returns-clause-sizes g c = c.in_ok-sizes.ensures ∙ sym (sizes_kept g.D.Disk (λ _ _. ⊥) c.args.devices.now c.fronts_of.new.devices c.fronts_of.ensures.stays)
