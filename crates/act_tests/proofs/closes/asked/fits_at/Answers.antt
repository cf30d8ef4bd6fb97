use Rattle.std.proofs.Common.{◌∙◌, sym, ap, subst, Some}
use Rattle.std.proofs.lemmas.Option.{slice_get-get_or}
use Rattle.act_tests.specs.CloseSamples.{Fits}
use Rattle.act_tests.proofs.closes.asked.fits_at.Goals as goal

pub returns-in-Dead : goal.returns-in-Dead
returns-in-Dead g c = λ h. subst (λ o. Fits c.args.devices.now c.args.c o) (sym (slice_get-get_or c.args.columns.now c.args.c _ c.requires ∙ ap (λ x. Some x) c.in-Dead.is)) tt
