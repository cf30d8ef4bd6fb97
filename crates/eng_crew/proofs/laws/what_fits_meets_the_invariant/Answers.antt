use Rattle.eng_crew.proofs.Following.{after-reached}
use Rattle.eng_crew.proofs.laws.what_fits_meets_the_invariant.Goals as goal

pub returns : goal.returns
returns g c = λ opening now tickets w fits shows is_opening. after-reached g.L.Layout g.D.Disk opening.array now.array fits.after w shows fits.shared.sound is_opening
