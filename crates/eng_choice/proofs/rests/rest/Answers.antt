use Rattle.std.proofs.Common.{◌≡◌, true, false, arith}
use Rattle.eng_choice.proofs.Resting.{all-home}
use Rattle.eng_choice.proofs.rests.rest.Goals as goal

pub returns-then-count-lt-MOST : goal.returns-then-count-lt-MOST
returns-then-count-lt-MOST g c = (
  λ t. let z : false ≡ true = t in absurd (let u : ⊥ = cc in u),
  λ r. let full = all-home g.L.Layout g.D.Disk c.args.array.now c.requires r.home in let a = c.count.ensures in let lt = c.if-count-lt-MOST.true in absurd (let u : ⊥ = omega (arith, full, a, lt) in u),
)
