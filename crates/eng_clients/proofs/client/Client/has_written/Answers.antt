use Rattle.std.proofs.Common.{◌≡◌, ap, inl, inr, arith, true, false}
use Rattle.std.proofs.lemmas.Bool.{cases_lt}
use Rattle.eng_clients.specs.Desk.{Desk}
use Rattle.eng_clients.proofs.client.Client.has_written.Goals as goal

pub loop-from-preserved : goal.loop-from-preserved
loop-from-preserved c = λ o lt. elim (cases_lt o c.loop-from.from) [
  | inl before ↦ c.loop-from.invariant o before
  | inr here ↦ c.in-Some.ensures.1 o here lt
]

pub returns-in-None : goal.returns-in-None
returns-in-None c = (
  λ h. let z : false ≡ true = h in absurd (let u : ⊥ = cc in u),
  λ all. let h = all c.loop-from.from (omega (arith, c.loop-from-test.true, c.unit_sectors.ensures, ap (λ (d : Desk). d.task.unit_sectors) c.self.view_is)) in absurd (c.in-None.ensures h.0 h.1),
)
