use Rattle.std.proofs.Common.{inl, inr, ◌∙◌, ap, sym, arith, rules}
use Rattle.std.specs.Prelude.{slice_index}
use Rattle.std.proofs.lemmas.Bool.{cases_eq}
use Rattle.std.proofs.lemmas.List.{get_or-set_same, get_or-set_other, length-set}
use Rattle.raid_map.specs.Regions.{byte_of}
use Rattle.raid_map.proofs.MapBytes.{bytes-are-map}
use Rattle.raid_map.proofs.map.Map.write_to.Goals as goal

pub loop-k-preserved : goal.loop-k-preserved
loop-k-preserved c =
    let k = c.loop-k.k in
    let long = c.loop-k.invariant.1 in (
      (λ j h. elim (cases_eq j k) [
        | inl e ↦ ap (slice_index _) e ∙ get_or-set_same c.loop-k.sector k c.byte.result 0 (let t = c.loop-k-test.true in omega (arith, long, t)) ∙ c.byte.ensures ∙ ap (byte_of c.args.self.now) (sym e)
        | inr ne ↦ get_or-set_other c.loop-k.sector k j c.byte.result 0 ne ∙ c.loop-k.invariant.0 j (omega (arith, h, ne))
      ]),
      length-set c.loop-k.sector k c.byte.result ∙ long,
    )

pub returns-clause-map : goal.returns-clause-map
returns-clause-map c = bytes-are-map c.args.self.now (slice_index c.loop-k.sector) (λ k h. c.loop-k.invariant.0 k (let t = c.loop-k-test.false in omega (arith, h, t))) (search rules) (search rules) (search rules)
