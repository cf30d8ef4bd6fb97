use Rattle.std.proofs.Common.{◌≡◌, ◌∙◌, ◌<◌, false, true, sym, ap, length, arith}
use Rattle.std.proofs.lemmas.Grind.{get_or-set_at}
use Rattle.raid_map.specs.Regions.{region_of, regions_in, Marks}
use Rattle.raid_map.proofs.Unions.{region-within}
use Rattle.raid_map.proofs.map.Map.mark.Goals as goal

pub returns-clause-marked : goal.returns-clause-marked
returns-clause-marked c =
    let stripes = c.args.self.now.stripes in
    let same : c.self.inside.stripes ≡ stripes = ap (λ (m : Marks). m.stripes) c.self.view_is in
    let within : region_of stripes c.args.stripe < regions_in stripes = (region-within stripes c.args.stripe c.requires).0 in
    let count : length c.self.inside.marks.items ≡ regions_in stripes = c.self.invariant.2 ∙ ap regions_in same in
    let is : c.region_of-region.result ≡ region_of stripes c.args.stripe = c.region_of-region.ensures ∙ ap (λ z. region_of z c.args.stripe) same in
    get_or-set_at c.self.inside.marks.items c.region_of-region.result (region_of stripes c.args.stripe) true false (sym is) (omega (arith, within, count, is))
