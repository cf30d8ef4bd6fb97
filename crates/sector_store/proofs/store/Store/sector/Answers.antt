use Rattle.std.proofs.Common.{◌≡◌, ◌<◌, ◌∙◌, ℕ, List, [], length, get_or, sym, ap, arith}
use Rattle.std.proofs.lemmas.List.{get_or_default}
use Rattle.blk_disk.specs.Disk.{sector_at}
use Rattle.sector_store.specs.Places.{kept_at}
use Rattle.sector_store.proofs.Chosen.{length-chosen, sector-chosen}
use Rattle.sector_store.proofs.store.Store.sector.Goals as goal

pub index-requires : goal.index-requires
index-requires c =
    let n = length-chosen c.self.inside.kept.items c.self.inside.places.items _ c.self.invariant.kept in
    let l = ap length c.self.view_is in
    let k = c.self.inside.places.ok.0 in
    omega (arith, n, l, k, c.requires)

pub index-requires-2 : goal.index-requires-2
index-requires-2 c =
    let n = length-chosen c.self.inside.kept.items c.self.inside.places.items _ c.self.invariant.kept in
    let l = ap length c.self.view_is in
    let within : c.args.at < length c.self.inside.places.items = omega (arith, n, l, c.requires) in
    let p = c.index.ensures in
    let d = get_or_default c.self.inside.places.items c.args.at c.index.result.now 0 within in
    let t = c.self.invariant.kept.there c.args.at within in
    let k = c.self.inside.kept.ok.0 in
    omega (arith, p, d, t, k)

pub returns : goal.returns
returns c =
    let kept = c.self.inside.kept.items in
    let places = c.self.inside.places.items in
    let n = length-chosen kept places _ c.self.invariant.kept in
    let l = ap length c.self.view_is in
    let within : c.args.at < length places = omega (arith, n, l, c.requires) in
    let p : c.index.result.now ≡ get_or places c.args.at 0 = c.index.ensures ∙ get_or_default places c.args.at c.index.result.now 0 within in
    let t : c.index.result.now < length kept = let u = c.self.invariant.kept.there c.args.at within in omega (arith, p, u) in
    c.index-2.ensures
    ∙ (get_or_default kept c.index.result.now c.index-2.result.now [] t
    ∙ (ap (λ (q : ℕ). kept_at kept q) p
    ∙ (sym (sector-chosen kept places _ c.self.invariant.kept c.args.at within)
    ∙ ap (λ (b : List ℕ). sector_at b c.args.at) c.self.view_is)))
