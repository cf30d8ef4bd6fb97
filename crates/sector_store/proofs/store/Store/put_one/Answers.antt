use Rattle.std.proofs.Common.{◌≡◌, ◌<◌, ◌∙◌, ℕ, List, length, ap, subst, arith}
use Rattle.blk_disk.specs.Sectors.{put, length-put}
use Rattle.sector_store.specs.Places.{KeepsApart}
use Rattle.sector_store.proofs.Chosen.{length-chosen, put-chosen}
use Rattle.sector_store.proofs.store.Store.put_one.Goals as goal

pub place_for-place-requires-clause-at : goal.place_for-place-requires-clause-at
place_for-place-requires-clause-at c =
    let n = length-chosen c.self.inside.kept.items c.self.inside.places.items _ c.self.invariant.kept in
    let l = ap length c.self.view_is in
    let k = c.self.inside.places.ok.0 in
    omega (arith, n, l, k, c.requires, c.len-count.ensures)

pub index_mut-requires-2 : goal.index_mut-requires-2
index_mut-requires-2 c =
    let n = length-chosen c.self.inside.kept.items c.self.inside.places.items _ c.self.invariant.kept in
    let l = ap length c.self.view_is in
    let k = c.self.inside.places.ok.0 in
    omega (arith, n, l, k, c.requires)

pub returns-clause-now : goal.returns-clause-now
returns-clause-now c =
    let kept = c.self.inside.kept.items in
    let places = c.self.inside.places.items in
    let n = length-chosen kept places _ c.self.invariant.kept in
    let l = ap length c.self.view_is in
    let k = c.self.inside.places.ok.0 in
    let within : c.args.at < length places = omega (arith, n, l, c.requires) in
    let count : c.len-count.result ≡ length places = omega (arith, k, c.len-count.ensures) in
    let long : length c.args.sector.now ≡ 512 = search in
    put-chosen kept places _ c.self.invariant.kept c.place_for-place.new.kept.items c.args.at c.place_for-place.result c.args.sector.now within
    (subst (λ (m : ℕ). KeepsApart m c.args.at kept c.args.sector.now c.place_for-place.new.kept.items c.place_for-place.result) count c.place_for-place.ensures.keeps) long
    ∙ ap (λ (b : List ℕ). put b c.args.at c.args.sector.now) c.self.view_is

pub returns-clause-long : goal.returns-clause-long
returns-clause-long c =
    let long : length c.args.sector.now ≡ 512 = search in
    ap length (returns-clause-now c) ∙ length-put c.args.self.now c.args.sector.now c.args.at (omega (arith, long, c.requires))
