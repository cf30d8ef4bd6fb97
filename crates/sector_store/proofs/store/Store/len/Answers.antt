use Rattle.std.proofs.Common.{length, ap, arith}
use Rattle.sector_store.proofs.Chosen.{length-chosen}
use Rattle.sector_store.proofs.store.Store.len.Goals as goal

pub returns : goal.returns
returns c =
    let n = length-chosen c.self.inside.kept.items c.self.inside.places.items _ c.self.invariant.kept in
    let l = ap length c.self.view_is in
    let k = c.self.inside.places.ok.0 in
    omega (arith, n, l, k, c.len.ensures)
