use Rattle.std.proofs.Common.{◌≡◌, ◌<◌, ◌≤◌, ◌+◌, ◌*◌, ◌/◌, arith, sym, subst}
use Rattle.lay_core.specs.declared.place.Place.{Place}
use Rattle.lay_design.specs.Design.{Blocks}
use Rattle.lay_decluster.specs.Table.{seat}
use Rattle.lay_decluster.proofs.Seated.{entry_is, fits, place_is}
use Rattle.lay_decluster.proofs.table.Table.seat.Goals as goal

pub overflow_add-result : goal.overflow_add-result
overflow_add-result c =
    let d = c.self.inside.design in
    let list = c.self.inside.offsets.items in
    let position : c.args.position < d.k = subst (λ (e : Blocks). c.args.position < e.k) (sym c.self.view_is) c.requires.position in
    let room : c.args.stripe / d.b * d.r + d.r ≤ 4294967295 = subst (λ (e : Blocks). c.args.stripe / e.b * e.r + e.r ≤ 4294967295) (sym c.self.view_is) c.requires.fits in
    let entry = entry_is d c.r.ensures.design list c.args.stripe c.args.position c.self.invariant position c.b-2.result c.k.result c.index-offset.result.now c.b-2.ensures.b c.k.ensures.k c.index-offset.ensures in
    let below = fits d c.r.ensures.design list c.args.stripe c.args.position c.self.invariant position c.b.result c.r.result c.index-offset.result.now c.b.ensures.b c.r.ensures.r entry room in
    omega (arith, below)

pub returns : goal.returns
returns c =
    let d = c.self.inside.design in
    let list = c.self.inside.offsets.items in
    let position : c.args.position < d.k = subst (λ (e : Blocks). c.args.position < e.k) (sym c.self.view_is) c.requires.position in
    let entry = entry_is d c.r.ensures.design list c.args.stripe c.args.position c.self.invariant position c.b-2.result c.k.result c.index-offset.result.now c.b-2.ensures.b c.k.ensures.k c.index-offset.ensures in
    let here = place_is d c.r.ensures.design list c.args.stripe c.args.position c.self.invariant position c.b.result c.b-2.result c.r.result c.object.result c.index-offset.result.now c.b.ensures.b c.b-2.ensures.b c.r.ensures.r c.object.ensures.object entry in
    subst (λ (e : Blocks). ◌≡◌ {A = Place} (record { column = c.object.result; row = c.args.stripe / c.b.result * c.r.result + c.index-offset.result.now }) (seat e c.args.stripe c.args.position)) c.self.view_is here
