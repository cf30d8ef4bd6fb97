use Rattle.std.proofs.Common.{◌≡◌, arith, ap, length, sym, subst}
use Rattle.top_run.proofs.Settled.{lent-back}
use Rattle.raid_top.specs.Shown.{MapIs}
use Rattle.raid_top.proofs.showing.show.Goals as goal

pub returns-clause-found : goal.returns-clause-found
returns-clause-found g c =
    let cols = c.args.opened.columns in
    let new = c.union_if-map.new.columns in
    let many : length new ≡ cols.len = omega (arith, c.union_if-map.auto.columns, ap length c.as_mut_slice.ensures.value, c.as_mut_slice.ensures.len) in
    let back = c.union_if-map.new.devices in
    let found = c.union_if-map.result in
    subst (λ after. MapIs g.D.Disk c.args.map cols.items after c.args.devices.now back found) (sym (lent-back cols.items new cols.len many))
    (subst (λ before. MapIs g.D.Disk c.args.map before new c.args.devices.now back found) c.as_mut_slice.ensures.value c.union_if-map.ensures)
