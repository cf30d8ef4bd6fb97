use Rattle.std.proofs.Common.{◌≡◌, ◌-◌, ◌*◌, length, subst, arith}
use Rattle.blk_disk.specs.Devices.{contents_of}
use Rattle.lay_core.specs.Layout.{data_units}
use Rattle.raid_recon.specs.Units.{AllRead, IsSum}
use Rattle.raid_recon.proofs.Placed.{placed-sum}
use Rattle.raid_recon.proofs.sums.sum_apart.Goals as goal

pub returns-clause-sums : goal.returns-clause-sums
returns-clause-sums g c rows h =
    let y = g.L.Layout.shape c.args.layout.now in
    let cols = c.args.cols.now.states in
    let s = c.args.stripe in
    let r = c.load_units in
    let n = c.width.result - c.checks.result in
    let all : n ≡ data_units y = omega (arith, c.width.ensures, c.checks.ensures) in
    let got = c.in-Ok.ensures.loads rows h in
    let long : length c.sum_places.new.sum ≡ 512 * y.unit_sectors = omega (arith, c.sum_places.ensures.long, c.requires.sum) in
    subst (λ k. AllRead g.D.Disk y c.args.windows cols s k rows c.args.devices.now r.new.devices r.new.hands r.new.ahead × (g.D.Disk.tells → IsSum y (contents_of g.D.Disk c.args.devices.now) cols s k c.sum_places.new.sum)) all
    (got.0, λ told. placed-sum y (contents_of g.D.Disk c.args.devices.now) cols s n r.new.ahead r.new.places c.sum_places.new.sum long (λ j lt. c.sum_places.ensures.sums j (omega (arith, lt, c.sum_places.ensures.long))) (got.1 told))
