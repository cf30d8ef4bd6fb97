use Rattle.std.proofs.Common.{◌≡◌, ◌-◌, ◌*◌, suc, length, subst, arith}
use Rattle.blk_disk.specs.Devices.{contents_of}
use Rattle.lay_core.specs.Layout.{data_units}
use Rattle.raid_recon.specs.Units.{AllRead, AreUnitsAt}
use Rattle.raid_recon.proofs.Placed.{placed-tested}
use Rattle.raid_recon.proofs.sums.is_unlike_apart.Goals as goal

pub returns-clause-tests : goal.returns-clause-tests
returns-clause-tests g c rows h =
    let y = g.L.Layout.shape c.args.layout.now in
    let law = g.met.L.Layout.is_layout c.args.layout.now in
    let r = c.load_units in
    let w = c.width-width.result in
    let n = w - 1 in
    let last : y.width ≡ suc n = omega (arith, law.checks_below, c.width-width.ensures) in
    let all : n ≡ data_units y = omega (arith, c.requires.checks, c.width-width.ensures) in
    let got = subst (λ k. AllRead g.D.Disk y c.args.windows c.args.cols.now.states c.args.stripe k rows c.args.devices.now r.new.devices r.new.hands r.new.ahead × (g.D.Disk.tells → AreUnitsAt y (contents_of g.D.Disk c.args.devices.now) c.args.cols.now.states c.args.stripe k r.new.ahead r.new.places)) c.width-width.ensures (c.in-Ok.ensures.loads rows h) in
    let long : length c.sum_differs.new.sum ≡ 512 * y.unit_sectors = omega (arith, c.sum_differs.ensures.long, c.requires.sum) in
    placed-tested g.D.Disk y c.args.windows c.args.cols.now.states c.args.stripe rows c.args.devices.now r.new.devices r.new.hands r.new.ahead r.new.places c.sum_differs.new.sum n last all long
    (λ j lt. c.sum_differs.ensures.sums j (omega (arith, lt, c.sum_differs.ensures.long))) got.0 got.1 c.sum_differs.result c.sum_differs.ensures.differs
