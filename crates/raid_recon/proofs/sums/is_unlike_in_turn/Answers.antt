use Rattle.std.proofs.Common.{◌≡◌, ◌-◌, ◌*◌, length, subst, arith, rules, refl}
use Rattle.blk_disk.proofs.DeviceLaws.{changes-then}
use Rattle.lay_core.specs.Layout.{data_units}
use Rattle.raid_recon.specs.Ahead.{read_rows}
use Rattle.raid_recon.specs.Units.{LoadsUnit}
use Rattle.raid_recon.proofs.Frames.{last-unit}
use Rattle.raid_recon.proofs.Places.{seated-kept}
use Rattle.raid_recon.proofs.UnitReads.{nothing, tested-by, stopped-at, stopped-wider, part-at}
use Rattle.raid_recon.proofs.sums.is_unlike_in_turn.Goals as goal

pub returns-in-Err-clause-tests : goal.returns-in-Err-clause-tests
returns-in-Err-clause-tests g c rows h =
    let y = g.L.Layout.shape c.args.layout.now in
    let r = c.sum_in_turn in
    stopped-wider g.D.Disk y c.args.windows c.args.cols.now.states c.args.stripe (data_units y) y.width rows c.args.devices.now r.new.devices r.new.hands r.new.ahead c.in-Err.failed (omega arith) (c.in-Err.ensures.sums rows h)

pub load-requires-clause-array : goal.load-requires-clause-array
load-requires-clause-array g c =
    let y = g.L.Layout.shape c.args.layout.now in
    seated-kept g.D.Disk nothing y c.args.cols.now.states c.args.devices.now c.sum_in_turn.new.devices c.requires.array c.sum_in_turn.ensures.same

pub returns-in-Ok-load-clause-tests : goal.returns-in-Ok-load-clause-tests
returns-in-Ok-load-clause-tests g c rows h =
    let y = g.L.Layout.shape c.args.layout.now in
    let cols = c.args.cols.now.states in
    let s = c.args.stripe in
    let m = c.args.windows in
    let last = last-unit y (g.met.L.Layout.is_layout c.args.layout.now) c.requires.checks in
    let unit : c.width.result - 1 ≡ data_units y = omega (arith, last, c.width.ensures) in
    let t = c.in-Ok.ensures.sums rows h in
    let sum-long : length c.sum_in_turn.new.sum ≡ 512 * y.unit_sectors = search (rules, arith) in
    let l = subst (λ i. LoadsUnit g.D.Disk y m cols s i (λ d. read_rows y m.most cols s (data_units y) d (rows d)) c.sum_in_turn.new.devices c.load.new.devices c.load.new.hands c.load.new.ahead c.load.result) unit (c.load.ensures.loads (λ d. read_rows y m.most cols s (data_units y) d (rows d)) t.0.ahead) in
    tested-by g.D.Disk y m cols s rows c.args.devices.now c.sum_in_turn.new.devices c.load.new.devices (data_units y) c.sum_in_turn.new.hands c.load.new.hands c.sum_in_turn.new.ahead c.load.new.ahead c.load.result t.0 l last refl c.in-Ok-load.from c.in-Ok-load.is c.sum_in_turn.new.sum _ sum-long t.1 (λ j lt. part-at c.load.new.ahead c.in-Ok-load.from _ (512 * y.unit_sectors) j (omega (arith, c.requires.sum)) lt) c.differ.result c.differ.ensures

pub returns-in-Err-load-clause-tests : goal.returns-in-Err-load-clause-tests
returns-in-Err-load-clause-tests g c rows h =
    let y = g.L.Layout.shape c.args.layout.now in
    let cols = c.args.cols.now.states in
    let s = c.args.stripe in
    let m = c.args.windows in
    let last = last-unit y (g.met.L.Layout.is_layout c.args.layout.now) c.requires.checks in
    let unit : c.width.result - 1 ≡ data_units y = omega (arith, last, c.width.ensures) in
    let t = c.in-Ok.ensures.sums rows h in
    let l = subst (λ i. LoadsUnit g.D.Disk y m cols s i (λ d. read_rows y m.most cols s (data_units y) d (rows d)) c.sum_in_turn.new.devices c.load.new.devices c.load.new.hands c.load.new.ahead c.load.result) unit (c.load.ensures.loads (λ d. read_rows y m.most cols s (data_units y) d (rows d)) t.0.ahead) in
    stopped-at g.D.Disk y m cols s rows c.args.devices.now c.sum_in_turn.new.devices c.load.new.devices (data_units y) c.sum_in_turn.new.hands c.load.new.hands c.sum_in_turn.new.ahead c.load.new.ahead c.load.result t.0 l y.width c.in-Err-load.failed (omega (arith, last)) c.in-Err-load.is

pub returns-in-Ok-load-clause-same : goal.returns-in-Ok-load-clause-same
returns-in-Ok-load-clause-same g c = changes-then g.D.Disk nothing c.args.devices.now c.sum_in_turn.new.devices c.load.new.devices c.sum_in_turn.ensures.same c.load.ensures.same

pub returns-in-Err-load-clause-same : goal.returns-in-Err-load-clause-same
returns-in-Err-load-clause-same g c = changes-then g.D.Disk nothing c.args.devices.now c.sum_in_turn.new.devices c.load.new.devices c.sum_in_turn.ensures.same c.load.ensures.same
