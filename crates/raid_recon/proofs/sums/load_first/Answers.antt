use Rattle.std.proofs.Common.{◌≡◌, ◌+◌, ◌*◌, ◌∙◌, ap, refl, arith}
use Rattle.std.specs.Prelude.{is_ok, slice_index}
use Rattle.blk_disk.specs.Devices.{contents_of}
use Rattle.raid_recon.proofs.AtHand.{ahead-alone}
use Rattle.raid_recon.proofs.Bytes.{sum-one}
use Rattle.raid_recon.proofs.UnitReads.{all-none, all-more, all-alone, stopped-at, stopped-alone, unit-at}
use Rattle.raid_recon.proofs.Windows.{one-window}
use Rattle.raid_recon.proofs.sums.load_first.Goals as goal

pub returns-in-Ok-clause-sums : goal.returns-in-Ok-clause-sums
returns-in-Ok-clause-sums g c rows h =
    let y = g.L.Layout.shape c.args.layout.now in
    let cols = c.args.cols.now.states in
    let m = c.args.windows in
    let s = c.args.stripe in
    let dev = c.args.devices.now in
    let l = c.load in
    let one = c.requires.windows.shared c.requires.one in
    let mine = ahead-alone g.D.Disk y m cols s rows dev c.args.hands.now c.args.ahead.now c.args.sum.now one c.requires.hands h in
    let none = all-none g.D.Disk y m cols s rows dev c.args.hands.now c.args.sum.now mine in
    let from : c.in-Ok.field-0 ≡ 0 = omega (arith, c.in-Ok.ensures.inside, c.load.ensures.long, c.requires.sum) in (
      all-alone g.D.Disk y m cols s rows dev l.new.devices 1 l.new.hands l.new.ahead c.args.ahead.now one l.ensures.hands
          (all-more g.D.Disk y m cols s rows dev dev l.new.devices 0 c.args.hands.now l.new.hands c.args.sum.now l.new.ahead l.result none (l.ensures.loads rows mine) 1 refl (ap is_ok c.in-Ok.is)),
      λ told. sum-one y (contents_of g.D.Disk dev) cols s l.new.ahead (λ o k ou ku.
          ap (slice_index l.new.ahead) (let at : 512 * o + k ≡ c.in-Ok.field-0 + (512 * o + k) = omega (arith, from) in at)
          ∙ unit-at g.D.Disk y m cols s rows dev dev l.new.devices 0 c.args.hands.now l.new.hands c.args.sum.now l.new.ahead l.result none (l.ensures.loads rows mine) told c.in-Ok.field-0 c.in-Ok.is o k ou ku),
    )

pub returns-in-Err-clause-sums : goal.returns-in-Err-clause-sums
returns-in-Err-clause-sums g c rows h =
    let y = g.L.Layout.shape c.args.layout.now in
    let cols = c.args.cols.now.states in
    let m = c.args.windows in
    let s = c.args.stripe in
    let dev = c.args.devices.now in
    let l = c.load in
    let one = c.requires.windows.shared c.requires.one in
    let mine = ahead-alone g.D.Disk y m cols s rows dev c.args.hands.now c.args.ahead.now c.args.sum.now one c.requires.hands h in
    stopped-alone g.D.Disk y m cols s rows dev l.new.devices 1 l.new.hands l.new.ahead c.args.ahead.now c.in-Err.failed one l.ensures.hands
    (stopped-at g.D.Disk y m cols s rows dev dev l.new.devices 0 c.args.hands.now l.new.hands c.args.sum.now l.new.ahead l.result
    (all-none g.D.Disk y m cols s rows dev c.args.hands.now c.args.sum.now mine) (l.ensures.loads rows mine) 1 c.in-Err.failed (omega arith) c.in-Err.is)

pub load-requires-clause-windows : goal.load-requires-clause-windows
load-requires-clause-windows g c =
    one-window (g.L.Layout.shape c.args.layout.now) c.args.windows _ (g.met.L.Layout.is_layout c.args.layout.now) (c.requires.windows.shared c.requires.one) c.requires.one (omega (arith, c.requires.sum))
