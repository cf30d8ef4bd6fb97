use Rattle.std.proofs.Common.{◌≡◌, ◌+◌, ◌*◌, ◌<◌, ◌≤◌, ◌∙◌, suc, ap, subst, arith}
use Rattle.std.specs.Prelude.{is_ok}
use Rattle.blk_disk.specs.Devices.{contents_of}
use Rattle.blk_disk.proofs.DeviceLaws.{changes-then}
use Rattle.lay_core.specs.Layout.{data_units}
use Rattle.raid_recon.specs.Ahead.{read_rows}
use Rattle.raid_recon.specs.Units.{AllRead, IsSum}
use Rattle.raid_recon.proofs.Bytes.{sum-more}
use Rattle.raid_recon.proofs.Places.{seated-kept}
use Rattle.raid_recon.proofs.UnitReads.{nothing, all-more, stopped-at, stopped-wider, unit-at, part-at}
use Rattle.raid_recon.proofs.sums.sum_in_turn.Goals as goal

pub returns-in-Err-clause-sums : goal.returns-in-Err-clause-sums
returns-in-Err-clause-sums g c rows h =
    let y = g.L.Layout.shape c.args.layout.now in
    let law = g.met.L.Layout.is_layout c.args.layout.now in
    let r = c.load_first in
    let some : 1 ≤ data_units y = omega (arith, law.checks_below) in
    stopped-wider g.D.Disk y c.args.windows c.args.cols.now.states c.args.stripe 1 (data_units y) rows c.args.devices.now r.new.devices r.new.hands r.new.ahead c.in-Err.failed some (c.in-Err.ensures.sums rows h)

pub loop-i-init : goal.loop-i-init
loop-i-init g c = record {
  read = λ rows h. (c.in-Ok.ensures.sums rows h).0;
  sum = λ rows h. (c.in-Ok.ensures.sums rows h).1;
  same = c.load_first.ensures.same;
  hands = c.load_first.ensures.hands;
  long = c.load_first.ensures.long;
  whole = c.load_first.ensures.whole ∙ c.requires.sum;
  some = omega arith;
}

pub load-requires-clause-array : goal.load-requires-clause-array
load-requires-clause-array g c =
    let y = g.L.Layout.shape c.args.layout.now in
    seated-kept g.D.Disk nothing y c.args.cols.now.states c.args.devices.now c.loop-i.devices c.requires.array c.loop-i.invariant.same

pub returns-in-Err-load-clause-sums : goal.returns-in-Err-load-clause-sums
returns-in-Err-load-clause-sums g c rows h =
    let y = g.L.Layout.shape c.args.layout.now in
    let cols = c.args.cols.now.states in
    let m = c.args.windows in
    let s = c.args.stripe in
    let i = c.loop-i.i in
    let read = c.loop-i.invariant.read rows h in
    let less : i < data_units y = omega (arith, c.loop-i-test.true, c.width.ensures, c.checks.ensures) in
    stopped-at g.D.Disk y m cols s rows c.args.devices.now c.loop-i.devices c.load.new.devices i c.loop-i.hands c.load.new.hands c.loop-i.ahead c.load.new.ahead c.load.result
    read (c.load.ensures.loads (λ d. read_rows y m.most cols s i d (rows d)) read.ahead) (data_units y) c.in-Err-load.failed less c.in-Err-load.is

pub returns-in-Err-load-clause-same : goal.returns-in-Err-load-clause-same
returns-in-Err-load-clause-same g c = changes-then g.D.Disk nothing c.args.devices.now c.loop-i.devices c.load.new.devices c.loop-i.invariant.same c.load.ensures.same

pub loop-i-preserved : goal.loop-i-preserved
loop-i-preserved g c =
    let y = g.L.Layout.shape c.args.layout.now in
    let cols = c.args.cols.now.states in
    let m = c.args.windows in
    let s = c.args.stripe in
    let i = c.loop-i.i in
    let dev = c.args.devices.now in
    let l = c.load in
    let next : i + 1 ≡ suc i = omega arith in
    record {
      read = λ rows h.
          let read = c.loop-i.invariant.read rows h in
          all-more g.D.Disk y m cols s rows dev c.loop-i.devices l.new.devices i c.loop-i.hands l.new.hands c.loop-i.ahead l.new.ahead l.result read (l.ensures.loads (λ d. read_rows y m.most cols s i d (rows d)) read.ahead) (i + 1) next (ap is_ok c.in-Ok-load.is);
      sum = λ rows h told.
          let read = c.loop-i.invariant.read rows h in
          sum-more y (contents_of g.D.Disk dev) cols s i (i + 1) c.loop-i.sum _ c.xor_into.new.to next (c.loop-i.invariant.sum rows h told)
          (λ o k ou ku. part-at l.new.ahead c.in-Ok-load.from _ (512 * y.unit_sectors) (512 * o + k) (omega (arith, c.requires.sum)) (omega (arith, ou, ku))
          ∙ unit-at g.D.Disk y m cols s rows dev c.loop-i.devices l.new.devices i c.loop-i.hands l.new.hands c.loop-i.ahead l.new.ahead l.result read (l.ensures.loads (λ d. read_rows y m.most cols s i d (rows d)) read.ahead) told c.in-Ok-load.from c.in-Ok-load.is o k ou ku)
          c.xor_into.ensures.bytes;
      same = changes-then g.D.Disk nothing dev c.loop-i.devices l.new.devices c.loop-i.invariant.same l.ensures.same;
      hands = l.ensures.hands;
      long = l.ensures.long ∙ c.loop-i.invariant.long;
      whole = c.xor_into.ensures.length ∙ c.loop-i.invariant.whole;
      some = omega arith;
    }

pub returns-clause-sums : goal.returns-clause-sums
returns-clause-sums g c rows h =
    let y = g.L.Layout.shape c.args.layout.now in
    let law = g.met.L.Layout.is_layout c.args.layout.now in
    let end : c.loop-i.i ≡ data_units y = omega (arith, law.checks_below) in
    subst (λ n. AllRead g.D.Disk y c.args.windows c.args.cols.now.states c.args.stripe n rows c.args.devices.now c.loop-i.devices c.loop-i.hands c.loop-i.ahead × (g.D.Disk.tells → IsSum y (contents_of g.D.Disk c.args.devices.now) c.args.cols.now.states c.args.stripe n c.loop-i.sum)) end
    (c.loop-i.invariant.read rows h, c.loop-i.invariant.sum rows h)
