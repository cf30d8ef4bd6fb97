use Rattle.std.proofs.Common.{◌≡◌, ◌+◌, ◌<◌, ◌∙◌, suc, length, length-set, ap, refl, subst, arith}
use Rattle.std.specs.Prelude.{is_ok}
use Rattle.blk_disk.specs.Devices.{contents_of}
use Rattle.blk_disk.proofs.DeviceLaws.{changes-refl, changes-then}
use Rattle.eng_cols.proofs.Spots.{available-seat}
use Rattle.raid_recon.specs.Ahead.{read_rows}
use Rattle.raid_recon.specs.Units.{AllRead, AreUnitsAt}
use Rattle.raid_recon.proofs.Places.{seated-kept}
use Rattle.raid_recon.proofs.Placed.{windows-more, inside-more, units-more}
use Rattle.raid_recon.proofs.UnitReads.{nothing, all-none, all-more, stopped-at, unit-at}
use Rattle.raid_recon.proofs.sums.load_units.Goals as goal

pub loop-i-init : goal.loop-i-init
loop-i-init g c = record {
  read = λ rows h. all-none g.D.Disk (g.L.Layout.shape c.args.layout.now) c.args.windows c.args.cols.now.states c.args.stripe rows c.args.devices.now c.args.hands.now c.args.ahead.now h;
  units = λ rows h told i lt. absurd (omega (arith, lt));
  windows = λ i at lt is. absurd (omega (arith, lt));
  inside = λ i lt. absurd (omega (arith, lt));
  same = changes-refl g.D.Disk nothing c.args.devices.now;
  hands = c.requires.hands;
  long = refl;
  whole = c.requires.places;
}

pub load-requires-clause-array : goal.load-requires-clause-array
load-requires-clause-array g c =
    seated-kept g.D.Disk nothing (g.L.Layout.shape c.args.layout.now) c.args.cols.now.states c.args.devices.now c.loop-i.devices c.requires.array c.loop-i.invariant.same

pub returns-in-Err-clause-loads : goal.returns-in-Err-clause-loads
returns-in-Err-clause-loads g c rows h =
    let y = g.L.Layout.shape c.args.layout.now in
    let cols = c.args.cols.now.states in
    let m = c.args.windows in
    let s = c.args.stripe in
    let i = c.loop-i.i in
    let l = c.load in
    let read = c.loop-i.invariant.read rows h in
    stopped-at g.D.Disk y m cols s rows c.args.devices.now c.loop-i.devices l.new.devices i c.loop-i.hands l.new.hands c.loop-i.ahead l.new.ahead l.result
    read (l.ensures.loads (λ d. read_rows y m.most cols s i d (rows d)) read.ahead) c.args.count c.in-Err.failed (omega (arith, c.loop-i-test.true)) c.in-Err.is

pub returns-in-Err-clause-same : goal.returns-in-Err-clause-same
returns-in-Err-clause-same g c = changes-then g.D.Disk nothing c.args.devices.now c.loop-i.devices c.load.new.devices c.loop-i.invariant.same c.load.ensures.same

pub loop-i-preserved : goal.loop-i-preserved
loop-i-preserved g c =
    let y = g.L.Layout.shape c.args.layout.now in
    let law = g.met.L.Layout.is_layout c.args.layout.now in
    let cols = c.args.cols.now.states in
    let m = c.args.windows in
    let s = c.args.stripe in
    let i = c.loop-i.i in
    let dev = c.args.devices.now in
    let l = c.load in
    let was = c.loop-i.invariant in
    let from = c.in-Ok.from in
    let next : i + 1 ≡ suc i = omega arith in
    let iw : i < y.width = omega (arith, c.loop-i-test.true, c.requires.count) in
    let room : i < length c.loop-i.places = omega (arith, was.whole, iw, law.width_most, law.columns_most) in
    let at = available-seat y cols s i (c.requires.complete i iw) in
    let few : length l.new.ahead ≡ length c.loop-i.ahead = l.ensures.long in
    record {
      read = λ rows h.
          let read = was.read rows h in
          all-more g.D.Disk y m cols s rows dev c.loop-i.devices l.new.devices i c.loop-i.hands l.new.hands c.loop-i.ahead l.new.ahead l.result read (l.ensures.loads (λ d. read_rows y m.most cols s i d (rows d)) read.ahead) (i + 1) next (ap is_ok c.in-Ok.is);
      units = λ rows h told.
          let read = was.read rows h in
          units-more y m cols s i c.loop-i.places from (i + 1) (contents_of g.D.Disk dev) c.loop-i.ahead l.new.ahead at.0 (omega (arith, c.requires.windows.beside c.requires.apart)) law c.requires.array.order c.requires.stripe iw room next at.1
          (λ k less. available-seat y cols s k (c.requires.complete k (omega (arith, less, iw)))) was.windows (l.ensures.outside at.0 at.1) (was.units rows h told)
          (unit-at g.D.Disk y m cols s rows dev c.loop-i.devices l.new.devices i c.loop-i.hands l.new.hands c.loop-i.ahead l.new.ahead l.result read (l.ensures.loads (λ d. read_rows y m.most cols s i d (rows d)) read.ahead) told from c.in-Ok.is);
      windows = windows-more y m cols s i c.loop-i.places from (i + 1) room next was.windows c.in-Ok.ensures.window;
      inside = inside-more y m cols s i c.loop-i.places from (i + 1) (length l.new.ahead) room next (λ k less. omega (arith, was.inside k less, few)) c.in-Ok.ensures.inside;
      same = changes-then g.D.Disk nothing dev c.loop-i.devices l.new.devices was.same l.ensures.same;
      hands = l.ensures.hands;
      long = l.ensures.long ∙ was.long;
      whole = length-set c.loop-i.places i from ∙ was.whole;
    }

pub returns-clause-loads : goal.returns-clause-loads
returns-clause-loads g c rows h =
    let y = g.L.Layout.shape c.args.layout.now in
    let end : c.loop-i.i ≡ c.args.count = omega arith in
    subst (λ n. AllRead g.D.Disk y c.args.windows c.args.cols.now.states c.args.stripe n rows c.args.devices.now c.loop-i.devices c.loop-i.hands c.loop-i.ahead × (g.D.Disk.tells → AreUnitsAt y (contents_of g.D.Disk c.args.devices.now) c.args.cols.now.states c.args.stripe n c.loop-i.ahead c.loop-i.places)) end
    (c.loop-i.invariant.read rows h, c.loop-i.invariant.units rows h)

pub returns-clause-inside : goal.returns-clause-inside
returns-clause-inside g c = λ i lt. c.loop-i.invariant.inside i (omega (arith, lt))
