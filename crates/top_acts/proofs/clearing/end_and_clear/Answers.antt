use Rattle.std.proofs.Common.{◌∙◌, suc, false, true, refl, sym, arith}
use Rattle.eng_cols.specs.Stripes.{states_of}
use Rattle.top_close.specs.Stage.{DiesIn}
use Rattle.top_close.proofs.StageLaws.{live_less}
use Rattle.top_rounds.proofs.RoundLaws.{any_death, can-after, settable_after}
use Rattle.top_acts.proofs.Clears.{behind_closed, behind_last, behind_retried, ends_closed, ends_few, ends_last, ends_retried, kept_by, left_last, lost_anew, lost_last, marked_after, retries, mapped_closed}
use Rattle.top_acts.proofs.Begins.{no_none}
use Rattle.top_acts.proofs.clearing.end_and_clear.Goals as goal
use Rattle.top_rounds.specs.Passes.{IsKeptInUse}

pub loop-init : goal.loop-init
loop-init g c =
    let e = c.end_labelled in
    let label = c.args.label.now in
    let columns = c.args.hand.now.ending.columns.items in
    let old = c.args.devices.now in
    record {
      ends = ends_closed g.D.Disk c.args.blank.now false label e.new.label columns e.new.hand.ending.columns.items old e.new.devices e.new.hand.ending.lost e.ensures.closed;
      first = λ none. behind_closed g.D.Disk c.args.blank.now label e.new.label columns e.new.hand.ending.columns.items old e.new.devices e.new.hand.ending.lost c.requires.array.have.apart (e.ensures.first none);
      left = e.ensures.left;
      steps = λ n next after new lost h. record { mid = e.new.hand.ending.columns.items; dev = e.new.devices; first = e.new.label; behind = e.new.hand.ending.lost; closes = mapped_closed g.D.Disk false label e.new.label columns e.new.hand.ending.columns.items old e.new.devices e.new.hand.ending.lost e.ensures.closed; behind_is = e.ensures.lost; clears = (n, h) };
      lost = e.ensures.lost;
      held = e.ensures.held;
      judge = e.ensures.judge;
    }

pub try_clear-requires-clause-array : goal.try_clear-requires-clause-array
try_clear-requires-clause-array g c =
    let columns = c.args.hand.now.ending.columns.items in
    let s = c.loop.invariant.ends.stage in
    can-after g.D.Disk (DiesIn g.D.Disk c.loop.hand.ending.lost columns c.args.devices.now c.loop.devices) (IsKeptInUse true columns) columns c.loop.hand.ending.columns.items c.args.devices.now c.loop.devices s.dies s.frame c.requires.array

pub try_clear-requires-clause-marks : goal.try_clear-requires-clause-marks
try_clear-requires-clause-marks g c =
    let columns = c.args.hand.now.ending.columns.items in
    let s = c.loop.invariant.ends.stage in
    marked_after g.D.Disk (DiesIn g.D.Disk c.loop.hand.ending.lost columns c.args.devices.now c.loop.devices) (IsKeptInUse true columns) columns c.loop.hand.ending.columns.items c.args.devices.now c.loop.devices s.dies s.frame c.requires.marks

pub try_clear-requires-clause-columns : goal.try_clear-requires-clause-columns
try_clear-requires-clause-columns g c =
    let old = c.args.hand.now.ending.columns.items in
    let new = c.loop.hand.ending.columns.items in
    let dies = any_death (DiesIn g.D.Disk c.loop.hand.ending.lost old c.args.devices.now c.loop.devices) old new c.loop.invariant.ends.stage.dies in
    settable_after (g.L.Layout.shape c.args.layout.now) old new dies (c.deaths_bring_no_unit_back.ensures.filling old new dies) (c.deaths_bring_no_unit_back.ensures.spread old new dies) c.requires.columns

pub try_clear-requires-clause-counter : goal.try_clear-requires-clause-counter
try_clear-requires-clause-counter g c =
    omega (arith, ends_few g.D.Disk c.args.blank.now false c.args.label.now c.loop.label c.args.hand.now.ending.columns.items c.loop.hand.ending.columns.items c.args.devices.now c.loop.devices c.loop.hand.ending.lost c.loop.invariant.ends c.requires.array.columns_most, c.requires.counter)

pub loop-preserved : goal.loop-preserved
loop-preserved g c =
    let l = c.loop in
    let t = c.try_clear in
    let label = c.args.label.now in
    let columns = c.args.hand.now.ending.columns.items in
    let old = c.args.devices.now in
    let blank = c.args.blank.now in
    let r = retries g.D.Disk blank l.label t.new.label l.hand.ending.columns.items t.new.hand.ending.columns.items l.devices t.new.devices l.hand.ending.lost t.new.hand.ending.lost c.loop-test.ensures.tried in
    record {
      ends = ends_retried g.D.Disk blank false label l.label t.new.label columns l.hand.ending.columns.items t.new.hand.ending.columns.items old l.devices t.new.devices l.hand.ending.lost t.new.hand.ending.lost c.requires.array.have.apart l.invariant.ends r;
      first = λ none. behind_retried g.D.Disk blank label l.label t.new.label columns l.hand.ending.columns.items t.new.hand.ending.columns.items old l.devices t.new.devices l.hand.ending.lost t.new.hand.ending.lost (l.invariant.first none) r;
      left = λ loss e. no_none (sym (kept_by g.D.Disk (g.L.Layout.shape c.args.layout.now) (states_of (g.L.Layout.shape c.args.layout.now) l.hand.ending.columns.items) c.args.hand.now.ending.lost l.hand.ending.lost l.invariant.lost loss e) ∙ r.none);
      steps = λ n next after new lost h. l.invariant.steps (suc n) next after new lost (t.new.hand.ending.columns.items, t.new.devices, t.new.label, t.new.hand.ending.lost, c.loop-test.ensures.tried, c.loop-test.ensures.lost refl, h);
      lost = lost_anew g.D.Disk (g.L.Layout.shape c.args.layout.now) c.args.hand.now.ending.lost l.hand.ending.lost t.new.hand.ending.lost l.hand.ending.columns.items t.new.hand.ending.columns.items r.none l.invariant.lost (c.loop-test.ensures.lost refl);
      held = c.loop-test.ensures.held;
      judge = c.loop-test.ensures.judge;
    }

pub loop-smaller : goal.loop-smaller
loop-smaller g c =
    let l = c.loop in
    let t = c.try_clear in
    let r = retries g.D.Disk c.args.blank.now l.label t.new.label l.hand.ending.columns.items t.new.hand.ending.columns.items l.devices t.new.devices l.hand.ending.lost t.new.hand.ending.lost c.loop-test.ensures.tried in
    let less = live_less (DiesIn g.D.Disk t.new.hand.ending.lost r.mid r.dev t.new.devices) r.mid t.new.hand.ending.columns.items r.closed.counted.stage.dies in
    omega (arith, r.fewer, less)

pub returns-clause-ends : goal.returns-clause-ends
returns-clause-ends g c =
    let l = c.loop in
    let t = c.try_clear in
    ends_last g.D.Disk c.args.blank.now false c.args.label.now l.label t.new.label c.args.hand.now.ending.columns.items l.hand.ending.columns.items t.new.hand.ending.columns.items c.args.devices.now l.devices t.new.devices l.hand.ending.lost t.new.hand.ending.lost c.requires.array.have.apart l.invariant.ends c.loop-test.ensures.tried

pub returns-clause-first : goal.returns-clause-first
returns-clause-first g c none =
    let l = c.loop in
    let t = c.try_clear in
    behind_last g.D.Disk c.args.blank.now c.args.label.now l.label t.new.label c.args.hand.now.ending.columns.items l.hand.ending.columns.items t.new.hand.ending.columns.items c.args.devices.now l.devices t.new.devices l.hand.ending.lost t.new.hand.ending.lost (l.invariant.first none) c.loop-test.ensures.tried

pub returns-clause-lost : goal.returns-clause-lost
returns-clause-lost g c =
    let l = c.loop in
    let t = c.try_clear in
    lost_last g.D.Disk (g.L.Layout.shape c.args.layout.now) c.args.blank.now c.args.hand.now.ending.lost l.hand.ending.lost t.new.hand.ending.lost l.label t.new.label l.hand.ending.columns.items t.new.hand.ending.columns.items l.devices t.new.devices l.invariant.lost c.loop-test.ensures.tried

pub returns-clause-steps : goal.returns-clause-steps
returns-clause-steps g c =
    let t = c.try_clear in
    c.loop.invariant.steps 0 t.new.label t.new.hand.ending.columns.items t.new.devices t.new.hand.ending.lost c.loop-test.ensures.tried

pub returns-clause-left : goal.returns-clause-left
returns-clause-left g c loss e =
    let l = c.loop in
    let t = c.try_clear in
    left_last g.D.Disk c.args.blank.now loss c.args.label.now l.label t.new.label c.args.hand.now.ending.columns.items l.hand.ending.columns.items t.new.hand.ending.columns.items c.args.devices.now l.devices t.new.devices l.hand.ending.lost t.new.hand.ending.lost
    (kept_by g.D.Disk (g.L.Layout.shape c.args.layout.now) (states_of (g.L.Layout.shape c.args.layout.now) l.hand.ending.columns.items) c.args.hand.now.ending.lost l.hand.ending.lost l.invariant.lost loss e)
    (l.invariant.left loss e) c.loop-test.ensures.tried
