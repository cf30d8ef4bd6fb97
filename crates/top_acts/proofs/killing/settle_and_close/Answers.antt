use Rattle.std.proofs.Common.{◌∙◌, None, sym, arith}
use Rattle.eng_cols.proofs.DeathLaws.{dies-more}
use Rattle.top_close.specs.Dying.{AnyCause}
use Rattle.top_close.specs.Stage.{DiesIn}
use Rattle.top_rounds.proofs.RoundLaws.{can-after}
use Rattle.top_acts.proofs.Held.{held_after}
use Rattle.top_acts.proofs.Kills.{ends_closed, ends_left}
use Rattle.top_acts.proofs.Settled.{settled}
use Rattle.top_acts.proofs.killing.settle_and_close.Goals as goal
use Rattle.top_rounds.proofs.Words.{IsFirstInUse}
use Rattle.eng_cols.specs.Deaths.{LosesDevice}

pub close-requires-clause-array : goal.close-requires-clause-array
close-requires-clause-array g c =
    let columns = c.args.hand.now.ending.columns.items in
    let mid = c.settle.new.hand.ending.columns.items in
    let quiet = settled g.D.Disk None columns mid c.args.devices.now c.settle.new.devices c.settle.ensures.settled in
    can-after g.D.Disk (DiesIn g.D.Disk None columns c.args.devices.now c.settle.new.devices) (IsFirstInUse columns) columns mid c.args.devices.now c.settle.new.devices quiet.dies quiet.frame c.requires.array

pub close-requires-clause-held : goal.close-requires-clause-held
close-requires-clause-held g c = held_after c.args.hand.now.ending.columns.items c.settle.new.hand.ending.columns.items c.args.label.now c.settle.ensures.settled.dies.count c.requires.held

pub returns-else-is_some-clause-ends : goal.returns-else-is_some-clause-ends
returns-else-is_some-clause-ends g c =
    let e = c.settle in
    ends_closed g.D.Disk (g.L.Layout.shape c.args.layout.now) c.args.label.now c.close.new.label c.args.hand.now.ending.columns.items e.new.hand.ending.columns.items c.close.new.hand.ending.columns.items c.args.devices.now e.new.devices c.close.new.devices e.new.hand.ending.lost c.close.new.hand.ending.lost
    e.ensures.settled e.ensures.lost (sym c.is_some.ensures ∙ c.if-is_some.false) c.close.ensures.closed

pub returns-then-is_some-clause-ends : goal.returns-then-is_some-clause-ends
returns-then-is_some-clause-ends g c =
    let e = c.settle in
    let j = c.judge_end in
    let columns = c.args.hand.now.ending.columns.items in
    let mid = e.new.hand.ending.columns.items in
    let old = c.args.devices.now in
    let fewer = c.deaths_bring_no_unit_back.ensures.filling columns mid (dies-more (LosesDevice g.D.Disk columns old e.new.devices) AnyCause columns mid (λ k f. tt) e.ensures.settled.dies) in
    ends_left g.D.Disk (g.L.Layout.shape c.args.layout.now) c.args.label.now columns mid j.new.hand.ending.columns.items old e.new.devices e.new.hand.ending.lost j.new.hand.ending.lost
    (omega (arith, fewer, c.requires.columns.filling)) e.ensures.settled e.ensures.lost (sym c.is_some.ensures ∙ c.if-is_some.true) j.ensures.lost j.ensures.columns
