use Rattle.std.proofs.Common.{subst, sym, arith}
use Rattle.top_acts.specs.Begun.{Opens}
use Rattle.top_acts.specs.Sweeps.{Marks, Round, notice_seen}
use Rattle.top_acts.proofs.Announced.{announced, announced_few}
use Rattle.top_acts.proofs.Held.{held_as}
use Rattle.top_acts.proofs.beginning.announce.Goals as goal

pub close-requires-clause-held : goal.close-requires-clause-held
close-requires-clause-held g c = held_as c.args.hand.now.ending.columns.items c.args.label.now c.args.label.now.counter 0 (omega arith) c.requires.held

pub returns-in-Round-clause-opens : goal.returns-in-Round-clause-opens
returns-in-Round-clause-opens g c =
    let r = c.close in
    subst (λ n. Opens g.D.Disk (notice_seen n) (g.L.Layout.shape c.args.layout.now) r.new.hand.ending.lost c.args.label.now r.new.label c.args.hand.now.ending.columns.items r.new.hand.ending.columns.items c.args.devices.now r.new.devices) (sym c.in-Round.is) r.ensures.closed

pub returns-in-Round-clause-few : goal.returns-in-Round-clause-few
returns-in-Round-clause-few g c =
    let y = g.L.Layout.shape c.args.layout.now in
    let r = c.close in
    let columns = c.args.hand.now.ending.columns.items in
    let after = r.new.hand.ending.columns.items in
    announced_few g.D.Disk y Round c.args.label.now r.new.label columns after c.args.devices.now r.new.devices r.new.hand.ending.lost
    (announced g.D.Disk y Round r.new.hand.ending.lost c.args.label.now r.new.label columns after c.args.devices.now r.new.devices c.requires.can.labels.have.apart r.ensures.closed)
    c.requires.can.labels.columns_most

pub returns-in-Marks-clause-opens : goal.returns-in-Marks-clause-opens
returns-in-Marks-clause-opens g c =
    let m = c.mark in
    subst (λ n. Opens g.D.Disk (notice_seen n) (g.L.Layout.shape c.args.layout.now) m.new.hand.ending.lost c.args.label.now m.new.label c.args.hand.now.ending.columns.items m.new.hand.ending.columns.items c.args.devices.now m.new.devices) (sym c.in-Marks.is) m.ensures.opens

pub returns-in-Marks-clause-few : goal.returns-in-Marks-clause-few
returns-in-Marks-clause-few g c =
    let y = g.L.Layout.shape c.args.layout.now in
    let m = c.mark in
    let notice = Marks c.in-Marks.map.now in
    let columns = c.args.hand.now.ending.columns.items in
    let after = m.new.hand.ending.columns.items in
    announced_few g.D.Disk y notice c.args.label.now m.new.label columns after c.args.devices.now m.new.devices m.new.hand.ending.lost
    (announced g.D.Disk y notice m.new.hand.ending.lost c.args.label.now m.new.label columns after c.args.devices.now m.new.devices c.requires.can.labels.have.apart m.ensures.opens)
    c.requires.can.labels.columns_most
