use Rattle.std.proofs.Common.{ap, refl, subst, sym}
use Rattle.eng_cols.specs.Lost.{NotLost}
use Rattle.eng_cols.specs.Stripes.{states_of}
use Rattle.raid_label.specs.declared.label.Label.{Label}
use Rattle.top_rounds.specs.Labels.{seating_in}
use Rattle.top_rounds.proofs.RoundLaws.{can-after, fewer, round_kept, rounds_whole, tried-more, tried-none}
use Rattle.top_rounds.proofs.rounds.try_rounds.Goals as goal
use Rattle.top_rounds.proofs.Words.{IsFirstInUse}
use Rattle.eng_cols.specs.Deaths.{LosesDevice}

pub loop-devices-init : goal.loop-devices-init
loop-devices-init g c = record { tried = tried-none g.D.Disk c.args.label.now c.args.columns.now c.args.devices.now; same = refl; held = c.requires.held; judge = c.requires.judge }

pub try_round-requires-clause-array : goal.try_round-requires-clause-array
try_round-requires-clause-array g c =
    let t = c.loop-devices.invariant.tried in
    can-after g.D.Disk (LosesDevice g.D.Disk c.args.columns.now c.args.devices.now c.loop-devices.devices) (IsFirstInUse c.args.columns.now) c.args.columns.now c.loop-devices.columns c.args.devices.now c.loop-devices.devices t.dies t.frame c.requires.array

pub returns-then-try_round-clause-whole : goal.returns-then-try_round-clause-whole
returns-then-try_round-clause-whole g c = λ good.
    let pass = c.if-try_round.ensures.pass in
    let is = c.if-try_round.ensures.label in
    rounds_whole g.D.Disk c.args.label.now c.loop-devices.label c.try_round.new.label c.args.columns.now c.loop-devices.columns c.try_round.new.columns c.args.devices.now c.loop-devices.devices c.try_round.new.devices
    c.loop-devices.invariant.tried pass.taken pass.labelled c.requires.array.have.apart pass.ends (ap (λ (l : Label). l.counter) is) (ap seating_in is)

pub returns-then-try_round-clause-kept : goal.returns-then-try_round-clause-kept
returns-then-try_round-clause-kept g c = λ good.
    let y = g.L.Layout.shape c.args.layout.now in
    subst (λ l. NotLost y (states_of y l)) (sym c.if-try_round.ensures.pass.ends.1) (c.loop-devices-test.ensures.kept refl)

pub loop-devices-smaller : goal.loop-devices-smaller
loop-devices-smaller g c =
    let pass = c.if-try_round.ensures.pass in
    fewer g.D.Disk pass.taken c.loop-devices.columns c.try_round.new.columns c.loop-devices.devices c.try_round.new.devices pass.ends

pub loop-devices-preserved : goal.loop-devices-preserved
loop-devices-preserved g c =
    let pass = c.if-try_round.ensures.pass in
    let is = c.if-try_round.ensures.label in
    let t = c.loop-devices.invariant.tried in
    let can = can-after g.D.Disk (LosesDevice g.D.Disk c.args.columns.now c.args.devices.now c.loop-devices.devices) (IsFirstInUse c.args.columns.now) c.args.columns.now c.loop-devices.columns c.args.devices.now c.loop-devices.devices t.dies t.frame c.requires.array in
    record {
      tried = tried-more g.D.Disk c.args.label.now c.loop-devices.label c.try_round.new.label c.args.columns.now c.loop-devices.columns c.try_round.new.columns c.args.devices.now c.loop-devices.devices c.try_round.new.devices
          t pass.taken pass.labelled c.requires.array.have.apart can.have (ap (λ (l : Label). l.counter) is)
          (round_kept c.args.label.now c.loop-devices.label c.try_round.new.label _ _ c.loop-devices.invariant.same is) pass.ends;
      same = round_kept c.args.label.now c.loop-devices.label c.try_round.new.label _ _ c.loop-devices.invariant.same is;
      held = c.if-try_round.ensures.held;
      judge = c.loop-devices-test.ensures.judge;
    }
