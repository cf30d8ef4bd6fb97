use Rattle.std.proofs.Common.{ℕ, sym, refl, subst, rules, arith, false}
use Rattle.eng_cols.specs.Changes.{killed}
use Rattle.raid_recon.specs.declared.ahead.ColumnWindows.{ColumnWindows}
use Rattle.raid_recon.specs.declared.ahead.Rows.{Rows}
use Rattle.raid_recon.specs.Ahead.{no_rows}
use Rattle.raid_recon.specs.Array.{IsJudge}
use Rattle.raid_recon.specs.declared.kind.Sweep.TheVariants.{Sync}
use Rattle.raid_recon.proofs.Alone.{swept-alone}
use Rattle.raid_recon.proofs.Places.{array-seated}
use Rattle.raid_recon.proofs.Turning.{Steps, failed-within, judge-lost, steps-bad, steps-good}
use Rattle.raid_recon.proofs.Windows.{are-hands, none-ahead, one-window}
use Rattle.raid_recon.proofs.sweep.sync_in.Goals as goal

abbrev none : ℕ → Rows
none d = no_rows

abbrev shared : ColumnWindows
shared = record { most = 1; apart = 0 }

pub sweep_stripe-requires-clause-array : goal.sweep_stripe-requires-clause-array
sweep_stripe-requires-clause-array g c =
    array-seated g.D.Disk (g.L.Layout.shape c.args.layout.now) c.args.columns.now c.args.judge.now.states c.args.devices.now c.requires.judge.states c.requires.array

pub sweep_stripe-requires-clause-windows : goal.sweep_stripe-requires-clause-windows
sweep_stripe-requires-clause-windows g c = one-window (g.L.Layout.shape c.args.layout.now) shared _ (g.met.L.Layout.is_layout c.args.layout.now) refl refl (search (rules, arith))

pub sweep_stripe-requires-clause-hands : goal.sweep_stripe-requires-clause-hands
sweep_stripe-requires-clause-hands g c = are-hands 1 _ refl

pub lose-requires-clause-there : goal.lose-requires-clause-there
lose-requires-clause-there g c =
    let y = g.L.Layout.shape c.args.layout.now in
    let law = g.met.L.Layout.is_layout c.args.layout.now in
    let cols = c.args.judge.now.states in
    let s = c.args.stripe in
    let r = c.sweep_stripe in
    let v = r.ensures.visits none (none-ahead g.D.Disk y shared cols s c.args.devices.now _ _ refl) in
    let within = failed-within g.D.Disk Sync y shared cols s none c.args.devices.now r.new.devices r.new.hands r.new.ahead r.result v c.in-Err.failed c.in-Err.is law c.requires.checks c.requires.stripe in
    omega (arith, within, c.requires.array.entries)

pub lose-requires-clause-within : goal.lose-requires-clause-within
lose-requires-clause-within g c =
    let y = g.L.Layout.shape c.args.layout.now in
    let law = g.met.L.Layout.is_layout c.args.layout.now in
    let cols = c.args.judge.now.states in
    let s = c.args.stripe in
    let r = c.sweep_stripe in
    let v = r.ensures.visits none (none-ahead g.D.Disk y shared cols s c.args.devices.now _ _ refl) in
    let within = failed-within g.D.Disk Sync y shared cols s none c.args.devices.now r.new.devices r.new.hands r.new.ahead r.result v c.in-Err.failed c.in-Err.is law c.requires.checks c.requires.stripe in
    omega (arith, within, c.requires.judge.fit.columns)

pub returns-in-Ok-clause-turn : goal.returns-in-Ok-clause-turn
returns-in-Ok-clause-turn g c =
    let y = g.L.Layout.shape c.args.layout.now in
    let law = g.met.L.Layout.is_layout c.args.layout.now in
    let cols = c.args.judge.now.states in
    let s = c.args.stripe in
    let r = c.sweep_stripe in
    let v = r.ensures.visits none (none-ahead g.D.Disk y shared cols s c.args.devices.now _ _ refl) in
    let st = steps-good g.D.Disk Sync y shared cols s none c.args.devices.now r.new.devices r.new.hands r.new.ahead r.result v c.args.columns.now c.requires.judge.states c.in-Ok.counted c.in-Ok.is in
    swept-alone g.D.Disk Sync y s c.args.columns.now c.args.columns.now c.args.devices.now r.new.devices c.in-Ok.counted law c.requires.stripe st.by

pub returns-in-Err-clause-turn : goal.returns-in-Err-clause-turn
returns-in-Err-clause-turn g c =
    let y = g.L.Layout.shape c.args.layout.now in
    let law = g.met.L.Layout.is_layout c.args.layout.now in
    let cols = c.args.judge.now.states in
    let s = c.args.stripe in
    let r = c.sweep_stripe in
    let v = r.ensures.visits none (none-ahead g.D.Disk y shared cols s c.args.devices.now _ _ refl) in
    let st = subst (λ l. Steps g.D.Disk Sync y shared s none c.args.columns.now l c.args.devices.now r.new.devices r.new.hands r.new.ahead false) (sym c.lose.ensures.columns)
    (steps-bad g.D.Disk Sync y shared cols s none c.args.devices.now r.new.devices r.new.hands r.new.ahead r.result v c.args.columns.now c.requires.judge.states c.in-Err.failed c.in-Err.is c.requires.array.order) in
    swept-alone g.D.Disk Sync y s c.args.columns.now c.lose.new.columns c.args.devices.now r.new.devices false law c.requires.stripe st.by

pub returns-in-Err-clause-judge : goal.returns-in-Err-clause-judge
returns-in-Err-clause-judge g c =
    let y = g.L.Layout.shape c.args.layout.now in
    let law = g.met.L.Layout.is_layout c.args.layout.now in
    let cols = c.args.judge.now.states in
    let s = c.args.stripe in
    let r = c.sweep_stripe in
    let v = r.ensures.visits none (none-ahead g.D.Disk y shared cols s c.args.devices.now _ _ refl) in
    subst (IsJudge y c.lose.new.columns) (sym c.lose.ensures.judge)
    (subst (λ l. IsJudge y l (record c.args.judge.now { states = killed c.args.judge.now.states c.in-Err.failed.column })) (sym c.lose.ensures.columns)
    (judge-lost g.D.Disk Sync y shared cols s none c.args.devices.now r.new.devices r.new.hands r.new.ahead r.result v c.args.columns.now c.requires.judge.states c.args.judge.now c.in-Err.failed c.in-Err.is c.requires.array.order refl c.requires.judge))
