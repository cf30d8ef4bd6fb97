use Rattle.std.proofs.Common.{◌≡◌, ◌+◌, ◌*◌, ◌<◌, ℕ, length, Ok, sym, ap, ◌∙◌, arith, refl, subst, true, false}
use Rattle.eng_cols.specs.Changes.{killed}
use Rattle.raid_recon.specs.declared.ahead.Rows.{Rows}
use Rattle.raid_recon.specs.Ahead.{rows_in}
use Rattle.raid_recon.specs.Array.{IsJudge}
use Rattle.raid_recon.specs.Units.{IsAhead}
use Rattle.raid_recon.proofs.Logs.{sweeping-none, array-swept, sweeping-more, count-few}
use Rattle.raid_recon.proofs.Places.{array-seated}
use Rattle.raid_recon.proofs.Turning.{Steps, failed-within, judge-lost, steps-bad, steps-good}
use Rattle.raid_recon.proofs.Windows.{are-hands, no-hands}
use Rattle.raid_recon.proofs.sweep.sweep_stripes.Goals.{in-Ok+then-counts, in-Ok+else-counts, in-Err}
use Rattle.raid_recon.proofs.sweep.sweep_stripes.Goals as goal

pub loop-stripe-init : goal.loop-stripe-init
loop-stripe-init g c = record {
  sweeping = sweeping-none g.D.Disk c.args.kind (g.L.Layout.shape c.args.layout.now) c.args.windows c.args.columns.now c.args.devices.now c.args.hands.now c.args.ahead.now (no-hands c.args.hands.now c.requires.hands);
  judge = c.requires.judge;
  hands = are-hands c.args.windows.most c.args.hands.now c.requires.hands;
  long = refl;
  sum = c.requires.sum;
}

pub sweep_stripe-requires-clause-array : goal.sweep_stripe-requires-clause-array
sweep_stripe-requires-clause-array g c =
    let y = g.L.Layout.shape c.args.layout.now in
    array-seated g.D.Disk y c.loop-stripe.columns c.loop-stripe.judge.states c.loop-stripe.devices c.loop-stripe.invariant.judge.states
    (array-swept g.D.Disk c.args.kind y c.args.windows c.args.columns.now c.loop-stripe.stripe c.loop-stripe.counted c.loop-stripe.columns c.args.devices.now c.loop-stripe.devices c.requires.array c.loop-stripe.invariant.sweeping.swept)

pub overflow_add-counted : goal.overflow_add-counted
overflow_add-counted g c =
    let w = c.loop-stripe.invariant.sweeping.swept in
    let law = g.met.L.Layout.is_layout c.args.layout.now in
    omega (arith, w.count, count-few w.turns, w.each, c.loop-stripe-test.true, c.stripes-all.ensures, law.stripes_most)

pub lose-requires-clause-there : goal.lose-requires-clause-there
lose-requires-clause-there g c =
    let y = g.L.Layout.shape c.args.layout.now in
    let was = c.loop-stripe.invariant in
    let rows : ℕ → Rows = λ d. rows_in c.args.kind y c.args.windows.most c.args.columns.now was.sweeping.swept.turns d in
    let v = c.sweep_stripe.ensures.visits rows (subst (λ cs. IsAhead g.D.Disk y c.args.windows cs c.loop-stripe.stripe rows c.loop-stripe.devices c.loop-stripe.hands c.loop-stripe.ahead) (sym was.judge.states) was.sweeping.ahead) in
    let within = failed-within g.D.Disk c.args.kind y c.args.windows c.loop-stripe.judge.states c.loop-stripe.stripe rows c.loop-stripe.devices c.sweep_stripe.new.devices c.sweep_stripe.new.hands c.sweep_stripe.new.ahead c.sweep_stripe.result v c.in-Err.failed c.in-Err.is
    (g.met.L.Layout.is_layout c.args.layout.now) c.requires.checks (omega (arith, c.loop-stripe-test.true, c.stripes-all.ensures)) in
    omega (arith, within, c.loop-stripe.invariant.sweeping.swept.dies.count, c.requires.array.entries)

pub lose-requires-clause-within : goal.lose-requires-clause-within
lose-requires-clause-within g c =
    let y = g.L.Layout.shape c.args.layout.now in
    let was = c.loop-stripe.invariant in
    let rows : ℕ → Rows = λ d. rows_in c.args.kind y c.args.windows.most c.args.columns.now was.sweeping.swept.turns d in
    let v = c.sweep_stripe.ensures.visits rows (subst (λ cs. IsAhead g.D.Disk y c.args.windows cs c.loop-stripe.stripe rows c.loop-stripe.devices c.loop-stripe.hands c.loop-stripe.ahead) (sym was.judge.states) was.sweeping.ahead) in
    let within = failed-within g.D.Disk c.args.kind y c.args.windows c.loop-stripe.judge.states c.loop-stripe.stripe rows c.loop-stripe.devices c.sweep_stripe.new.devices c.sweep_stripe.new.hands c.sweep_stripe.new.ahead c.sweep_stripe.result v c.in-Err.failed c.in-Err.is
    (g.met.L.Layout.is_layout c.args.layout.now) c.requires.checks (omega (arith, c.loop-stripe-test.true, c.stripes-all.ensures)) in
    omega (arith, within, c.loop-stripe.invariant.judge.fit.columns)

pub loop-stripe-preserved : goal.loop-stripe-preserved
loop-stripe-preserved g c =
    let y = g.L.Layout.shape c.args.layout.now in
    let law = g.met.L.Layout.is_layout c.args.layout.now in
    let k = c.args.kind in
    let m = c.args.windows in
    let s = c.loop-stripe.stripe in
    let n = c.loop-stripe.counted in
    let mid = c.loop-stripe.columns in
    let dev = c.loop-stripe.devices in
    let judge = c.loop-stripe.judge in
    let was = c.loop-stripe.invariant in
    let w = was.sweeping in
    let r = c.sweep_stripe.result in
    let new = c.sweep_stripe.new.devices in
    let hands = c.sweep_stripe.new.hands in
    let bytes = c.sweep_stripe.new.ahead in
    let rows : ℕ → Rows = λ d. rows_in k y m.most c.args.columns.now w.swept.turns d in
    let v = c.sweep_stripe.ensures.visits rows (subst (λ cs. IsAhead g.D.Disk y m cs s rows dev c.loop-stripe.hands c.loop-stripe.ahead) (sym was.judge.states) w.ahead) in
    let within : s < y.stripes = omega (arith, c.loop-stripe-test.true, c.stripes-all.ensures) in
    let order = (array-swept g.D.Disk k y m c.args.columns.now s n mid c.args.devices.now dev c.requires.array w.swept).order in
    let long = c.sweep_stripe.ensures.long ∙ was.long in
    let sum : length c.sweep_stripe.new.sum ≡ 512 * y.unit_sectors = omega (arith, was.sum, c.sweep_stripe.auto.sum) in
    elim c.match-sweep_stripe.branch [
      | in-Ok+then-counts x ↦ rw (x.columns-is, x.judge-is)
          (let st = steps-good g.D.Disk k y m judge.states s rows dev new hands bytes r v mid was.judge.states true (x.in-Ok.is ∙ ap Ok x.if-counts.true) in record {
            sweeping = sweeping-more g.D.Disk k y m c.args.columns.now law c.requires.checks c.args.devices.now dev new mid mid s n _ (s + 1) true c.loop-stripe.hands hands c.loop-stripe.ahead bytes c.requires.array within w st.by st.ahead x.counted-is (omega arith);
            judge = was.judge;
            hands = c.sweep_stripe.ensures.hands;
            long = long;
            sum = sum;
          })
      | in-Ok+else-counts x ↦ rw (x.columns-is, x.judge-is)
          (let st = steps-good g.D.Disk k y m judge.states s rows dev new hands bytes r v mid was.judge.states false (x.in-Ok.is ∙ ap Ok x.if-counts.false) in record {
            sweeping = sweeping-more g.D.Disk k y m c.args.columns.now law c.requires.checks c.args.devices.now dev new mid mid s n _ (s + 1) false c.loop-stripe.hands hands c.loop-stripe.ahead bytes c.requires.array within w st.by st.ahead (x.counted-is ∙ (let e : n ≡ n + 0 = omega arith in e)) (omega arith);
            judge = was.judge;
            hands = c.sweep_stripe.ensures.hands;
            long = long;
            sum = sum;
          })
      | in-Err x ↦ rw (x.columns-is, x.judge-is)
          (let st = subst (λ l. Steps g.D.Disk k y m s rows mid l dev new hands bytes false) (sym x.lose.ensures.columns) (steps-bad g.D.Disk k y m judge.states s rows dev new hands bytes r v mid was.judge.states x.in-Err.failed x.in-Err.is order) in record {
            sweeping = sweeping-more g.D.Disk k y m c.args.columns.now law c.requires.checks c.args.devices.now dev new mid _ s n _ (s + 1) false c.loop-stripe.hands hands c.loop-stripe.ahead bytes c.requires.array within w st.by st.ahead (x.counted-is ∙ (let e : n ≡ n + 0 = omega arith in e)) (omega arith);
            judge = subst (IsJudge y x.lose.new.columns) (sym x.lose.ensures.judge)
                (subst (λ l. IsJudge y l (record judge { states = killed judge.states x.in-Err.failed.column })) (sym x.lose.ensures.columns)
                (judge-lost g.D.Disk k y m judge.states s rows dev new hands bytes r v mid was.judge.states judge x.in-Err.failed x.in-Err.is order refl was.judge));
            hands = c.sweep_stripe.ensures.hands;
            long = long;
            sum = sum;
          })
    ]
