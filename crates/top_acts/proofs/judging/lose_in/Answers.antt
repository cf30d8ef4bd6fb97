use Rattle.std.proofs.Common.{◌∙◌, length-set, refl, arith}
use Rattle.top_acts.proofs.Without.{kept_more, set_for, without_is}
use Rattle.top_acts.proofs.judging.lose_in.Goals as goal

pub loop-c-init : goal.loop-c-init
loop-c-init g c =
    let for = set_for (g.L.Layout.shape c.args.layout.now) c.args.columns.now c.args.column c.args.judge.now _ _ c.set.ensures.columns c.kill.ensures.column c.requires.columns.entries c.requires.judge in
    record { count = refl; judge = for.0; states = for.1; kept = λ k lt. absurd (omega (arith, lt)) }

pub kept-requires-clause-column : goal.kept-requires-clause-column
kept-requires-clause-column g c =
    let i = c.loop-c.invariant in
    omega (arith, c.loop-c-test.true, i.judge.columns, c.requires.columns.entries)

pub loop-c-preserved : goal.loop-c-preserved
loop-c-preserved g c =
    let i = c.loop-c.invariant in
    record {
      count = length-set c.loop-c.columns c.loop-c.c c.kept.result ∙ i.count;
      judge = i.judge;
      states = i.states;
      kept = kept_more (g.L.Layout.shape c.args.layout.now) _ c.loop-c.columns c.loop-c.c c.kept.result (omega (arith, c.loop-c-test.true, i.count)) i.kept c.kept.ensures;
    }

pub returns-clause-without : goal.returns-clause-without
returns-clause-without g c =
    let i = c.loop-c.invariant in
    without_is (g.L.Layout.shape c.args.layout.now) c.args.columns.now c.loop-c.columns c.args.column _ i.states i.count (λ k lt. i.kept k (omega (arith, lt, c.loop-c-test.false)))
