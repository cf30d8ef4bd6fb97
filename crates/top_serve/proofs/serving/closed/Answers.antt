use Rattle.std.proofs.Common.{◌≡◌, List, length, Option, ◌∙◌, ap, subst, refl, arith}
use Rattle.std.proofs.lemmas.List.{length-set, with_items_is}
use Rattle.std.specs.Prelude.{slice_get, slice_set, ℕ}
use Rattle.eng_cols.specs.declared.column.Column.{Column}
use Rattle.top_serve.specs.Judged.{judged, JudgesAt}
use Rattle.top_serve.proofs.Closings.{judged-as, judged-none}
use Rattle.top_serve.proofs.serving.closed.Goals as goal

pub returns-in-Some-clause-closed : goal.returns-in-Some-clause-closed
returns-in-Some-clause-closed g c =
    let y = g.L.Layout.shape c.args.core.array.layout in
    let states = c.args.core.array.cols.states in
    let columns = c.close-closed.result.columns in
    let were = columns.items in
    let k = c.in-Some.column in
    let changed : c.judge.new.columns ≡ slice_set were k (judged c.whole-whole.result (slice_get were k)) = subst (λ (l : List Column). c.judge.new.columns ≡ slice_set l k (judged c.whole-whole.result (slice_get l k))) c.as_mut_slice.ensures.value c.judge.ensures in
    let long : length c.judge.new.columns ≡ columns.len =
    let a = ap (λ (l : List Column). length l) changed in
    let b = length-set were k (judged c.whole-whole.result (slice_get were k)) in
    let n = columns.ok.0 in
    omega (arith, a, b, n) in
    record {
      were = columns;
      is_closed = c.close-closed.ensures;
      judged = judged-as y states c.args.start k were _ (subst (λ (o : Option ℕ). JudgesAt y states c.args.start o) c.in-Some.is c.judged.ensures) (
        c.whole-whole.result,
        c.whole-whole.ensures,
        with_items_is columns c.judge.new.columns long ∙ changed,
      );
    }

pub returns-in-None-clause-closed : goal.returns-in-None-clause-closed
returns-in-None-clause-closed g c = record {
  were = c.close.result.columns;
  is_closed = c.close.ensures;
  judged = judged-none (g.L.Layout.shape c.args.core.array.layout) c.args.core.array.cols.states c.args.start c.close.result.columns.items c.close.result.columns.items (subst (λ (o : Option ℕ). JudgesAt (g.L.Layout.shape c.args.core.array.layout) c.args.core.array.cols.states c.args.start o) c.in-None.is c.judged.ensures) refl;
}
