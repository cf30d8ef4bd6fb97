use Rattle.std.proofs.Common.{subst, sym, ap, ◌∙◌, ◌≡◌, ◌<◌, arith, List, map, get_or, ℕ, Option, Some, None}
use Rattle.lay_core.specs.Touched.{Touched}
use Rattle.graph_mean.specs.Task.{IsMapOf, task_of, Aim}
use Rattle.graph_lib.specs.Laws.{IsPlannable}
use Rattle.eng_world.specs.Planning.{missing_for}
use Rattle.eng_plan.specs.Asked.{spans_by}
use Rattle.eng_plan.proofs.Maps.{inside-map, op-spans, spans-few, spans-eight}
use Rattle.eng_plan.proofs.Lacking.{missing-each}
use Rattle.top_plan.specs.Sketched.{Sketch}
use Rattle.top_plan.proofs.planner.Planner.plan.Goals as goal

pub miss-requires-clause-few : goal.miss-requires-clause-few
miss-requires-clause-few g c = c.cut.ensures.split.stripes_few

pub aim-requires-clause-map : goal.aim-requires-clause-map
aim-requires-clause-map g c =
    let y = g.L.Layout.shape c.args.layout.now in
    let same = ap (λ (d : Sketch). d.touched) c.miss.ensures in
    subst (λ (m : Touched). IsMapOf y m) (sym same) (inside-map y (g.met.L.Layout.is_layout c.args.layout.now) c.args.op.now c.cut.new.self.touched c.requires.op c.cut.ensures.split)

pub draw-requires-clause-gone : goal.draw-requires-clause-gone
draw-requires-clause-gone g c = λ q m is.
    let y = g.L.Layout.shape c.args.layout.now in
    let cols = c.args.cols.now.states in
    let missing : c.aim.new.self.missing ≡ map (missing_for y cols c.args.op.now) c.cut.new.self.touched.stripes = ap (λ (d : Sketch). d.missing) c.aim.ensures ∙ ap (λ (d : Sketch). d.missing) c.miss.ensures in
    let task : c.aim.new.self.task ≡ task_of y c.kind_of.result c.miss.new.self.touched = ap (λ (d : Sketch). d.task) c.aim.ensures in
    let h = missing-each y cols c.args.op.now c.cut.new.self.touched.stripes c.requires.kept c.cut.ensures.split.split.stripes_within q m (subst (λ (l : List (Option ℕ)). get_or l q None ≡ Some m) missing is) in
    (subst (λ (t : Aim). m < t.width) (sym task) h.0, ap (λ (t : Aim). t.checks) task ∙ h.1)

pub draw-requires-clause-task : goal.draw-requires-clause-task
draw-requires-clause-task g c =
    let y = g.L.Layout.shape c.args.layout.now in
    let law = g.met.L.Layout.is_layout c.args.layout.now in
    let same = ap (λ (d : Sketch). d.touched) c.miss.ensures in
    let task : c.aim.new.self.task ≡ task_of y c.kind_of.result c.miss.new.self.touched = ap (λ (d : Sketch). d.task) c.aim.ensures in
    let op = c.args.op.now in
    let many = spans-few y law op in
    let eight = spans-eight y law op c.requires.op.asked in
    subst (λ (t : Aim). IsPlannable t) (sym (task ∙ ap (task_of y c.kind_of.result) same)) (c.spans_are_plannable.ensures.plannable y c.kind_of.result (spans_by y op) c.cut.new.self.touched law (op-spans y law op c.cut.new.self.touched c.cut.ensures.split.split) c.cut.ensures.split.stripes_few (omega (arith, many, eight)))
