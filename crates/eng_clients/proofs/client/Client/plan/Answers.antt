use Rattle.std.proofs.Common.{subst, sym, ap, ◌∙◌, ◌≡◌, ◌<◌, arith, List, map, get_or, ℕ, Option, Some, None}
use Rattle.lay_core.specs.Touched.{Touched}
use Rattle.graph_mean.specs.Task.{IsMapOf, task_of, Aim}
use Rattle.graph_lib.specs.Laws.{IsPlannable}
use Rattle.eng_world.specs.Planning.{missing_for}
use Rattle.eng_clients.specs.Desk.{Desk}
use Rattle.eng_plan.specs.Asked.{spans_by}
use Rattle.eng_plan.proofs.Maps.{inside-map, op-spans, spans-few, spans-eight}
use Rattle.eng_plan.proofs.Lacking.{missing-each}
use Rattle.eng_clients.proofs.client.Client.plan.Goals as goal

pub miss-requires-clause-few : goal.miss-requires-clause-few
miss-requires-clause-few g c = c.cut.ensures.split.stripes_few

pub aim-requires-clause-map : goal.aim-requires-clause-map
aim-requires-clause-map g c =
    let y = g.L.Layout.shape c.args.layout.now in
    let same = ap (λ (d : Desk). d.map) c.miss.ensures in
    subst (λ (m : Touched). IsMapOf y m) (sym same) (inside-map y (g.met.L.Layout.is_layout c.args.layout.now) c.args.asked.op.now c.cut.new.self.map c.requires.op c.cut.ensures.split)

pub pick-requires-clause-gone : goal.pick-requires-clause-gone
pick-requires-clause-gone g c = λ q m is.
    let y = g.L.Layout.shape c.args.layout.now in
    let cols = c.args.cols.now.states in
    let map1 = ap (λ (d : Desk). d.map) c.miss.ensures in
    let missing : c.aim.new.self.missing ≡ map (missing_for y cols c.args.asked.op.now) c.cut.new.self.map.stripes = ap (λ (d : Desk). d.missing) c.aim.ensures ∙ ap (λ (d : Desk). d.missing) c.miss.ensures in
    let task : c.aim.new.self.task ≡ task_of y c.kind_of.result c.miss.new.self.map = ap (λ (d : Desk). d.task) c.aim.ensures in
    let h = missing-each y cols c.args.asked.op.now c.cut.new.self.map.stripes c.requires.kept c.cut.ensures.split.split.stripes_within q m (subst (λ (l : List (Option ℕ)). get_or l q None ≡ Some m) missing is) in
    (subst (λ (t : Aim). m < t.width) (sym task) h.0, ap (λ (t : Aim). t.checks) task ∙ h.1)

pub pick-requires-clause-task : goal.pick-requires-clause-task
pick-requires-clause-task g c =
    let y = g.L.Layout.shape c.args.layout.now in
    let law = g.met.L.Layout.is_layout c.args.layout.now in
    let same = ap (λ (d : Desk). d.map) c.miss.ensures in
    let task : c.aim.new.self.task ≡ task_of y c.kind_of.result c.miss.new.self.map = ap (λ (d : Desk). d.task) c.aim.ensures in
    let op = c.args.asked.op.now in
    let many = spans-few y law op in
    let eight = spans-eight y law op c.requires.op.asked in
    subst (λ (t : Aim). IsPlannable t) (sym (task ∙ ap (task_of y c.kind_of.result) same)) (c.spans_are_plannable.ensures.plannable y c.kind_of.result (spans_by y op) c.cut.new.self.map law (op-spans y law op c.cut.new.self.map c.cut.ensures.split.split) c.cut.ensures.split.stripes_few (omega (arith, many, eight)))
