use Rattle.std.proofs.Common.{◌<◌, ◌∙◌, arith, ◌+◌, ◌*◌, length, sym, subst}
use Rattle.std.proofs.lemmas.Nat.{mul-add-lt}
use Rattle.std.proofs.lemmas.List.{get_or_default}
use Rattle.std.proofs.lemmas.Bool.{leb-false}
use Rattle.lay_design.specs.Blocks.{object}
use Rattle.lay_design.proofs.Tables.{object_is}
use Rattle.lay_design.proofs.design.Design.object.Goals as goal

pub returns-clause-below : goal.returns-clause-below
returns-clause-below c =
    let n = c.self.inside.numbers in
    let list = c.self.inside.list.items in
    let tuple : c.args.tuple < n.tuples = subst (λ d. c.args.tuple < d.b) (sym c.self.view_is) c.requires.tuple in
    let place : c.args.position < n.width = subst (λ d. c.args.position < d.k) (sym c.self.view_is) c.requires.position in
    let below : object n.width list c.args.tuple c.args.position < n.objects = leb-false _ _ (c.self.invariant.below c.args.tuple c.args.position tuple place) in
    let within : c.args.tuple * n.width + c.args.position < length list = omega (arith, mul-add-lt c.args.tuple n.width c.args.position n.tuples tuple place, c.self.invariant.numbers.length) in
    subst (λ d. c.index.result.now < d.v) c.self.view_is (subst (λ x. x < n.objects) (object_is n.width list c.args.tuple c.args.position place ∙ (get_or_default list (c.args.tuple * n.width + c.args.position) 0 c.index.result.now within ∙ sym c.index.ensures)) below)
