use Rattle.std.proofs.Common.{◌≡◌, ◌+◌, ◌++◌, ◌∙◌, ℕ, suc, List, [], refl, sym, ap, subst, append_assoc, append-nil, arith, length}
use Rattle.top_plan.specs.Texts.{AreToldOf}
use Rattle.top_plan.proofs.telling.tell_items.Goals as goal

pub loop-number-init : goal.loop-number-init
loop-number-init g c = ([], refl, sym (append-nil c.args.text.now.items))

pub add_item-requires-clause-asked : goal.add_item-requires-clause-asked
add_item-requires-clause-asked g c = c.requires.asked c.loop-number.number c.get.result c.get.ensures

pub loop-number-preserved : goal.loop-number-preserved
loop-number-preserved g c =
    let y = g.L.Layout.shape c.args.layout.now in
    let so_far = c.loop-number.invariant in
    let one = c.in_ok-add_item.ensures in
    let next : suc c.loop-number.number ≡ c.loop-number.number + 1 = omega arith in
    let told : List ℕ = so_far.0 ++ one.0 in (
      told,
      subst (λ (n : ℕ). AreToldOf y c.args.cols.now.states c.args.client c.args.items.now.items n told) next
          (so_far.0, one.0, c.get.result, c.get.ensures, so_far.1, one.1, refl),
      one.2 ∙ (ap (λ (l : List ℕ). l ++ one.0) so_far.2 ∙ append_assoc c.args.text.now.items so_far.0 one.0),
    )

pub returns : goal.returns
returns g c =
    let y = g.L.Layout.shape c.args.layout.now in
    let all : c.loop-number.number ≡ length c.args.items.now.items = omega (arith, c.loop-number-test.false, c.loop-number.auto.number-end, c.len-number-end.ensures) in
    subst (λ (n : ℕ). (told : List ℕ) × AreToldOf y c.args.cols.now.states c.args.client c.args.items.now.items n told
    × (c.loop-number.text.items ≡ c.args.text.now.items ++ told)) all c.loop-number.invariant
