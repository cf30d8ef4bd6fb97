use Rattle.std.proofs.Common.{◌≡◌, ◌≤◌, ◌+◌, ◌*◌, List, [], ◌∷◌, Result, sym, ap, ◌∙◌, subst}
use Rattle.std.specs.Prelude.{IfOk}
use Rattle.lay_core.specs.Layout.{Shape}
use Rattle.lay_plain.specs.declared.fault.MakeFault.{MakeFault}
use Rattle.lay_plain.specs.declared.level_five.Raid5.{Raid5}
use Rattle.lay_plain.specs.LeftSymmetric.{left_symmetric}
use Rattle.eng_world.specs.declared.item.Item.{Item}
use Rattle.eng_array.specs.Fitting.{row_events}
use Rattle.array_tests.proofs.ShortTraces.{whole-stripe}
use Rattle.array_tests.proofs.tests.traced.a_whole_stripe_is_written_without_a_read.Goals as goal

pub traced-requires-clause-short : goal.traced-requires-clause-short
traced-requires-clause-short g c = λ n.
    let l = c.expect-layout.result in
    let shape : left_symmetric l.columns l.unit_sectors l.rows ≡ left_symmetric 5 1 64 =
    subst (λ (r : Result Raid5 MakeFault). IfOk r (λ (m : Raid5). left_symmetric m.columns m.unit_sectors m.rows ≡ left_symmetric 5 1 64)) c.expect-layout.ensures c.new.ensures.made in
    let w = c.write.ensures in
    subst (λ (y : Shape). row_events y [] n c.in_ok-items.items.items ≤ 72 + n * 70) (sym shape)
    (subst (λ (l : List Item). row_events (left_symmetric 5 1 64) [] n l ≤ 72 + n * 70) (sym (c.in_ok-items.ensures ∙ ap (λ (i : Item). i ∷ []) w.1)) (whole-stripe w.0 n))
