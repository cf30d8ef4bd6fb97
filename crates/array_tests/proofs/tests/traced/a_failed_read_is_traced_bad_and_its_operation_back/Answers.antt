use Rattle.std.proofs.Common.{◌≡◌, ◌≤◌, ◌+◌, ◌*◌, List, [], ◌∷◌, Result, None, sym, ap, ◌∙◌, subst}
use Rattle.std.specs.Prelude.{IfOk}
use Rattle.lay_core.specs.Layout.{Shape}
use Rattle.lay_plain.specs.declared.fault.MakeFault.{MakeFault}
use Rattle.lay_plain.specs.declared.level_five.Raid5.{Raid5}
use Rattle.lay_plain.specs.LeftSymmetric.{left_symmetric}
use Rattle.blk_plain.specs.declared.op.Op.TheVariants.{Write, Writes}
use Rattle.eng_world.specs.declared.item.Item.{Item}
use Rattle.eng_world.specs.declared.item.Item.TheVariants as item
use Rattle.eng_array.specs.Fitting.{row_events}
use Rattle.array_tests.proofs.ShortTraces.{write-and-read}
use Rattle.array_tests.proofs.tests.traced.a_failed_read_is_traced_bad_and_its_operation_back.Goals as goal

pub traced-requires-clause-short : goal.traced-requires-clause-short
traced-requires-clause-short g c = λ n.
    let l = c.expect-layout.result in
    let shape : left_symmetric l.columns l.unit_sectors l.rows ≡ left_symmetric 3 1 64 =
    subst (λ (r : Result Raid5 MakeFault). IfOk r (λ (m : Raid5). left_symmetric m.columns m.unit_sectors m.rows ≡ left_symmetric 3 1 64)) c.expect-layout.ensures c.new.ensures.made in
    let w = c.write.ensures in
    subst (λ (y : Shape). row_events y [] n c.in_ok-items.items.items ≤ 72 + n * 70) (sym shape)
    (subst (λ (l : List Item). row_events (left_symmetric 3 1 64) [] n l ≤ 72 + n * 70) (sym (c.in_ok-items.ensures ∙ ap (λ (i : Item). i ∷ c.read.result ∷ []) w.1 ∙ ap (λ (i : Item). item.Run (Write (record { first = 0; count = 1 }) w.0) None ∷ i ∷ []) c.read.ensures)) (write-and-read w.0 n))
