use Rattle.std.proofs.Common.{◌≡◌, ◌∙◌, true, false, List, Some, subst, sym}
use Rattle.std.specs.Prelude.{slice_get}
use Rattle.eng_cols.specs.declared.column.Column.{Column}
use Rattle.eng_cols.specs.declared.column.Column.TheVariants as column
use Rattle.array_tests.proofs.SmallRebuilds.{can-spread}
use Rattle.array_tests.proofs.tests.rebuilding.spreading.Goals as goal

pub spread-requires-clause-can : goal.spread-requires-clause-can
spread-requires-clause-can g c =
    let dead : slice_get c.args.setup.columns.items c.args.column ≡ Some column.Dead = subst (λ (l : List Column). slice_get l c.args.column ≡ Some column.Dead) c.deref.ensures.value (c.is_dead.ensures c.if-not-is_dead.false) in
    can-spread g.L.Layout g.D.Disk c.args.setup c.in-Ok.core.array c.in-Ok.ensures.opened c.in-Ok.ensures.own c.args.column dead c.requires.spares

pub spread-requires-clause-room : goal.spread-requires-clause-room
spread-requires-clause-room g c = c.in-Ok.ensures.room _ c.args.column _ (λ kept. absurd (let h : true ≡ false = sym kept ∙ c.requires.untraced in cc))
