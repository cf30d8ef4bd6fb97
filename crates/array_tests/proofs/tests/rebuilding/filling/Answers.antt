use Rattle.std.proofs.Common.{◌≡◌, ◌≤◌, ◌+◌, ◌*◌, ◌∙◌, ℕ, true, false, List, length, Option, Some, ap, subst, sym, arith}
use Rattle.std.specs.Prelude.{slice_get}
use Rattle.eng_cols.specs.declared.column.Column.{Column}
use Rattle.eng_cols.specs.declared.column.Column.TheVariants as column
use Rattle.array_tests.specs.Small.{HasSectors, needed}
use Rattle.array_tests.proofs.SmallRebuilds.{can-fill}
use Rattle.array_tests.proofs.tests.rebuilding.filling.Goals as goal

pub fill-requires-clause-can : goal.fill-requires-clause-can
fill-requires-clause-can g c =
    let setup = c.args.setup in
    let y = g.L.Layout.shape setup.layout in
    let rows : c.from.result ≡ y.rows = c.from.ensures ∙ c.rows.ensures in
    let unit : c.from-2.result ≡ y.unit_sectors = c.from-2.ensures ∙ c.unit_sectors.ensures in
    let need : 64 + c.from.result * c.from-2.result ≡ needed y = ap (λ n. 64 + n * c.from-2.result) rows ∙ ap (λ n. 64 + y.rows * n) unit in
    let dead : slice_get setup.columns.items c.args.column ≡ Some column.Dead = subst (λ (l : List Column). slice_get l c.args.column ≡ Some column.Dead) c.deref.ensures.value (c.is_dead.ensures c.if-not-is_dead.false) in
    let behind : length setup.columns.items ≤ c.args.device = let a = setup.columns.ok.0 in let b = c.len.ensures in let e = c.if-device-len.false in omega (arith, a, b, e) in
    let there : HasSectors g.D.Disk setup.devices.items c.args.device (needed y) = subst (λ (n : ℕ). HasSectors g.D.Disk setup.devices.items c.args.device n) need
    (subst (λ (l : List (Option g.row.D.Denot)). HasSectors g.D.Disk l c.args.device (64 + c.from.result * c.from-2.result)) c.deref-2.ensures.value (c.has_sectors.ensures c.if-not-has_sectors.false)) in
    can-fill g.L.Layout g.D.Disk setup c.in-Ok.core.array c.in-Ok.ensures.opened c.in-Ok.ensures.own c.args.column dead c.args.device behind there

pub fill-requires-clause-room : goal.fill-requires-clause-room
fill-requires-clause-room g c = c.in-Ok.ensures.room _ c.args.column _ (λ kept. absurd (let h : true ≡ false = sym kept ∙ c.requires in cc))
