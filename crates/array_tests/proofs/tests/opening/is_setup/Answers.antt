use Rattle.std.proofs.Common.{List, ℕ, ◌≡◌, ◌∙◌, ◌+◌, ◌*◌, length, sym, subst, ap}
use Rattle.std.specs.Prelude.{Option, All}
use Rattle.eng_cols.specs.declared.column.Column.{Column}
use Rattle.item_list.specs.ItemList.{ItemList}
use Rattle.array_tests.specs.Small.{AreOwn, AreScripts, IsSlim}
use Rattle.array_tests.proofs.SmallSetups.{small-setup}
use Rattle.array_tests.proofs.tests.opening.is_setup.Goals as goal

pub returns-clause-scripts : goal.returns-clause-scripts
returns-clause-scripts g c = λ is.
    let y = g.L.Layout.shape c.args.setup.now.layout in
    let many : c.len-2.result ≡ length c.args.setup.now.graphs.items = c.len-2.ensures ∙ c.args.setup.now.graphs.ok.0 in
    subst (λ (n : ℕ). AreScripts y n c.args.setup.now.clients.items) many
    (subst (λ (l : List ItemList). AreScripts y c.len-2.result l) c.deref-4.ensures.value (c.are_scripts.ensures is))

pub returns-clause-own : goal.returns-clause-own
returns-clause-own g c = λ is.
    let y = g.L.Layout.shape c.args.setup.now.layout in
    let setup = c.args.setup.now in
    let own = c.are_own.ensures c.if-not-are_own.false in
    let rows : c.from.result ≡ y.rows = c.from.ensures ∙ c.rows.ensures in
    let unit : c.from-2.result ≡ y.unit_sectors = c.from-2.ensures ∙ c.unit_sectors.ensures in
    let need : 64 + c.from.result * c.from-2.result ≡ 64 + y.rows * y.unit_sectors = ap (λ n. 64 + n * c.from-2.result) rows ∙ ap (λ n. 64 + y.rows * n) unit in
    subst (λ (n : ℕ). AreOwn g.D.Disk setup.devices.items n setup.columns.items) need
    (subst (λ (l : List (Option g.row.D.Denot)). AreOwn g.D.Disk l (64 + c.from.result * c.from-2.result) setup.columns.items) c.deref-2.ensures.value
    (subst (λ (l : List Column). AreOwn g.D.Disk c.deref-2.result.now (64 + c.from.result * c.from-2.result) l) c.deref.ensures.value own))

pub returns-clause-setup : goal.returns-clause-setup
returns-clause-setup g c = λ is.
    let y = g.L.Layout.shape c.args.setup.now.layout in
    let setup = c.args.setup.now in
    let many : length setup.columns.items ≡ y.columns = sym setup.columns.ok.0 ∙ sym c.len.ensures ∙ c.if-len-columns.false ∙ c.columns.ensures in
    small-setup g.L.Layout g.D.Disk setup many (returns-clause-own g c is) (returns-clause-scripts g c is) (subst (All IsSlim) c.deref-3.ensures.value (c.are_slim.ensures c.if-not-are_slim.false))
