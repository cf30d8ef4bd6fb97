use Rattle.std.proofs.Common.{◌≡◌, ◌∙◌, ℕ, length, ap, subst, rules, arith}
use Rattle.raid_recon.specs.Ahead.{rows_ahead, rows_apart, rows_in_room}
use Rattle.raid_recon.specs.Swept.{IsSwept}
use Rattle.raid_recon.proofs.Windows.{windows-by}
use Rattle.raid_recon.proofs.sweep.sweep_in.Goals as goal

pub sweep_stripes-requires-clause-windows : goal.sweep_stripes-requires-clause-windows
sweep_stripes-requires-clause-windows g c =
    let y = g.L.Layout.shape c.args.layout.now in
    let law = g.met.L.Layout.is_layout c.args.layout.now in
    let bytes : ℕ = length c.args.room.now in
    let w = c.windows_in-windows in
    let rows : w.result.most ≡ rows_ahead y bytes = w.ensures.most ∙ (ap (λ u. rows_in_room u c.columns.result bytes) c.unit_sectors-unit.ensures ∙ ap (λ k. rows_in_room y.unit_sectors k bytes) c.columns.ensures) in
    let apart : w.result.apart ≡ rows_apart y.unit_sectors y.columns bytes = w.ensures.apart ∙ (ap (λ u. rows_apart u c.columns.result bytes) c.unit_sectors-unit.ensures ∙ ap (λ k. rows_apart y.unit_sectors k bytes) c.columns.ensures) in
    windows-by y w.result bytes _ law c.requires.room rows apart (search (rules, arith))

pub returns-clause-swept : goal.returns-clause-swept
returns-clause-swept g c =
    let y = g.L.Layout.shape c.args.layout.now in
    let bytes : ℕ = length c.args.room.now in
    let w = c.windows_in-windows in
    let same : w.result.most ≡ rows_ahead y bytes = w.ensures.most ∙ (ap (λ u. rows_in_room u c.columns.result bytes) c.unit_sectors-unit.ensures ∙ ap (λ k. rows_in_room y.unit_sectors k bytes) c.columns.ensures) in
    subst (λ m. IsSwept g.D.Disk c.args.kind y m y.stripes c.args.columns.now c.sweep_stripes.new.columns c.args.devices.now c.sweep_stripes.new.devices c.sweep_stripes.result) same c.sweep_stripes.ensures.swept
