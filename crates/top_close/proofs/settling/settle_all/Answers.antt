use Rattle.std.proofs.Common.{◌≡◌, ◌∙◌, length, refl, sym, ap, subst, Some, None, arith}
use Rattle.std.proofs.lemmas.Option.{slice_get-get_or}
use Rattle.eng_cols.specs.Cols.{device_set, is_set_filling, is_set_spread, HasDeviceOn}
use Rattle.top_close.proofs.Settles.{there_within}
use Rattle.top_close.proofs.SettledLaws.{settled-skip, settled-more, settled_last, still_there}
use Rattle.top_close.proofs.Counts.{deaths_pass_less}
use Rattle.top_close.specs.Settled.{AreSettled}
use Rattle.top_close.proofs.settling.settle_all.Goals as goal
use Rattle.top_close.proofs.settling.settle_all.Goals.{in-Some, in_default}

pub settle_column-requires-clause-there : goal.settle_column-requires-clause-there
settle_column-requires-clause-there g c =
    let has : HasDeviceOn c.loop-column.columns c.loop-column.column c.in-Some.device =
    ap device_set (slice_get-get_or c.loop-column.columns c.loop-column.column _ (omega (arith, c.loop-column-test.true, c.loop-column.auto.columns))) ∙ (sym c.device.ensures ∙ c.in-Some.is) in
    still_there g.D.Disk c.loop-column.column c.in-Some.device c.args.columns.now c.loop-column.columns c.args.devices.now c.loop-column.devices c.requires c.loop-column.invariant has

pub settle_column-requires-clause-within : goal.settle_column-requires-clause-within
settle_column-requires-clause-within g c =
    let has : HasDeviceOn c.loop-column.columns c.loop-column.column c.in-Some.device =
    ap device_set (slice_get-get_or c.loop-column.columns c.loop-column.column _ (omega (arith, c.loop-column-test.true, c.loop-column.auto.columns))) ∙ (sym c.device.ensures ∙ c.in-Some.is) in
    there_within c.loop-column.devices c.in-Some.device
    (still_there g.D.Disk c.loop-column.column c.in-Some.device c.args.columns.now c.loop-column.columns c.args.devices.now c.loop-column.devices c.requires c.loop-column.invariant has)

pub loop-column-preserved : goal.loop-column-preserved
loop-column-preserved g c = elim c.match-device.branch [
  | in-Some w ↦ rw (w.devices-is, w.columns-is)
      (settled-more g.D.Disk c.loop-column.column c.args.columns.now c.loop-column.columns w.settle_column.new.columns c.args.devices.now c.loop-column.devices w.settle_column.new.devices
      c.requires c.loop-column.invariant w.settle_column.ensures)
  | in_default w ↦ rw (w.devices-is, w.columns-is)
      (settled-skip g.D.Disk c.loop-column.column c.args.columns.now c.loop-column.columns c.args.devices.now c.loop-column.devices
      (λ d has.
      let z : None ≡ Some d = sym w.in_default.is ∙ (c.device.ensures ∙ (ap device_set (sym (slice_get-get_or c.loop-column.columns c.loop-column.column _ (omega (arith, c.loop-column-test.true, c.loop-column.auto.columns)))) ∙ has)) in
      let u : ⊥ = cc in u) c.loop-column.invariant)
]

pub returns-clause-last : goal.returns-clause-last
returns-clause-last g c = λ k d has.
    let end : c.loop-column.column ≡ length c.args.columns.now = omega arith in
    settled_last g.D.Disk c.args.columns.now c.loop-column.columns c.args.devices.now c.loop-column.devices k d
    (subst (λ n. AreSettled g.D.Disk n c.args.columns.now c.loop-column.columns c.args.devices.now c.loop-column.devices) end c.loop-column.invariant) has

pub returns-clause-filling : goal.returns-clause-filling
returns-clause-filling g c = deaths_pass_less _ is_set_filling c.args.columns.now c.loop-column.columns refl c.loop-column.invariant.dies

pub returns-clause-spread : goal.returns-clause-spread
returns-clause-spread g c = deaths_pass_less _ is_set_spread c.args.columns.now c.loop-column.columns refl c.loop-column.invariant.dies
