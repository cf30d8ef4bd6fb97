use Rattle.std.proofs.Common.{◌≡◌, ◌∙◌, length, ap, sym, subst, Some, None, arith}
use Rattle.std.proofs.lemmas.Option.{slice_get-get_or}
use Rattle.eng_cols.specs.Cols.{device_set, HasDeviceOn}
use Rattle.top_rounds.specs.Passes.{AreLabelled}
use Rattle.top_rounds.proofs.Devices.{there_within}
use Rattle.top_rounds.proofs.PassLaws.{labelled-more, labelled-none, labelled-skip, still_there}
use Rattle.top_rounds.proofs.pass.write_all.Goals as goal
use Rattle.top_rounds.proofs.pass.write_all.Goals.{in-Some, in_default}

pub loop-column-init : goal.loop-column-init
loop-column-init g c = labelled-none g.D.Disk c.args.label.now c.args.columns.now c.args.devices.now

pub write_column-requires-clause-live : goal.write_column-requires-clause-live
write_column-requires-clause-live g c =
    ap device_set (slice_get-get_or c.loop-column.columns c.loop-column.column _ (omega (arith, c.loop-column-test.true, c.loop-column.auto.columns))) ∙ (sym c.device.ensures ∙ c.in-Some.is)

pub write_column-requires-clause-there : goal.write_column-requires-clause-there
write_column-requires-clause-there g c =
    let has : HasDeviceOn c.loop-column.columns c.loop-column.column c.in-Some.device =
    ap device_set (slice_get-get_or c.loop-column.columns c.loop-column.column _ (omega (arith, c.loop-column-test.true, c.loop-column.auto.columns))) ∙ (sym c.device.ensures ∙ c.in-Some.is) in
    (still_there g.D.Disk c.loop-column.column c.in-Some.device c.args.label.now c.args.columns.now c.loop-column.columns c.args.devices.now c.loop-column.devices c.requires.array c.loop-column.invariant has).0

pub write_column-requires-clause-within : goal.write_column-requires-clause-within
write_column-requires-clause-within g c =
    let has : HasDeviceOn c.loop-column.columns c.loop-column.column c.in-Some.device =
    ap device_set (slice_get-get_or c.loop-column.columns c.loop-column.column _ (omega (arith, c.loop-column-test.true, c.loop-column.auto.columns))) ∙ (sym c.device.ensures ∙ c.in-Some.is) in
    there_within c.loop-column.devices c.in-Some.device (still_there g.D.Disk c.loop-column.column c.in-Some.device c.args.label.now c.args.columns.now c.loop-column.columns c.args.devices.now c.loop-column.devices c.requires.array c.loop-column.invariant has).0

pub write_column-requires-clause-sized : goal.write_column-requires-clause-sized
write_column-requires-clause-sized g c =
    let has : HasDeviceOn c.loop-column.columns c.loop-column.column c.in-Some.device =
    ap device_set (slice_get-get_or c.loop-column.columns c.loop-column.column _ (omega (arith, c.loop-column-test.true, c.loop-column.auto.columns))) ∙ (sym c.device.ensures ∙ c.in-Some.is) in
    (still_there g.D.Disk c.loop-column.column c.in-Some.device c.args.label.now c.args.columns.now c.loop-column.columns c.args.devices.now c.loop-column.devices c.requires.array c.loop-column.invariant has).1

pub loop-column-preserved : goal.loop-column-preserved
loop-column-preserved g c = elim c.match-device.branch [
  | in-Some w ↦ rw (w.devices-is, w.columns-is)
      (labelled-more g.D.Disk c.loop-column.column c.args.label.now c.args.columns.now c.loop-column.columns w.write_column.new.columns c.args.devices.now c.loop-column.devices w.write_column.new.devices w.write_column.result
      c.requires.array.have c.loop-column.invariant w.write_column.ensures)
  | in_default w ↦ rw (w.devices-is, w.columns-is)
      (labelled-skip g.D.Disk c.loop-column.column c.args.label.now c.args.columns.now c.loop-column.columns c.args.devices.now c.loop-column.devices
      (λ d has.
      let z : None ≡ Some d = sym w.in_default.is ∙ (c.device.ensures ∙ (ap device_set (sym (slice_get-get_or c.loop-column.columns c.loop-column.column _ (omega (arith, c.loop-column-test.true, c.loop-column.auto.columns)))) ∙ has)) in
      let u : ⊥ = cc in u) c.loop-column.invariant)
]

pub returns : goal.returns
returns g c =
    let end : c.loop-column.column ≡ length c.args.columns.now = omega arith in
    subst (λ n. AreLabelled g.D.Disk n c.args.label.now c.args.columns.now c.loop-column.columns c.args.devices.now c.loop-column.devices) end c.loop-column.invariant
