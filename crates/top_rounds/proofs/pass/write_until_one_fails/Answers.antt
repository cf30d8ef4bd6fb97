use Rattle.std.proofs.Common.{◌≡◌, ◌∙◌, ap, sym, Some, None, arith, refl, true, false}
use Rattle.std.proofs.lemmas.Option.{slice_get-get_or}
use Rattle.eng_cols.specs.Cols.{device_set, HasDeviceOn}
use Rattle.top_rounds.proofs.Devices.{there_within}
use Rattle.top_rounds.proofs.PassLaws.{labelled-more, labelled-none, labelled-skip, still_there, still_same, try-failed, try-whole}
use Rattle.top_rounds.proofs.pass.write_until_one_fails.Goals as goal
use Rattle.top_rounds.proofs.pass.write_until_one_fails.Goals.{in-Some+else-not-write_column, in_default}

pub loop-column-init : goal.loop-column-init
loop-column-init g c = record { labelled = labelled-none g.D.Disk c.args.label.now c.args.columns.now c.args.devices.now; same = refl }

pub write_column-requires-clause-live : goal.write_column-requires-clause-live
write_column-requires-clause-live g c =
    ap device_set (slice_get-get_or c.loop-column.columns c.loop-column.column _ (omega (arith, c.loop-column-test.true, c.loop-column.auto.columns))) ∙ (sym c.device.ensures ∙ c.in-Some.is)

pub write_column-requires-clause-there : goal.write_column-requires-clause-there
write_column-requires-clause-there g c =
    let has : HasDeviceOn c.loop-column.columns c.loop-column.column c.in-Some.device =
    ap device_set (slice_get-get_or c.loop-column.columns c.loop-column.column _ (omega (arith, c.loop-column-test.true, c.loop-column.auto.columns))) ∙ (sym c.device.ensures ∙ c.in-Some.is) in
    (still_there g.D.Disk c.loop-column.column c.in-Some.device c.args.label.now c.args.columns.now c.loop-column.columns c.args.devices.now c.loop-column.devices c.requires.array c.loop-column.invariant.labelled has).0

pub write_column-requires-clause-within : goal.write_column-requires-clause-within
write_column-requires-clause-within g c =
    let has : HasDeviceOn c.loop-column.columns c.loop-column.column c.in-Some.device =
    ap device_set (slice_get-get_or c.loop-column.columns c.loop-column.column _ (omega (arith, c.loop-column-test.true, c.loop-column.auto.columns))) ∙ (sym c.device.ensures ∙ c.in-Some.is) in
    there_within c.loop-column.devices c.in-Some.device (still_there g.D.Disk c.loop-column.column c.in-Some.device c.args.label.now c.args.columns.now c.loop-column.columns c.args.devices.now c.loop-column.devices c.requires.array c.loop-column.invariant.labelled has).0

pub write_column-requires-clause-sized : goal.write_column-requires-clause-sized
write_column-requires-clause-sized g c =
    let has : HasDeviceOn c.loop-column.columns c.loop-column.column c.in-Some.device =
    ap device_set (slice_get-get_or c.loop-column.columns c.loop-column.column _ (omega (arith, c.loop-column-test.true, c.loop-column.auto.columns))) ∙ (sym c.device.ensures ∙ c.in-Some.is) in
    (still_there g.D.Disk c.loop-column.column c.in-Some.device c.args.label.now c.args.columns.now c.loop-column.columns c.args.devices.now c.loop-column.devices c.requires.array c.loop-column.invariant.labelled has).1

pub returns-then-not-write_column : goal.returns-then-not-write_column
returns-then-not-write_column g c = try-failed g.D.Disk c.loop-column.column c.args.label.now c.args.columns.now c.loop-column.columns c.write_column.new.columns c.args.devices.now c.loop-column.devices c.write_column.new.devices false c.requires.array.have c.loop-column.invariant.labelled c.if-not-write_column.ensures c.loop-column.invariant.same refl

pub loop-column-preserved : goal.loop-column-preserved
loop-column-preserved g c = elim c.match-device.branch [
  | in-Some+else-not-write_column w ↦ rw (w.devices-is, w.columns-is) (record {
    labelled = labelled-more g.D.Disk c.loop-column.column c.args.label.now c.args.columns.now c.loop-column.columns w.write_column.new.columns c.args.devices.now c.loop-column.devices w.write_column.new.devices true c.requires.array.have c.loop-column.invariant.labelled w.if-not-write_column.ensures;
    same = still_same g.D.Disk c.loop-column.column c.args.label.now c.args.columns.now c.loop-column.columns w.write_column.new.columns c.args.devices.now c.loop-column.devices w.write_column.new.devices true c.requires.array.have c.loop-column.invariant.labelled w.if-not-write_column.ensures c.loop-column.invariant.same refl;
  })
  | in_default w ↦ rw (w.devices-is, w.columns-is) (record {
    labelled = labelled-skip g.D.Disk c.loop-column.column c.args.label.now c.args.columns.now c.loop-column.columns c.args.devices.now c.loop-column.devices
        (λ d has.
        let z : None ≡ Some d = sym w.in_default.is ∙ (c.device.ensures ∙ (ap device_set (sym (slice_get-get_or c.loop-column.columns c.loop-column.column _ (omega (arith, c.loop-column-test.true, c.loop-column.auto.columns)))) ∙ has)) in
        let u : ⊥ = cc in u) c.loop-column.invariant.labelled;
    same = c.loop-column.invariant.same;
  })
]

pub returns : goal.returns
returns g c = try-whole g.D.Disk c.loop-column.column c.args.label.now c.args.columns.now c.loop-column.columns c.args.devices.now c.loop-column.devices (omega arith) c.loop-column.invariant.same c.loop-column.invariant.labelled
