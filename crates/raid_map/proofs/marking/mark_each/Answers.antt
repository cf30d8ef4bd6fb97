use Rattle.std.proofs.Common.{◌≡◌, ◌∙◌, sym, ap, subst, length, arith}
use Rattle.std.proofs.lemmas.Option.{slice_get-get_or}
use Rattle.eng_cols.specs.Cols.{device_set, HasDeviceOn}
use Rattle.raid_map.specs.Marking.{AreMarked}
use Rattle.raid_map.proofs.MarkOne.{sized_within}
use Rattle.raid_map.proofs.MarkLaws.{marked-skip, marked-more, still_sized, if_length, not_on}
use Rattle.raid_map.proofs.marking.mark_each.Goals.{in-Some, in-None}
use Rattle.raid_map.proofs.marking.mark_each.Goals as goal

pub mark_column-requires-clause-on : goal.mark_column-requires-clause-on
mark_column-requires-clause-on g c =
    ap device_set (slice_get-get_or c.loop-column.columns c.loop-column.column _ (omega (arith, c.loop-column-test.true, c.loop-column.invariant.1))) ∙ (sym c.device.ensures ∙ c.in-Some.is)

pub mark_column-requires-clause-within : goal.mark_column-requires-clause-within
mark_column-requires-clause-within g c =
    let on : HasDeviceOn c.loop-column.columns c.loop-column.column c.in-Some.device =
    ap device_set (slice_get-get_or c.loop-column.columns c.loop-column.column _ (omega (arith, c.loop-column-test.true, c.loop-column.invariant.1))) ∙ (sym c.device.ensures ∙ c.in-Some.is) in
    sized_within g.D.Disk c.loop-column.devices c.in-Some.device (still_sized g.D.Disk c.args.sector.now c.loop-column.column c.in-Some.device c.args.columns.now c.loop-column.columns c.args.devices.now c.loop-column.devices c.requires.can c.loop-column.invariant.0 on)

pub mark_column-requires-clause-sized : goal.mark_column-requires-clause-sized
mark_column-requires-clause-sized g c =
    let on : HasDeviceOn c.loop-column.columns c.loop-column.column c.in-Some.device =
    ap device_set (slice_get-get_or c.loop-column.columns c.loop-column.column _ (omega (arith, c.loop-column-test.true, c.loop-column.invariant.1))) ∙ (sym c.device.ensures ∙ c.in-Some.is) in
    still_sized g.D.Disk c.args.sector.now c.loop-column.column c.in-Some.device c.args.columns.now c.loop-column.columns c.args.devices.now c.loop-column.devices c.requires.can c.loop-column.invariant.0 on

pub loop-column-preserved : goal.loop-column-preserved
loop-column-preserved g c = elim c.match-device.branch [
  | in-Some w ↦ rw (w.devices-is, w.columns-is) (
    marked-more g.D.Disk c.args.sector.now c.loop-column.column c.args.columns.now c.loop-column.columns w.mark_column.new.columns c.args.devices.now c.loop-column.devices w.mark_column.new.devices
        c.requires.can c.loop-column.invariant.0 w.mark_column.ensures,
    ap length w.mark_column.ensures.after_is ∙ if_length c.loop-column.columns c.loop-column.column w.mark_column.ensures.good ∙ c.loop-column.invariant.1,
  )
  | in-None w ↦ rw (w.devices-is, w.columns-is) (
    marked-skip g.D.Disk c.args.sector.now c.loop-column.column c.args.columns.now c.loop-column.columns c.args.devices.now c.loop-column.devices
        (λ d on. not_on _ d (sym c.device.ensures ∙ w.in-None.is)
        (ap device_set (sym (slice_get-get_or c.loop-column.columns c.loop-column.column _ (omega (arith, c.loop-column-test.true, c.loop-column.invariant.1)))) ∙ on))
        c.loop-column.invariant.0,
    c.loop-column.invariant.1,
  )
]

pub returns-clause-marked : goal.returns-clause-marked
returns-clause-marked g c =
    let end : c.loop-column.column ≡ length c.args.columns.now = omega arith in
    subst (λ n. AreMarked g.D.Disk n c.args.sector.now c.args.columns.now c.loop-column.columns c.args.devices.now c.loop-column.devices) end c.loop-column.invariant.0
