use Rattle.std.proofs.Common.{◌≡◌, ◌∙◌, length, sym, ap, subst, Some, None, arith}
use Rattle.std.proofs.lemmas.Option.{slice_get-get_or}
use Rattle.eng_cols.specs.Cols.{device_set, HasDeviceOn}
use Rattle.raid_map.specs.Reading.{AreRead}
use Rattle.raid_map.proofs.MarkOne.{sized_within}
use Rattle.raid_map.proofs.ReadLaws.{SaidTo, read-skip, read-more, read-sized, said-skip, said-no, said-yes, union-is}
use Rattle.raid_map.proofs.reading.read_maps.Goals.{in-Some+then-read_column, in-Some+else-read_column, in_default}
use Rattle.raid_map.proofs.reading.read_maps.Goals as goal

pub read_column-requires-clause-within : goal.read_column-requires-clause-within
read_column-requires-clause-within g c =
    let on : HasDeviceOn c.loop-column.columns c.loop-column.column c.in-Some.device =
    ap device_set (slice_get-get_or c.loop-column.columns c.loop-column.column _ (omega (arith, c.loop-column-test.true, c.loop-column.invariant.0.dies.count))) ∙ (sym c.device.ensures ∙ c.in-Some.is) in
    sized_within g.D.Disk c.loop-column.devices c.in-Some.device (read-sized g.D.Disk c.loop-column.column c.in-Some.device c.args.columns.now c.loop-column.columns c.args.devices.now c.loop-column.devices c.requires c.loop-column.invariant.0 on)

pub read_column-requires-clause-sized : goal.read_column-requires-clause-sized
read_column-requires-clause-sized g c =
    let on : HasDeviceOn c.loop-column.columns c.loop-column.column c.in-Some.device =
    ap device_set (slice_get-get_or c.loop-column.columns c.loop-column.column _ (omega (arith, c.loop-column-test.true, c.loop-column.invariant.0.dies.count))) ∙ (sym c.device.ensures ∙ c.in-Some.is) in
    read-sized g.D.Disk c.loop-column.column c.in-Some.device c.args.columns.now c.loop-column.columns c.args.devices.now c.loop-column.devices c.requires c.loop-column.invariant.0 on

pub loop-column-preserved : goal.loop-column-preserved
loop-column-preserved g c =
    let can = c.requires in
    let read = c.loop-column.invariant.0 in
    let said = c.loop-column.invariant.1 in
    elim c.match-device.branch [
      | in-Some+then-read_column w ↦ rw (w.map-is, w.devices-is, w.columns-is, w.any-is) (
        read-more g.D.Disk c.loop-column.column c.args.columns.now c.loop-column.columns w.read_column.new.columns c.args.devices.now c.loop-column.devices w.read_column.new.devices
            c.loop-column.map w.read_column.new.map w.read_column.result can read w.read_column.ensures,
        said-yes g.D.Disk c.loop-column.column c.args.columns.now c.loop-column.columns w.read_column.new.columns c.args.devices.now c.loop-column.devices w.read_column.new.devices
            c.args.map.now c.loop-column.map w.read_column.new.map c.loop-column.any w.read_column.result can read w.read_column.ensures said w.if-read_column.true,
      )
      | in-Some+else-read_column w ↦ rw (w.map-is, w.devices-is, w.columns-is, w.any-is) (
        read-more g.D.Disk c.loop-column.column c.args.columns.now c.loop-column.columns w.read_column.new.columns c.args.devices.now c.loop-column.devices w.read_column.new.devices
            c.loop-column.map w.read_column.new.map w.read_column.result can read w.read_column.ensures,
        said-no g.D.Disk c.loop-column.column c.args.columns.now c.loop-column.columns w.read_column.new.columns c.args.devices.now c.loop-column.devices w.read_column.new.devices
            c.args.map.now c.loop-column.map w.read_column.new.map c.loop-column.any w.read_column.result can read w.read_column.ensures said w.if-read_column.false,
      )
      | in_default w ↦ rw (w.map-is, w.devices-is, w.columns-is, w.any-is) (
        read-skip g.D.Disk c.loop-column.column c.args.columns.now c.loop-column.columns c.args.devices.now c.loop-column.devices
            (λ d has.
            let z : None ≡ Some d = sym w.in_default.is ∙ (c.device.ensures ∙ (ap device_set (sym (slice_get-get_or c.loop-column.columns c.loop-column.column _ (omega (arith, c.loop-column-test.true, read.dies.count)))) ∙ has)) in
            let u : ⊥ = cc in u) read,
        said-skip g.D.Disk c.loop-column.column c.loop-column.columns c.args.devices.now c.args.map.now c.loop-column.map c.loop-column.any
            (λ d has.
            let z : None ≡ Some d = sym w.in_default.is ∙ (c.device.ensures ∙ (ap device_set (sym (slice_get-get_or c.loop-column.columns c.loop-column.column _ (omega (arith, c.loop-column-test.true, read.dies.count)))) ∙ has)) in
            let u : ⊥ = cc in u) said,
      )
    ]

pub returns-clause-union : goal.returns-clause-union
returns-clause-union g c = λ told y same.
    let end : c.loop-column.column ≡ length c.args.columns.now = omega arith in
    union-is g.D.Disk y c.args.columns.now c.loop-column.columns c.args.devices.now c.loop-column.devices c.args.map.now c.loop-column.map c.loop-column.any same told
    (subst (λ n. AreRead g.D.Disk n c.args.columns.now c.loop-column.columns c.args.devices.now c.loop-column.devices) end c.loop-column.invariant.0)
    (subst (λ n. SaidTo g.D.Disk n c.loop-column.columns c.args.devices.now c.args.map.now c.loop-column.map c.loop-column.any) end c.loop-column.invariant.1)
