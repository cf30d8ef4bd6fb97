-- Whether the label of a device is the one that its column is to have.
use Rattle.std.specs.Prelude.{ℕ, ◌==◌, ◌||◌, Option, Some, None, if◌then◌else◌}
use Rattle.raid_label.specs.declared.label.Label.{Label}
use Rattle.raid_label.specs.declared.fault.LabelFault.{LabelFault}
use Rattle.raid_label.specs.declared.fault.LabelFault.TheVariants.{NoLabel, Serial, Column, Shape, Version}
use Rattle.std.specs.Option.{option_or}

-- there is no label: none of a version that is read, or one of another version
abbrev pub unlabelled_fault : ℕ → LabelFault
unlabelled_fault version = if version == 1 || version == 2 then NoLabel 0 0 else Version version 2

-- what is found in place of the wanted label, the first that is so: no
-- label, one of another version, of another shape, the first number of it that differs, of another
-- array, of another column
unfoldable pub fault_in : Option Label → ℕ → Label → Option LabelFault
fault_in None version w = Some (unlabelled_fault version)
fault_in (Some l) version w =
    let unless : (ℕ → ℕ → LabelFault) → ℕ → ℕ → Option LabelFault =
    λ fault found wanted. if found == wanted then None else Some (fault found wanted) in
    option_or (option_or (unless Shape l.columns w.columns)
    (option_or (unless Shape l.unit w.unit)
    (option_or (unless Shape l.level w.level)
    (option_or (unless Shape l.b w.b)
    (option_or (unless Shape l.k w.k)
    (option_or (unless Shape l.r w.r)
    (option_or (unless Shape l.lambda w.lambda)
    (unless Shape l.rows w.rows))))))))
    (option_or (unless Serial l.serial w.serial)
    (unless Column l.column w.column))
