use Rattle.raid_map.specs.Reading.{AreRead}
use Rattle.raid_map.proofs.ReadLaws.{SaidTo}
use Rattle.raid_map.proofs.reading.read_maps.Given as goal

-- the maps of the columns so far were read
abbrev pub invariant-loop-column : goal.invariant-loop-column
invariant-loop-column g l =
    AreRead g.D.Disk l.column l.fn.columns l.columns l.fn.devices l.devices
    × SaidTo g.D.Disk l.column l.columns l.fn.devices l.fn.map l.map l.any
