use Rattle.std.proofs.Common.{rules}
use Rattle.std.specs.Prelude.{slice_index}
use Rattle.raid_map.proofs.MapBytes.{holds-of}
use Rattle.raid_map.proofs.map.Map.holds.Goals as goal

pub returns : goal.returns
returns c = holds-of c.args.self.now (slice_index c.args.sector.now) c.len.result (search rules) (search rules) (search rules) (search rules) c.marks_none.result c.marks_none.ensures
