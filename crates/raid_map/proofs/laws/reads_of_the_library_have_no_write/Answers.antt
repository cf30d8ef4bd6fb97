use Rattle.raid_map.proofs.Readers.{quiet-library}
use Rattle.raid_map.proofs.laws.reads_of_the_library_have_no_write.Goals as goal

pub returns : goal.returns
returns c t missing target kind write = quiet-library t missing target kind write
