use Rattle.raid_text.proofs.Again.{patterns_again}
use Rattle.raid_text.proofs.laws.patterns_are_read_again.Goals as goal

pub returns : goal.returns
returns c = patterns_again
