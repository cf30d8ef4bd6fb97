use Rattle.raid_text.proofs.Again.{numbers_again}
use Rattle.raid_text.proofs.laws.numbers_are_read_again.Goals as goal

pub returns : goal.returns
returns c = numbers_again
