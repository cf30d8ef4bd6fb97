use Rattle.raid_adopt.proofs.Following.{may-follow}
use Rattle.raid_adopt.proofs.laws.a_round_may_follow_another.Goals as goal

pub returns : goal.returns
returns c = λ began next r start now events counter clean seating in_range held few apart may run holds newer fewer. may-follow r in_range held began start now events few apart may run next counter clean seating newer fewer holds
