use Rattle.raid_adopt.proofs.Beginning.{may-begin}
use Rattle.raid_adopt.proofs.laws.a_round_may_begin_on_an_opened_array.Goals as goal

pub returns : goal.returns
returns c = λ q p present sizes fronts o l counter clean seating start opens newest newer settled reads. may-begin q p present sizes fronts o l opens newest start settled reads counter clean seating newer
