use Rattle.raid_top.proofs.Reading.{late_is_read}
use Rattle.raid_top.proofs.laws.a_device_that_fails_late_was_read.Goals as goal

pub returns : goal.returns
returns g c = λ taken back fronts. late_is_read _ taken back fronts
