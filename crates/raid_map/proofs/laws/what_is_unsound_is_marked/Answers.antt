use Rattle.raid_map.proofs.Unsound.{unsound-marked}
use Rattle.raid_map.proofs.laws.what_is_unsound_is_marked.Goals as goal

pub returns : goal.returns
returns c y graphs serial regions start now events image s layout promises is_start lie run clear left u =
    unsound-marked y layout graphs promises serial regions start is_start events now run lie clear image left s u
