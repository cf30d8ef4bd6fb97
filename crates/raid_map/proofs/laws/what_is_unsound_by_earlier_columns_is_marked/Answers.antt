use Rattle.raid_map.proofs.Unsound.{earlier-marked}
use Rattle.raid_map.proofs.laws.what_is_unsound_by_earlier_columns_is_marked.Goals as goal

pub returns : goal.returns
returns c y graphs serial regions start now events earlier image s layout promises is_start is_earlier lie run clear left u =
    earlier-marked y layout graphs promises serial regions start is_start events now run earlier is_earlier lie clear image left s u
