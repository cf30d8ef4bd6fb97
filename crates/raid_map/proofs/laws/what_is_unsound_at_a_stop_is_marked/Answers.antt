use Rattle.raid_map.proofs.Stopped.{stopped-marked}
use Rattle.raid_map.proofs.laws.what_is_unsound_at_a_stop_is_marked.Goals as goal

pub returns : goal.returns
returns c y graphs serial regions start now events image s layout promises is_start synced lie run left u =
    stopped-marked y layout graphs promises serial regions start is_start events now run synced lie image left s u
