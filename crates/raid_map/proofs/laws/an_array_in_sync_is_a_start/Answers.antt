use Rattle.raid_map.proofs.Starting.{start-sync, none-unsound}
use Rattle.raid_map.proofs.laws.an_array_in_sync_is_a_start.Goals as goal

pub returns : goal.returns
returns c = record {
  opened = λ y serial regions start is_start any. (start-sync y start is_start any, none-unsound y start serial regions start.world.columns any);
  earlier = λ y serial regions cols start sync. none-unsound y start serial regions cols sync;
}
