use Rattle.eng_cols.specs.Samples.{rotated_lawful}
use Rattle.eng_world.proofs.Smalls.{small-opening, small-sync, small-items}
use Rattle.array_tests.proofs.tests.worlds.a_small_array_opens.Goals as goal

pub returns : goal.returns
returns c = record {
  layout = rotated_lawful;
  opening = small-opening;
  in_sync = small-sync;
  items = small-items;
}
