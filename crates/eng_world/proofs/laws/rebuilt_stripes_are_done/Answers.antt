use Rattle.eng_world.proofs.Whole.{asked-done, keep-seats, fill-seats}
use Rattle.eng_world.proofs.laws.rebuilt_stripes_are_done.Goals as goal

pub returns : goal.returns
returns c = record {
  seats = λ y graphs opening now events k layout promises o r run none all seats. asked-done y layout graphs promises opening o k events now r run none all seats;
  alive = λ y graphs opening now events k layout promises o r run none all alive. asked-done y layout graphs promises opening o k events now r run none all (keep-seats y layout graphs promises opening o k events now r run none all alive);
  filled = λ y graphs opening now events k device layout promises o r run none all has alive. asked-done y layout graphs promises opening o k events now r run none all (fill-seats y layout graphs promises opening o k events now r run none all device has alive);
}
