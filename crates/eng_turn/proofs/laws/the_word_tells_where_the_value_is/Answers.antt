use Rattle.eng_turn.proofs.Parity.{even-free, odd-held}
use Rattle.eng_turn.proofs.laws.the_word_tells_where_the_value_is.Goals as goal

pub returns : goal.returns
returns g c = let R = g.R.TurnRule in record {
  even = λ opening s kept even. even-free R.empty R.fits R.after opening s kept even;
  odd = λ opening s kept odd. odd-held R.empty R.fits R.after opening s kept odd;
}
