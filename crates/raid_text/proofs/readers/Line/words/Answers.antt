use Rattle.raid_text.proofs.WordCuts.{sound_are_words}
use Rattle.raid_text.proofs.readers.Line.words.Goals as goal

pub invariant_of-result : goal.invariant_of-result
invariant_of-result c = record {
  words = sound_are_words c.args.self.now.body.now c.requires;
  sound = c.requires;
}
