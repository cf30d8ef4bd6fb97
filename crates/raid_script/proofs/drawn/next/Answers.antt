use Rattle.raid_script.proofs.DrawnWords.{word_next}
use Rattle.raid_script.proofs.drawn.next.Goals as goal

pub returns-clause-value : goal.returns-clause-value
returns-clause-value c = (word_next c.args.words.now c.next_word.result c.next_word.new.self c.next_word.ensures).0

pub returns-clause-rest : goal.returns-clause-rest
returns-clause-rest c = (word_next c.args.words.now c.next_word.result c.next_word.new.self c.next_word.ensures).1
