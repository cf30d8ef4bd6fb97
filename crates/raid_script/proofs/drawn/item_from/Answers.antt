use Rattle.std.proofs.Common.{◌∙◌}
use Rattle.raid_script.proofs.DrawnWords.{item_next, three_words}
use Rattle.raid_script.proofs.drawn.item_from.Goals as goal

pub returns-clause-item : goal.returns-clause-item
returns-clause-item c =
    let made = rw (c.next-a.ensures.value, c.next-p.ensures.value, c.next-q.ensures.value) at c.item_by.ensures in
    made ∙ item_next c.args.client c.args.wide c.args.words.now c.next-a.new.words c.next-p.new.words c.next-a.ensures.rest c.next-p.ensures.rest

pub returns-clause-rest : goal.returns-clause-rest
returns-clause-rest c = three_words c.args.words.now c.next-a.new.words c.next-p.new.words c.next-q.new.words c.next-a.ensures.rest c.next-p.ensures.rest c.next-q.ensures.rest
