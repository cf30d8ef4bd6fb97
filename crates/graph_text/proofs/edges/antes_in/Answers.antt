use Rattle.raid_text.specs.Seen.{words_left}
use Rattle.text_steps.specs.Steps.{numbers_of}
use Rattle.graph_text.specs.FormatLines.{antes_of}
use Rattle.graph_text.proofs.FirstNumbers.{antes_kept, kept_end}
use Rattle.graph_text.proofs.edges.antes_in.Goals as goal

pub returns-then-not-more : goal.returns-then-not-more
unfolding antes_of numbers_of
returns-then-not-more c = rw c.if-not-more.true (kept_end c.args.kept.now c.requires)

pub returns : goal.returns
unfolding antes_of
returns c =
    let told = rw c.keep.ensures.kept at c.numbers_in.ensures in
    rw (c.if-not-more.false, c.in_ok-first.ensures) (antes_kept c.args.kept.now c.numbers_in.new.kept c.in_ok-first.first c.numbers_in.result (numbers_of (words_left c.next_number.new.words)) told)
