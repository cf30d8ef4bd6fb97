use Rattle.std.proofs.Common.{◌∙◌, sym}
use Rattle.raid_text.specs.Seen.{words_left}
use Rattle.graph_text.proofs.FirstNumbers.{number_kept, kept_end}
use Rattle.graph_text.proofs.edges.numbers_in.Goals as goal

pub loop-word-preserved : goal.loop-word-preserved
loop-word-preserved c =
    let one = number_kept c.loop-word.kept c.in-Some.word.now (words_left c.next.new.self) c.in_ok-n.n c.in_ok-n.ensures in
    let before = rw c.in-Some.ensures.some at c.loop-word.invariant.read in
    record {
      read = rw c.keep.ensures.kept (one ∙ before);
      few = c.keep.ensures.few;
    }

pub returns : goal.returns
returns c =
    let before = rw c.in_default.ensures.none.0 at c.loop-word.invariant.read in
    sym before ∙ kept_end c.loop-word.kept c.loop-word.invariant.few
