use Rattle.std.proofs.Common.{◌∙◌, sym}
use Rattle.raid_text.specs.Seen.{words_left}
use Rattle.graph_text.proofs.FirstNumbers.{source_kept, sources_after, sources_end}
use Rattle.graph_text.proofs.edges.sources_in.Goals as goal

pub returns-then-eq : goal.returns-then-eq
returns-then-eq c =
    let before = rw c.in-Some.ensures.some at c.loop-word.invariant.read in
    sym before ∙ sources_after c.loop-word.kept c.in-Some.word.now (words_left c.next.new.self) c.loop-word.invariant.few (sym (rw c.as_slice.ensures at c.eq.ensures) ∙ c.if-eq.true)

pub loop-word-preserved : goal.loop-word-preserved
loop-word-preserved c =
    let one = source_kept c.loop-word.kept c.in-Some.word.now (words_left c.next.new.self) c.in_ok-n.n (sym (rw c.as_slice.ensures at c.eq.ensures) ∙ c.if-eq.false) c.in_ok-n.ensures in
    let before = rw c.in-Some.ensures.some at c.loop-word.invariant.read in
    record {
      read = rw c.keep.ensures.kept (one ∙ before);
      few = c.keep.ensures.few;
    }

pub returns : goal.returns
returns c =
    let before = rw c.in_default.ensures.none.0 at c.loop-word.invariant.read in
    sym before ∙ sources_end c.loop-word.kept c.loop-word.invariant.few
