use Rattle.std.proofs.Common.{◌≡◌, ◌≤◌, length}
use Rattle.raid_text.specs.Seen.{words_left}
use Rattle.text_steps.specs.Steps.{numbers_of}
use Rattle.graph_text.specs.Kept.{with_kept}
use Rattle.graph_text.proofs.edges.numbers_in.Given as goal

abbrev pub invariant-loop-word : goal.invariant-loop-word
invariant-loop-word l = record {
  read : with_kept l.kept (numbers_of (words_left l.words)) ≡ with_kept l.fn.kept (numbers_of (words_left l.fn.words));
  few : length l.kept ≤ 16385;
}

abbrev pub decreases-loop-word : goal.decreases-loop-word
decreases-loop-word l = length (words_left l.words)
