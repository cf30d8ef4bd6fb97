use Rattle.std.proofs.Common.{◌≡◌, length, []}
use Rattle.raid_text.specs.Seen.{words_left}
use Rattle.raid_conf.specs.Sections.{numbers_behind}
use Rattle.text_steps.specs.Steps.{at_line}
use Rattle.raid_conf.proofs.design_lines.read_numbers.Given as goal

abbrev pub decreases-loop-word : goal.decreases-loop-word
decreases-loop-word l = length (words_left l.words)

abbrev pub invariant-loop-word : goal.invariant-loop-word
invariant-loop-word l = at_line l.line (numbers_behind l.numbers (words_left l.words)) ≡ at_line l.line (numbers_behind [] (words_left l.fn.words))
