use Rattle.std.proofs.Common.{◌≤◌, ◌<◌, eqb, length, arith}
use Rattle.std.specs.List.{position_or_len}
use Rattle.raid_text.proofs.LineCuts.{at_end, behind, cut_at, last_line}
use Rattle.raid_text.proofs.cuts.split_line.Goals as goal

pub returns-then-i-text-clause-lines : goal.returns-then-i-text-clause-lines
returns-then-i-text-clause-lines c =
    let text = c.args.text.now in
    let i = c.first_at-i.result in
    let within : position_or_len (λ b. eqb b 10) text < length text = omega arith in
    behind text i (cut_at text within) c.first_at-i.ensures.place

pub returns-else-i-text-clause-lines : goal.returns-else-i-text-clause-lines
returns-else-i-text-clause-lines c =
    let text = c.args.text.now in
    let some : 0 < length text = c.requires in
    let none : length text ≤ position_or_len (λ b. eqb b 10) text = omega arith in
    at_end text (last_line text some none)
