use Rattle.std.proofs.Common.{◌∙◌, ◌++◌, ap}
use Rattle.raid_conf.specs.Form.{Literal, disk_word}
use Rattle.raid_conf.proofs.PrintedLines.{word_then}
use Rattle.raid_conf.proofs.print.push_name.Goals as goal

pub returns : goal.returns
returns c =
    let word = c.in_ok-extend_from_slice.ensures.items ∙ ap (λ t. c.args.text.now.items ++ t) c.disk_word.ensures in
    word_then _ _ _ (Literal (disk_word c.args.name.now)) word c.in_ok-extend_from_slice-2.ensures.items
