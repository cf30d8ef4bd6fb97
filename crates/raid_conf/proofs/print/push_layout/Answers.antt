use Rattle.std.specs.Prelude.{[], ◌∷◌}
use Rattle.raid_conf.specs.Form.{Literal, Number}
use Rattle.raid_conf.proofs.PrintedLines.{line_then, words_then}
use Rattle.raid_conf.proofs.print.push_layout.Goals as goal

pub returns : goal.returns
returns c =
    let ones = words_then _ _ _ (Number 1 ∷ []) (Number 1 ∷ []) c.in_ok-push_number.ensures c.in_ok-push_number-2.ensures in
    let words = words_then _ _ _ (Number 1 ∷ Number 1 ∷ []) (Literal (c.args.level ∷ []) ∷ []) ones c.in_ok-push_word.ensures in
    line_then _ _ _ _ (Number c.args.unit) (Number 1 ∷ Number 1 ∷ Literal (c.args.level ∷ []) ∷ []) c.in_ok-push_first.ensures words c.in_ok-extend_from_slice.ensures.items
