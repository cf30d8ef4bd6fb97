use Rattle.std.specs.Prelude.{[], ◌∷◌, codes, map}
use Rattle.raid_conf.specs.Form.{Literal, Number}
use Rattle.raid_conf.proofs.PrintedLines.{line_then, words_then}
use Rattle.raid_conf.proofs.print.push_cyclic.Goals as goal

pub returns : goal.returns
returns c =
    let front = Number c.args.v ∷ Literal (codes ":") ∷ [] in
    let base = map Number c.args.base.now in
    let two = words_then _ _ _ (Number c.args.v ∷ []) (Literal (codes ":") ∷ []) c.in_ok-push_number.ensures c.in_ok-push_word.ensures in
    let words = words_then _ _ _ front base two c.in_ok-push_numbers.ensures in
    line_then _ _ _ _ (Literal (codes "cyclic")) (Number c.args.v ∷ Literal (codes ":") ∷ base) c.in_ok-extend_from_slice.ensures.items words c.in_ok-extend_from_slice-2.ensures.items
