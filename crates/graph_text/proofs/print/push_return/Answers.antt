use Rattle.std.specs.Prelude.{[], ◌∷◌, codes}
use Rattle.graph_text.specs.FormatForm.{Number}
use Rattle.graph_text.proofs.PrintedLines.{line_then, words_then}
use Rattle.graph_text.proofs.print.push_return.Goals as goal

pub returns-clause-line : goal.returns-clause-line
returns-clause-line c =
    let ret = c.args.ret in
    let words = words_then _ _ _ (Number ret.unit ∷ []) (Number ret.buf ∷ []) c.in_ok-push_number.ensures c.in_ok-push_number-2.ensures in
    line_then _ _ _ _ (codes "return") (Number ret.unit ∷ Number ret.buf ∷ []) c.in_ok-extend_from_slice.ensures.items words c.in_ok-extend_from_slice-2.ensures.items
