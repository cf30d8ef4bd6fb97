use Rattle.std.specs.Prelude.{[], ◌∷◌, ◌++◌, codes}
use Rattle.std.proofs.Common.{ap, append_assoc, ◌∙◌}
use Rattle.graph_text.specs.FormatForm.{Literal, Number, after_places, kind_places, number_places}
use Rattle.graph_text.specs.Printing.{line_text}
use Rattle.graph_text.proofs.PrintedLines.{line_then, words_then}
use Rattle.graph_text.proofs.print.push_node_line.Goals as goal

pub returns : goal.returns
returns c =
    let index = Number c.args.i ∷ [] in
    let kind = kind_places c.args.node in
    let sources = number_places c.args.sources.now in
    let antes = after_places c.args.antes.now in
    let two = words_then _ _ _ index kind c.in_ok-push_number.ensures c.in_ok-push_kind.ensures.places in
    let three = words_then _ _ _ (index ++ kind) sources two c.in_ok-push_numbers.ensures in
    let four = words_then _ _ _ ((index ++ kind) ++ sources) antes three c.in_ok-push_after.ensures in
    line_then _ _ _ _ (codes "node") (((index ++ kind) ++ sources) ++ antes) c.in_ok-extend_from_slice.ensures.items four c.in_ok-extend_from_slice-2.ensures.items
    ∙ ap (λ places. c.args.text.now.items ++ line_text (Literal (codes "node") ∷ Number c.args.i ∷ places)) (append_assoc kind sources antes)
