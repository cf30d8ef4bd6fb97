use Rattle.std.specs.Prelude.{[], ◌∷◌, ◌++◌, codes}
use Rattle.graph_text.specs.FormatForm.{Literal, Number, new_places}
use Rattle.graph_text.proofs.PrintedLines.{line_then, words_then}
use Rattle.graph_text.proofs.print.push_buffer.Goals as goal

pub returns-clause-line : goal.returns-clause-line
returns-clause-line c =
    let buf = c.args.buf in
    let index = Number c.args.i ∷ [] in
    let stripe = Literal (codes "stripe") ∷ Number buf.stripe ∷ [] in
    let from = Literal (codes "from") ∷ Number buf.from ∷ [] in
    let count = Literal (codes "count") ∷ Number buf.count ∷ [] in
    let two = words_then _ _ _ index stripe c.in_ok-push_number.ensures c.in_ok-push_field.ensures in
    let three = words_then _ _ _ (index ++ stripe) from two c.in_ok-push_field-2.ensures in
    let four = words_then _ _ _ ((index ++ stripe) ++ from) count three c.in_ok-push_field-3.ensures in
    let five = words_then _ _ _ (((index ++ stripe) ++ from) ++ count) (new_places buf.new_of) four c.in_ok-push_new.ensures in
    line_then _ _ _ _ (codes "buffer") ((((index ++ stripe) ++ from) ++ count) ++ new_places buf.new_of) c.in_ok-extend_from_slice.ensures.items five c.in_ok-extend_from_slice-2.ensures.items
