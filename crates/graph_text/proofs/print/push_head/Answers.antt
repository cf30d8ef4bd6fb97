use Rattle.std.specs.Prelude.{[], ◌∷◌, codes}
use Rattle.graph_text.specs.FormatForm.{Literal}
use Rattle.graph_text.proofs.PrintedLines.{line_then}
use Rattle.graph_text.proofs.print.push_head.Goals as goal

pub returns : goal.returns
returns c = line_then _ _ _ _ (codes "graph") (Literal c.args.name.now ∷ []) c.in_ok-extend_from_slice.ensures.items c.in_ok-push_word.ensures c.in_ok-extend_from_slice-2.ensures.items
