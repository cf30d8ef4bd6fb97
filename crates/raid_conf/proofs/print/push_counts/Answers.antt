use Rattle.std.specs.Prelude.{[], ◌∷◌, codes}
use Rattle.raid_conf.specs.Form.{Literal, Number}
use Rattle.raid_conf.proofs.PrintedLines.{line_then}
use Rattle.raid_conf.proofs.print.push_counts.Goals as goal

pub returns : goal.returns
returns c =
    let a = c.args in
    line_then _ _ _ _ (Literal (codes "design")) (Number a.b ∷ Number a.v ∷ Number a.k ∷ Number a.r ∷ Number a.lambda ∷ []) c.in_ok-extend_from_slice.ensures.items c.in_ok-push_numbers.ensures c.in_ok-extend_from_slice-2.ensures.items
