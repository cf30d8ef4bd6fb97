use Rattle.std.specs.Prelude.{[], ◌∷◌, codes}
use Rattle.raid_conf.specs.Form.{Literal, Number}
use Rattle.raid_conf.proofs.PrintedLines.{line_then}
use Rattle.raid_conf.proofs.print.push_complete.Goals as goal

pub returns : goal.returns
returns c = line_then _ _ _ _ (Literal (codes "complete")) (Number c.args.v ∷ Number c.args.k ∷ []) c.in_ok-extend_from_slice.ensures.items c.in_ok-push_numbers.ensures c.in_ok-extend_from_slice-2.ensures.items
