use Rattle.std.specs.Prelude.{[], ◌∷◌, codes}
use Rattle.raid_conf.specs.Form.{Literal}
use Rattle.raid_conf.proofs.PrintedLines.{line_then}
use Rattle.raid_conf.proofs.print.push_start.Goals as goal

pub returns : goal.returns
returns c = line_then _ _ _ _ (Literal (codes "START")) (Literal c.args.name.now ∷ []) c.in_ok-extend_from_slice.ensures.items c.in_ok-push_word.ensures c.in_ok-extend_from_slice-2.ensures.items
