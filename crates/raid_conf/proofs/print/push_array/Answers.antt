use Rattle.std.specs.Prelude.{[], ◌∷◌}
use Rattle.raid_conf.specs.Form.{Number}
use Rattle.raid_conf.proofs.PrintedLines.{line_then, words_then}
use Rattle.raid_conf.proofs.print.push_array.Goals as goal

pub returns : goal.returns
returns c =
    let words = words_then _ _ _ (Number c.args.columns ∷ []) (Number c.args.spares ∷ []) c.in_ok-push_number.ensures c.in_ok-push_number-2.ensures in
    line_then _ _ _ _ (Number 1) (Number c.args.columns ∷ Number c.args.spares ∷ []) c.in_ok-push_first.ensures words c.in_ok-extend_from_slice.ensures.items
