use Rattle.std.proofs.Common.{◌∙◌, ◌++◌, ap, get_or, length, map}
use Rattle.std.specs.List.{between}
use Rattle.raid_conf.specs.Form.{Number}
use Rattle.raid_conf.specs.Printing.{line_text}
use Rattle.raid_conf.proofs.PrintedLines.{line_then, tuple_is}
use Rattle.raid_conf.proofs.print.push_tuple.Goals as goal

pub returns : goal.returns
returns c =
    let tuple = c.args.tuple.now in
    line_then _ _ _ _ (Number (get_or tuple 0 0)) (map Number (between 1 (length tuple) tuple)) c.in_ok-push_first.ensures c.in_ok-push_numbers.ensures c.in_ok-extend_from_slice.ensures.items
    ∙ ap (λ places. c.args.text.now.items ++ line_text places) (tuple_is tuple c.requires)
