use Rattle.std.specs.Prelude.{[], ◌∷◌, ◌++◌, codes}
use Rattle.std.proofs.lemmas.Result.{on_ok_weaker}
use Rattle.raid_conf.specs.Form.{design_places, layout_places, queue_places, start_places}
use Rattle.raid_conf.proofs.PrintedLines.{lines_then, one_line}
use Rattle.raid_conf.proofs.print.push_levels.Goals as goal

pub returns : goal.returns
returns c =
    let conf = c.args.conf.now in
    let start = start_places (codes "layout") in
    let layout = layout_places conf.unit conf.level in
    let design = design_places conf.design in
    let queue = queue_places conf.queue in
    let front = lines_then _ _ _ (start ∷ []) (layout ∷ []) (one_line _ _ start c.in_ok-push_start.ensures) (one_line _ _ layout c.in_ok-push_layout.ensures) in
    on_ok_weaker c.push_queue.result
    (λ h. lines_then _ _ _ (start ∷ layout ∷ []) (design ++ queue) front (lines_then _ _ _ design queue c.in_ok-push_design.ensures h))
    c.push_queue.ensures
