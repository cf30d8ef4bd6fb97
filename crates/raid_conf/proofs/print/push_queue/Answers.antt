use Rattle.std.specs.Prelude.{[], ◌∷◌, codes}
use Rattle.raid_conf.specs.Form.{Literal, Number, start_places}
use Rattle.raid_conf.proofs.PrintedLines.{line_then, lines_then, one_line}
use Rattle.raid_conf.proofs.print.push_queue.Goals as goal

pub returns : goal.returns
returns c =
    let start = start_places (codes "queue") in
    let fifo = Literal (codes "fifo") ∷ Number c.in-Some.number ∷ [] in
    let line = line_then _ _ _ _ (Literal (codes "fifo")) (Number c.in-Some.number ∷ []) c.in_ok-extend_from_slice.ensures.items c.in_ok-push_number.ensures c.in_ok-extend_from_slice-2.ensures.items in
    rw c.in-Some.is (lines_then _ _ _ (start ∷ []) (fifo ∷ []) (one_line _ _ start c.in_ok-push_start.ensures) (one_line _ _ fifo line))
