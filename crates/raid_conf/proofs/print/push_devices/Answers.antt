use Rattle.std.specs.Prelude.{[], ◌∷◌, ◌++◌, codes, false, length, map, nat_eq, not}
use Rattle.std.proofs.lemmas.Result.{on_ok_weaker}
use Rattle.raid_conf.specs.Form.{array_places, name_places, spare_places, start_places}
use Rattle.raid_conf.proofs.PrintedLines.{lines_then, one_line}
use Rattle.raid_conf.proofs.print.push_devices.Goals as goal

pub returns : goal.returns
returns c =
    let conf = c.args.conf.now in
    let start = start_places (codes "array") in
    let array = array_places false conf.columns conf.spares in
    let disks = start_places (codes "disks") in
    let names = map name_places conf.disks in
    let spares = spare_places (not (nat_eq (length conf.spare_names) 0)) conf.spare_names in
    let front = lines_then _ _ _ (start ∷ []) (array ∷ []) (one_line _ _ start c.in_ok-push_start.ensures) (one_line _ _ array c.in_ok-push_array.ensures) in
    let mid = lines_then _ _ _ (disks ∷ []) names (one_line _ _ disks c.in_ok-push_start-2.ensures) c.in_ok-push_names.ensures in
    on_ok_weaker c.push_spares.result
    (λ h. lines_then _ _ _ (start ∷ array ∷ []) ((disks ∷ names) ++ spares) front (lines_then _ _ _ (disks ∷ names) spares mid h))
    c.push_spares.ensures
