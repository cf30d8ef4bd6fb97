use Rattle.std.proofs.Common.{◌≡◌, ◌∙◌, ℕ, Bool, List, [], ◌∷◌, ◌++◌, get_or, map, take, sym, ap}
use Rattle.std.proofs.lemmas.Option.{get_or_from_slice_get, slice_get_within}
use Rattle.top_duty.specs.Steps.{is_named}
use Rattle.top_duty.proofs.MapsMore.{map_more}
use Rattle.top_duty.proofs.plan.present_of.Goals as goal

pub loop-c-preserved : goal.loop-c-preserved
loop-c-preserved c =
    let disks : List (List ℕ) = c.args.conf.now.disks in
    let k : ℕ = c.loop-c.c in
    let name : List ℕ = c.get.result.now in
    let at : get_or disks k name ≡ name = get_or_from_slice_get disks k name name c.get.ensures in
    let named : c.is_named.result ≡ is_named (get_or disks k name) = c.is_named.ensures ∙ ap is_named (sym at) in
    c.in_ok-push.ensures.items ∙ (ap (λ (l : List Bool). l ++ c.is_named.result ∷ []) c.loop-c.invariant
    ∙ (ap (λ (b : Bool). map is_named (take k disks) ++ b ∷ []) named ∙ map_more is_named disks k name (slice_get_within disks k name c.get.ensures)))
