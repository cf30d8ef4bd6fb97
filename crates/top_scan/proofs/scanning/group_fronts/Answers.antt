use Rattle.std.proofs.Common.{◌∙◌, ◌++◌, ◌∷◌, [], ℕ, List, map, take, get_or, arith, ap, sym, Option}
use Rattle.std.proofs.lemmas.List.{get_or_default, map_push, take_more}
use Rattle.raid_label.specs.declared.label.Label.{Label}
use Rattle.top_open.specs.declared.fronts.Front.{Front}
use Rattle.top_open.specs.declared.fronts.Front.TheVariants.{Away}
use Rattle.top_scan.proofs.scanning.group_fronts.Goals as goal
use Rattle.top_open.specs.Labels.{label_of}

pub loop-place-preserved : goal.loop-place-preserved
loop-place-preserved c =
    let xs = c.args.fronts.now in
    let i : ℕ = c.loop-place.place in
    let more = take_more xs i Away c.loop-place-test.true in
    let label = c.label_of.ensures ∙ ap label_of (get_or_default xs i _ Away c.loop-place-test.true) in
    record {
      items =
          c.push_reserved.ensures.items ∙ (ap (λ (ls : List (Option Label)). ls ++ c.label_of.result ∷ []) c.loop-place.invariant.items
          ∙ (ap (λ (l : Option Label). map label_of (take i xs) ++ l ∷ []) label
          ∙ (sym (map_push label_of (take i xs) (get_or xs i Away)) ∙ ap (λ (fs : List Front). map label_of fs) (sym more))));
      len = let more = c.push_reserved.ensures.len in let before = c.loop-place.invariant.len in omega arith;
      room = let same = c.push_reserved.ensures.capacity in let before = c.loop-place.invariant.room in omega arith;
    }
