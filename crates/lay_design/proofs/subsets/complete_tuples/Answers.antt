use Rattle.std.proofs.Common.{◌++◌, [], ◌∙◌, ap}
use Rattle.lay_design.specs.Families.{subsets}
use Rattle.lay_design.proofs.Combinations.{behind, behind_nothing}
use Rattle.lay_design.proofs.subsets.complete_tuples.Goals as goal

pub returns : goal.returns
returns c =
    let all = subsets 0 c.args.v c.args.k in
    c.in_ok-push_subsets.ensures.list
    ∙ ap (λ l. l ++ behind c.new-front.result.items all) c.new-list.ensures.items
    ∙ ap (λ l. [] ++ behind l all) c.new-front.ensures.items
    ∙ behind_nothing all
