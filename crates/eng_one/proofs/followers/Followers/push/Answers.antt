use Rattle.std.proofs.Common.{◌≡◌, ℕ, List, [], ap, refl, subst, ◌∙◌, ◌∷◌, ◌++◌, length, if◌then◌else◌, rules}
use Rattle.std.specs.Prelude.{◌==◌}
use Rattle.std.proofs.lemmas.List.{get_or_read_under}
use Rattle.eng_one.specs.Followers.{Links, followers_in}
use Rattle.eng_one.proofs.Chains.{push-lists}
use Rattle.eng_one.proofs.followers.Followers.push.Goals as goal

pub returns-clause-lists : goal.returns-clause-lists
returns-clause-lists c k =
    let old : Links = record { first = c.self.inside.first.items; next = c.self.inside.next.items; names = c.self.inside.names.items } in
    let y = c.args.follower in
    push-lists old c.args.node y c.len.result c.append.new.items.items c.append-2.new.items.items c.self.invariant.linked (search rules) (search rules) (c.append.ensures.items ∙ ap (λ (z : ℕ). c.self.inside.next.items ++ z ∷ []) (get_or_read_under c.self.inside.first.items c.args.node (length c.self.inside.first.items) c.index.result.now 0 c.index.ensures (search rules) refl)) c.append-2.ensures.items k
    ∙ subst (λ (l : Links). ◌≡◌ {A = List ℕ} (if k == c.args.node then y ∷ followers_in old k else followers_in old k) (if k == c.args.node then y ∷ followers_in l k else followers_in l k)) c.self.view_is (λ i. if k == c.args.node then y ∷ followers_in old k else followers_in old k)
