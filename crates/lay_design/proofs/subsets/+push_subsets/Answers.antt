use Rattle.std.proofs.Common.{rules, ◌≡◌, ◌+◌, ◌++◌, ◌-◌, ◌∷◌, [], ◌∙◌, sym, ap, arith, vec_len, length, take}
use Rattle.std.proofs.lemmas.List.{append-nil, append_assoc}
use Rattle.lay_design.specs.Families.{subsets}
use Rattle.lay_design.proofs.Combinations.{behind, behind_few, behind_step, without_last}
use Rattle.lay_design.proofs.subsets.+push_subsets.Goals as goal

pub returns-then-n-k-clause-list : goal.returns-then-n-k-clause-list
returns-then-n-k-clause-list t c =
    let list = c.args.list.now.items in
    sym (append-nil list) ∙ ap (λ l. list ++ l) (sym (behind_few c.args.front.now.items c.args.first c.args.n c.args.k (omega (arith, c.if-n-k.true))))

pub returns-clause-list : goal.returns-clause-list
returns-clause-list t c =
    let list = c.args.list.now.items in
    let front = c.args.front.now.items in
    let with = subsets (c.args.first + 1) (c.args.n - 1) (c.args.k - 1) in
    let without = subsets (c.args.first + 1) (c.args.n - 1) c.args.k in
    let pushed : c.push.new.self.items ≡ front ++ c.args.first ∷ [] = search rules in
    let inner : c.push_subsets.new.front.items ≡ front ++ c.args.first ∷ [] = c.in_ok-push_subsets.ensures.front ∙ pushed in
    let full : vec_len c.push_subsets.new.front ≡ length c.push_subsets.new.front.items = search rules in
    let popped : c.pop.new.self.items ≡ front = c.pop.ensures.rest ∙ (ap (λ n. take (n - 1) c.push_subsets.new.front.items) full ∙ (ap (λ l. take (length l - 1) l) inner ∙ without_last front c.args.first)) in
    c.in_ok-push_subsets-2.ensures.list
    ∙ ap (λ l. c.push_subsets.new.list.items ++ behind l without) popped
    ∙ ap (λ l. l ++ behind front without) (c.in_ok-push_subsets.ensures.list ∙ ap (λ l. list ++ behind l with) pushed)
    ∙ append_assoc list (behind (front ++ c.args.first ∷ []) with) (behind front without)
    ∙ ap (λ l. list ++ l) (sym (behind_step front c.args.first c.args.n c.args.k (omega (arith, c.if-n-k.false, c.if-k-eq0.false)) (omega (arith, c.if-k-eq0.false))))
