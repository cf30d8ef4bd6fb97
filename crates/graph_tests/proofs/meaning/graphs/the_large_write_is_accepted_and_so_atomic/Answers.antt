use Rattle.std.proofs.Common.{[], ◌∷◌, None, sym, ap, subst}
use Rattle.graph_mean.specs.Graph.{View}
use Rattle.graph_mean.specs.Task.{missing_of}
use Rattle.graph_mean.specs.Ordered.{Accepted}
use Rattle.graph_mean.specs.LargeWrite.{first_block}
use Rattle.graph_mean.proofs.Large.{large-accepted}
use Rattle.graph_tests.proofs.meaning.graphs.the_large_write_is_accepted_and_so_atomic.Goals as goal

pub needs_accepted-requires : goal.needs_accepted-requires
needs_accepted-requires c =
    let P : View → Type 0 = λ g. Accepted g first_block (missing_of (None ∷ [])) in
    subst P (sym (ap (λ h. h.drawn) c.in_ok-graph.ensures)) large-accepted

pub needs_atomic-requires : goal.needs_atomic-requires
needs_atomic-requires c =
    let P : View → Type 0 = λ g. Accepted g first_block (missing_of (None ∷ [])) in
    c.accepted_is_atomic.ensures c.in_ok-graph.graph.drawn first_block (missing_of (None ∷ [])) (subst P (sym (ap (λ h. h.drawn) c.in_ok-graph.ensures)) large-accepted)
