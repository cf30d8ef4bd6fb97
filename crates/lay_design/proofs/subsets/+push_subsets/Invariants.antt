use Rattle.lay_design.proofs.subsets.+push_subsets.Given as goal

abbrev pub decreases-push_subsets : goal.decreases-push_subsets
decreases-push_subsets l = l.n
