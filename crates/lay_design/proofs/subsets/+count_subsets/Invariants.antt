use Rattle.lay_design.proofs.subsets.+count_subsets.Given as goal

abbrev pub decreases-count_subsets : goal.decreases-count_subsets
decreases-count_subsets l = l.n
