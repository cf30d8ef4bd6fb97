-- Words that proofs go by, for what the specifications spell out.
use Rattle.std.specs.Prelude.{ℕ, length, Bool, false, List, slice_index_or, ◌+◌}
use Rattle.graph_merge.specs.Joined.{Half, before, is_in, count_in, commit_place}
use Rattle.graph_merge.specs.declared.half.Group.TheVariants.{Early, Rest}

abbrev pub is_early : Half → ℕ → Bool
is_early h = is_in Early h.ends h.late

abbrev pub is_rest : Half → ℕ → Bool
is_rest h = is_in Rest h.ends h.late

-- how many early nodes and how many others a half has
abbrev pub earlies : Half → ℕ
earlies h = before (is_early h) (length h.graph.nodes)

abbrev pub rests : Half → ℕ
rests h = before (is_rest h) (length h.graph.nodes)

abbrev pub is_late : List Bool → ℕ → Bool
is_late late n = slice_index_or late n false

abbrev pub end_place : Half → Half → ℕ
end_place a b = commit_place a b + 1 + count_in Rest a + count_in Rest b
