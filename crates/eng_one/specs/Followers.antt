-- Lists of nodes that are kept in one run of entries: where each begins, and which entry follows which.
use Rattle.std.specs.Prelude.{◌≡◌, ℕ, zero, suc, ◌≤◌, List, [], ◌∷◌, length, slice_index_or}

-- The names from a link on, at most so many. A link is one more than the number of an entry, or 0 where there is none.
unfoldable pub walk : List ℕ → List ℕ → ℕ → ℕ → List ℕ
walk next names zero at = []
walk next names (suc steps) zero = []
walk next names (suc steps) (suc e) = slice_index_or names e 0 ∷ walk next names steps (slice_index_or next e 0)

-- All of them: each link leads to an earlier entry, so that there are no more than the link says.
abbrev pub names_from : List ℕ → List ℕ → ℕ → List ℕ
names_from next names at = walk next names at at

-- for each node the link to its first follower; and for each entry the next of its list, and a follower
pub record Links : Type 0 where
  pub first : List ℕ
  pub next : List ℕ
  pub names : List ℕ

-- the followers of a node
abbrev pub followers_in : Links → ℕ → List ℕ
followers_in l c = names_from l.next l.names (slice_index_or l.first c 0)

-- each link leads to an entry, and that of an entry to one before it
pub record AreLinked (l : Links) : Type 0 where
  pub long : length l.next ≡ length l.names
  pub down : (e : ℕ) → slice_index_or l.next e 0 ≤ e
  pub begins : (c : ℕ) → slice_index_or l.first c 0 ≤ length l.names

-- so many nodes without followers
pub record IsBare (l : Links) (count : ℕ) : Type 0 where
  pub nodes : length l.first ≡ count
  pub entries : length l.names ≡ 0
  pub none : (c : ℕ) → followers_in l c ≡ []
