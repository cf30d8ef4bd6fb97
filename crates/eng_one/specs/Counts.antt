-- Which graphs can be started, how many antecedents a node still waits for, and what a run keeps of that.
use Rattle.std.specs.Prelude.{◌≡◌, ℕ, zero, suc, ◌<◌, ◌≤◌, ◌==◌, ◌&&◌, List, [], ◌∷◌, ◌++◌, Bool, true, false, Option, Some, None, if◌then◌else◌, count_by, length, slice_index_or}
use Rattle.std.specs.List.{sum_by}
use Rattle.std.specs.declared.snapshot.Snapshot.{Snapshot}
use Rattle.graph_mean.specs.declared.step.Status.{Status}
use Rattle.graph_mean.specs.declared.step.Status.TheVariants.{Idle, Out, Good, Bad, Skipped}
use Rattle.graph_mean.specs.declared.step.Phase.{Phase}
use Rattle.graph_mean.specs.declared.step.Phase.TheVariants.{RollingBack, Undone}
use Rattle.graph_mean.specs.Graph.{View, Held, IsAnte, blank, vertex_at}
use Rattle.graph_mean.specs.Steps.{is_out, none_out}
use Rattle.graph_mean.specs.Fewest.{sum_below}
use Rattle.eng_one.specs.Bits.{has}
use Rattle.eng_one.specs.Control.{Control, mark_in, mark_of}
use Rattle.eng_one.specs.Followers.{Links, followers_in}

-- ---- what is asked of a graph

-- how many antecedents the nodes have together
abbrev pub ante_count : View → ℕ
ante_count g = sum_by (λ v. length v.antes) g.nodes

-- a graph that can be started: at most 2,048 nodes, at most 16,384 antecedents, and each antecedent is one of its nodes
pub record CanStart (g : View) : Type 0 where
  pub nodes : length g.nodes ≤ 2048
  pub antes : ante_count g ≤ 16384
  pub named : (n a : ℕ) → IsAnte g n a → a < length g.nodes

-- ---- what a node waits for

-- the node hasn't ended
abbrev pub is_unended : Status → Bool
is_unended Idle = true
is_unended Out = true
is_unended Good = false
is_unended Bad = false
is_unended Skipped = false

-- the node hasn't been fired, or passed over
abbrev pub is_idle : Status → Bool
is_idle Idle = true
is_idle Out = false
is_idle Good = false
is_idle Bad = false
is_idle Skipped = false

-- how many entries of a node's antecedents name a node that hasn't ended
abbrev pub unmet_of : Control → ℕ → ℕ
unmet_of r n = count_by (λ c. is_unended (mark_of r c)) (vertex_at r.graph n).antes

-- ---- what a run keeps of it

-- how often a number stands in a list
abbrev pub times : ℕ → List ℕ → ℕ
times k xs = count_by (λ x. x == k) xs

-- how often the node stands in the lists of followers of nodes that haven't ended
abbrev pub waits : Links → List Status → ℕ → ℕ
waits links marks k = sum_below (λ c. if is_unended (mark_in marks c) then times k (followers_in links c) else 0) (length marks)

-- that is the stored count of each node
abbrev pub AreCounts : Links → List Status → List ℕ → Type 0
AreCounts links marks counts = (k : ℕ) → k < length marks → slice_index_or counts k 0 ≡ waits links marks k

-- a node stands among the followers of another as often as it names it
abbrev pub AreFollowers : View → Links → Type 0
AreFollowers g links = (c k : ℕ) → times k (followers_in links c) ≡ times c (vertex_at g k).antes

-- the node is unfired and its stored count is 0; no node is past the end
abbrev pub is_waiting : List Status → List ℕ → ℕ → Bool
is_waiting marks counts k = is_idle (mark_in marks k) && (slice_index_or counts k 1 == 0)

-- the numbers below a bound that pass a test, in ascending order
unfoldable pub ascending : (ℕ → Bool) → ℕ → List ℕ
ascending p zero = []
ascending p (suc n) = ascending p n ++ (if p n then n ∷ [] else [])

-- those are the nodes of the set
abbrev pub AreWaiting : List Status → List ℕ → List ℕ → Type 0
AreWaiting marks counts words = (k : ℕ) → has words k ≡ is_waiting marks counts k

-- the stored ready nodes are, in ascending order, the unfired nodes whose count is 0
pub record AreReady (marks : List Status) (counts words : List ℕ) : Type 0 where
  pub each : AreWaiting marks counts words
  pub listed : ascending (has words) 2048 ≡ ascending (is_waiting marks counts) (length marks)

-- the graph that was started, or a graph of nothing
abbrev pub drawn_of : Option (Snapshot Held) → View
drawn_of None = blank
drawn_of (Some copy) = copy.value.drawn

-- by the test of marks: while the run rolls back some node is out, and once it is undone none is
pub record IsSettled (marks : List Status) (phase : Phase) : Type 0 where
  pub rolling : phase ≡ RollingBack → none_out (mark_in marks) (length marks) ≡ false
  pub undone : phase ≡ Undone → none_out (mark_in marks) (length marks) ≡ true

-- What a run keeps true: a mark and a count for each node of its graph, which could be started; the followers of each; the ready nodes; how many are out; a phase that is settled; and room for as many nodes as a graph may have.
pub record IsKept (g : View) (marks : List Status) (phase : Phase) (out : ℕ) (links : Links) (counts words : List ℕ) (most_marks most_counts : ℕ) : Type 0 where
  pub started : CanStart g
  pub nodes : length marks ≡ length g.nodes
  pub long : length counts ≡ length g.nodes
  pub begins : length links.first ≡ length g.nodes
  pub followers : AreFollowers g links
  pub counted : AreCounts links marks counts
  pub ready : AreReady marks counts words
  pub outs : out ≡ count_by is_out marks
  pub settled : IsSettled marks phase
  pub mark_room : 2048 ≤ most_marks
  pub count_room : 2048 ≤ most_counts
