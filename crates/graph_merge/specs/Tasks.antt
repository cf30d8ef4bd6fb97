-- One task followed by another: the task for which a joined graph is accepted.
use Rattle.std.specs.Prelude.{◌≡◌, ℕ, ◌+◌, ◌-◌, ◌<◌, ◌≤◌, ◌++◌, length, map, nat_lt, if◌then◌else◌}
use Rattle.blk_plain.specs.declared.op.Span.{Span}
use Rattle.lay_core.specs.declared.place.Part.{Part}
use Rattle.lay_core.specs.Layout.{Shape, stripe_of}
use Rattle.lay_core.specs.Touched.{Touched}
use Rattle.graph_mean.specs.Graph.{View}
use Rattle.graph_mean.specs.Task.{Aim, Missing, IsTask}
use Rattle.graph_mean.specs.Ordered.{Accepted, IsOrdered}

-- a part of another stripe
abbrev pub moved_part : ℕ → Part → Part
moved_part shift p = record p { stripe = p.stripe + shift }

-- one task followed by another of its kind and shape: its stripes, and then the other's
abbrev pub followed : Aim → Aim → Aim
followed t u = record t { stripes = t.stripes + u.stripes; parts = t.parts ++ map (moved_part t.stripes) u.parts }

-- the missing units of one followed by those of the other
abbrev pub missing_followed : Aim → Missing → Missing → Missing
missing_followed t m k s = if nat_lt s t.stripes then m s else k (s - t.stripes)

-- two tasks of one kind and one shape
pub record IsAlike (t u : Aim) : Type 0 where
  pub kind : u.kind ≡ t.kind
  pub width : u.width ≡ t.width
  pub checks : u.checks ≡ t.checks
  pub unit_sectors : u.unit_sectors ≡ t.unit_sectors

-- two tasks whose graphs are joined with this shift: they are alike, and the shift is the number of the first one's stripes
pub record IsPair (t u : Aim) (shift : ℕ) : Type 0 where
  pub task : IsTask t
  pub alike : IsAlike t u
  pub stripes : t.stripes ≡ shift

-- the graph is in order for the task: no cause of refusal holds but of size, of returns and of values
abbrev pub IsInOrder : View → Aim → Missing → Type 0
IsInOrder g t missing = (c : ℕ) × (e : ℕ) × IsOrdered g t missing c e

-- out is accepted for two tasks, the one followed by the other, wherever a is accepted for the one and b for the other
abbrev pub IsAcceptedForBoth : View → View → ℕ → View → Type 0
IsAcceptedForBoth a b shift out =
    (t u : Aim) (m k : Missing)
    → IsPair t u shift → Accepted a t m → Accepted b u k → Accepted out (followed t u) (missing_followed t m k)

-- ## Two spans

-- two spans with blocks, of which the first ends in a stripe below the one in which the second begins
pub record AreInTurn (y : Shape) (p q : Span) : Type 0 where
  pub first_some : 1 ≤ p.count
  pub second_some : 1 ≤ q.count
  pub apart : stripe_of y (p.first + p.count - 1) < stripe_of y q.first

-- the stripes of one map and then those of another, and so their parts
abbrev pub map_followed : Touched → Touched → Touched
map_followed a b = record { stripes = a.stripes ++ b.stripes; parts = a.parts ++ map (moved_part (length a.stripes)) b.parts }
