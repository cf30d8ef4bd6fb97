-- The write of a join line, span by span and as a whole.
use Rattle.std.specs.Prelude.{◌≡◌, ◌≤◌, ◌+◌, ℕ, true, List, [], ◌∷◌, Some, length}
use Rattle.blk_plain.specs.declared.op.Span.{Span}
use Rattle.lay_core.specs.Layout.{Shape}
use Rattle.lay_core.specs.Touched.{Touched, IsJointSplit, IsSpanSplit}
use Rattle.graph_mean.specs.declared.task.Kind.TheVariants.{Write}
use Rattle.graph_mean.specs.Graph.{View}
use Rattle.graph_mean.specs.Ordered.{Accepted}
use Rattle.graph_mean.specs.Task.{Missing, task_of}
use Rattle.raid_script.specs.Asked.{Asked}
use Rattle.top_join.specs.Steps.{may_join, spans_in}

-- An item writes these two spans by the graph of this number, within the blocks and over at most
-- 16 stripes. They are split so into stripes and parts: the one, the other, and both together.
pub record AreWritten (y : Shape) (clients : List (List Asked)) (n : ℕ) (p q : Span)
    (a b both : Touched) : Type 0 where
  pub spans : spans_in n clients ≡ Some (p ∷ q ∷ [])
  pub first_some : 1 ≤ p.count
  pub second_some : 1 ≤ q.count
  pub may : may_join y (p ∷ q ∷ []) ≡ true
  pub first : IsSpanSplit y p a
  pub second : IsSpanSplit y q b
  pub joint : IsJointSplit y (p ∷ q ∷ []) both

-- the missing units of the stripes behind the first n
abbrev pub missing_behind : ℕ → Missing → Missing
missing_behind n missing s = missing (s + n)

-- Two graphs are accepted, the one for a write of the first span alone, the other for one of the
-- second, by the missing units of both together.
pub record AreAcceptedAlone (y : Shape) (one other : View) (a b : Touched) (missing : Missing)
    : Type 0 where
  pub first : Accepted one (task_of y Write a) missing
  pub second : Accepted other (task_of y Write b) (missing_behind (length a.stripes) missing)
