-- Runs of one graph in which nothing fails, and what they do.
use Rattle.std.specs.Prelude.{◌≡◌, ℕ, ◌⊎◌, List, All, None, length, ◌<◌}
use Rattle.graph_mean.specs.declared.graph.Ret.{Ret}
use Rattle.graph_mean.specs.declared.step.Status.TheVariants.{Idle, Out}
use Rattle.graph_mean.specs.declared.step.Phase.TheVariants.{Before}
use Rattle.graph_mean.specs.Graph.{View}
use Rattle.graph_mean.specs.Task.{Aim, Missing, Values, code_after}
use Rattle.graph_mean.specs.Steps.{State, Act, Fire, Do, Fail, Skip, Lose, Run, Covers, IsReady, stripe_of}
use Rattle.graph_mean.specs.Atomic.{IsSector}

-- every unit is there
abbrev pub all_there : Missing
all_there s = None

-- no unit is missing
abbrev pub NoneMissing : Missing → Type 0
NoneMissing missing = (s : ℕ) → missing s ≡ None

-- a node is fired, or finishes good
abbrev pub IsGoodAct : Act → Type 0
IsGoodAct (Fire n) = Unit {0}
IsGoodAct (Do n) = Unit {0}
IsGoodAct (Fail n lost) = ⊥
IsGoodAct (Skip n) = ⊥
IsGoodAct (Lose lost) = ⊥

-- each sector of the task's stripes holds what the task has it hold, and each returned buffer the old blocks
pub record HasEffect (g : View) (t : Aim) (old new : Values) (buf : ℕ → ℕ → ℕ) (cell : Values) : Type 0 where
  pub sectors : (s i o : ℕ) → IsSector t s i o → cell s i o ≡ code_after t old new s i o
  pub returned : All (λ (r : Ret). (o : ℕ) → Covers g r.buf o → buf r.buf o ≡ old (stripe_of g r.buf) r.unit o) g.rets

-- a run that has begun, and in which nothing has failed
pub record RunsWell (g : View) (x : State) (acts : List Act) (y : State) : Type 0 where
  pub idle : (n : ℕ) → x.node n ≡ Idle
  pub phase : x.phase ≡ Before
  pub run : Run g x acts y
  pub good : All IsGoodAct acts

-- some node can be fired, or is out
abbrev pub GoesOn : View → State → Type 0
GoesOn g x = (n : ℕ) × ((IsReady g x.node x.phase n) ⊎ ((n < length g.nodes) × (x.node n ≡ Out)))
