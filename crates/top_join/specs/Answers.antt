-- What joining answers. Want of memory is free.
use Rattle.std.specs.Prelude.{◌≡◌, ℕ, List, Result, Ok, Err}
use Rattle.graph_mean.specs.Graph.{View}
use Rattle.text_steps.specs.declared.at.At.{At}
use Rattle.top_join.specs.declared.fault.JoinFault.{JoinFault}
use Rattle.top_join.specs.declared.fault.JoinFault.TheVariants as fault

-- the graph as it stands then, or the code
abbrev pub outcome_of : Result (Unit {0}) ℕ → View → Result View ℕ
outcome_of (Ok x) view = Ok view
outcome_of (Err code) view = Err code

-- it is refused so, or memory was wanted
abbrev pub RefusesAll : (Result (List View) At → Type 0) → JoinFault → Type 0
RefusesAll is (fault.At n code) = is (Err (record { line = n; code = code }))
RefusesAll is fault.Memory = Unit {0}

-- the code of a line, or want of memory
abbrev pub RefusesOne : ℕ → (Result View ℕ → Type 0) → JoinFault → Type 0
RefusesOne line is (fault.At n code) = (n ≡ line) × is (Err code)
RefusesOne line is fault.Memory = Unit {0}
