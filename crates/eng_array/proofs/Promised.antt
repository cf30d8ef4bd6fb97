-- The library's graphs promise what the world asks of them.
use Rattle.std.proofs.Common.{List}
use Rattle.graph_mean.specs.Graph.{Held}
use Rattle.graph_lib.proofs.Quiet.{target-accepted, rebuild-calls}
use Rattle.eng_world.specs.Planning.{Promises}
use Rattle.eng_state.specs.Steps.{graphs_of}

pub library-promises : (held : List Held) → Promises (graphs_of held)
library-promises held = record {
  accepted = λ t m task can. target-accepted t m task (λ q i e. (can.unit q i e, can.checked q i e));
  quiet = λ t m unit n kind none below call. rebuild-calls t m unit n kind none below call;
}
