use Rattle.std.proofs.Common.{◌≡◌, take}
use Rattle.graph_text.specs.Pushed.{with_sources}
use Rattle.graph_text.proofs.push.push_sources.Given as goal

abbrev pub invariant-loop-source : goal.invariant-loop-source
invariant-loop-source l = l.graph ≡ with_sources l.fn.graph (take l.source-index l.sources)
