use Rattle.std.proofs.Common.{◌≡◌, ◌++◌, List, vec_capacity}
use Rattle.eng_job.specs.declared.job.Source.{Source}
use Rattle.eng_clients.specs.Scattered.{SourcesHome}
use Rattle.eng_clients.proofs.client.Client.scatter.Given as goal

-- the sources behind those that are left are home
abbrev pub invariant-loop-source : goal.invariant-loop-source
invariant-loop-source l = (done : List Source) × (l.fn.sources.items ≡ l.sources.items ++ done) × SourcesHome l.fn.pool l.self.lease done l.pool × (vec_capacity l.sources ≡ vec_capacity l.fn.sources)

abbrev pub decreases-loop-source : goal.decreases-loop-source
decreases-loop-source l = goal.left-loop-source l
