-- What is seen of requests, without where they lie in memory.
use Rattle.top_sim.specs.Asked.{Workload, workload_by}
use Rattle.top_sim.specs.declared.requests.Workload.{Workload as DeclaredWorkload}

abbrev pub workload_seen : DeclaredWorkload → Workload
workload_seen w = workload_by w.sectors w.requests.items
