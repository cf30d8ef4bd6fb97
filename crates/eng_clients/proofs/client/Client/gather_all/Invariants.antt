use Rattle.std.proofs.Common.{◌≤◌, take, vec_capacity}
use Rattle.eng_clients.specs.Gathered.{Gathered}
use Rattle.eng_clients.proofs.client.Client.gather_all.Given as goal

-- what was named so far is gathered
abbrev pub invariant-loop-i : goal.invariant-loop-i
invariant-loop-i l = Gathered l.fn.pool l.self.lease (take l.i l.named) l.pool l.sources.items × (2048 ≤ vec_capacity l.sources)
