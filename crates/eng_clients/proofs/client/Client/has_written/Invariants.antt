use Rattle.std.proofs.Common.{◌<◌, ◌-◌, ℕ}
use Rattle.eng_clients.specs.Rebuilt.{WroteGood}
use Rattle.eng_clients.proofs.client.Client.has_written.Given as goal

-- all sectors so far are
abbrev pub invariant-loop-from : goal.invariant-loop-from
invariant-loop-from l = (o : ℕ) → o < l.from → (n : ℕ) × WroteGood l.self n l.unit o

abbrev pub decreases-loop-from : goal.decreases-loop-from
decreases-loop-from l = l.self.task.unit_sectors - l.from
