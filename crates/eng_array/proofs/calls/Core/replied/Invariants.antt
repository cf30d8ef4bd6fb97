use Rattle.std.proofs.Common.{◌≡◌, ◌≤◌, ◌*◌, length}
use Rattle.eng_clients.specs.Desk.{desk_at}
use Rattle.eng_rest.specs.Left.{below}
use Rattle.eng_array.proofs.calls.Core.replied.Given as goal

-- those of the clients so far are counted, and each has few
abbrev pub invariant-loop-client : goal.invariant-loop-client
invariant-loop-client g l = (l.replied ≡ below (λ c. length (desk_at l.fn.self.array.clients c).replies) l.client) × (l.replied ≤ 4294967295 * l.client)
