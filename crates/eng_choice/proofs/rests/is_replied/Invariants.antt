use Rattle.std.proofs.Common.{◌≡◌, ◌<◌, ℕ, length}
use Rattle.eng_clients.specs.Desk.{desk_at}
use Rattle.eng_choice.proofs.rests.is_replied.Given as goal

-- the clients so far are replied
abbrev pub invariant-loop-client : goal.invariant-loop-client
invariant-loop-client g l = (c : ℕ) → c < l.client → length (desk_at l.array.clients c).replies ≡ length (desk_at l.array.clients c).items
