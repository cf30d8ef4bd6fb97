use Rattle.std.proofs.Common.{◌≡◌, ◌<◌, ℕ, false, get_or}
use Rattle.eng_clients.specs.Seats.{seat_of}
use Rattle.eng_clients.proofs.client.Client.all_home.Given as goal

-- those so far are at home
abbrev pub invariant-loop-buf : goal.invariant-loop-buf
invariant-loop-buf l = (k : ℕ) (d : ℕ) → k < l.buf-index → (seat_of l.pool l.self (get_or l.named k d)).out ≡ false
