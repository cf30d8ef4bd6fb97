-- Words that proofs go by, for what the specifications spell out.
use Rattle.std.specs.Prelude.{◌≡◌, ℕ, true, List, [], ◌∷◌, length, map, take}
use Rattle.sim_queue.specs.declared.request.Request.{Request}
use Rattle.sim_queue.specs.declared.request.Served.{Served}
use Rattle.sim_queue.specs.declared.request.Queue.{Queue}
use Rattle.sim_queue.specs.Service.{Moment, IsServed, AreServed, after}
use Rattle.std.specs.List.{range_with_len}
use Rattle.blk_plain.specs.Plain.{replayed, zero_blocks}

-- these are the next services, one after another
abbrev pub AreNext : List Request → Queue → Moment → List Served → Type 0
AreNext requests queue m [] = Unit {0}
AreNext requests queue m (s ∷ ss) = IsServed requests queue m s × AreNext requests queue (after requests queue m s) ss

-- after them
abbrev pub after_all : List Request → Queue → Moment → List Served → Moment
after_all requests queue m [] = m
after_all requests queue m (s ∷ ss) = after_all requests queue (after requests queue m s) ss

-- before the first
abbrev pub beginning : List Request → Moment
beginning requests = record { left = range_with_len 0 (length requests); head = 0; tick = 0; up = true }

-- the blocks before the service at a place: the replay of the operations served before it
abbrev pub before : ℕ → List Request → List Served → ℕ → List (List ℕ)
before sectors requests services place = replayed (map (λ r. r.op) requests) (take place (map (λ s. s.request) services)) (zero_blocks sectors)

-- where none is left behind them they are all
pub all_next : (requests : List Request) (queue : Queue) (m : Moment) (ss : List Served) → AreNext requests queue m ss → (after_all requests queue m ss).left ≡ [] → AreServed requests queue m ss
all_next requests queue m [] are none = none
all_next requests queue m (s ∷ ss) are none = (are.0, all_next requests queue (after requests queue m s) ss are.1 none)

pub none_left : (requests : List Request) (queue : Queue) (m : Moment) (ss : List Served) → AreServed requests queue m ss → (after_all requests queue m ss).left ≡ []
none_left requests queue m [] are = are
none_left requests queue m (s ∷ ss) are = none_left requests queue (after requests queue m s) ss are.1
