-- In which order one simulated disk serves its requests, and when: the requests that are left stand in a plain list.
use Rattle.std.specs.Prelude.{◌≡◌, ◌⊎◌, ℕ, ◌+◌, ◌-◌, ◌/◌, ◌^◌, ◌<◌, ◌≤◌, ◌==◌, Bool, true, not, List, [], ◌∷◌, length, map, filter, slice_index_or, nat_eq, nat_le, if◌then◌else◌, min}
use Rattle.std.specs.List.{list_any, range_with_len}
use Rattle.blk_plain.specs.declared.op.Span.{Span}
use Rattle.blk_plain.specs.declared.op.Op.{Op}
use Rattle.blk_plain.specs.declared.op.Op.TheVariants.{Write, Writes, Read, Rebuild, Sync}
use Rattle.sim_queue.specs.declared.request.Request.{Request}
use Rattle.sim_queue.specs.declared.request.Served.{Served}
use Rattle.sim_queue.specs.declared.request.Queue.{Queue}
use Rattle.sim_queue.specs.declared.request.Queue.TheVariants.{Fifo, Sstf, Scan}

-- the span that a read or a write has; no other operation is asked of a disk
abbrev pub span_of : Op → Span
span_of (Write span pattern) = span
span_of (Read span) = span
span_of (Writes patches) = record { first = 0; count = 0 }
span_of (Rebuild stripe) = record { first = 0; count = 0 }
span_of (Sync stripe) = record { first = 0; count = 0 }

-- the request of a number
unfoldable pub request_at : List Request → ℕ → Request
request_at requests number = slice_index_or requests number (record { tick = 0; op = Sync 0 })

abbrev pub tick_at : List Request → ℕ → ℕ
tick_at requests number = (request_at requests number).tick

abbrev pub first_at : List Request → ℕ → ℕ
first_at requests number = (span_of (request_at requests number).op).first

abbrev pub count_at : List Request → ℕ → ℕ
count_at requests number = (span_of (request_at requests number).op).count

-- the operation is a read or a write within so many sectors
abbrev pub IsTransfer : ℕ → Op → Type 0
IsTransfer sectors (Write span pattern) = span.first + span.count ≤ sectors
IsTransfer sectors (Read span) = span.first + span.count ≤ sectors
IsTransfer sectors (Writes patches) = ⊥
IsTransfer sectors (Rebuild stripe) = ⊥
IsTransfer sectors (Sync stripe) = ⊥

-- requests that may be asked of a disk: few, by ascending tick, each a read or a write within its sectors
pub record IsAsked (requests : List Request) : Type 0 where
  pub few : length requests ≤ 4096
  pub soon : (j : ℕ) → j < length requests → tick_at requests j < 2 ^ 32
  pub within : (j : ℕ) → j < length requests → IsTransfer 262144 (request_at requests j).op
  pub ascending : (i j : ℕ) → i ≤ j → j < length requests → tick_at requests i ≤ tick_at requests j

-- how far two sectors are from one another
abbrev pub distance : ℕ → ℕ → ℕ
distance a b = (a - b) + (b - a)

-- the number stands in the list
abbrev pub has : List ℕ → ℕ → Bool
has numbers number = list_any (nat_eq number) numbers

-- the least of some numbers
unfoldable pub least : List ℕ → ℕ
least [] = 0
least (x ∷ []) = x
least (x ∷ y ∷ ys) = min x (least (y ∷ ys))

-- before a service: the numbers of the requests that are left, where the head stands, the tick, and whether the
-- direction is up
pub record Moment : Type 0 where
  pub left : List ℕ
  pub head : ℕ
  pub tick : ℕ
  pub up : Bool

-- a sector isn't behind the head in this direction
abbrev pub is_onward : Bool → ℕ → ℕ → Bool
is_onward up head first = if up then nat_le head first else nat_le first head

module _ (requests : List Request) where
  -- the tick at which the next service begins: the present one, or the least of those left where that is later
  unfoldable pub start_of : Moment → ℕ
  start_of m =
      if list_any (λ j. nat_le (request_at requests j).tick m.tick) m.left then m.tick
      else least (map (λ j. (request_at requests j).tick) m.left)

  -- the requests left that have arrived by then
  unfoldable pub arrived : Moment → List ℕ
  arrived m = filter (λ j. nat_le (request_at requests j).tick (start_of m)) m.left

  -- how far a request's first sector is from the head
  abbrev pub way_to : Moment → ℕ → ℕ
  way_to m j = (first_at requests j - m.head) + (m.head - first_at requests j)

  -- the request's first sector isn't behind the head in this direction
  abbrev pub is_ahead : Moment → Bool → ℕ → Bool
  is_ahead m up j =
      if up then nat_le m.head (first_at requests j) else nat_le (first_at requests j) m.head

  -- the direction of a scan: it turns where none that has arrived is ahead
  unfoldable pub direction : Moment → Bool
  direction m = if list_any (is_ahead m m.up) (arrived m) then m.up else not m.up

  -- those that are ahead
  unfoldable pub ahead : Moment → List ℕ
  ahead m = filter (is_ahead m (direction m)) (arrived m)

-- the number stands in the list, with the least worth there, and is the least with it
pub record IsLeast (worth : ℕ → ℕ) (numbers : List ℕ) (number : ℕ) : Type 0 where
  pub is_in : list_any (nat_eq number) numbers ≡ true
  pub least : (j : ℕ) → list_any (nat_eq j) numbers ≡ true
      → (worth number < worth j) ⊎ ((worth number ≡ worth j) × (number ≤ j))

-- the request that is served next. Of those ahead, the nearest has upwards the least first sector and downwards the
-- greatest
abbrev pub IsChosen : List Request → Queue → Moment → ℕ → Type 0
IsChosen requests Fifo m number = IsLeast (λ j. 0) (arrived requests m) number
IsChosen requests Sstf m number = IsLeast (way_to requests m) (arrived requests m) number
IsChosen requests Scan m number = IsLeast (way_to requests m) (ahead requests m) number

-- the direction after a service
abbrev pub next_up : List Request → Queue → Moment → Bool
next_up requests Fifo m = m.up
next_up requests Sstf m = m.up
next_up requests Scan m = direction requests m

-- this is the next service
pub record IsServed (requests : List Request) (queue : Queue) (m : Moment) (s : Served) : Type 0 where
  pub chosen : IsChosen requests queue m s.request
  pub start : s.start ≡ start_of requests m
  pub end : s.end
      ≡ start_of requests m + way_to requests m s.request / 64 + count_at requests s.request

-- after it
abbrev pub after : List Request → Queue → Moment → Served → Moment
after requests queue m s = record {
  left = filter (λ j. not (j == s.request)) m.left;
  head = first_at requests s.request + count_at requests s.request;
  tick = s.end;
  up = next_up requests queue m;
}

-- these are the next services, one after another, and behind them no request is left
abbrev pub AreServed : List Request → Queue → Moment → List Served → Type 0
AreServed requests queue m [] = m.left ≡ []
AreServed requests queue m (s ∷ ss) =
    IsServed requests queue m s × AreServed requests queue (after requests queue m s) ss

-- the service of the requests: one after another until none is left, from where the head stands at sector 0 and goes up
pub record IsService (requests : List Request) (queue : Queue) (services : List Served) : Type 0 where
  pub served : AreServed requests queue
      (record { left = range_with_len 0 (length requests); head = 0; tick = 0; up = true }) services
