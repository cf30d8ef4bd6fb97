-- How many events are left, at most: of an item, and of all. What is said here of a number m is that no graph of the item has more than m nodes.
use Rattle.std.specs.Prelude.{◌≡◌, ◌<◌, ◌≤◌, ◌+◌, ◌*◌, ◌&&◌, ◌==◌, if◌then◌else◌, nat_lt, ℕ, zero, suc, List, [], ◌∷◌, length, Some, None}
use Rattle.graph_mean.specs.declared.step.Status.{Status}
use Rattle.graph_mean.specs.declared.step.Status.TheVariants.{Idle, Out, Good, Bad, Skipped}
use Rattle.graph_mean.specs.declared.step.Phase.{Phase}
use Rattle.graph_mean.specs.declared.step.Phase.TheVariants.{Before, After, RollingBack, Ended, Undone}
use Rattle.eng_cols.specs.declared.spot.Loss.{Loss}
use Rattle.eng_cols.specs.Cols.{ColumnState, Live, Dead, Filling, Spread}
use Rattle.eng_world.specs.declared.item.Traced.{Traced}
use Rattle.eng_world.specs.declared.item.Traced.TheVariants as event
use Rattle.eng_world.specs.World.{Running, Current, Nothing, Waits, Runs, Client, World, RunsAs}
use Rattle.eng_world.specs.Pool.{out_below}
use Rattle.eng_world.specs.Invariant.{EachAsked, AllReplied}

-- ## Of an operation

-- the events that a node can have yet: one that is idle is fired and ends, or is skipped; one that is out ends
abbrev pub cost : Status → ℕ
cost Idle = 2
cost Out = 1
cost Good = 0
cost Bad = 0
cost Skipped = 0

-- those of the first n nodes together
abbrev pub cost_below : (ℕ → Status) → ℕ → ℕ
cost_below node zero = 0
cost_below node (suc n) = cost (node n) + cost_below node n

-- Of an operation that runs a graph of n nodes. Once it rolls back only its jobs come home; then it is given up, or planned anew: one event, and two for each node of the new graph.
abbrev pub run_left : ℕ → Phase → (ℕ → Status) → ℕ → ℕ
run_left m Before node n = cost_below node n
run_left m After node n = cost_below node n
run_left m Ended node n = cost_below node n
run_left m RollingBack node n = out_below node n + (2 * m + 1)
run_left m Undone node n = out_below node n + (2 * m + 1)

-- Of the item that is served now or next: it begins, it takes its stripes, and it runs, two events a node.
abbrev pub current_left : ℕ → Current → ℕ
current_left m Nothing = 2 * m + 2
current_left m Waits = 2 * m + 1
current_left m (Runs r) = run_left m r.phase r.node (length r.plan.graph.nodes)

-- ## Of an item

-- Of item i once it has its reply: its jobs that are out yet, which come home. There are some after a loss alone.
abbrev pub outs_of : ℕ → Current → ℕ
outs_of i Nothing = 0
outs_of i Waits = 0
outs_of i (Runs r) = if r.plan.index == i then out_below r.node (length r.plan.graph.nodes) else 0

-- of the client's item i: it has its reply, or is served now or next, or is still to come
abbrev pub item_left : ℕ → Client → ℕ → ℕ
item_left m k i =
    if nat_lt i (length k.replies)
    then outs_of i k.current
    else (if i == length k.replies then current_left m k.current else 2 * m + 2)

-- 1 for a column that isn't dead
abbrev pub is_alive : ColumnState → ℕ
is_alive (Live device) = 1
is_alive (Filling device done) = 1
is_alive (Spread done) = 1
is_alive Dead = 0

-- how many columns aren't dead
abbrev pub alive : List ColumnState → ℕ
alive [] = 0
alive (x ∷ xs) = is_alive x + alive xs

-- Of client c's item i, with what columns that die may add to it: each of them may have it rolled back and planned anew. So a death lowers the one and may raise the other by as much.
abbrev pub left : ℕ → World → ℕ → ℕ → ℕ
left m w c i = item_left m (w.clients c) i + alive w.columns * (2 * m + 1)

-- ## Of all

-- the sum of f 0 to f (n - 1)
unfoldable pub below : (ℕ → ℕ) → ℕ → ℕ
below f zero = 0
below f (suc n) = f n + below f n

-- of all items of the clients below n, where no graph of client c's item i is greater than most c i
abbrev pub all_left : (ℕ → ℕ → ℕ) → World → ℕ → ℕ
all_left most w n = below (λ c. below (λ i. left (most c i) w c i) (length (w.clients c).items)) n

-- ## What the bounds speak of

-- 1 where it is the name of client c's item i, else 0
abbrev pub is_name : ℕ → ℕ → ℕ → ℕ → ℕ
is_name d j c i = if (d == c) && (j == i) then 1 else 0

-- 1 for an event of client c's item i, else 0
abbrev pub of_item : Traced → ℕ → ℕ → ℕ
of_item (event.Fill column device count) c i = 0
of_item (event.Resume column count) c i = 0
of_item (event.Spread column) c i = 0
of_item (event.Fail column) c i = 0
of_item (event.Begin id) c i = is_name id.client id.index c i
of_item (event.Take id) c i = is_name id.client id.index c i
of_item (event.Fire id n) c i = is_name id.client id.index c i
of_item (event.Good id n) c i = is_name id.client id.index c i
of_item (event.Bad id n) c i = is_name id.client id.index c i
of_item (event.Skip id n) c i = is_name id.client id.index c i
of_item (event.Back id) c i = is_name id.client id.index c i

-- an event of an operation: not one from outside
abbrev pub IsOwn : Traced → Type 0
IsOwn (event.Fill column device count) = ⊥
IsOwn (event.Resume column count) = ⊥
IsOwn (event.Spread column) = ⊥
IsOwn (event.Fail column) = ⊥
IsOwn (event.Begin id) = Unit {0}
IsOwn (event.Take id) = Unit {0}
IsOwn (event.Fire id n) = Unit {0}
IsOwn (event.Good id n) = Unit {0}
IsOwn (event.Bad id n) = Unit {0}
IsOwn (event.Skip id n) = Unit {0}
IsOwn (event.Back id) = Unit {0}

-- an event by which no rebuild begins: one of an operation, or the failure of a column from outside
abbrev pub IsLater : Traced → Type 0
IsLater (event.Fill column device count) = ⊥
IsLater (event.Resume column count) = ⊥
IsLater (event.Spread column) = ⊥
IsLater (event.Fail column) = Unit {0}
IsLater (event.Begin id) = Unit {0}
IsLater (event.Take id) = Unit {0}
IsLater (event.Fire id n) = Unit {0}
IsLater (event.Good id n) = Unit {0}
IsLater (event.Bad id n) = Unit {0}
IsLater (event.Skip id n) = Unit {0}
IsLater (event.Back id) = Unit {0}

-- an operation that runs the client's item i has a graph of at most m nodes
abbrev pub Within : ℕ → Client → ℕ → Type 0
Within m k i = (r : Running) → k.current ≡ Runs r → r.plan.index ≡ i → length r.plan.graph.nodes ≤ m

-- and so it is of each item, by its own number
abbrev pub EachWithin : (ℕ → ℕ → ℕ) → World → Type 0
EachWithin most w = (c i : ℕ) → Within (most c i) (w.clients c) i

-- none of the client's jobs is out
abbrev pub NoneOut : Client → Type 0
NoneOut k = (r : Running) (n : ℕ) → k.current ≡ Runs r → r.node n ≡ Out → ⊥

-- No client has more replies than items. What runs is the client's first item without reply while the array isn't lost, and one of its items in any case; once the array is lost all items have their replies.
pub record IsIndexed (w : World) : Type 0 where
  pub few : EachAsked w
  pub now : w.lost ≡ None → (c : ℕ) (r : Running) → RunsAs w c r → r.plan.index ≡ length (w.clients c).replies
  pub asked : (c : ℕ) (r : Running) → RunsAs w c r → r.plan.index < length (w.clients c).items
  pub replied : (loss : Loss) → w.lost ≡ Some loss → AllReplied w
