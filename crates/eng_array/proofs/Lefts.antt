-- What a core has left to do is what every world that it shows has left, and each event of an operation lowers it.
use Rattle.std.proofs.Common.{◌≡◌, ◌<◌, ℕ, zero, suc, List, length, refl, ◌∙◌, ap, arith}
use Rattle.std.specs.Prelude.{◌+◌, ◌*◌, ◌==◌, if◌then◌else◌, nat_lt}
use Rattle.blk_disk.specs.declared.disk.Disk.{Ghosts as DiskGhosts}
use Rattle.buf_pool.specs.Pool as pool
use Rattle.lay_core.specs.declared.layout.Layout.{Ghosts as LayoutGhosts}
use Rattle.eng_cols.specs.Cols.{ColumnState}
use Rattle.eng_world.specs.declared.item.Item.{Item}
use Rattle.eng_world.specs.declared.item.Reply.{Reply}
use Rattle.eng_world.specs.declared.item.Traced.{Traced}
use Rattle.eng_world.specs.World.{Running, Current, Client, World}
use Rattle.eng_rest.specs.Left.{current_left, outs_of, item_left, alive, left, below, all_left, IsOwn, EachWithin}
use Rattle.eng_rest.proofs.Summing.{all-falls}
use Rattle.eng_clients.specs.declared.stage.Stage.{Stage}
use Rattle.eng_clients.specs.declared.stage.Stage.TheVariants.{Nothing, Waits, Runs}
use Rattle.eng_state.specs.declared.array.Array.{Array}
use Rattle.eng_clients.specs.Desk.{Desk, desk_at}
use Rattle.eng_array.specs.Progress.{current_at, client_at, most_nodes, clients_seen, item_left_of, left_of, Falls}
use Rattle.eng_state.specs.Shows.{Shows, ShowsCurrent}
use Rattle.eng_state.specs.Sound.{IsSound, RunsWell}
use Rattle.eng_array.specs.Steady.{IsSteady}
use Rattle.eng_state.specs.Steps.{graphs_of, Follows}
use Rattle.eng_state.proofs.Running.{runs_below}
use Rattle.eng_state.proofs.Shown.{runs-shown}
use Rattle.eng_array.proofs.Steady.{shown-items, steady-indexed}

-- ## Of a client

below-same : (f g : ℕ → ℕ) (n : ℕ) → ((c : ℕ) → c < n → g c ≡ f c) → below g n ≡ below f n
unfolding below
below-same f g zero e = refl
below-same f g (suc n) e = let a = e n (omega arith) in let b = below-same f g n (λ c l. e c (omega (arith, l))) in omega (arith, a, b)

-- what an operation does is shown but for its buffers, of which no number speaks
outs-shown : (tells : Type 0) (p : pool.PoolView) (d : Desk) (now : Current) (i : ℕ) (t : Stage) → ShowsCurrent tells p t d now → outs_of i now ≡ outs_of i (current_at t d)
outs-shown tells p d now i Nothing s = ap (outs_of i) s
outs-shown tells p d now i Waits s = ap (outs_of i) s
outs-shown tells p d now i Runs s = ap (outs_of i) s.1

now-shown : (tells : Type 0) (p : pool.PoolView) (d : Desk) (now : Current) (m : ℕ) (t : Stage) → ShowsCurrent tells p t d now → current_left m now ≡ current_left m (current_at t d)
now-shown tells p d now m Nothing s = ap (current_left m) s
now-shown tells p d now m Waits s = ap (current_left m) s
now-shown tells p d now m Runs s = ap (current_left m) s.1

item-same : (m i : ℕ) (a b : Client) → length a.replies ≡ length b.replies → outs_of i a.current ≡ outs_of i b.current → current_left m a.current ≡ current_left m b.current → item_left m a i ≡ item_left m b i
item-same m i a b count outs now =
    ap (λ (n : ℕ). if nat_lt i n then outs_of i a.current else (if i == n then current_left m a.current else 2 * m + 2)) count
    ∙ (ap (λ (x : ℕ). if nat_lt i (length b.replies) then x else (if i == length b.replies then current_left m a.current else 2 * m + 2)) outs
    ∙ ap (λ (x : ℕ). if nat_lt i (length b.replies) then outs_of i b.current else (if i == length b.replies then x else 2 * m + 2)) now)

module _ {L D : Type 0} (disk : DiskGhosts D) (core : Array L D) (w : World) (s : Shows disk core w) where
  -- ## Of a world

  left-same : (m c i : ℕ) → left m w c i ≡ left m (clients_seen core) c i
  left-same m c i =
      let d = desk_at core.clients c in
      let k = s.clients c in
      let a = item-same m i (w.clients c) (client_at core.lost d) (ap (λ (l : List Reply). length l) k.replies) (outs-shown disk.tells core.pool d (w.clients c).current i d.stage k.current) (now-shown disk.tells core.pool d (w.clients c).current m d.stage k.current) in
      ap (λ (n : ℕ). n + alive w.columns * (2 * m + 1)) a ∙ ap (λ (cols : List ColumnState). item_left m (client_at core.lost d) i + alive cols * (2 * m + 1)) s.columns

  pub item-shown : (m c i : ℕ) → left m w c i ≡ item_left_of m core c i
  unfolding item_left_of
  item-shown m c i = left-same m c i

  pub left-shown : all_left most_nodes w 17 ≡ left_of core
  unfolding left_of
  left-shown = below-same (λ c. below (λ i. left (most_nodes c i) (clients_seen core) c i) (length (desk_at core.clients c).items)) (λ c. below (λ i. left (most_nodes c i) w c i) (length (w.clients c).items)) 17 (λ c l. client c)
    where
      client : (c : ℕ) → below (λ i. left (most_nodes c i) w c i) (length (w.clients c).items) ≡ below (λ i. left (most_nodes c i) (clients_seen core) c i) (length (desk_at core.clients c).items)
      client c =
          ap (λ (l : List Item). below (λ i. left (most_nodes c i) w c i) (length l)) (s.clients c).items
          ∙ below-same (λ i. left (most_nodes c i) (clients_seen core) c i) (λ i. left (most_nodes c i) w c i) (length (desk_at core.clients c).items) (λ i l. left-same (most_nodes c i) c i)

-- ## Events

module _ {L D : Type 0} (lay : LayoutGhosts L) (disk : DiskGhosts D) where
  -- what runs has few nodes
  pub few-nodes : (core : Array L D) (w : World) → IsSound lay disk core → Shows disk core w → EachWithin most_nodes w
  few-nodes core w sound s c i r runs at =
      let d = desk_at core.clients c in
      let h = runs-shown disk core w s c r runs in
      let well : RunsWell (lay.shape core.layout) core.graphs.items core.pool d = (sound.well.each c (runs_below (lay.shape core.layout) core.graphs.items core.pool core.clients c sound.well h.0)).runs h.0 in
      let few = well.few in
      let g : length r.plan.graph.nodes ≡ length d.run.graph.nodes = ap (λ (q : Running). length q.plan.graph.nodes) h.2 in
      omega (arith, few, g)

  -- each event of an operation leaves less
  pub follows-falls : (old new : Array L D) (e : Traced) → IsOwn e → IsSteady lay disk old → IsSteady lay disk new → Follows lay disk old e new → Falls old new
  follows-falls old new e own steady after follows =
      let was = steady.reached.now in
      let f = follows was steady.reached.shows in
      let less = all-falls (lay.shape old.layout) (graphs_of old.graphs.items) was f.0 (steady-indexed lay disk old steady steady.reached) e most_nodes 17 own
      (shown-items lay disk old was steady.sound steady.reached.shows) (few-nodes old was steady.sound steady.reached.shows) (few-nodes new f.0 after.sound f.1) f.2 in
      let a = left-shown disk old was steady.reached.shows in
      let b = left-shown disk new f.0 f.1 in
      omega (arith, less, a, b)

-- whichever client is tried first
pub left-moved : {L D : Type 0} (core : Array L D) (next : ℕ) → left_of (record core { next = next }) ≡ left_of core
unfolding left_of
left-moved core next = refl
