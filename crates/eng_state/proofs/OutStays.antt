-- What is out stays as it left, where what it rests on stays.
use Rattle.std.proofs.Common.{◌≡◌, ◌≢◌, ℕ, ◌<◌, List, length, get_or, subst, sym, ap, ◌∙◌, arith, inl, inr, refl, true, Option, Some, None}
use Rattle.std.specs.Prelude.{Contains, slice_set}
use Rattle.std.proofs.lemmas.Bool.{cases_eq, eqb-true}
use Rattle.std.proofs.lemmas.List.{get_or_default}
use Rattle.std.proofs.lemmas.Map.Views.{Contains-from_any}
use Rattle.blk_disk.specs.declared.disk.Disk.{Ghosts as DiskGhosts}
use Rattle.buf_pool.specs.Pool as pool
use Rattle.lay_core.specs.Layout.{Shape}
use Rattle.lay_core.specs.declared.layout.Layout.{Ghosts as LayoutGhosts}
use Rattle.graph_mean.specs.declared.graph.Node.{Node}
use Rattle.graph_mean.specs.declared.graph.Node.TheVariants.{Rd, Wr, Xor, Cmt, Trm}
use Rattle.graph_mean.specs.Graph.{View, kind_at, vertex_at}
use Rattle.graph_mean.specs.Refusals.{Makes, Uses}
use Rattle.eng_world.specs.Nodes.{MakesOrUses}
use Rattle.eng_cols.specs.declared.spot.Spot.{Spot}
use Rattle.eng_job.specs.declared.job.Job.{Job}
use Rattle.eng_clients.specs.declared.stage.Stage.TheVariants.{Runs}
use Rattle.eng_state.specs.declared.array.Array.{Array}
use Rattle.eng_parts.specs.Shelf.{IsAway}
use Rattle.eng_clients.specs.Seats.{lease_seat, bytes_at}
use Rattle.eng_clients.specs.Desk.{Desk, desk_at, spot_at}
use Rattle.eng_state.specs.Sound.{IsSound, IsOutOf}
use Rattle.eng_state.specs.Out.{IsOut, IsOutIn, IsWork}
use Rattle.eng_state.proofs.Putting.{out-below}
use Rattle.eng_state.proofs.Ripe.{runs-well, takes-leased}
use Rattle.eng_state.proofs.Shown.{desk-set, desk-else}
use Rattle.eng_state.proofs.StaysOut.{Leaves, work-stays}

-- node n of the desk is out still, as it left
pub record StaysAt (a b : Desk) (n : ℕ) : Type 0 where
  pub out : IsOutOf b n
  pub graph : b.run.graph ≡ a.run.graph
  pub lease : b.lease ≡ a.lease
  pub spots : b.spots ≡ a.spots

pub same-desk : (d : Desk) (n : ℕ) → IsOutOf d n → StaysAt d d n
same-desk d n out = record { out = out; graph = refl; lease = refl; spots = refl }

-- one desk changes, where what is out stays
pub one-desk : (desks : List Desk) (c : ℕ) (d : Desk) → ((n : ℕ) → IsOutOf (desk_at desks c) n → StaysAt (desk_at desks c) d n) → c < length desks → (k n : ℕ) → IsOutOf (desk_at desks k) n → StaysAt (desk_at desks k) (desk_at (slice_set desks c d) k) n
one-desk desks c d stays below k n out = elim (cases_eq k c) [
  | inl is ↦ subst (λ (j : ℕ). StaysAt (desk_at desks j) (desk_at (slice_set desks c d) j) n) (sym is) (subst (λ (e : Desk). StaysAt (desk_at desks c) e n) (sym (desk-set desks c d below)) (stays n (subst (λ (j : ℕ). IsOutOf (desk_at desks j) n) is out)))
  | inr ne ↦ subst (λ (e : Desk). StaysAt (desk_at desks k) e n) (sym (desk-else desks c k d ne)) (same-desk (desk_at desks k) n out)
]

-- a buffer that leaves with a node is one that it takes
pub leaves-takes : (g : View) (n : ℕ) (k : Node) → kind_at g n ≡ k → (b : ℕ) → Leaves k (vertex_at g n).sources b → MakesOrUses g n b
leaves-takes g n (Rd i to) is b h = inl (subst (λ (k : Node). Makes k b) (sym is) h)
leaves-takes g n (Wr i from) is b h = inr (subst (λ (k : Node). Uses k (vertex_at g n).sources b) (sym is) h)
leaves-takes g n (Xor to) is b (inl h) = inl (subst (λ (k : Node). Makes k b) (sym is) h)
leaves-takes g n (Xor to) is b (inr h) = inr (subst (λ (k : Node). Uses k (vertex_at g n).sources b) (sym is) (Contains-from_any eqb-true b (vertex_at g n).sources h))
leaves-takes g n Cmt is b h = absurd h
leaves-takes g n Trm is b h = absurd h

-- a buffer that is out is so still, with its bytes
abbrev pub KeepsSeat : pool.PoolView → pool.PoolView → List ℕ → ℕ → Type 0
KeepsSeat old new lease b = (lease_seat old lease b).out ≡ true → ((lease_seat new lease b).out ≡ true) × (bytes_at new lease b ≡ bytes_at old lease b)

pub seat-kept : (old new : pool.PoolView) (lease : List ℕ) (b : ℕ) → pool.seat_at new.seats (get_or lease b 0) ≡ pool.seat_at old.seats (get_or lease b 0) → KeepsSeat old new lease b
seat-kept old new lease b e out = (ap (λ (v : pool.SeatView). v.out) e ∙ out, ap (λ (v : pool.SeatView). v.bytes) e)

-- one job, whose device, desk and buffers stay
pub job-stays : {L D : Type 0} (lay : LayoutGhosts L) (disk : DiskGhosts D) (old new : Array L D) → lay.shape new.layout ≡ lay.shape old.layout → new.pool.unit ≡ old.pool.unit → (job : Job D) → IsOut disk lay old job
    → ((here : Spot) (x : D) → spot_at (desk_at old.clients job.client) job.node ≡ Some here → IsAway old.devices here.device x → IsAway new.devices here.device x)
    → StaysAt (desk_at old.clients job.client) (desk_at new.clients job.client) job.node
    → ((b : ℕ) → Leaves (kind_at (desk_at old.clients job.client).run.graph job.node) (vertex_at (desk_at old.clients job.client).run.graph job.node).sources b → KeepsSeat old.pool new.pool (desk_at old.clients job.client).lease b)
    → IsOut disk lay new job
job-stays {D = D} lay disk old new shape unit job o away s seats =
    let y : Shape = lay.shape old.layout in
    let e : Desk = desk_at old.clients job.client in
    let e2 : Desk = desk_at new.clients job.client in
    let spot : spot_at e2 job.node ≡ spot_at e job.node = ap (λ (l : List (Option Spot)). get_or l job.node None) s.spots in
    let work = work-stays disk y old.devices new.devices old.pool new.pool e.run.graph e.lease unit (spot_at e job.node) (kind_at e.run.graph job.node) (vertex_at e.run.graph job.node).sources job.work job.sources.items
    away seats o.is.work in
    subst (λ (v : Shape). IsOutIn disk v new.clients new.devices new.pool job) (sym shape) (record {
      is = record {
        out = s.out;
        work = subst (λ (g : View). IsWork disk y new.devices new.pool g e2.lease (spot_at e2 job.node) (kind_at g job.node) (vertex_at g job.node).sources job.work job.sources.items) (sym s.graph)
            (subst (λ (l : List ℕ). IsWork disk y new.devices new.pool e.run.graph l (spot_at e2 job.node) (kind_at e.run.graph job.node) (vertex_at e.run.graph job.node).sources job.work job.sources.items) (sym s.lease)
            (subst (λ (o : Option Spot). IsWork disk y new.devices new.pool e.run.graph e.lease o (kind_at e.run.graph job.node) (vertex_at e.run.graph job.node).sources job.work job.sources.items) (sym spot) work));
      };
      room = o.room;
    })

-- and all of them, where all that is out stays
module _ {L D : Type 0} (lay : LayoutGhosts L) (disk : DiskGhosts D) (old new : Array L D) (shape : lay.shape new.layout ≡ lay.shape old.layout) (unit : new.pool.unit ≡ old.pool.unit)
    (away : (k : ℕ) (x : D) → IsAway old.devices k x → IsAway new.devices k x)
    (desks : (k n : ℕ) → IsOutOf (desk_at old.clients k) n → StaysAt (desk_at old.clients k) (desk_at new.clients k) n)
    (seats : (k n : ℕ) → IsOutOf (desk_at old.clients k) n → (b : ℕ) → Leaves (kind_at (desk_at old.clients k).run.graph n) (vertex_at (desk_at old.clients k).run.graph n).sources b → KeepsSeat old.pool new.pool (desk_at old.clients k).lease b) where
  pub out-stays : (job : Job D) → IsOut disk lay old job → IsOut disk lay new job
  out-stays job o = job-stays lay disk old new shape unit job o (λ here x is h. away here.device x h) (desks job.client job.node o.is.out) (seats job.client job.node o.is.out)

-- where a seat of a lease stays while no other than one client's lease changes, which has no node that is out
module _ {L D : Type 0} (lay : LayoutGhosts L) (disk : DiskGhosts D) (old : Array L D) (sound : IsSound lay disk old) where
  pub leaves-leased : (k n : ℕ) → IsOutOf (desk_at old.clients k) n → (b : ℕ) → Leaves (kind_at (desk_at old.clients k).run.graph n) (vertex_at (desk_at old.clients k).run.graph n).sources b → b < length (desk_at old.clients k).lease
  leaves-leased k n out b leaves =
      let d : Desk = desk_at old.clients k in
      let w = runs-well lay disk old k sound out.runs in
      let marks = out-below d.run.marks n out.mark in let many = w.marks in
      takes-leased (lay.shape old.layout) old.graphs.items old.pool d w n (omega (arith, marks, many)) b (leaves-takes d.run.graph n (kind_at d.run.graph n) refl b leaves)

  -- so all of its seats stay, if those do that are of no seat of one lease
  module _ (new : pool.PoolView) (c : ℕ) (lease : List ℕ) (calm : (n : ℕ) → IsOutOf (desk_at old.clients c) n → ⊥) (apart : (k : ℕ) → k ≢ c → (desk_at old.clients k).stage ≡ Runs → pool.AreApart (desk_at old.clients k).lease lease)
      (others : (k : ℕ) → ¬ Contains lease k → pool.seat_at new.seats k ≡ pool.seat_at old.pool.seats k) where
    pub seats-stay : (k n : ℕ) → IsOutOf (desk_at old.clients k) n → (b : ℕ) → Leaves (kind_at (desk_at old.clients k).run.graph n) (vertex_at (desk_at old.clients k).run.graph n).sources b → KeepsSeat old.pool new (desk_at old.clients k).lease b
    seats-stay k n out b leaves =
        let lt = leaves-leased k n out b leaves in
        let ne : k ≢ c = λ is. calm n (subst (λ (j : ℕ). IsOutOf (desk_at old.clients j) n) is out) in
        seat-kept old.pool new (desk_at old.clients k).lease b (others (get_or (desk_at old.clients k).lease b 0)
        (λ has. apart k ne out.runs b has.0 lt has.1 (sym has.2 ∙ first has.0 has.1)))
      where
        first : (i : ℕ) → i < length lease → get_or lease i (get_or (desk_at old.clients k).lease b 0) ≡ get_or lease i 0
        first i h = get_or_default lease i (get_or (desk_at old.clients k).lease b 0) 0 h
