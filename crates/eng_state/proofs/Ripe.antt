-- What is so of a node that is ready: its buffers are of the lease, and what its guards are made of.
use Rattle.std.proofs.Common.{◌≡◌, ◌⊎◌, ℕ, ◌<◌, List, length, get_or, subst, sym, arith, inl, inr, refl, false}
use Rattle.std.specs.Prelude.{All, Contains}
use Rattle.std.proofs.lemmas.List.Elements.{Contains-get_or}
use Rattle.buf_pool.specs.Pool as pool
use Rattle.lay_core.specs.Layout.{Shape}
use Rattle.graph_mean.specs.declared.graph.Node.{Node}
use Rattle.graph_mean.specs.declared.graph.Node.TheVariants.{Xor, Cmt, Trm}
use Rattle.graph_mean.specs.Graph.{Held, kind_at, vertex_at}
use Rattle.graph_mean.specs.Refusals.{Makes, Uses}
use Rattle.eng_world.specs.Nodes.{MakesOrUses}
use Rattle.eng_clients.specs.Desk.{Desk, desk_at}
use Rattle.eng_clients.specs.Gathered.{AreInLease}
use Rattle.eng_clients.specs.Seats.{seat_of}
use Rattle.eng_state.specs.Sound.{IsSound, RunsWell}
use Rattle.eng_clients.specs.declared.stage.Stage.TheVariants.{Runs}
use Rattle.eng_state.specs.declared.array.Array.{Array}
use Rattle.blk_disk.specs.declared.disk.Disk.{Ghosts as DiskGhosts}
use Rattle.lay_core.specs.declared.layout.Layout.{Ghosts as LayoutGhosts}
use Rattle.eng_state.proofs.Running.{runs_below}

-- what is so of all elements is so of each
pub all-of : (P : ℕ → Type 0) (xs : List ℕ) (b : ℕ) → All P xs → Contains xs b → P b
all-of P xs b all h = subst P h.2 (all h.0 b h.1)

module _ (y : Shape) (graphs : List Held) (p : pool.PoolView) (d : Desk) (w : RunsWell y graphs p d) (n : ℕ) (below : n < length d.run.graph.nodes) where
  -- a buffer that a node takes is of the lease
  pub takes-leased : (b : ℕ) → MakesOrUses d.run.graph n b → b < length d.lease
  takes-leased b (inl makes) = let lt = w.accepted.2.makes_named n b below makes in let e = w.bufs in omega (arith, lt, e)
  takes-leased b (inr uses) = let lt = w.accepted.2.uses_named n b below uses in let e = w.bufs in omega (arith, lt, e)

  sums-use : (to b : ℕ) → kind_at d.run.graph n ≡ Xor to → Contains (vertex_at d.run.graph n).sources b → Uses (kind_at d.run.graph n) (vertex_at d.run.graph n).sources b
  sums-use to b kind h = subst (λ (k : Node). Uses k (vertex_at d.run.graph n).sources b) (sym kind) h

  pub sources-in : (to : ℕ) → kind_at d.run.graph n ≡ Xor to → AreInLease d.lease (vertex_at d.run.graph n).sources
  sources-in to kind = record {
    bufs = length d.run.graph.bufs;
    few = w.few_bufs;
    leased = w.bufs;
    below = λ k x lt. w.accepted.2.sources_named n (get_or (vertex_at d.run.graph n).sources k x) below (Contains-get_or (vertex_at d.run.graph n).sources k x lt);
  }

  -- ## Its buffers, by its kind

  abbrev IsIn : ℕ → Type 0
  IsIn b = (seat_of p d b).out ≡ false

  abbrev AllIn : Type 0
  AllIn = (b : ℕ) → MakesOrUses d.run.graph n b → IsIn b

  pub one-in : (b : ℕ) → ((c : ℕ) → MakesOrUses d.run.graph n c → c ≡ b) → IsIn b → AllIn
  one-in b only h = λ c t. subst IsIn (sym (only c t)) h

  pub sum-in : (to : ℕ) → kind_at d.run.graph n ≡ Xor to → IsIn to → All IsIn (vertex_at d.run.graph n).sources → AllIn
  sum-in to kind h all = λ c t. by c (subst (λ (k : Node). Makes k c ⊎ Uses k (vertex_at d.run.graph n).sources c) kind t)
    where
      by : (c : ℕ) → Makes (Xor to) c ⊎ Uses (Xor to) (vertex_at d.run.graph n).sources c → IsIn c
      by c (inl is) = subst IsIn is h
      by c (inr uses) = all-of IsIn (vertex_at d.run.graph n).sources c all uses

  pub sum-takes : (to : ℕ) → kind_at d.run.graph n ≡ Xor to → MakesOrUses d.run.graph n to
  sum-takes to kind = inl (subst (λ (k : Node). Makes k to) (sym kind) refl)

  pub in-sources : (to : ℕ) → kind_at d.run.graph n ≡ Xor to → AllIn → All IsIn (vertex_at d.run.graph n).sources
  in-sources to kind all = λ k x lt. all (get_or (vertex_at d.run.graph n).sources k x) (inr (sums-use to (get_or (vertex_at d.run.graph n).sources k x) kind (Contains-get_or (vertex_at d.run.graph n).sources k x lt)))

  -- commit and terminator take none
  pub commit-in : kind_at d.run.graph n ≡ Cmt → AllIn
  commit-in kind = λ c t. elim (subst (λ (k : Node). Makes k c ⊎ Uses k (vertex_at d.run.graph n).sources c) kind t) [ inl z ↦ absurd z | inr z ↦ absurd z ]

  pub end-in : kind_at d.run.graph n ≡ Trm → AllIn
  end-in kind = λ c t. elim (subst (λ (k : Node). Makes k c ⊎ Uses k (vertex_at d.run.graph n).sources c) kind t) [ inl z ↦ absurd z | inr z ↦ absurd z ]

-- ## In the core

module _ {L D : Type 0} (lay : LayoutGhosts L) (disk : DiskGhosts D) (core : Array L D) (c : ℕ) (sound : IsSound lay disk core) (runs : (desk_at core.clients c).stage ≡ Runs) where
  pub runs-below17 : c < 17
  runs-below17 = runs_below (lay.shape core.layout) core.graphs.items core.pool core.clients c sound.well runs

  pub runs-below : c < length core.clients
  runs-below = let h = runs-below17 in let all = sound.well.all in omega (arith, h, all)

  pub runs-well : RunsWell (lay.shape core.layout) core.graphs.items core.pool (desk_at core.clients c)
  runs-well = (sound.well.each c runs-below17).runs runs

  pub in-lease : (n b : ℕ) → n < length (desk_at core.clients c).run.graph.nodes → MakesOrUses (desk_at core.clients c).run.graph n b → b < length (desk_at core.clients c).lease
  in-lease n b below takes = takes-leased (lay.shape core.layout) core.graphs.items core.pool (desk_at core.clients c) runs-well n below b takes
