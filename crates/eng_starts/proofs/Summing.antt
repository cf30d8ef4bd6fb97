-- What leaves with an exclusive-or.
use Rattle.std.proofs.Common.{◌≡◌, ℕ, ◌<◌, ◌⊎◌, List, [], ◌∷◌, length, get_or, bit_xor, subst, sym, ap, ◌∙◌, arith, inl, inr, refl, Bool, true, false}
use Rattle.std.specs.Prelude.{slice_index, All, Contains}
use Rattle.std.specs.List.{AllByRecursion}
use Rattle.std.proofs.lemmas.Bool.{eqb-true}
use Rattle.std.proofs.lemmas.Cmp.{nat_eq_equiv}
use Rattle.std.proofs.lemmas.List.Elements.{Contains-get_or}
use Rattle.std.proofs.lemmas.Map.Views.{Contains-from_any, list_any-from_Contains}
use Rattle.blk_disk.specs.declared.disk.Disk.{Ghosts as DiskGhosts}
use Rattle.buf_pool.specs.Pool as pool
use Rattle.lay_core.specs.declared.layout.Layout.{Ghosts as LayoutGhosts}
use Rattle.graph_mean.specs.declared.graph.Node.{Node}
use Rattle.graph_mean.specs.declared.graph.Node.TheVariants.{Xor}
use Rattle.graph_mean.specs.Graph.{View, kind_at, vertex_at, buf_at}
use Rattle.graph_mean.specs.Refusals.{Makes, Uses}
use Rattle.graph_mean.specs.Sums.{xor_by}
use Rattle.graph_mean.proofs.Formal.{follows-lt}
use Rattle.eng_world.specs.Nodes.{MakesOrUses}
use Rattle.eng_job.specs.declared.job.Source.{Source}
use Rattle.eng_state.specs.declared.array.Array.{Array}
use Rattle.eng_clients.specs.Seats.{seat_of, bytes_at, BuffersLeft}
use Rattle.eng_clients.specs.Desk.{Desk, desk_at}
use Rattle.eng_state.specs.Can.{CanFire}
use Rattle.eng_state.specs.Sound.{IsSound, RunsWell}
use Rattle.eng_state.specs.Moves.{IsTaken}
use Rattle.eng_clients.specs.Gathered.{AreInLease, IsNamed, Gathered}
use Rattle.eng_state.specs.Out.{AreSources}
use Rattle.eng_state.proofs.Running.{runs_below}
use Rattle.eng_clients.proofs.SeatsApart.{seats-differ}
use Rattle.eng_clients.proofs.Pools.{one-left, here}
use Rattle.eng_clients.proofs.Gathering.{left-twice}

-- sums and lists whose terms are the same
xor_by-same : (f g : ℕ → ℕ) (xs : List ℕ) → ((b : ℕ) → f b ≡ g b) → xor_by f xs ≡ xor_by g xs
xor_by-same f g [] e = refl
xor_by-same f g (x ∷ xs) e = ap (λ (a : ℕ). bit_xor a (xor_by f xs)) (e x) ∙ ap (bit_xor (g x)) (xor_by-same f g xs e)

bytes-same : (f g : ℕ → List ℕ) (from : List Source) → ((b : ℕ) → f b ≡ g b) → AllByRecursion (λ (s : Source). s.buffer ≡ f s.at) from → AllByRecursion (λ (s : Source). s.buffer ≡ g s.at) from
bytes-same f g [] e h = h
bytes-same f g (s ∷ ss) e h = (h.0 ∙ e s.at, bytes-same f g ss e h.1)

module _ {L D : Type 0} (lay : LayoutGhosts L) (disk : DiskGhosts D) (old : Array L D) (c n to : ℕ) (sound : IsSound lay disk old) (can : CanFire lay old c n) (kind : kind_at (desk_at old.clients c).run.graph n ≡ Xor to) where
  abbrev d : Desk
  d = desk_at old.clients c

  abbrev g : View
  g = d.run.graph

  abbrev sources : List ℕ
  sources = (vertex_at g n).sources

  pub below17 : c < 17
  below17 = runs_below (lay.shape old.layout) old.graphs.items old.pool old.clients c sound.well can.runs

  pub well : RunsWell (lay.shape old.layout) old.graphs.items old.pool d
  well = (sound.well.each c below17).runs can.runs

  makes : Makes (kind_at g n) to
  makes = subst (λ (k : Node). Makes k to) (sym kind) refl

  uses : (b : ℕ) → Contains sources b → Uses (kind_at g n) sources b
  uses b h = subst (λ (k : Node). Uses k sources b) (sym kind) h

  pub to-below : to < length g.bufs
  to-below = well.accepted.2.makes_named n to can.ready.below makes

  pub to-leased : to < length d.lease
  to-leased = let lt = to-below in let e = well.bufs in omega (arith, lt, e)

  pub named-in : AreInLease d.lease sources
  named-in = record {
    bufs = length g.bufs;
    few = well.few_bufs;
    leased = well.bufs;
    below = λ k x lt. well.accepted.2.sources_named n (get_or sources k x) can.ready.below (Contains-get_or sources k x lt);
  }

  pub homes : All (λ b. (seat_of old.pool d b).out ≡ false) sources
  homes = λ k x lt. can.buffers_home (get_or sources k x) (inr (uses (get_or sources k x) (Contains-get_or sources k x lt)))

  -- the target is no source
  apart : Contains sources to → ⊥
  apart h = elim (well.accepted.2.made n to can.ready.below (uses to h)) [
    | inl fresh ↦ well.accepted.2.is_new n to fresh.0 fresh.2 can.ready.below makes
    | inr m ↦ let same = well.accepted.2.made_once n m.0 to can.ready.below m.1 makes m.2 in
        let lt = follows-lt g d.task _ well.accepted.0 well.accepted.1 well.accepted.2 n m.0 m.3 in omega (arith, same, lt)
  ]

  module _ (mid : pool.PoolView) (from : List Source) (h : Gathered old.pool d.lease sources mid from) where
    pub mid-leased : pool.IsLease mid d.lease
    mid-leased i lt = let e = h.pool.seats in let m = (well.lease i lt).0 in (omega (arith, e, m), h.pool.owner (get_or d.lease i 0) ∙ (well.lease i lt).1)

    pub to-home : (seat_of mid d to).out ≡ false
    to-home = home-if (seat_of mid d to).out (λ out. elim ((h.pool.out (get_or d.lease to 0)).0 out) [
      | inl was ↦ let z : false ≡ true = sym (can.buffers_home to (inl makes)) ∙ was in let u : ⊥ = cc in u
      | inr k ↦ let in_list = Contains-from_any eqb-true k.0 sources k.1 in
          let lt = well.accepted.2.sources_named n k.0 can.ready.below in_list in let e = well.bufs in
          apart (subst (λ (b : ℕ). Contains sources b) (seats-differ old.pool d.lease well.lease k.0 to (omega (arith, lt, e)) to-leased k.2) in_list)
    ])
      where
        home-if : (b : Bool) → (b ≡ true → ⊥) → b ≡ false
        home-if true f = absurd (f refl)
        home-if false f = refl

    -- the seats that are out now are those of the node
    pub both-left : BuffersLeft old.pool (IsTaken d n) (pool.taken mid (get_or d.lease to 0))
    both-left = left-twice old.pool mid (pool.taken mid (get_or d.lease to 0)) (IsNamed d.lease sources) (λ k. k ≡ get_or d.lease to 0) (IsTaken d n) h.pool
        (one-left mid (get_or d.lease to 0) (mid-leased to to-leased).0 (λ k. k ≡ get_or d.lease to 0) refl (λ j e. e))
        (λ k. (
          λ t. split k t.0 t.1 t.2,
          λ s. elim s [
            | inl m ↦ (m.0, inr (uses m.0 (Contains-from_any eqb-true m.0 sources m.1)), m.2)
            | inr e ↦ (to, inl makes, sym e)
          ],
        ))
      where
        split : (k b : ℕ) → MakesOrUses g n b → get_or d.lease b 0 ≡ k → IsNamed d.lease sources k ⊎ (k ≡ get_or d.lease to 0)
        split k b t e = elim t [
          | inl m ↦ let q : to ≡ b = subst (λ (a : Node). Makes a b) kind m in inr (sym e ∙ sym (ap (λ (a : ℕ). get_or d.lease a 0) q))
          | inr u ↦ inl (b, list_any-from_Contains nat_eq_equiv b sources (subst (λ (a : Node). Uses a sources b) kind u), e)
        ]

    pub are-sources : (target : List ℕ) (count : ℕ) → target ≡ bytes_at mid d.lease to → length target ≡ mid.unit → count ≡ (buf_at g to).count → AreSources disk (pool.taken mid (get_or d.lease to 0)) g d.lease to sources target from count
    are-sources target count is long count_is =
        let same : (b : ℕ) → bytes_at old.pool d.lease b ≡ bytes_at (pool.taken mid (get_or d.lease to 0)) d.lease b = λ b. sym (both-left.bytes (get_or d.lease b 0)) in
        record {
          seat = ap (λ (v : pool.SeatView). v.out) (here mid (get_or d.lease to 0) (mid-leased to to-leased).0);
          is = is ∙ (h.pool.bytes (get_or d.lease to 0) ∙ same to);
          long = long;
          count_is = count_is;
          seats = λ b k. (both-left.out (get_or d.lease b 0)).1 (inr (b, inr (uses b (Contains-from_any eqb-true b sources k)), refl));
          bytes = bytes-same (bytes_at old.pool d.lease) (bytes_at (pool.taken mid (get_or d.lease to 0)) d.lease) from same h.bytes;
          longs = subst (λ (u : ℕ). AllByRecursion (λ (s : Source). length s.buffer ≡ u) from) (sym h.pool.unit) h.long;
          all = h.all;
          once = h.once;
          sum = λ k. h.sum k ∙ xor_by-same (λ b. slice_index (bytes_at old.pool d.lease b) k) (λ b. slice_index (bytes_at (pool.taken mid (get_or d.lease to 0)) d.lease b) k) sources (λ b. ap (λ (l : List ℕ). slice_index l k) (same b));
        }

  -- the same along the calls: a list leaves, then the sources, then the target
  module _ (one two : Array L D) (from : List Source) (e1 : one ≡ record old { lists = one.lists }) (h1 : Gathered one.pool (desk_at one.clients c).lease (vertex_at (desk_at one.clients c).run.graph n).sources two.pool from) (e2 : two ≡ record one { pool = two.pool }) where
    got : Gathered old.pool d.lease sources two.pool from
    got = subst (λ (s : Array L D). Gathered s.pool (desk_at s.clients c).lease (vertex_at (desk_at s.clients c).run.graph n).sources two.pool from) e1 h1

    same-desk : desk_at two.clients c ≡ d
    same-desk = ap (λ (s : Array L D). desk_at s.clients c) e2 ∙ ap (λ (s : Array L D). desk_at s.clients c) e1

    pub target-lease : pool.IsLease two.pool (desk_at two.clients c).lease
    target-lease = subst (λ (a : Desk). pool.IsLease two.pool a.lease) (sym same-desk) (mid-leased two.pool from got)

    pub target-buf : to < length (desk_at two.clients c).lease
    target-buf = subst (λ (a : Desk). to < length a.lease) (sym same-desk) to-leased

    pub target-home : (seat_of two.pool (desk_at two.clients c) to).out ≡ false
    target-home = subst (λ (a : Desk). (seat_of two.pool a to).out ≡ false) (sym same-desk) (to-home two.pool from got)

    module _ (end : Array L D) (e3 : end ≡ record two { pool = pool.taken two.pool (get_or (desk_at two.clients c).lease to 0) }) where
      same-pool : end.pool ≡ pool.taken two.pool (get_or d.lease to 0)
      same-pool = ap (λ (s : Array L D). s.pool) e3 ∙ ap (λ (a : Desk). pool.taken two.pool (get_or a.lease to 0)) same-desk

      pub out-pool : BuffersLeft old.pool (IsTaken d n) end.pool
      out-pool = subst (λ (p : pool.PoolView). BuffersLeft old.pool (IsTaken d n) p) (sym same-pool) (both-left two.pool from got)

      pub out-sources : (target : List ℕ) (count : ℕ) → target ≡ bytes_at two.pool (desk_at two.clients c).lease to → length target ≡ two.pool.unit → count ≡ (buf_at g to).count → AreSources disk end.pool g d.lease to sources target from count
      out-sources target count is long count_is = subst (λ (p : pool.PoolView). AreSources disk p g d.lease to sources target from count) (sym same-pool)
          (are-sources two.pool from got target count (is ∙ ap (λ (a : Desk). bytes_at two.pool a.lease to) same-desk) long count_is)
