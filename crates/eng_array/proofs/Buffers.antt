-- An operation that can be taken finds its buffers there.
use Rattle.std.proofs.Common.{◌≡◌, inl, inr, ℕ, zero, suc, ◌<◌, ◌≤◌, ◌+◌, List, length, refl, sym, ◌∙◌, ap, subst, arith, Option, Some, None, slice_get}
use Rattle.std.specs.Prelude.{min}
use Rattle.std.proofs.Math.Nat.{le-min}
use Rattle.std.proofs.lemmas.Bool.{cases_eq, cases_lt}
use Rattle.blk_plain.specs.declared.op.Op.{Op}
use Rattle.blk_disk.specs.declared.disk.Disk.{Ghosts as DiskGhosts}
use Rattle.lay_core.specs.Layout.{Shape}
use Rattle.lay_core.specs.declared.layout.Layout.{Ghosts as LayoutGhosts}
use Rattle.graph_mean.specs.Graph.{Held}
use Rattle.eng_world.specs.declared.item.Item.{Item}
use Rattle.eng_world.specs.declared.item.Item.TheVariants as item
use Rattle.eng_world.specs.World.{Running, Current, World, Nothing as Idles, Waits as IsWaiting, Runs as IsRunning}
use Rattle.eng_world.specs.Pool.{leased_by, over, leased, MakeUp, HaveItems}
use Rattle.eng_world.proofs.Continuing.{run-continues}
use Rattle.eng_world.proofs.Pooling.{opening-pool, run-pool}
use Rattle.eng_rest.specs.Left.{below}
use Rattle.eng_clients.specs.declared.stage.Stage.{Stage}
use Rattle.eng_state.specs.declared.array.Array.{Array}
use Rattle.eng_clients.specs.Desk.{desk_at, item_at}
use Rattle.eng_plan.specs.Asked.{IsInside, lease_for}
use Rattle.eng_plan.specs.Pooled.{row_leases, own_leases, LeasesAtMost}
use Rattle.eng_plan.proofs.Pooling.{row-no-more}
use Rattle.eng_state.specs.Serves.{Stands, CanTake, HasThere}
use Rattle.eng_state.specs.Shows.{ShowsCurrent}
use Rattle.eng_state.specs.Steps.{graphs_of}
use Rattle.eng_array.specs.Steady.{IsSteady}
use Rattle.eng_state.proofs.Shown.{runs-shown}
use Rattle.eng_array.proofs.Steady.{item-among, shown-items}
use Rattle.eng_array.proofs.SteadyPick.{steady-stands}
use Rattle.eng_array.proofs.Stocked.{wanted}

-- ## What all lease together

-- it is within what each may
pub over-within : (w : World) (most : ℕ → ℕ) (n : ℕ) → ((k : ℕ) → k < n → leased_by (w.clients k).current ≤ most k) → over leased_by w n ≤ below most n
unfolding over below
over-within w most zero each = omega arith
over-within w most (suc n) each =
    let a = each n (omega arith) in
    let b = over-within w most n (λ k l. each k (omega (arith, l))) in
    omega (arith, a, b)

-- and where one leases nothing, its most is left
pub over-without : (w : World) (most : ℕ → ℕ) (n c : ℕ) → c < n → leased_by (w.clients c).current ≡ 0 → ((k : ℕ) → k < n → leased_by (w.clients k).current ≤ most k) → over leased_by w n + most c ≤ below most n
unfolding over below
over-without w most zero c l none each = absurd (omega (arith, l))
over-without w most (suc n) c l none each = elim (cases_eq c n) [
  | inl here ↦
      let a : leased_by (w.clients n).current ≡ 0 = subst (λ (j : ℕ). leased_by (w.clients j).current ≡ 0) here none in
      let m : most c ≡ most n = ap most here in
      let b = over-within w most n (λ k lt. each k (omega (arith, lt))) in
      omega (arith, a, m, b)
  | inr ne ↦
      let a = each n (omega arith) in
      let b = over-without w most n c (omega (arith, l, ne)) none (λ k lt. each k (omega (arith, lt))) in
      omega (arith, a, b)
]

over-one : (w : World) (n : ℕ) → over leased_by w (n + 1) ≡ leased_by (w.clients n).current + over leased_by w n
unfolding over
over-one w n = let e : n + 1 ≡ suc n = omega arith in ap (over leased_by w) e

-- so many are there where all lease no more than is there, or where all 2,048 are
there-are : (n free seats leases most : ℕ) → free + leases ≡ 2048 → n ≤ free → n + leases ≤ most → min most 2048 ≤ seats → n + 2048 ≤ free + seats
there-are n free seats leases most all fits within there = elim (cases_lt 2048 most) [
  | inl more ↦
      let m : 2048 ≤ min most 2048 = le-min (omega (arith, more)) (omega arith) in
      omega (arith, m, there, fits)
  | inr few ↦
      let m : most ≤ min most 2048 = le-min (omega arith) few in
      omega (arith, m, there, all, within)
]

module _ {L D : Type 0} (lay : LayoutGhosts L) (disk : DiskGhosts D) (core : Array L D) (steady : IsSteady lay disk core) where
  abbrev y : Shape
  y = lay.shape core.layout

  abbrev gs : List Held
  gs = core.graphs.items

  abbrev opening : World
  opening = steady.reached.opening

  abbrev now : World
  now = steady.reached.now

  -- ## The pool

  -- only seventeen clients had items as the core was opened
  pub opening-items : HaveItems opening 17
  opening-items = (
    omega arith,
    λ c l. elim ((run-continues y (graphs_of gs) opening steady.reached.events now steady.reached.run).items c) [
      | inl same ↦ sym same ∙ (shown-items lay disk core now steady.sound steady.reached.shows).1 c l
      | inr last ↦ last.1
    ],
  )

  -- free and leased buffers are 2,048
  pub made-up : now.free + leased now 17 ≡ 2048
  made-up =
      let h : MakeUp opening.free now 17 = (run-pool y (graphs_of gs) opening.free 17 opening steady.reached.events now (opening-pool y opening 17 steady.reached.is_opening opening-items) steady.reached.run).made_up in
      let whole = steady.reached.all_free in
      omega (arith, h, whole)

  -- ## What a client leases

  module _ (lost : core.lost ≡ None) where
    stands : Stands lay core
    stands = steady-stands lay disk core steady lost

    -- no more than each of its items does at most
    leases-most : (k m : ℕ) → ((n : ℕ) (i : Item) → slice_get (desk_at core.clients k).items n ≡ Some i → LeasesAtMost y gs m i) → (x : Current) → (now.clients k).current ≡ x → leased_by x ≤ m
    leases-most k m each Idles is = omega arith
    leases-most k m each IsWaiting is = omega arith
    leases-most k m each (IsRunning r) is =
        let h = runs-shown disk core now steady.reached.shows k r is in
        let s = (stands.serves k).busy (λ idle. let z = sym h.0 ∙ idle in let u : ⊥ = cc in u) in
        let p = (steady.serving k).runs h.0 s.0 s.1 s.2.item in
        let long : length (desk_at core.clients k).lease ≡ lease_for y gs s.0 s.1 = p.lease in
        let same : r.plan.lease ≡ length (desk_at core.clients k).lease = ap (λ (q : Running). q.plan.lease) h.2 in
        let few : lease_for y gs s.0 s.1 ≤ m = each (length (desk_at core.clients k).replies) (item.Run s.0 s.1) s.2.item s.2.inside in
        omega (arith, long, same, few)

    abbrev row : ℕ → ℕ
    row k = row_leases y gs (desk_at core.clients k).items

    row-most : (k : ℕ) → leased_by (now.clients k).current ≤ row k
    row-most k = leases-most k (row k) (λ n i at. row-no-more y steady.sound.layout gs (desk_at core.clients k).items n i at) (now.clients k).current refl

    own-most : leased_by (now.clients 16).current ≤ own_leases y
    own-most = leases-most 16 (own_leases y) steady.stock.own (now.clients 16).current refl

    -- ## One that can be taken

    module _ (c : ℕ) (can : CanTake lay core c) (op : Op) (file : Option ℕ) (at : item_at (desk_at core.clients c) ≡ Some (item.Run op file)) where
      abbrev lease : ℕ
      lease = lease_for y gs op file

      none-yet : leased_by (now.clients c).current ≡ 0
      none-yet =
          let s : (now.clients c).current ≡ IsWaiting = subst (λ (t : Stage). ShowsCurrent disk.tells core.pool t (desk_at core.clients c) (now.clients c).current) can.waits (steady.reached.shows.clients c).current in
          ap leased_by s

      inside : IsInside y op
      inside =
          let s = (stands.serves c).busy (λ idle. let z = sym can.waits ∙ idle in let u : ⊥ = cc in u) in
          let z : Some (item.Run s.0 s.1) ≡ Some (item.Run op file) = sym s.2.item ∙ at in
          let e : s.0 ≡ op = cc in
          subst (IsInside y) e s.2.inside

      -- beside what the others lease there is as much left as it may lease
      in-rows : c < 16 → lease + leased now 17 ≤ wanted y gs core.clients
      in-rows lt =
          let few : lease ≤ row c = row-no-more y steady.sound.layout gs (desk_at core.clients c).items (length (desk_at core.clients c).replies) (item.Run op file) at inside in
          let left = over-without now row 16 c lt none-yet (λ k l. row-most k) in
          let one : leased now 17 ≡ leased_by (now.clients 16).current + over leased_by now 16 = over-one now 16 in
          let own = own-most in
          omega (arith, few, left, one, own)

      in-own : c ≡ 16 → lease + leased now 17 ≤ wanted y gs core.clients
      in-own is =
          let few : lease ≤ own_leases y = steady.stock.own (length (desk_at core.clients c).replies) (item.Run op file) (ap (λ (k : ℕ). slice_get (desk_at core.clients k).items (length (desk_at core.clients c).replies)) (sym is) ∙ at) inside in
          let none : leased_by (now.clients 16).current ≡ 0 = subst (λ (k : ℕ). leased_by (now.clients k).current ≡ 0) is none-yet in
          let rows = over-within now row 16 (λ k l. row-most k) in
          let one : leased now 17 ≡ leased_by (now.clients 16).current + over leased_by now 16 = over-one now 16 in
          omega (arith, few, none, rows, one)

      within : lease + leased now 17 ≤ wanted y gs core.clients
      within = elim (cases_lt c 16) [
        | inl lt ↦ in-rows lt
        | inr ge ↦ let among = item-among lay disk core steady.sound c (item.Run op file) at in in-own (omega (arith, ge, among))
      ]

      one-there : lease + 2048 ≤ length core.pool.free + length core.pool.seats
      one-there =
          let all = made-up in
          let free = steady.reached.shows.free in
          let fits = can.fits op file at in
          there-are lease (length core.pool.free) (length core.pool.seats) (leased now 17) (wanted y gs core.clients) (omega (arith, all, free)) fits within steady.stock.there

    pub has-there : (c : ℕ) → CanTake lay core c → HasThere lay core c
    has-there c can op file at = one-there c can op file at
