-- A core of which no job is out, and that can do nothing, has nothing left to do.
use Rattle.std.proofs.Common.{◌≡◌, ◌≢◌, ◌≤◌, inl, inr, ℕ, List, length, refl, sym, ◌∙◌, ap, arith, Option, Some, None}
use Rattle.std.specs.Prelude.{◌+◌, ◌*◌}
use Rattle.blk_plain.specs.declared.op.Op.{Op}
use Rattle.blk_disk.specs.declared.disk.Disk.{Ghosts as DiskGhosts}
use Rattle.lay_core.specs.Layout.{Shape, data_units}
use Rattle.lay_core.specs.declared.layout.Layout.{Ghosts as LayoutGhosts}
use Rattle.eng_world.specs.declared.item.Event.TheVariants as may
use Rattle.eng_world.specs.declared.item.Item.{Item}
use Rattle.eng_world.specs.declared.item.Reply.{Reply}
use Rattle.eng_world.specs.World.{Running, Current, World, Nothing as Idles, Waits as IsWaiting, Runs as IsRunning}
use Rattle.eng_world.specs.Going.{NoneRuns}
use Rattle.eng_world.specs.Pool.{leased_by}
use Rattle.eng_world.proofs.Pooling.{over-none}
use Rattle.eng_rest.specs.Few.{Stands as GoesOn}
use Rattle.eng_rest.proofs.Waiting.{somebody}
use Rattle.eng_clients.specs.declared.stage.Stage.TheVariants.{Waits, Runs}
use Rattle.eng_state.specs.declared.array.Array.{Array}
use Rattle.eng_clients.specs.Desk.{Desk, desk_at}
use Rattle.eng_events.specs.Opened.{NoneOut}
use Rattle.eng_choice.specs.Picked.{IsResting, IsStuck}
use Rattle.eng_plan.specs.Asked.{stripes_by, lease_for}
use Rattle.eng_world.specs.Planning.{span_count}
use Rattle.std.proofs.Math.Nat.{min-le_left}
use Rattle.eng_state.specs.Serves.{Serves, CanTake}
use Rattle.eng_array.specs.Steady.{IsSteady}
use Rattle.eng_state.specs.Steps.{graphs_of}
use Rattle.eng_choice.proofs.Possible.{current-waits}
use Rattle.eng_choice.proofs.PossibleDoing.{possible-can}
use Rattle.eng_array.proofs.Promised.{library-promises}
use Rattle.eng_choice.proofs.Resting.{all-home}
use Rattle.eng_state.proofs.Shown.{shown-running, replies-shown}
use Rattle.eng_array.proofs.Buffers.{opening-items, made-up}
use Rattle.eng_array.proofs.SteadyPick.{steady-stands}
use Rattle.eng_array.proofs.TakeAlone.{take-alone}

-- an operation that doesn't run leases nothing
not-leased : (x : Current) → ((r : Running) → x ≡ IsRunning r → ⊥) → leased_by x ≡ 0
not-leased Idles none = refl
not-leased IsWaiting none = refl
not-leased (IsRunning r) none = absurd (none r refl)

module _ {L D : Type 0} (lay : LayoutGhosts L) (disk : DiskGhosts D) (core : Array L D) (steady : IsSteady lay disk core) where
  abbrev y : Shape
  y = lay.shape core.layout

  abbrev opening : World
  opening = steady.reached.opening

  abbrev now : World
  now = steady.reached.now

  -- ## The pool

  -- while no operation runs all buffers are free
  all-free : NoneRuns now → length core.pool.free ≡ 2048
  all-free none =
      let all = made-up lay disk core steady in
      let leases = over-none leased_by now 17 (λ c. not-leased (now.clients c).current (none c)) in
      let shown = steady.reached.shows.free in
      omega (arith, all, leases, shown)

  -- no operation wants more
  lease-fits : (op : Op) (file : Option ℕ) (d : Desk) → Serves core.graphs.items y d op file → lease_for y core.graphs.items op file ≤ 2048
  lease-fits op None d serves =
      min-le_left 2048 ((2 * data_units y + 2) * (stripes_by y op + 2 * span_count op))
  lease-fits op (Some n) d serves = steady.fit n

  -- ## Who waits

  not-running : NoneRuns now → (k : ℕ) → (desk_at core.clients k).stage ≢ Runs
  not-running none k runs = let s = shown-running disk.tells core.lost core.pool (desk_at core.clients k) (now.clients k) (steady.reached.shows.clients k) runs in none k _ s.1

  waiting-can : core.lost ≡ None → NoneRuns now → (c : ℕ) → (now.clients c).current ≡ IsWaiting → CanTake lay core c
  waiting-can lost none c is =
      let waits : (desk_at core.clients c).stage ≡ Waits = current-waits disk.tells core.pool (desk_at core.clients c) (now.clients c).current (desk_at core.clients c).stage (steady.reached.shows.clients c).current is in
      let serves = ((steady-stands lay disk core steady lost).serves c).busy (λ idle. let z = sym waits ∙ idle in let u : ⊥ = cc in u) in
      let fits = lease-fits serves.0 serves.1 (desk_at core.clients c) serves.2 in
      let free = all-free none in
      take-alone lay disk core c serves.0 serves.1 serves.2 steady.sound lost waits (not-running none) (omega (arith, fits, free))

  -- ## All is done

  module _ (home : NoneOut core.clients) (stuck : IsStuck lay core) where
    replied-by : core.lost ≡ None → GoesOn y (graphs_of core.graphs.items) now → (c : ℕ) → length (desk_at core.clients c).replies ≡ length (desk_at core.clients c).items
    replied-by lost (inl all) c =
        let a = all c in
        let r = ap (λ (l : List Reply). length l) (replies-shown disk core now steady.reached.shows lost c) in
        let i = ap (λ (l : List Item). length l) (steady.reached.shows.clients c).items in
        omega (arith, a, r, i)
    replied-by lost (inr (inl can)) c = absurd (stuck can.0 (possible-can lay disk core now steady.sound (steady-stands lay disk core steady lost) steady.reached.shows can.0 can.1))
    replied-by lost (inr (inr waits)) c = absurd (stuck (may.Take waits.1.0) (waiting-can lost waits.0 waits.1.0 waits.1.1))

    pub somebody-goes-on : IsResting core
    somebody-goes-on = record {
      replied = λ lost c.
          let lists = all-home lay disk core steady.sound home in
          let shown = steady.reached.shows.out in
          replied-by lost (somebody y steady.sound.layout (graphs_of core.graphs.items) (library-promises core.graphs.items) opening steady.reached.events now 17 steady.reached.is_opening (opening-items lay disk core steady) steady.reached.run (steady.reached.shows.lost ∙ lost) (omega (arith, lists, shown))) c;
      home = home;
    }
