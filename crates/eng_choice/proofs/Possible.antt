-- What is possible in the worlds that a core shows is what it can do.
use Rattle.std.proofs.Common.{◌≡◌, ◌≢◌, ℕ, List, length, subst, sym, ap, ◌∙◌, arith, refl, Bool, true, false, Option, Some, None}
use Rattle.std.specs.Prelude.{IsSome, slice_get}
use Rattle.blk_disk.specs.declared.disk.Disk.{Ghosts as DiskGhosts}
use Rattle.buf_pool.specs.Pool as pool
use Rattle.lay_core.specs.Layout.{Shape}
use Rattle.lay_core.specs.declared.layout.Layout.{Ghosts as LayoutGhosts}
use Rattle.graph_mean.specs.declared.graph.Node.{Node}
use Rattle.graph_mean.specs.declared.graph.Node.TheVariants.{Rd, Wr, Xor, Cmt, Trm}
use Rattle.graph_mean.specs.declared.step.Phase.TheVariants as phase
use Rattle.graph_mean.specs.declared.step.Status.TheVariants as status
use Rattle.graph_mean.specs.Graph.{kind_at}
use Rattle.graph_mean.specs.Steps.{IsCall, IsReady, stripe_of}
use Rattle.eng_one.specs.Control.{mark_of}
use Rattle.eng_cols.specs.declared.spot.Spot.{Spot}
use Rattle.eng_cols.specs.Cols.{ColumnState, HasDevice}
use Rattle.eng_cols.proofs.Spots.{seat-device}
use Rattle.eng_world.specs.declared.item.Item.{Item}
use Rattle.eng_world.specs.declared.item.Reply.{Reply}
use Rattle.eng_world.specs.World.{Plan, Running, Current, World, RunsAs, item_now, Nothing as Idles, Waits as IsWaiting, Runs as IsRunning}
use Rattle.eng_world.specs.Nodes.{CanFire as MayFire, CanSkip as MaySkip, MakesOrUses, place_of}
use Rattle.eng_world.specs.Serving.{CanBegin as MayBegin, CanBack as MayBack}
use Rattle.eng_clients.specs.declared.stage.Stage.{Stage}
use Rattle.eng_clients.specs.declared.stage.Stage.TheVariants.{Nothing, Waits, Runs}
use Rattle.eng_state.specs.declared.array.Array.{Array}
use Rattle.eng_parts.specs.Shelf.{Seen, seen_at, IsHome}
use Rattle.eng_clients.specs.Seats.{seat_of}
use Rattle.eng_clients.specs.Desk.{Desk, desk_at, item_at, plan_of, spot_at}
use Rattle.eng_state.specs.Shows.{Shows, ShowsClient, ShowsCurrent, HoldBytes, running_as}
use Rattle.eng_state.specs.Sound.{IsSound, RunsWell}
use Rattle.eng_state.specs.Can.{CanFire, CanSkip, place_now}
use Rattle.eng_state.specs.Beginning.{CanBegin}
use Rattle.eng_state.specs.Serves.{CanBack}
use Rattle.eng_state.proofs.Placing.{read-seat, write-seat}
use Rattle.eng_state.proofs.Ripe.{takes-leased}
use Rattle.eng_state.proofs.Running.{runs_below}
use Rattle.eng_state.proofs.Shown.{runs-shown, shown-running, unlost}

-- ## What a client is shown to do

current-nothing : (tells : Type 0) (p : pool.PoolView) (d : Desk) (now : Current) (t : Stage) → ShowsCurrent tells p t d now → now ≡ Idles → t ≡ Nothing
current-nothing tells p d now Nothing s is = refl
current-nothing tells p d now Waits s is = let z : Idles ≡ IsWaiting = sym is ∙ s in absurd (let u : ⊥ = cc in u)
current-nothing tells p d now Runs s is = let z : Idles ≡ IsRunning (running_as d s.0) = sym is ∙ s.1 in absurd (let u : ⊥ = cc in u)

pub current-waits : (tells : Type 0) (p : pool.PoolView) (d : Desk) (now : Current) (t : Stage) → ShowsCurrent tells p t d now → now ≡ IsWaiting → t ≡ Waits
current-waits tells p d now Nothing s is = let z : Idles ≡ IsWaiting = sym s ∙ is in absurd (let u : ⊥ = cc in u)
current-waits tells p d now Waits s is = refl
current-waits tells p d now Runs s is = let z : IsWaiting ≡ IsRunning (running_as d s.0) = sym is ∙ s.1 in absurd (let u : ⊥ = cc in u)

shown-idle : (tells : Type 0) (p : pool.PoolView) (d : Desk) (now : Current) → d.stage ≡ Nothing → ShowsCurrent tells p d.stage d now → now ≡ Idles
shown-idle tells p d now is s = subst (λ (t : Stage). ShowsCurrent tells p t d now) is s

-- what stands somewhere stands on a device of its column
place-device : (y : Shape) (cols : List ColumnState) (p : Plan) (k : Node) (at : Spot) → place_of y cols p k ≡ Some at → HasDevice cols at.column at.device
place-device y cols p (Rd i b) at h = seat-device y cols (p.stripe (stripe_of p.graph b)) i at (read-seat y cols p i b at h)
place-device y cols p (Wr i b) at h = seat-device y cols (p.stripe (stripe_of p.graph b)) i at (write-seat y cols p i b at h)
place-device y cols p (Xor to) at h = let z : None ≡ Some at = h in absurd (let u : ⊥ = cc in u)
place-device y cols p Cmt at h = let z : None ≡ Some at = h in absurd (let u : ⊥ = cc in u)
place-device y cols p Trm at h = let z : None ≡ Some at = h in absurd (let u : ⊥ = cc in u)

module _ {L D : Type 0} (lay : LayoutGhosts L) (disk : DiskGhosts D) (core : Array L D) (w : World) (sound : IsSound lay disk core) (s : Shows disk core w) (not_lost : core.lost ≡ None) where
  abbrev y : Shape
  y = lay.shape core.layout

  shown : (k : ℕ) → ShowsClient disk.tells None core.pool (desk_at core.clients k) (w.clients k)
  shown k = unlost disk core w s not_lost k

  pub item-shown : (k : ℕ) → item_now (w.clients k) ≡ item_at (desk_at core.clients k)
  item-shown k = ap (λ (l : List Item). slice_get l (length (w.clients k).replies)) (shown k).items ∙ ap (λ (l : List Reply). slice_get (desk_at core.clients k).items (length l)) (shown k).replies

  pub running-of : (k : ℕ) → (desk_at core.clients k).stage ≡ Runs → (buf : ℕ → ℕ → ℕ → ℕ) × ((w.clients k).current ≡ IsRunning (running_as (desk_at core.clients k) buf)) × HoldBytes disk.tells core.pool (desk_at core.clients k) buf
  running-of k runs = shown-running disk.tells core.lost core.pool (desk_at core.clients k) (w.clients k) (s.clients k) runs

  pub well-of : (k : ℕ) → (desk_at core.clients k).stage ≡ Runs → RunsWell y core.graphs.items core.pool (desk_at core.clients k)
  well-of k runs = (sound.well.each k (runs_below y core.graphs.items core.pool core.clients k sound.well runs)).runs runs

  -- ## Begin and back

  pub begin-can : (c : ℕ) → MayBegin c w → CanBegin core c
  begin-can c h = record {
    not_lost = not_lost;
    nothing = current-nothing disk.tells core.pool (desk_at core.clients c) (w.clients c).current (desk_at core.clients c).stage (s.clients c).current h.nothing;
    item = h.item;
    next = sym (item-shown c) ∙ h.next;
  }

  pub can-begin : (c : ℕ) → CanBegin core c → MayBegin c w
  can-begin c h = record {
    nothing = shown-idle disk.tells core.pool (desk_at core.clients c) (w.clients c).current h.nothing (s.clients c).current;
    item = h.item;
    next = item-shown c ∙ h.next;
  }

  pub back-can : (c : ℕ) → MayBack c w → CanBack lay core c
  back-can c h =
      let q = runs-shown disk core w s c h.was h.runs in
      record { not_lost = not_lost; runs = q.0; undone = subst (λ (r : Running). r.phase ≡ phase.Undone) q.2 h.undone }

  pub can-back : (c : ℕ) → CanBack lay core c → MayBack c w
  can-back c h = let q = running-of c h.runs in record { was = running_as (desk_at core.clients c) q.0; runs = q.1; undone = h.undone }

  module _ (c n : ℕ) where
    abbrev d : Desk
    d = desk_at core.clients c

    abbrev place : Option Spot
    place = place_now lay core c n

    -- ## Skip

    pub skip-can : MaySkip y c n w → CanSkip lay core c n
    skip-can h =
        let q = runs-shown disk core w s c h.was h.runs in
        let write : kind_at d.run.graph n ≡ Wr h.unit h.source = subst (λ (r : Running). kind_at r.plan.graph n ≡ Wr h.unit h.source) q.2 h.write in
        record {
          not_lost = not_lost;
          runs = q.0;
          ready = subst (λ (r : Running). IsReady r.plan.graph r.node r.phase n) q.2 h.ready;
          after = subst (λ (r : Running). r.phase ≡ phase.After) q.2 h.after;
          unit = h.unit;
          buf = h.source;
          write = write;
          nowhere = ap (place_of y core.cols.states (plan_of d)) write
              ∙ (ap (λ (cols : List ColumnState). place_of y cols (plan_of d) (Wr h.unit h.source)) (sym s.columns)
              ∙ subst (λ (r : Running). place_of y w.columns r.plan (Wr h.unit h.source) ≡ None) q.2 h.nowhere);
        }

    pub can-skip : CanSkip lay core c n → MaySkip y c n w
    can-skip h =
        let q = running-of c h.runs in
        record {
          was = running_as d q.0;
          runs = q.1;
          ready = h.ready;
          unit = h.unit;
          source = h.buf;
          write = h.write;
          after = h.after;
          nowhere = ap (λ (cols : List ColumnState). place_of y cols (plan_of d) (Wr h.unit h.buf)) s.columns ∙ (ap (place_of y core.cols.states (plan_of d)) (sym h.write) ∙ h.nowhere);
        }

    -- ## Fire

    module _ (h : MayFire y c n w) where
      stands : (d.stage ≡ Runs) × (buf : ℕ → ℕ → ℕ → ℕ) × (h.was ≡ running_as d buf)
      stands = runs-shown disk core w s c h.was h.runs

      place-is : place_of y w.columns h.was.plan (kind_at h.was.plan.graph n) ≡ place
      place-is = ap (λ (r : Running). place_of y w.columns r.plan (kind_at r.plan.graph n)) stands.2 ∙ ap (λ (cols : List ColumnState). place_of y cols (plan_of d) (kind_at d.run.graph n)) s.columns

      by-out : (at : Spot) → place ≡ Some at → (o : Bool) (x : D) → seen_at core.devices at.device ≡ Some (record { out = o; device = x }) → IsHome core.devices at.device
      by-out at is false x seen = (x, seen)
      by-out at is true x seen =
          let held = sound.devices.held at.device x seen in
          let k = held.0 in let m = held.1 in let away = held.2 in
          let q = running-of k away.out.runs in
          absurd (h.device_home at k m (running_as (desk_at core.clients k) q.0) away.at (place-is ∙ is) q.1 away.out.mark away.spot away.is)

      home-of : (at : Spot) → place ≡ Some at → IsHome core.devices at.device
      home-of at is =
          let there = sound.seated.there at.column at.device (place-device y core.cols.states (plan_of d) (kind_at d.run.graph n) at is) in
          by-out at is there.0.out there.0.device there.1

      ready-of : IsReady d.run.graph (mark_of d.run) d.run.phase n
      ready-of = subst (λ (r : Running). IsReady r.plan.graph r.node r.phase n) stands.2 h.ready

      seat-in : (b : ℕ) → MakesOrUses d.run.graph n b → (o : Bool) → (seat_of core.pool d b).out ≡ o → o ≡ false
      seat-in b takes false is = refl
      seat-in b takes true is =
          let well = well-of c stands.0 in
          let held = sound.seats.held c b stands.0 (takes-leased y core.graphs.items core.pool d well n ready-of.below b takes) is in
          absurd (h.buffers_home held.0 b (subst (λ (r : Running). r.node held.0 ≡ status.Out) (sym stands.2) held.1.mark) (subst (λ (r : Running). MakesOrUses r.plan.graph n b) (sym stands.2) takes) (subst (λ (r : Running). MakesOrUses r.plan.graph held.0 b) (sym stands.2) held.2))

      pub fire-can : CanFire lay core c n
      fire-can = record {
        not_lost = not_lost;
        runs = stands.0;
        ready = ready-of;
        placed = λ call. subst (λ (o : Option Spot). IsSome o) place-is (h.placed (subst (λ (r : Running). IsCall (kind_at r.plan.graph n)) (sym stands.2) call));
        device_home = home-of;
        buffers_home = λ b takes. seat-in b takes (seat_of core.pool d b).out refl;
        few = let a = s.out in let b = h.few in omega (arith, a, b);
      }

    module _ (can : CanFire lay core c n) where
      device-home : (at : Spot) (k m : ℕ) (r : Running) (to : Spot) → place_of y w.columns (plan_of d) (kind_at d.run.graph n) ≡ Some at → RunsAs w k r → r.node m ≡ status.Out → r.fired_at m ≡ Some to → to.device ≢ at.device
      device-home at k m r to is runs out spot same =
          let q = runs-shown disk core w s k r runs in
          let out2 : mark_of (desk_at core.clients k).run m ≡ status.Out = subst (λ (q : Running). q.node m ≡ status.Out) q.2 out in
          let spot2 : spot_at (desk_at core.clients k) m ≡ Some to = subst (λ (q : Running). q.fired_at m ≡ Some to) q.2 spot in
          let away = sound.devices.away k m at.device (record { out = record { runs = q.0; mark = out2 }; at = to; spot = spot2; is = same }) in
          let home = can.device_home at (subst (λ (cols : List ColumnState). place_of y cols (plan_of d) (kind_at d.run.graph n) ≡ Some at) s.columns is) in
          let z : Some (record { out = true; device = away.0 }) ≡ Some (record { out = false; device = home.0 }) = sym away.1 ∙ home.1 in
          absurd (differ (ap out_in z))
        where
          out_in : Option (Seen D) → Bool
          out_in None = false
          out_in (Some a) = a.out

          differ : true ≡ false → ⊥
          differ t = cc

      pub can-fire : MayFire y c n w
      can-fire =
          let q = running-of c can.runs in
          record {
            was = running_as d q.0;
            runs = q.1;
            ready = can.ready;
            placed = subst (λ (cols : List ColumnState). IsCall (kind_at d.run.graph n) → IsSome (place_of y cols (plan_of d) (kind_at d.run.graph n))) (sym s.columns) can.placed;
            device_home = device-home;
            buffers_home = λ m b out mine theirs.
                let away = sound.seats.away c m b (record { runs = can.runs; mark = out }) theirs in
                let home = can.buffers_home b mine in
                let t : true ≡ false = sym away ∙ home in
                let u : ⊥ = cc in u;
            few = let a = s.out in let b = can.few in omega (arith, a, b);
          }
