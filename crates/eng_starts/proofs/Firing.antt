-- A node is fired: one event of the world.
use Rattle.std.proofs.Common.{◌≡◌, ◌≢◌, ℕ, suc, ◌<◌, ◌≤◌, List, length, get_or, subst, sym, ap, ◌∙◌, arith, refl, Bool, true, false, Option, Some, None}
use Rattle.std.specs.Prelude.{IsSome, slice_index_or, vec_capacity}
use Rattle.eng_job.specs.declared.job.Job.{Job}
use Rattle.eng_state.specs.Out.{IsOut, IsJobOf, IsWork}
use Rattle.std.proofs.lemmas.List.{get_or-set_same, get_or-set_other}
use Rattle.blk_disk.specs.declared.disk.Disk.{Ghosts as DiskGhosts}
use Rattle.lay_core.specs.Layout.{Shape}
use Rattle.lay_core.specs.declared.layout.Layout.{Ghosts as LayoutGhosts}
use Rattle.graph_mean.specs.declared.step.Status.TheVariants as status
use Rattle.graph_mean.specs.Graph.{kind_at, vertex_at}
use Rattle.graph_mean.specs.Steps.{IsCall}
use Rattle.eng_one.specs.Control.{mark_of}
use Rattle.eng_cols.specs.declared.spot.Spot.{Spot}
use Rattle.eng_cols.specs.declared.spot.Loss.{Loss}
use Rattle.eng_cols.specs.Cols.{ColumnState}
use Rattle.eng_world.specs.declared.item.Traced.TheVariants as event
use Rattle.eng_world.specs.World.{Running, Client, World, RunsAs, Runs as IsRunning}
use Rattle.eng_world.specs.Nodes.{CanFire as MayFire, Fires, MakesOrUses, place_of}
use Rattle.eng_world.specs.Step.{StepBy, Step}
use Rattle.eng_clients.specs.declared.stage.Stage.{Stage}
use Rattle.eng_state.specs.declared.array.Array.{Array}
use Rattle.eng_parts.specs.Shelf.{Seen}
use Rattle.eng_clients.specs.Desk.{Desk, desk_at, plan_of, spot_at, with_fired}
use Rattle.eng_state.specs.Shows.{Shows, ShowsClient, ShowsCurrent, HoldBytes, running_as, device_byte, told_by, AreTold}
use Rattle.eng_state.specs.Sound.{IsSound, RunsWell}
use Rattle.eng_state.specs.Can.{CanFire, place_now}
use Rattle.eng_state.specs.Moves.{Fired, id_of}
use Rattle.eng_state.specs.Steps.{graphs_of, Follows}
use Rattle.eng_state.proofs.Put.{put, put-same, put-other, set-marked}
use Rattle.eng_state.proofs.Running.{runs_below}
use Rattle.eng_state.proofs.Shown.{shown-running, runs-shown, shown-put, desk-set, replies-shown}
use Rattle.eng_state.proofs.Leaving.{device-left, failed-left}
use Rattle.blk_disk.specs.declared.disk.Call.{Call}
use Rattle.eng_state.proofs.Handing.{hands-on}
use Rattle.eng_log.specs.Filled.{buffer_byte}

module _ {L D : Type 0} (lay : LayoutGhosts L) (disk : DiskGhosts D) (old new : Array L D) (c n : ℕ) (sound : IsSound lay disk old) (can : CanFire lay old c n) (f : Fired lay old c n new) where
  abbrev y : Shape
  y = lay.shape old.layout

  abbrev d : Desk
  d = desk_at old.clients c

  abbrev place : Option Spot
  place = place_now lay old c n

  abbrev now : Desk
  now = with_fired d n place

  below17 : c < 17
  below17 = runs_below y old.graphs.items old.pool old.clients c sound.well can.runs

  below : c < length old.clients
  below = let all = sound.well.all in let h = below17 in omega (arith, all, h)

  well : RunsWell y old.graphs.items old.pool d
  well = (sound.well.each c below17).runs can.runs

  marks-below : n < length d.run.marks
  marks-below = let e = well.marks in let h = can.ready.below in omega (arith, e, h)

  spots-below : n < length d.spots
  spots-below = let e = (sound.well.each c below17).spots in let h = can.ready.below in let few2 = well.few in omega (arith, e, h, few2)

  module _ (w : World) (s : Shows disk old w) where
    running : (buf : ℕ → ℕ → ℕ → ℕ) × ((w.clients c).current ≡ IsRunning (running_as d buf)) × HoldBytes disk.tells old.pool d buf
    running = shown-running disk.tells old.lost old.pool d (w.clients c) (s.clients c) can.runs

    abbrev was : Running
    was = running_as d running.0

    abbrev next : Running
    next = running_as now running.0

    abbrev x : World
    x = record w { clients = put w.clients c (record (w.clients c) { current = IsRunning next }); out = suc w.out }

    few : w.out < 32
    few = let a = s.out in let b = can.few in omega (arith, a, b)

    device-home : (at : Spot) (k m : ℕ) (r : Running) (to : Spot) → place_of y w.columns (plan_of d) (kind_at d.run.graph n) ≡ Some at → RunsAs w k r → r.node m ≡ status.Out → r.fired_at m ≡ Some to → to.device ≢ at.device
    device-home at k m r to is runs out spot same =
        let shown = runs-shown disk old w s k r runs in
        let out2 : mark_of (desk_at old.clients k).run m ≡ status.Out = subst (λ (q : Running). q.node m ≡ status.Out) shown.2 out in
        let spot2 : spot_at (desk_at old.clients k) m ≡ Some to = subst (λ (q : Running). q.fired_at m ≡ Some to) shown.2 spot in
        let away = sound.devices.away k m at.device (record { out = record { runs = shown.0; mark = out2 }; at = to; spot = spot2; is = same }) in
        let home = can.device_home at (subst (λ (cols : List ColumnState). place_of y cols (plan_of d) (kind_at d.run.graph n) ≡ Some at) s.columns is) in
        let z : Some (record { out = true; device = away.0 }) ≡ Some (record { out = false; device = home.0 }) = sym away.1 ∙ home.1 in
        let t : true ≡ false = ap (λ (o : Option (Seen D)). out_in o) z in
        absurd (let u : ⊥ = cc in u)
      where
        out_in : Option (Seen D) → Bool
        out_in None = false
        out_in (Some a) = a.out

    buffers-home : (m b : ℕ) → mark_of d.run m ≡ status.Out → MakesOrUses d.run.graph n b → MakesOrUses d.run.graph m b → ⊥
    buffers-home m b out mine theirs =
        let away = sound.seats.away c m b (record { runs = can.runs; mark = out }) theirs in
        let home = can.buffers_home b mine in
        let t : true ≡ false = sym away ∙ home in
        let u : ⊥ = cc in u

    abbrev may : MayFire y c n w
    may = record {
      was = was;
      runs = running.1;
      ready = can.ready;
      placed = subst (λ (cols : List ColumnState). IsCall (kind_at d.run.graph n) → IsSome (place_of y cols (plan_of d) (kind_at d.run.graph n))) (sym s.columns) can.placed;
      device_home = device-home;
      buffers_home = buffers-home;
      few = few;
    }

    fires : Fires y c n w x
    fires = record {
      can = may;
      next = next;
      plan = refl;
      node = set-marked d.run.marks n status.Out marks-below;
      buf = λ b o k. refl;
      phase = refl;
      fired_at = get_or-set_same d.spots n place None spots-below ∙ ap (λ (cols : List ColumnState). place_of y cols (plan_of d) (kind_at d.run.graph n)) (sym s.columns);
      fired_others = λ k ne. get_or-set_other d.spots n k place None ne;
      by = refl;
      goes = record {
        items = ap (λ (q : Client). q.items) (put-same w.clients c _);
        replies = ap (λ (q : Client). q.replies) (put-same w.clients c _);
        handed = λ i b k. ap (λ (q : Client). q.handed i b k) (put-same w.clients c _);
        current = ap (λ (q : Client). q.current) (put-same w.clients c _);
        others = λ k ne. put-other w.clients c _ k ne;
      };
      only = record {
        devices = record { contents = λ a b k. refl; calls = λ a. refl };
        columns = record { failed = λ a. refl; columns = refl; rebuilt = refl; lost = refl };
        blocks = record { blocks = λ b k. refl; history = refl };
      };
      free = refl;
      out = refl;
    }

    shows-now : ShowsClient disk.tells old.lost new.pool now (record (w.clients c) { current = IsRunning next })
    shows-now = record {
      items = (s.clients c).items;
      replies = (s.clients c).replies;
      current = subst (λ (t : Stage). ShowsCurrent disk.tells new.pool t now (IsRunning next)) (sym can.runs)
          (running.0, refl, λ told b o k covers h. running.2 told b o k covers h ∙ ap (λ (bytes : List ℕ). buffer_byte d.run.graph bytes b o k) (sym (f.pool.bytes (get_or d.lease b 0))));
    }

    shows-clients : (k : ℕ) → ShowsClient disk.tells old.lost new.pool (desk_at new.clients k) (x.clients k)
    shows-clients = shown-put disk.tells old.lost old.pool new.pool old.clients new.clients w.clients c now (record (w.clients c) { current = IsRunning next }) below f.clients f.pool.bytes s.clients shows-now

    shows-new : Shows disk new x
    shows-new = record {
      contents = λ told a m k h. s.contents told a m k h ∙ sym (device-left old.devices new.devices place f.devices (λ o. device_byte disk o m k) (λ a. refl) a);
      failed = λ a. s.failed a ∙ sym (ap (λ (l : List Bool). slice_index_or l a false) (failed-left old.devices new.devices place f.devices));
      calls = λ a. subst (λ (o : Option (List Call)). AreTold disk o (w.calls a)) (sym (device-left old.devices new.devices place f.devices (told_by disk) (λ a. refl) a)) (s.calls a);
      columns = s.columns ∙ sym (ap (λ v. v.states) f.cols);
      clients = subst (λ (l : Option Loss). (k : ℕ) → ShowsClient disk.tells l new.pool (desk_at new.clients k) (x.clients k)) (sym f.lost) shows-clients;
      free = s.free ∙ ap length (sym f.pool.free);
      out = let a = s.out in let b = f.lists in omega (arith, a, b);
      rebuilt = s.rebuilt ∙ sym (ap (λ v. v.rebuilt) f.log);
      history = s.history ∙ sym (ap (λ v. v.history) f.log);
      lost = s.lost ∙ sym f.lost;
      handed = hands-on disk.tells old.log.handed _ w.clients c (record (w.clients c) { current = IsRunning next }) (ap (λ l. l.handed) f.log) refl refl s.handed;
    }

    steps : Step y (graphs_of old.graphs.items) (event.Fire (id_of old.clients c) n) w x
    steps = subst (λ (l : Option Loss). StepBy y (graphs_of old.graphs.items) l (event.Fire (id_of old.clients c) n) w x) (sym (s.lost ∙ can.not_lost)) (ap length (replies-shown disk old w s can.not_lost c), fires)

  pub fire-follows : Follows lay disk old (event.Fire (id_of old.clients c) n) new
  fire-follows w s = (x w s, shows-new w s, steps w s)

  -- the job is out, and is as it left
  pub fire-out : (job : Job D) → job.client ≡ c → job.node ≡ n → IsWork disk y new.devices new.pool d.run.graph d.lease place (kind_at d.run.graph n) (vertex_at d.run.graph n).sources job.work job.sources.items → 2048 ≤ vec_capacity job.sources → IsOut disk lay new job
  fire-out job client node work room =
      let desk : desk_at new.clients c ≡ now = ap (λ (l : List Desk). desk_at l c) f.clients ∙ desk-set old.clients c now below in
      let IsHere : ℕ → ℕ → Type 0 = λ k m. IsJobOf disk y new.devices new.pool (desk_at new.clients k) m job.work job.sources.items in
      let here : IsHere c n = subst (λ (a : Desk). IsJobOf disk y new.devices new.pool a n job.work job.sources.items) (sym desk) (record {
        out = record { runs = can.runs; mark = get_or-set_same d.run.marks n status.Out status.Idle marks-below };
        work = subst (λ (o : Option Spot). IsWork disk y new.devices new.pool d.run.graph d.lease o (kind_at d.run.graph n) (vertex_at d.run.graph n).sources job.work job.sources.items) (sym (get_or-set_same d.spots n place None spots-below)) work;
      }) in
      record {
        is = subst (λ (v : Shape). IsJobOf disk v new.devices new.pool (desk_at new.clients job.client) job.node job.work job.sources.items) (sym (ap lay.shape f.layout))
            (subst (λ (k : ℕ). IsHere k job.node) (sym client) (subst (λ (m : ℕ). IsHere c m) (sym node) here));
        room = room;
      }
