-- A good write ends: one event of the world.
use Rattle.std.proofs.Common.{◌≡◌, ◌≢◌, ℕ, suc, ◌<◌, ◌+◌, ◌-◌, List, [], ◌∷◌, ◌++◌, length, get_or, subst, sym, ap, ◌∙◌, arith, inl, inr, refl, true, false, Option}
use Rattle.std.specs.Prelude.{slice_index_or}
use Rattle.std.proofs.lemmas.Bool.{cases_eq}
use Rattle.std.proofs.lemmas.List.{length-set}
use Rattle.blk_plain.specs.declared.op.Outcome.TheVariants.{Good}
use Rattle.blk_disk.specs.declared.disk.Call.{Call}
use Rattle.blk_disk.specs.declared.disk.Disk.{Ghosts as DiskGhosts}
use Rattle.blk_disk.specs.Disk as blk
use Rattle.buf_pool.specs.Pool as pool
use Rattle.lay_core.specs.Layout.{Shape}
use Rattle.lay_core.specs.declared.layout.Layout.{Ghosts as LayoutGhosts}
use Rattle.graph_mean.specs.declared.graph.Node.{Node}
use Rattle.graph_mean.specs.declared.graph.Node.TheVariants.{Wr, Cmt, Trm}
use Rattle.graph_mean.specs.declared.step.Status.TheVariants as status
use Rattle.graph_mean.specs.Graph.{View, kind_at, vertex_at, buf_at}
use Rattle.graph_mean.specs.Steps.{Covers, settled, phase_after}
use Rattle.eng_one.specs.Control.{mark_in, settled_in}
use Rattle.eng_cols.specs.declared.spot.Spot.{Spot}
use Rattle.eng_cols.specs.declared.spot.Loss.{Loss}
use Rattle.eng_cols.specs.Contents.{sector_at}
use Rattle.eng_world.specs.declared.item.Traced.TheVariants as event
use Rattle.eng_world.specs.World.{Running, Client, World, Runs as IsRunning}
use Rattle.eng_world.specs.Nodes.{Works, CanBeGood, made, EndContents}
use Rattle.eng_world.specs.Step.{Step}
use Rattle.eng_clients.specs.declared.stage.Stage.{Stage}
use Rattle.eng_state.specs.declared.array.Array.{Array}
use Rattle.eng_parts.specs.Shelf.{Seen, Shelved, seen_at, come_home, has_failed}
use Rattle.eng_clients.specs.Seats.{bytes_at}
use Rattle.eng_clients.specs.Desk.{Desk, desk_at, spot_at, with_ended}
use Rattle.eng_log.specs.Log.{noted}
use Rattle.eng_state.specs.Shows.{Shows, ShowsClient, ShowsCurrent, HoldBytes, running_as, device_byte, told_by, AreTold}
use Rattle.eng_state.specs.Sound.{IsSound, RunsWell}
use Rattle.eng_state.specs.Moves.{CameHome, id_of}
use Rattle.eng_state.specs.Steps.{graphs_of, Follows}
use Rattle.eng_state.specs.Back.{WriteBack}
use Rattle.eng_job.specs.Performed.{WritesThere}
use Rattle.eng_one.proofs.Waiting.{step-reached}
use Rattle.eng_one.proofs.Leading as leading
use Rattle.graph_mean.specs.Steps.{Do}
use Rattle.eng_ends.proofs.GoodSteps.{good-step}
use Rattle.eng_state.proofs.EndKeeps.{end-sound, call-ended}
use Rattle.eng_state.proofs.EndStays.{end-stays}
use Rattle.eng_state.specs.Out.{OthersStay}
use Rattle.eng_state.proofs.Leaving.{write-takes, takes-write}
use Rattle.eng_state.proofs.Put.{put, put-same, put-other, set-marked}
use Rattle.eng_state.proofs.Running.{runs_below}
use Rattle.eng_state.proofs.Shown.{shown-running, shown-one, replies-shown}
use Rattle.eng_state.proofs.Written.{written, written-here, written-else, writes-at, in-range}
use Rattle.eng_state.proofs.Homing.{home-here, home-else, tells-more}
use Rattle.eng_state.proofs.Putting.{put-here, put-else, current-other, covers-below, out-below, list-out, settled-same}
use Rattle.eng_clients.proofs.SeatsApart.{seats-differ}
use Rattle.eng_state.proofs.Handing.{hands-on}
use Rattle.eng_log.specs.Filled.{buffer_byte}
use Rattle.eng_world.proofs.Words.{call_of, Told}

-- the buffer that a read came back with is one of its lease's
pub write-below : {L D : Type 0} → (lay : LayoutGhosts L) (disk : DiskGhosts D) (old : Array L D) (c n : ℕ) (after : D) (first count : ℕ) (bytes : List ℕ) → IsSound lay disk old → (r : WriteBack lay disk old c n after first bytes count Good) → r.buf < length (desk_at old.clients c).lease
write-below lay disk old c n after first count bytes sound r =
    let well = (sound.well.each c (runs_below (lay.shape old.layout) old.graphs.items old.pool old.clients c sound.well r.out.runs)).runs r.out.runs in
    let marks = out-below (desk_at old.clients c).run.marks n r.out.mark in
    let e = well.marks in
    let bufs = well.bufs in let lt = (well.accepted.2.write n r.unit r.buf (omega (arith, e, marks)) r.kind).1.below in omega (arith, bufs, lt)

module _ {L D : Type 0} (lay : LayoutGhosts L) (disk : DiskGhosts D) (old mid : Array L D) (c n : ℕ) (after : D) (first count : ℕ) (bytes : List ℕ) (sound : IsSound lay disk old) (r : WriteBack lay disk old c n after first bytes count Good)
    (unfailed : has_failed old.devices r.at.device ≡ false) (h : CameHome old c n r.buf r.at after bytes Good mid) where
  abbrev y : Shape
  y = lay.shape old.layout

  abbrev d : Desk
  d = desk_at old.clients c

  abbrev now : Desk
  now = with_ended d n Good

  abbrev g : View
  g = d.run.graph

  abbrev seat : ℕ
  seat = get_or d.lease r.buf 0

  abbrev new : Array L D
  new = record mid { log = noted mid.log (event.Good (id_of old.clients c) n) }

  below17 : c < 17
  below17 = runs_below y old.graphs.items old.pool old.clients c sound.well r.out.runs

  below : c < length old.clients
  below = let all = sound.well.all in let e = below17 in omega (arith, all, e)

  well : RunsWell y old.graphs.items old.pool d
  well = (sound.well.each c below17).runs r.out.runs

  marks : n < length d.run.marks
  marks = out-below d.run.marks n r.out.mark

  node : n < length g.nodes
  node = let e = well.marks in let lt = marks in omega (arith, e, lt)

  in-own : r.buf < length d.lease
  in-own = write-below lay disk old c n after first count bytes sound r

  inside : seat < length old.pool.seats
  inside = (well.lease r.buf in-own).0

  there : WritesThere disk r.left after first bytes count Good
  there = r.writes.there r.are_out.room

  module _ (w : World) (s : Shows disk old w) where
    running : (buf : ℕ → ℕ → ℕ → ℕ) × ((w.clients c).current ≡ IsRunning (running_as d buf)) × HoldBytes disk.tells old.pool d buf
    running = shown-running disk.tells old.lost old.pool d (w.clients c) (s.clients c) r.out.runs

    abbrev was : Running
    was = running_as d running.0

    abbrev filled : ℕ → ℕ → ℕ → ℕ
    filled = made y w.contents was (kind_at g n) (spot_at d n) (vertex_at g n).sources

    abbrev next : Running
    next = running_as now filled

    abbrev call : Call
    call = call_of y g (kind_at g n) r.at true

    abbrev x : World
    x = record w {
      contents = written y g r.buf r.at (running.0 r.buf) w.contents;
      clients = put w.clients c (record (w.clients c) { current = IsRunning next });
      calls = put w.calls r.at.device (w.calls r.at.device ++ call ∷ []);
      out = w.out - 1;
    }

    some-out : suc (w.out - 1) ≡ w.out
    some-out = let a = s.out in let b = list-out old.clients c n old.lists below r.out.mark sound.jobs in omega (arith, a, b)

    phase-same : now.run.phase ≡ settled g (mark_in now.run.marks) d.run.phase
    phase-same = ap (λ (k : Node). settled_in now.run.marks (phase_after k d.run.phase)) r.kind ∙ settled-same g now.run.marks d.run.phase (length-set d.run.marks n status.Good ∙ well.marks)

    works : Works y c n w x
    works = record {
      was = was;
      next = next;
      finishes = record {
        runs = running.1;
        below = node;
        out = r.out.mark;
        plan = refl;
        node = set-marked d.run.marks n status.Good marks;
        fired_at = λ k ne. refl;
        told = subst (λ (o : Option Spot). Told y g (kind_at g n) o true w x) (sym r.spot) (put-same w.calls r.at.device _, λ k ne. put-other w.calls r.at.device _ k ne);
        out_less = some-out;
      };
      neither = subst (λ (k : Node). (k ≡ Cmt → ⊥) × (k ≡ Trm → ⊥)) (sym r.kind) ((λ e. let u : ⊥ = cc in u), (λ e. let u : ⊥ = cc in u));
      can = subst (λ (k : Node). CanBeGood k (spot_at d n) w) (sym r.kind) (subst (λ (o : Option Spot). CanBeGood (Wr r.unit r.buf) o w) (sym r.spot) (s.failed r.at.device ∙ unfailed));
      buf = λ b o k covers lt. refl;
      phase = phase-same;
      by = refl;
      contents = subst (λ (k : Node). EndContents y was k (spot_at d n) true w x) (sym r.kind) (subst (λ (o : Option Spot). EndContents y was (Wr r.unit r.buf) o true w x) (sym r.spot) (writes-at y g r.buf r.at (running.0 r.buf) w.contents w x refl refl));
      goes = record {
        items = ap (λ (q : Client). q.items) (put-same w.clients c _);
        replies = ap (λ (q : Client). q.replies) (put-same w.clients c _);
        handed = λ i b k. ap (λ (q : Client). q.handed i b k) (put-same w.clients c _);
        current = ap (λ (q : Client). q.current) (put-same w.clients c _);
        others = λ k ne. put-other w.clients c _ k ne;
      };
      columns = record { failed = λ a. refl; columns = refl; rebuilt = refl; lost = refl };
      blocks = record { blocks = λ b k. refl; history = refl };
      free = refl;
    }

    -- what the buffers hold now
    holds : HoldBytes disk.tells (pool.put old.pool seat bytes) now filled
    holds = λ told b o k covers lt. subst (λ (q : Node). made y w.contents was q (spot_at d n) (vertex_at g n).sources b o k ≡ buffer_byte g (bytes_at (pool.put old.pool seat bytes) d.lease b) b o k) (sym r.kind)
        (subst (λ (p : Option Spot). made y w.contents was (Wr r.unit r.buf) p (vertex_at g n).sources b o k ≡ buffer_byte g (bytes_at (pool.put old.pool seat bytes) d.lease b) b o k) (sym r.spot)
        (elim (cases_eq b r.buf) [
          | inl is ↦ running.2 told b o k covers lt ∙ (ap (λ (a : ℕ). buffer_byte g (bytes_at old.pool d.lease a) a o k) is
              ∙ (ap (λ (l : List ℕ). buffer_byte g l r.buf o k) (sym r.are_out.bytes ∙ sym (put-here old.pool seat bytes inside)) ∙ sym (ap (λ (a : ℕ). buffer_byte g (bytes_at (pool.put old.pool seat bytes) d.lease a) a o k) is)))
          | inr ne ↦ running.2 told b o k covers lt
              ∙ ap (λ (v : pool.SeatView). buffer_byte g v.bytes b o k) (sym (put-else old.pool seat bytes inside (get_or d.lease b 0) (λ e. ne (seats-differ old.pool d.lease well.lease b r.buf (in-lease b o covers) in-own e))))
        ]))
      where
        in-lease : (b o : ℕ) → Covers g b o → b < length d.lease
        in-lease b o covers = let lt = covers-below g b o covers in let bufs = well.bufs in omega (arith, lt, bufs)

    shows-now : ShowsClient disk.tells old.lost mid.pool now (record (w.clients c) { current = IsRunning next })
    shows-now = record {
      items = (s.clients c).items;
      replies = (s.clients c).replies;
      current = subst (λ (t : Stage). ShowsCurrent disk.tells mid.pool t now (IsRunning next)) (sym r.out.runs)
          (filled, refl, subst (λ (p : pool.PoolView). HoldBytes disk.tells p now filled) (sym h.pool) holds);
    }

    shows-other : (k : ℕ) → k ≢ c → ShowsClient disk.tells old.lost mid.pool (desk_at old.clients k) (w.clients k)
    shows-other k ne = record {
      items = (s.clients k).items;
      replies = (s.clients k).replies;
      current = subst (λ (p : pool.PoolView). ShowsCurrent disk.tells p (desk_at old.clients k).stage (desk_at old.clients k) (w.clients k).current) (sym h.pool)
          (current-other old.pool seat bytes inside disk.tells y old.graphs.items (desk_at old.clients k) (w.clients k).current (desk_at old.clients k).stage refl
          (λ runs. (sound.well.each k (runs_below y old.graphs.items old.pool old.clients k sound.well runs)).runs runs) (λ b lt e. sound.well.apart k c ne b r.buf lt in-own e) (s.clients k).current);
    }

    shows-new : Shows disk new x
    shows-new = record {
      contents = contents-new;
      failed = λ a. s.failed a ∙ sym (ap (λ (v : Shelved D). slice_index_or v.failed a false) h.devices);
      calls = calls-told;
      columns = s.columns ∙ sym (ap (λ v. v.states) h.cols);
      clients = subst (λ (l : Option Loss). (k : ℕ) → ShowsClient disk.tells l mid.pool (desk_at mid.clients k) (x.clients k)) (sym h.lost) (shown-one disk.tells old.lost mid.pool old.clients mid.clients w.clients c now (record (w.clients c) { current = IsRunning next }) below h.clients shows-other shows-now);
      free = s.free ∙ ap length (sym (ap (λ (p : pool.PoolView). p.free) h.pool));
      out = let a = s.out in let b = list-out old.clients c n old.lists below r.out.mark sound.jobs in let e = h.lists in omega (arith, a, b, e);
      rebuilt = s.rebuilt ∙ sym (ap (λ v. v.rebuilt) h.log);
      history = s.history ∙ sym (ap (λ v. v.history) h.log);
      lost = s.lost ∙ sym h.lost;
      handed = hands-on disk.tells old.log.handed _ w.clients c (record (w.clients c) { current = IsRunning next }) (ap (λ l. l.handed) h.log) refl refl s.handed;
    }
      where
        from-is : first ≡ sector_at y r.at (buf_at g r.buf).from
        from-is = r.are_out.first_is

        device-new : (m k : ℕ) → device_byte disk (seen_at mid.devices r.at.device) m k ≡ get_or (disk.sector after m) k 0
        device-new m k = ap (λ (v : Shelved D). device_byte disk (seen_at v r.at.device) m k) h.devices ∙ ap (λ (o : Option (Seen D)). device_byte disk o m k) (home-here old.devices r.at.device _ after r.are_out.device)

        device-old : (m k : ℕ) → device_byte disk (seen_at old.devices r.at.device) m k ≡ get_or (disk.sector r.left m) k 0
        device-old m k = ap (λ (o : Option (Seen D)). device_byte disk o m k) r.are_out.device

        contents-new : disk.tells → (a m k : ℕ) → k < 512 → x.contents a m k ≡ device_byte disk (seen_at mid.devices a) m k
        contents-new told a m k lt = elim (cases_eq a r.at.device) [
          | inl is ↦ subst (λ (j : ℕ). x.contents j m k ≡ device_byte disk (seen_at mid.devices j) m k) (sym is) (elim (in-range first count m) [
            | inl here ↦ written-here y g r.buf r.at (running.0 r.buf) w.contents m k (omega (arith, from-is, here.0)) (let e = r.are_out.count_is in omega (arith, from-is, e, here.1))
                ∙ (running.2 told r.buf (m - sector_at y r.at (buf_at g r.buf).from + (buf_at g r.buf).from) k (let e = r.are_out.count_is in (omega arith, omega (arith, from-is, e, here.0, here.1))) lt
                ∙ (ap (λ (l : List ℕ). get_or (blk.sector_at l (m - sector_at y r.at (buf_at g r.buf).from + (buf_at g r.buf).from - (buf_at g r.buf).from)) k 0) (sym r.are_out.bytes)
                ∙ (ap (λ (j : ℕ). get_or (blk.sector_at bytes j) k 0) (let e : m - sector_at y r.at (buf_at g r.buf).from + (buf_at g r.buf).from - (buf_at g r.buf).from ≡ m - first = omega (arith, from-is) in e)
                ∙ (sym (ap (λ (l : List ℕ). get_or l k 0) (there.bytes refl told (m - first) (omega (arith, here.0, here.1))))
                ∙ (ap (λ (j : ℕ). get_or (disk.sector after j) k 0) (let e : first + (m - first) ≡ m = omega (arith, here.0) in e) ∙ sym (device-new m k))))))
            | inr out ↦ written-else y g r.buf r.at (running.0 r.buf) w.contents r.at.device m k (λ e. let c = r.are_out.count_is in elim out [ inl lo ↦ omega (arith, from-is, lo, e.1) | inr hi ↦ omega (arith, from-is, hi, c, e.2) ])
                ∙ (s.contents told r.at.device m k lt ∙ (device-old m k ∙ (ap (λ (l : List ℕ). get_or l k 0) (sym (elim out [ inl lo ↦ there.before told m lo | inr hi ↦ there.behind told m hi ])) ∙ sym (device-new m k))))
          ])
          | inr ne ↦ written-else y g r.buf r.at (running.0 r.buf) w.contents a m k (λ e. ne e.0) ∙ (s.contents told a m k lt
              ∙ (ap (λ (o : Option (Seen D)). device_byte disk o m k) (sym (home-else old.devices r.at.device after a ne)) ∙ ap (λ (v : Shelved D). device_byte disk (seen_at v a) m k) (sym h.devices)))
        ]

        call-is : record { kind = 1; first = first; count = count; good = true } ≡ call
        call-is =
            subst (λ (q : Node). record { kind = 1; first = first; count = count; good = true } ≡ call_of y g q r.at true) (sym r.kind)
            (ap (λ (f : ℕ). let e : Call = record { kind = 1; first = f; count = count; good = true } in e) r.are_out.first_is ∙ ap (λ (m : ℕ). let e : Call = record { kind = 1; first = sector_at y r.at (buf_at g r.buf).from; count = m; good = true } in e) r.are_out.count_is)

        calls-told : (a : ℕ) → AreTold disk (told_by disk (seen_at mid.devices a)) (x.calls a)
        calls-told a = subst (λ (v : Shelved D). AreTold disk (told_by disk (seen_at v a)) (x.calls a)) (sym h.devices) (elim (cases_eq a r.at.device) [
          | inl is ↦ subst (λ (j : ℕ). AreTold disk (told_by disk (seen_at (come_home old.devices r.at.device after) j)) (x.calls j)) (sym is)
              (subst (λ (o : Option (Seen D)). AreTold disk (told_by disk o) (x.calls r.at.device)) (sym (home-here old.devices r.at.device _ after r.are_out.device))
              (subst (λ (l : List Call). AreTold disk (disk.calls after) l) (sym (put-same w.calls r.at.device _))
              (tells-more disk (disk.calls r.left) (disk.calls after) (w.calls r.at.device) call (subst (λ (q : Call). blk.Tells (disk.calls r.left) (disk.calls after) q) call-is there.calls.told)
              (subst (λ (o : Option (Seen D)). AreTold disk (told_by disk o) (w.calls r.at.device)) r.are_out.device (s.calls r.at.device)))))
          | inr ne ↦ subst (λ (o : Option (Seen D)). AreTold disk (told_by disk o) (x.calls a)) (sym (home-else old.devices r.at.device after a ne)) (subst (λ (l : List Call). AreTold disk (told_by disk (seen_at old.devices a)) l) (sym (put-other w.calls r.at.device _ a ne)) (s.calls a))
        ])

    steps : Step y (graphs_of old.graphs.items) (event.Good (id_of old.clients c) n) w x
    unfolding works
    steps = good-step y (graphs_of old.graphs.items) (id_of old.clients c) n w x works refl (λ none. ap length (replies-shown disk old w s (sym s.lost ∙ none) c))

  pub write-follows : Follows lay disk old (event.Good (id_of old.clients c) n) new
  write-follows w s = (x w s, shows-new w s, steps w s)

  pub write-sound : IsSound lay disk new
  write-sound = end-sound lay disk old new c n Good sound r.out
      (call-ended lay disk old mid c n r.buf r.at after r.left bytes Good h r.spot r.are_out.device there.calls.size (write-takes g n r.unit r.buf r.kind) (λ a t. takes-write g n r.unit r.buf a r.kind t) inside (noted mid.log (event.Good (id_of old.clients c) n)) mid.next)
      (step-reached g (Do n) d.run now.run well.reached (leading.end_leads d.run well.marks n Good node r.out.mark tt))

  pub write-stays : OthersStay disk lay c n old new
  write-stays = end-stays lay disk old new c n Good sound r.out
      (call-ended lay disk old mid c n r.buf r.at after r.left bytes Good h r.spot r.are_out.device there.calls.size (write-takes g n r.unit r.buf r.kind) (λ a t. takes-write g n r.unit r.buf a r.kind t) inside (noted mid.log (event.Good (id_of old.clients c) n)) mid.next)
