-- A commit or a terminator comes home once the array is lost: nothing is replied, committed or given back.
use Rattle.std.proofs.Common.{◌≡◌, ℕ, suc, ◌<◌, ◌-◌, ◌⊎◌, length, subst, sym, ap, ◌∙◌, arith, inl, inr, refl, true, false, Option, Some, None}
use Rattle.std.specs.Prelude.{slice_index_or}
use Rattle.blk_plain.specs.declared.op.Outcome.TheVariants.{Good}
use Rattle.blk_disk.specs.declared.disk.Disk.{Ghosts as DiskGhosts}
use Rattle.buf_pool.specs.Pool as pool
use Rattle.lay_core.specs.Layout.{Shape}
use Rattle.lay_core.specs.declared.layout.Layout.{Ghosts as LayoutGhosts}
use Rattle.graph_mean.specs.declared.graph.Node.{Node}
use Rattle.graph_mean.specs.declared.graph.Node.TheVariants.{Cmt, Trm}
use Rattle.graph_mean.specs.declared.step.Status.TheVariants as status
use Rattle.graph_mean.specs.Graph.{View, kind_at, vertex_at}
use Rattle.graph_mean.specs.Refusals.{Makes, Uses}
use Rattle.graph_mean.specs.Steps.{Do, IsCall}
use Rattle.eng_one.proofs.Waiting.{step-reached}
use Rattle.eng_one.proofs.Leading as leading
use Rattle.eng_cols.specs.declared.spot.Spot.{Spot}
use Rattle.eng_cols.specs.declared.spot.Loss.{Loss}
use Rattle.eng_world.specs.declared.item.Traced.TheVariants as event
use Rattle.eng_world.specs.World.{Running, Client, World, Runs as IsRunning}
use Rattle.eng_world.specs.Nodes.{MakesOrUses, CanBeGood, EndContents}
use Rattle.eng_world.specs.Step.{LostGood, StepBy, Step}
use Rattle.eng_clients.specs.declared.stage.Stage.{Stage}
use Rattle.eng_state.specs.declared.array.Array.{Array}
use Rattle.eng_parts.specs.Shelf.{Shelved, seen_at}
use Rattle.eng_clients.specs.Desk.{Desk, desk_at, spot_at, with_ended}
use Rattle.eng_log.specs.Log.{noted}
use Rattle.eng_state.specs.Shows.{Shows, ShowsClient, ShowsCurrent, HoldBytes, running_as, device_byte, told_by, AreTold}
use Rattle.eng_state.specs.Sound.{IsSound, IsOutOf, RunsWell}
use Rattle.eng_state.specs.Moves.{CamePlain, id_of}
use Rattle.eng_state.specs.Steps.{graphs_of, Follows}
use Rattle.eng_state.proofs.Handing.{hands-on}
use Rattle.eng_state.proofs.EndKeeps.{end-sound, plain-ended}
use Rattle.eng_state.proofs.EndStays.{end-stays}
use Rattle.eng_state.specs.Out.{OthersStay}
use Rattle.eng_state.proofs.Put.{put, put-same, put-other, set-marked}
use Rattle.eng_state.proofs.Running.{runs_below}
use Rattle.eng_state.proofs.Shown.{shown-running, shown-put}
use Rattle.eng_state.proofs.Putting.{out-below, list-out}
use Rattle.eng_world.proofs.Words.{Told}

module _ {L D : Type 0} (lay : LayoutGhosts L) (disk : DiskGhosts D) (old mid : Array L D) (c n : ℕ) (loss : Loss) (sound : IsSound lay disk old) (is_lost : old.lost ≡ Some loss) (o : IsOutOf (desk_at old.clients c) n)
    (kind : (kind_at (desk_at old.clients c).run.graph n ≡ Cmt) ⊎ (kind_at (desk_at old.clients c).run.graph n ≡ Trm)) (h : CamePlain old c n Good mid) where
  abbrev y : Shape
  y = lay.shape old.layout

  abbrev d : Desk
  d = desk_at old.clients c

  abbrev now : Desk
  now = with_ended d n Good

  abbrev g : View
  g = d.run.graph

  abbrev new : Array L D
  new = record mid { log = noted mid.log (event.Good (id_of old.clients c) n) }

  -- what is so of a commit and of a terminator
  either : (P : Node → Type 0) → P Cmt → P Trm → P (kind_at g n)
  either P commit end = elim kind [ inl e ↦ subst P (sym e) commit | inr e ↦ subst P (sym e) end ]

  below17 : c < 17
  below17 = runs_below y old.graphs.items old.pool old.clients c sound.well o.runs

  below : c < length old.clients
  below = let all = sound.well.all in let e = below17 in omega (arith, all, e)

  well : RunsWell y old.graphs.items old.pool d
  well = (sound.well.each c below17).runs o.runs

  marks : n < length d.run.marks
  marks = out-below d.run.marks n o.mark

  node : n < length g.nodes
  node = let e = well.marks in let lt = marks in omega (arith, e, lt)

  spot : spot_at d n ≡ None
  spot = sound.devices.unplaced c n o (either (λ (k : Node). IsCall k → ⊥) (λ e. e) (λ e. e))

  takes-none : (b : ℕ) → MakesOrUses g n b → ⊥
  takes-none b = either (λ (k : Node). Makes k b ⊎ Uses k (vertex_at g n).sources b → ⊥) (λ t. elim t [ inl e ↦ e | inr e ↦ e ]) (λ t. elim t [ inl e ↦ e | inr e ↦ e ])

  module _ (w : World) (s : Shows disk old w) where
    running : (buf : ℕ → ℕ → ℕ → ℕ) × ((w.clients c).current ≡ IsRunning (running_as d buf)) × HoldBytes disk.tells old.pool d buf
    running = shown-running disk.tells old.lost old.pool d (w.clients c) (s.clients c) o.runs

    abbrev was : Running
    was = running_as d running.0

    abbrev next : Running
    next = running_as now running.0

    abbrev x : World
    x = record w {
      clients = put w.clients c (record (w.clients c) { current = IsRunning next });
      out = w.out - 1;
    }

    some-out : suc (w.out - 1) ≡ w.out
    some-out = let a = s.out in let b = list-out old.clients c n old.lists below o.mark sound.jobs in omega (arith, a, b)

    lost-good : LostGood y c n w x
    lost-good = record {
      was = was;
      can = either (λ (k : Node). CanBeGood k (spot_at d n) w) tt tt;
      home = record {
        next = next;
        answer = true;
        answered = refl;
        finishes = record {
          runs = running.1;
          below = node;
          out = o.mark;
          plan = refl;
          node = set-marked d.run.marks n status.Good marks;
          fired_at = λ k ne. refl;
          told = subst (λ (p : Option Spot). Told y g (kind_at g n) p true w x) (sym spot) (λ a. refl);
          out_less = some-out;
        };
        contents = either (λ (k : Node). EndContents y was k (spot_at d n) true w x) (λ a b k. refl) (λ a b k. refl);
        goes = record {
          items = ap (λ (q : Client). q.items) (put-same w.clients c _);
          replies = ap (λ (q : Client). q.replies) (put-same w.clients c _);
          handed = λ i b k. ap (λ (q : Client). q.handed i b k) (put-same w.clients c _);
          current = ap (λ (q : Client). q.current) (put-same w.clients c _);
          others = λ k ne. put-other w.clients c _ k ne;
        };
        blocks = record { blocks = λ b k. refl; history = refl };
        free = refl;
        rebuilt = refl;
        lost = refl;
      };
      failed = λ a. refl;
      columns = refl;
    }

    shows-now : ShowsClient disk.tells old.lost mid.pool now (record (w.clients c) { current = IsRunning next })
    shows-now = record {
      items = (s.clients c).items;
      replies = (s.clients c).replies;
      current = subst (λ (t : Stage). ShowsCurrent disk.tells mid.pool t now (IsRunning next)) (sym o.runs)
          (running.0, refl, subst (λ (p : pool.PoolView). HoldBytes disk.tells p now running.0) (sym h.pool) running.2);
    }

    shows-new : Shows disk new x
    shows-new = record {
      contents = λ told a m k lt. s.contents told a m k lt ∙ sym (ap (λ (v : Shelved D). device_byte disk (seen_at v a) m k) h.devices);
      failed = λ a. s.failed a ∙ sym (ap (λ (v : Shelved D). slice_index_or v.failed a false) h.devices);
      calls = λ a. subst (λ (v : Shelved D). AreTold disk (told_by disk (seen_at v a)) (w.calls a)) (sym h.devices) (s.calls a);
      columns = s.columns ∙ sym (ap (λ v. v.states) h.cols);
      clients = subst (λ (l : Option Loss). (k : ℕ) → ShowsClient disk.tells l mid.pool (desk_at mid.clients k) (x.clients k)) (sym h.lost)
          (shown-put disk.tells old.lost old.pool mid.pool old.clients mid.clients w.clients c now (record (w.clients c) { current = IsRunning next }) below h.clients (λ k. ap (λ (p : pool.PoolView). (pool.seat_at p.seats k).bytes) h.pool) s.clients shows-now);
      free = s.free ∙ ap length (sym (ap (λ (p : pool.PoolView). p.free) h.pool));
      out = let a = s.out in let b = list-out old.clients c n old.lists below o.mark sound.jobs in let e = h.lists in omega (arith, a, b, e);
      rebuilt = s.rebuilt ∙ sym (ap (λ v. v.rebuilt) h.log);
      history = s.history ∙ sym (ap (λ v. v.history) h.log);
      lost = s.lost ∙ sym h.lost;
      handed = hands-on disk.tells old.log.handed _ w.clients c (record (w.clients c) { current = IsRunning next }) (ap (λ l. l.handed) h.log) refl refl s.handed;
    }

    steps : Step y (graphs_of old.graphs.items) (event.Good (id_of old.clients c) n) w x
    unfolding lost-good
    steps = subst (λ (l : Option Loss). StepBy y (graphs_of old.graphs.items) l (event.Good (id_of old.clients c) n) w x) (sym (s.lost ∙ is_lost)) (lost-good, refl)

  pub nothing-follows : Follows lay disk old (event.Good (id_of old.clients c) n) new
  nothing-follows w s = (x w s, shows-new w s, steps w s)

  pub nothing-sound : IsSound lay disk new
  nothing-sound = end-sound lay disk old new c n Good sound o
      (plain-ended lay disk old mid c n Good h spot takes-none (noted mid.log (event.Good (id_of old.clients c) n)))
      (step-reached g (Do n) d.run now.run well.reached (leading.end_leads d.run well.marks n Good node o.mark tt))

  pub nothing-stays : OthersStay disk lay c n old new
  nothing-stays = end-stays lay disk old new c n Good sound o
      (plain-ended lay disk old mid c n Good h spot takes-none (noted mid.log (event.Good (id_of old.clients c) n)))
