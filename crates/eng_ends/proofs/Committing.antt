-- An operation commits: one event of the world.
use Rattle.std.proofs.Common.{◌≡◌, ℕ, suc, ◌<◌, ◌-◌, ◌⊎◌, List, [], ◌∷◌, ◌++◌, length, subst, sym, ap, ◌∙◌, arith, inl, inr, refl, true, false, Option, Some, None}
use Rattle.blk_plain.specs.declared.op.OpId.{OpId}
use Rattle.eng_world.specs.declared.item.Reply.{Reply}
use Rattle.std.specs.Prelude.{slice_get, slice_index_or}
use Rattle.blk_plain.specs.declared.op.Outcome.TheVariants.{Good}
use Rattle.blk_disk.specs.declared.disk.Disk.{Ghosts as DiskGhosts}
use Rattle.buf_pool.specs.Pool as pool
use Rattle.lay_core.specs.Layout.{Shape}
use Rattle.lay_core.specs.declared.layout.Layout.{Ghosts as LayoutGhosts}
use Rattle.graph_mean.specs.declared.graph.Node.{Node}
use Rattle.graph_mean.specs.declared.graph.Node.TheVariants.{Cmt}
use Rattle.graph_mean.specs.declared.step.Status.TheVariants as status
use Rattle.graph_mean.specs.Graph.{View, kind_at, vertex_at}
use Rattle.graph_mean.specs.Steps.{settled, phase_after}
use Rattle.eng_one.specs.Control.{mark_in, settled_in}
use Rattle.eng_cols.specs.declared.spot.Spot.{Spot}
use Rattle.eng_cols.specs.declared.spot.Loss.{Loss}
use Rattle.eng_world.specs.declared.item.Traced.TheVariants as event
use Rattle.eng_world.specs.World.{Running, Client, World, Runs as IsRunning}
use Rattle.eng_world.specs.Nodes.{Commits, MakesOrUses}
use Rattle.eng_world.specs.Plain.{apply}
use Rattle.eng_world.specs.declared.item.Item.{Item}
use Rattle.eng_world.specs.World.{op_now, op_of}
use Rattle.graph_mean.specs.Refusals.{Makes, Uses}
use Rattle.eng_world.specs.Step.{StepBy, Step}
use Rattle.eng_clients.specs.declared.stage.Stage.{Stage}
use Rattle.eng_state.specs.declared.array.Array.{Array}
use Rattle.eng_parts.specs.Shelf.{Shelved, seen_at}
use Rattle.eng_clients.specs.Desk.{Desk, desk_at, spot_at, with_ended}
use Rattle.eng_log.specs.Log.{noted, entered}
use Rattle.eng_state.specs.Shows.{Shows, ShowsClient, ShowsCurrent, HoldBytes, running_as, device_byte, told_by, AreTold}
use Rattle.eng_state.specs.Sound.{IsSound, IsOutOf, RunsWell}
use Rattle.eng_state.specs.Moves.{CamePlain, id_of}
use Rattle.eng_state.specs.Steps.{graphs_of, Follows}
use Rattle.eng_one.proofs.Waiting.{step-reached}
use Rattle.eng_one.proofs.Leading as leading
use Rattle.graph_mean.specs.Steps.{Do, IsCall}
use Rattle.eng_state.proofs.EndKeeps.{end-sound, plain-ended}
use Rattle.eng_state.proofs.EndStays.{end-stays}
use Rattle.eng_state.specs.Out.{OthersStay}
use Rattle.eng_state.proofs.Put.{put, put-same, put-other, set-marked}
use Rattle.eng_state.proofs.Running.{runs_below}
use Rattle.eng_state.proofs.Shown.{unlost, shown-running, shown-put}
use Rattle.eng_state.proofs.Putting.{out-below, list-out}
use Rattle.eng_state.proofs.Handing.{hands-on}
use Rattle.eng_world.proofs.Words.{Told}

-- a commit takes no buffer
takes-none : (g : View) (n b : ℕ) → kind_at g n ≡ Cmt → MakesOrUses g n b → ⊥
takes-none g n b is t = by_kind (subst (λ (k : Node). Makes k b ⊎ Uses k (vertex_at g n).sources b) is t)
  where
    by_kind : Makes Cmt b ⊎ Uses Cmt (vertex_at g n).sources b → ⊥
    by_kind (inl e) = e
    by_kind (inr e) = e

module _ {L D : Type 0} (lay : LayoutGhosts L) (disk : DiskGhosts D) (old mid : Array L D) (c n : ℕ) (sound : IsSound lay disk old) (not_lost : old.lost ≡ None) (o : IsOutOf (desk_at old.clients c) n) (kind : kind_at (desk_at old.clients c).run.graph n ≡ Cmt)
    (h : CamePlain old c n Good mid) where
  abbrev y : Shape
  y = lay.shape old.layout

  abbrev d : Desk
  d = desk_at old.clients c

  abbrev now : Desk
  now = with_ended d n Good

  abbrev g : View
  g = d.run.graph

  abbrev new : Array L D
  new = record mid { log = noted (entered mid.log (id_of old.clients c)) (event.Good (id_of old.clients c) n) }

  below17 : c < 17
  below17 = runs_below y old.graphs.items old.pool old.clients c sound.well o.runs

  below : c < length old.clients
  below = let all = sound.well.all in let e = below17 in omega (arith, all, e)

  well : RunsWell y old.graphs.items old.pool d
  well = (sound.well.each c below17).runs o.runs

  marks : n < length d.run.marks
  marks = out-below d.run.marks n o.mark

  node : n < length g.nodes
  node = let e = well.marks in let lt = marks in omega (arith, e, lt)

  spot : spot_at d n ≡ None
  spot = sound.devices.unplaced c n o (λ call. subst IsCall kind call)

  module _ (w : World) (s : Shows disk old w) where
    running : (buf : ℕ → ℕ → ℕ → ℕ) × ((w.clients c).current ≡ IsRunning (running_as d buf)) × HoldBytes disk.tells old.pool d buf
    running = shown-running disk.tells None old.pool d (w.clients c) (unlost disk old w s not_lost c) o.runs

    abbrev was : Running
    was = running_as d running.0

    abbrev next : Running
    next = running_as now running.0

    abbrev x : World
    x = record w {
      clients = put w.clients c (record (w.clients c) { current = IsRunning next });
      blocks = apply w.blocks well.op;
      history = w.history ++ id_of old.clients c ∷ [];
      out = w.out - 1;
    }

    some-out : suc (w.out - 1) ≡ w.out
    some-out = let a = s.out in let b = list-out old.clients c n old.lists below o.mark sound.jobs in omega (arith, a, b)

    op-is : op_now (w.clients c) ≡ Some well.op
    op-is = ap op_of (ap (λ (l : List Item). slice_get l (length (w.clients c).replies)) (unlost disk old w s not_lost c).items ∙ (ap (λ (l : List Reply). slice_get d.items (length l)) (unlost disk old w s not_lost c).replies ∙ well.item))

    commits : Commits y c n w x
    commits = record {
      was = was;
      next = next;
      finishes = record {
        runs = running.1;
        below = node;
        out = o.mark;
        plan = refl;
        node = set-marked d.run.marks n status.Good marks;
        fired_at = λ k ne. refl;
        told = subst (λ (p : Option Spot). Told y g (kind_at g n) p true w x) (sym spot) (λ a. refl);
        out_less = some-out;
      };
      is_commit = kind;
      buf = λ b q k. refl;
      phase = subst (λ (k : Node). settled_in now.run.marks (phase_after k d.run.phase) ≡ settled g (mark_in now.run.marks) (phase_after Cmt d.run.phase)) (sym kind) refl;
      by = refl;
      op = well.op;
      op_is = op-is;
      blocks = λ b k. refl;
      history = refl;
      goes = record {
        items = ap (λ (q : Client). q.items) (put-same w.clients c _);
        replies = ap (λ (q : Client). q.replies) (put-same w.clients c _);
        handed = λ i b k. ap (λ (q : Client). q.handed i b k) (put-same w.clients c _);
        current = ap (λ (q : Client). q.current) (put-same w.clients c _);
        others = λ k ne. put-other w.clients c _ k ne;
      };
      contents = λ a b k. refl;
      columns = record { failed = λ a. refl; columns = refl; rebuilt = refl; lost = refl };
      free = refl;
    }

    shows-now : ShowsClient disk.tells None mid.pool now (record (w.clients c) { current = IsRunning next })
    shows-now = record {
      items = (unlost disk old w s not_lost c).items;
      replies = (unlost disk old w s not_lost c).replies;
      current = subst (λ (t : Stage). ShowsCurrent disk.tells mid.pool t now (IsRunning next)) (sym o.runs)
          (running.0, refl, subst (λ (p : pool.PoolView). HoldBytes disk.tells p now running.0) (sym h.pool) running.2);
    }

    shows-new : Shows disk new x
    shows-new = record {
      contents = λ told a m k lt. s.contents told a m k lt ∙ sym (ap (λ (v : Shelved D). device_byte disk (seen_at v a) m k) h.devices);
      failed = λ a. s.failed a ∙ sym (ap (λ (v : Shelved D). slice_index_or v.failed a false) h.devices);
      calls = λ a. subst (λ (v : Shelved D). AreTold disk (told_by disk (seen_at v a)) (w.calls a)) (sym h.devices) (s.calls a);
      columns = s.columns ∙ sym (ap (λ v. v.states) h.cols);
      clients = subst (λ (l : Option Loss). (k : ℕ) → ShowsClient disk.tells l mid.pool (desk_at mid.clients k) (x.clients k)) (sym (h.lost ∙ not_lost)) (shown-put disk.tells None old.pool mid.pool old.clients mid.clients w.clients c now (record (w.clients c) { current = IsRunning next }) below h.clients (λ k. ap (λ (p : pool.PoolView). (pool.seat_at p.seats k).bytes) h.pool) (unlost disk old w s not_lost) shows-now);
      free = s.free ∙ ap length (sym (ap (λ (p : pool.PoolView). p.free) h.pool));
      out = let a = s.out in let b = list-out old.clients c n old.lists below o.mark sound.jobs in let e = h.lists in omega (arith, a, b, e);
      rebuilt = s.rebuilt ∙ sym (ap (λ v. v.rebuilt) h.log);
      history = ap (λ (l : List OpId). l ++ id_of old.clients c ∷ []) (s.history ∙ sym (ap (λ v. v.history) h.log));
      lost = s.lost ∙ sym h.lost;
      handed = hands-on disk.tells old.log.handed _ w.clients c (record (w.clients c) { current = IsRunning next }) (ap (λ l. l.handed) h.log) refl refl s.handed;
    }

    steps : Step y (graphs_of old.graphs.items) (event.Good (id_of old.clients c) n) w x
    steps = subst (λ (l : Option Loss). StepBy y (graphs_of old.graphs.items) l (event.Good (id_of old.clients c) n) w x) (sym (s.lost ∙ not_lost)) (ap length (unlost disk old w s not_lost c).replies, inr (inl commits))

  pub commit-follows : Follows lay disk old (event.Good (id_of old.clients c) n) new
  commit-follows w s = (x w s, shows-new w s, steps w s)

  pub commit-sound : IsSound lay disk new
  commit-sound = end-sound lay disk old new c n Good sound o
      (plain-ended lay disk old mid c n Good h spot (λ b t. takes-none g n b kind t) (noted (entered mid.log (id_of old.clients c)) (event.Good (id_of old.clients c) n)))
      (step-reached g (Do n) d.run now.run well.reached (leading.end_leads d.run well.marks n Good node o.mark tt))

  pub commit-stays : OthersStay disk lay c n old new
  commit-stays = end-stays lay disk old new c n Good sound o
      (plain-ended lay disk old mid c n Good h spot (λ b t. takes-none g n b kind t) (noted (entered mid.log (id_of old.clients c)) (event.Good (id_of old.clients c) n)))
