-- The write of a missing unit is skipped: one event of the world.
use Rattle.std.proofs.Common.{◌≡◌, ℕ, ◌<◌, List, length, subst, sym, ap, ◌∙◌, arith, inl, inr, refl, Option, None}
use Rattle.std.specs.Prelude.{◌↔◌, slice_set}
use Rattle.std.proofs.lemmas.Bool.{cases_eq}
use Rattle.std.proofs.lemmas.List.{get_or-set_same, get_or-set_other, length-set}
use Rattle.blk_disk.specs.declared.disk.Disk.{Ghosts as DiskGhosts}
use Rattle.lay_core.specs.Layout.{Shape}
use Rattle.lay_core.specs.declared.layout.Layout.{Ghosts as LayoutGhosts}
use Rattle.graph_mean.specs.declared.graph.Node.TheVariants.{Wr}
use Rattle.graph_mean.specs.declared.step.Status.TheVariants as status
use Rattle.eng_one.specs.Control.{mark_of}
use Rattle.eng_cols.specs.declared.spot.Loss.{Loss}
use Rattle.eng_world.specs.declared.item.Traced.TheVariants as event
use Rattle.eng_world.specs.World.{Running, Client, World, Runs as IsRunning}
use Rattle.eng_world.specs.Nodes.{CanSkip as MaySkip, Skips, place_of}
use Rattle.eng_world.specs.Step.{StepBy, Step}
use Rattle.eng_clients.specs.declared.stage.Stage.{Stage}
use Rattle.eng_state.specs.declared.array.Array.{Array}
use Rattle.eng_clients.specs.Desk.{Desk, desk_at, plan_of, with_skipped}
use Rattle.eng_log.specs.Log.{noted}
use Rattle.eng_state.specs.Shows.{Shows, ShowsClient, ShowsCurrent, HoldBytes, running_as}
use Rattle.eng_state.specs.Sound.{IsSound, RunsWell, IsWell, jobs_of, jobs_at}
use Rattle.std.proofs.lemmas.List.Sums.{sum_by-set}
use Rattle.eng_state.specs.Moves.{id_of}
use Rattle.eng_state.specs.Can.{CanSkip}
use Rattle.eng_starts.proofs.Quiet.{quiet-sound}
use Rattle.eng_cols.specs.Cols.{ColumnState}
use Rattle.eng_state.specs.Steps.{graphs_of, Follows}
use Rattle.eng_one.proofs.Losing.{skip-reached}
use Rattle.eng_one.proofs.Leading as leading
use Rattle.eng_state.proofs.Put.{put, put-same, put-other, set-marked}
use Rattle.eng_state.proofs.Running.{runs_below}
use Rattle.eng_state.proofs.Shown.{shown-running, shown-put, replies-shown}
use Rattle.eng_state.proofs.Handing.{hands-kept}

module _ {L D : Type 0} (lay : LayoutGhosts L) (disk : DiskGhosts D) (old : Array L D) (c n : ℕ) (sound : IsSound lay disk old) (can : CanSkip lay old c n) where
  abbrev y : Shape
  y = lay.shape old.layout

  abbrev d : Desk
  d = desk_at old.clients c

  abbrev now : Desk
  now = with_skipped d n

  abbrev new : Array L D
  new = record old { clients = slice_set old.clients c now; log = noted old.log (event.Skip (id_of old.clients c) n) }

  below17 : c < 17
  below17 = runs_below y old.graphs.items old.pool old.clients c sound.well can.runs

  below : c < length old.clients
  below = let all = sound.well.all in let e = below17 in omega (arith, all, e)

  well : RunsWell y old.graphs.items old.pool d
  well = (sound.well.each c below17).runs can.runs

  marks : n < length d.run.marks
  marks = let e = well.marks in let h = can.ready.below in omega (arith, e, h)

  module _ (w : World) (s : Shows disk old w) where
    running : (buf : ℕ → ℕ → ℕ → ℕ) × ((w.clients c).current ≡ IsRunning (running_as d buf)) × HoldBytes disk.tells old.pool d buf
    running = shown-running disk.tells old.lost old.pool d (w.clients c) (s.clients c) can.runs

    abbrev was : Running
    was = running_as d running.0

    abbrev next : Running
    next = running_as now running.0

    abbrev v : Client
    v = record (w.clients c) { current = IsRunning next }

    abbrev x : World
    x = record w { clients = put w.clients c v }

    abbrev may : MaySkip y c n w
    may = record {
      was = was;
      runs = running.1;
      ready = can.ready;
      unit = can.unit;
      source = can.buf;
      write = can.write;
      after = can.after;
      nowhere = subst (λ (cols : List ColumnState). place_of y cols (plan_of d) (Wr can.unit can.buf) ≡ None) (sym s.columns) (ap (place_of y old.cols.states (plan_of d)) (sym can.write) ∙ can.nowhere);
    }

    skips : Skips y c n w x
    skips = record {
      can = may;
      next = next;
      plan = refl;
      node = set-marked d.run.marks n status.Skipped marks;
      buf = λ b o k. refl;
      phase = refl;
      fired_at = λ k. refl;
      by = refl;
      goes = record {
        items = ap (λ (q : Client). q.items) (put-same w.clients c v);
        replies = ap (λ (q : Client). q.replies) (put-same w.clients c v);
        handed = λ i b k. ap (λ (q : Client). q.handed i b k) (put-same w.clients c v);
        current = ap (λ (q : Client). q.current) (put-same w.clients c v);
        others = λ k ne. put-other w.clients c v k ne;
      };
      only = record {
        devices = record { contents = λ a b k. refl; calls = λ a. refl };
        columns = record { failed = λ a. refl; columns = refl; rebuilt = refl; lost = refl };
        blocks = record { blocks = λ b k. refl; history = refl };
      };
      pool = record { free = refl; out = refl };
    }

    shows-now : ShowsClient disk.tells old.lost old.pool now v
    shows-now = record {
      items = (s.clients c).items;
      replies = (s.clients c).replies;
      current = subst (λ (t : Stage). ShowsCurrent disk.tells old.pool t now (IsRunning next)) (sym can.runs) (running.0, refl, running.2);
    }

    shows-new : Shows disk new x
    shows-new = record {
      contents = s.contents;
      failed = s.failed;
      calls = s.calls;
      columns = s.columns;
      clients = shown-put disk.tells old.lost old.pool old.pool old.clients new.clients w.clients c now v below refl (λ k. refl) s.clients shows-now;
      free = s.free;
      out = s.out;
      rebuilt = s.rebuilt;
      history = s.history;
      lost = s.lost;
      handed = hands-kept disk.tells old.log.handed w.clients c v refl refl s.handed;
    }

    steps : Step y (graphs_of old.graphs.items) (event.Skip (id_of old.clients c) n) w x
    steps = subst (λ (l : Option Loss). StepBy y (graphs_of old.graphs.items) l (event.Skip (id_of old.clients c) n) w x) (sym (s.lost ∙ can.not_lost)) (ap length (replies-shown disk old w s can.not_lost c), skips)

  pub skip-follows : Follows lay disk old (event.Skip (id_of old.clients c) n) new
  skip-follows w s = (x w s, shows-new w s, steps w s)

  -- ## What is kept

  not-out : (m : ℕ) → (mark_of now.run m ≡ status.Out) ↔ (mark_of d.run m ≡ status.Out)
  not-out m = (
    λ h. elim (cases_eq m n) [
      | inl is ↦ let z : status.Skipped ≡ status.Out = sym (get_or-set_same d.run.marks n status.Skipped status.Idle marks) ∙ (sym (ap (mark_of now.run) is) ∙ h) in absurd (let u : ⊥ = cc in u)
      | inr ne ↦ sym (get_or-set_other d.run.marks n m status.Skipped status.Idle ne) ∙ h
    ],
    λ h. get_or-set_other d.run.marks n m status.Skipped status.Idle (λ is. let z : status.Idle ≡ status.Out = sym can.ready.idle ∙ (sym (ap (mark_of d.run) is) ∙ h) in let u : ⊥ = cc in u) ∙ h,
  )

  same-jobs : jobs_of now ≡ jobs_of d
  same-jobs = let all = sum_by-set jobs_at d.run.marks n status.Skipped status.Idle marks in let idle : jobs_at (mark_of d.run n) ≡ 0 = ap jobs_at can.ready.idle in omega (arith, all, idle)

  well-now : IsWell y old.graphs.items old.pool now
  well-now = record {
    runs = λ r. record {
      op = well.op;
      item = well.item;
      task = well.task;
      stripes = well.stripes;
      lends = record { there = well.lends.there; same = well.lends.same };
      few = well.few;
      few_bufs = well.few_bufs;
      marks = length-set d.run.marks n status.Skipped ∙ well.marks;
      accepted = well.accepted;
      reached = skip-reached d.run.graph n d.run now.run well.reached can.after (can.unit, can.buf, can.write) (leading.skip_leads d.run well.marks n can.ready can.after);
      lease = well.lease;
      bufs = well.bufs;
    };
    idle = λ ne. absurd (ne can.runs);
    spots = (sound.well.each c below17).spots;
    replies = (sound.well.each c below17).replies;
  }

  pub skip-sound : IsSound lay disk new
  skip-sound = quiet-sound lay disk old new c now sound below
      (record { clients = refl; pool = refl; locks = refl; lists = refl; devices = refl; layout = refl; cols = refl; graphs = refl; lost = refl })
      (record { stage = (λ h. h, λ h. h); out = not-out; jobs = same-jobs; graph = refl; lease = refl; spots = refl; stripes = refl; kind = refl })
      well-now
