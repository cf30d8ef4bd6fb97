-- A write or a sync ends: one event of the world.
use Rattle.std.proofs.Common.{◌≡◌, ◌≢◌, ℕ, suc, ◌<◌, ◌+◌, ◌-◌, ◌⊎◌, List, [], ◌∷◌, ◌++◌, length, get_or, subst, sym, ap, ◌∙◌, arith, inl, inr, refl, Bool, true, false, Option, None}
use Rattle.eng_world.specs.declared.item.Reply.{Reply}
use Rattle.std.specs.Prelude.{Contains, slice_get, slice_set, slice_index_or}
use Rattle.std.proofs.lemmas.Bool.{cases_eq}
use Rattle.std.proofs.lemmas.Grind.{get_or_default_zero}
use Rattle.std.proofs.lemmas.List.{get_or-set_same, get_or-set_other}
use Rattle.blk_plain.specs.declared.op.Outcome.TheVariants.{Good}
use Rattle.blk_disk.specs.declared.disk.Disk.{Ghosts as DiskGhosts}
use Rattle.buf_pool.specs.Pool as pool
use Rattle.lay_core.specs.Layout.{Shape}
use Rattle.lay_core.specs.declared.layout.Layout.{Ghosts as LayoutGhosts}
use Rattle.graph_mean.specs.declared.graph.Node.{Node}
use Rattle.graph_mean.specs.declared.graph.Node.TheVariants.{Trm}
use Rattle.graph_mean.specs.declared.step.Status.TheVariants as status
use Rattle.graph_mean.specs.Graph.{View, kind_at, vertex_at}
use Rattle.eng_one.specs.Control.{mark_of}
use Rattle.eng_cols.specs.declared.spot.Spot.{Spot}
use Rattle.eng_cols.specs.declared.spot.Loss.{Loss}
use Rattle.eng_world.specs.declared.item.Traced.TheVariants as event
use Rattle.eng_world.specs.World.{Running, Client, World, Nothing as Idles, Runs as IsRunning, Replied}
use Rattle.eng_world.specs.declared.item.Reply.TheVariants as reply
use Rattle.eng_ends.specs.Ends.{IsPlain, IsPlainOp}
use Rattle.blk_plain.specs.declared.op.Op.TheVariants as op
use Rattle.eng_world.specs.Nodes.{Terminates, RepliesTo, ColumnsAfter, MakesOrUses}
use Rattle.blk_plain.specs.declared.op.Op.{Op}
use Rattle.eng_world.specs.declared.item.Item.{Item}
use Rattle.eng_world.specs.World.{op_of}
use Rattle.graph_mean.specs.Refusals.{Makes, Uses}
use Rattle.eng_world.specs.Step.{StepBy, Step}
use Rattle.eng_state.specs.declared.array.Array.{Array}
use Rattle.eng_parts.specs.Shelf.{Shelved, seen_at}
use Rattle.eng_clients.specs.Desk.{Desk, desk_at, item_at, spot_at, with_ended, with_reply}
use Rattle.eng_log.specs.Log.{noted}
use Rattle.eng_state.specs.Shows.{Shows, ShowsClient, HoldBytes, running_as, device_byte, told_by, AreTold}
use Rattle.eng_state.specs.Sound.{IsSound, IsOutOf, RunsWell}
use Rattle.eng_one.proofs.Walking.{others-ended}
use Rattle.graph_mean.specs.Steps.{HasEnded}
use Rattle.graph_mean.specs.declared.step.Status.{Status}
use Rattle.graph_mean.specs.Task.{missing_of}
use Rattle.eng_state.specs.Moves.{Terminated, Released, NodeEnded, DeviceCame, id_of}
use Rattle.eng_state.specs.Steps.{graphs_of, Follows}
use Rattle.eng_one.proofs.Waiting.{step-reached}
use Rattle.eng_one.proofs.Leading as leading
use Rattle.graph_mean.specs.Steps.{Do, IsCall}
use Rattle.eng_state.proofs.EndKeeps.{end-sound}
use Rattle.eng_ends.proofs.Releasing.{release-sound}
use Rattle.std.proofs.lemmas.List.{set-set}
use Rattle.eng_state.proofs.Put.{put, put-same, put-other, set-marked}
use Rattle.eng_state.proofs.Running.{runs_below}
use Rattle.eng_state.proofs.Shown.{unlost, shown-running, shown-one, desk-set}
use Rattle.eng_state.proofs.Putting.{out-below, list-out, current-kept}
use Rattle.eng_state.proofs.Handing.{hands-more}
use Rattle.eng_world.proofs.Words.{Told}

-- a terminator takes no buffer
pub end-takes-none : (g : View) (n b : ℕ) → kind_at g n ≡ Trm → MakesOrUses g n b → ⊥
end-takes-none g n b is t = by_kind (subst (λ (k : Node). Makes k b ⊎ Uses k (vertex_at g n).sources b) is t)
  where
    by_kind : Makes Trm b ⊎ Uses Trm (vertex_at g n).sources b → ⊥
    by_kind (inl e) = e
    by_kind (inr e) = e

-- what has ended isn't out
not-out : (t : Status) → HasEnded t → t ≢ status.Out
not-out status.Idle h e = h
not-out status.Out h e = h
not-out status.Good h e = let z : status.Good ≡ status.Out = e in let u : ⊥ = cc in u
not-out status.Bad h e = let z : status.Bad ≡ status.Out = e in let u : ⊥ = cc in u
not-out status.Skipped h e = let z : status.Skipped ≡ status.Out = e in let u : ⊥ = cc in u

-- the end of a write or a sync is replied done, and changes no column
replies-plain : (y : Shape) (o : Op) (r : Running) (c : ℕ) (old new : World) → IsPlainOp o → Replied c reply.Done old new → RepliesTo y o r c old new
replies-plain y (op.Write span pattern) r c old new plain h = h
replies-plain y (op.Writes patches) r c old new plain h = h
replies-plain y (op.Sync stripe) r c old new plain h = h
replies-plain y (op.Read span) r c old new plain h = absurd plain
replies-plain y (op.Rebuild stripe) r c old new plain h = absurd plain

columns-plain : (y : Shape) (o : Op) (r : Running) (old new : World) → IsPlainOp o → new.columns ≡ old.columns → new.rebuilt ≡ old.rebuilt → ColumnsAfter y o r old new
columns-plain y (op.Write span pattern) r old new plain a b = (a, b)
columns-plain y (op.Writes patches) r old new plain a b = (a, b)
columns-plain y (op.Sync stripe) r old new plain a b = (a, b)
columns-plain y (op.Read span) r old new plain a b = absurd plain
columns-plain y (op.Rebuild stripe) r old new plain a b = absurd plain

module _ {L D : Type 0} (lay : LayoutGhosts L) (disk : DiskGhosts D) (old : Array L D) (c n : ℕ) (sound : IsSound lay disk old) (o : IsOutOf (desk_at old.clients c) n) (kind : kind_at (desk_at old.clients c).run.graph n ≡ Trm) where
  abbrev y : Shape
  y = lay.shape old.layout

  abbrev d : Desk
  d = desk_at old.clients c

  abbrev g : View
  g = d.run.graph

  below17 : c < 17
  below17 = runs_below y old.graphs.items old.pool old.clients c sound.well o.runs

  pub below : c < length old.clients
  below = let all = sound.well.all in let e = below17 in omega (arith, all, e)

  pub well : RunsWell y old.graphs.items old.pool d
  well = (sound.well.each c below17).runs o.runs

  marks : n < length d.run.marks
  marks = out-below d.run.marks n o.mark

  pub node : n < length g.nodes
  node = let e = well.marks in let lt = marks in omega (arith, e, lt)

  -- no other node of the operation is out
  pub alone : (m : ℕ) → m ≢ n → mark_of d.run m ≢ status.Out
  alone m ne out =
      let lt = out-below d.run.marks m out in let e = well.marks in
      let ends = well.accepted.2.end.only n node kind in
      let fired : mark_of d.run well.accepted.1 ≡ status.Idle → ⊥ = λ idle. let z : status.Idle ≡ status.Out = sym idle ∙ (ap (mark_of d.run) (sym ends) ∙ o.mark) in let u : ⊥ = cc in u in
      not-out (mark_of d.run m) (others-ended g d.task (missing_of d.missing) well.accepted.0 well.accepted.1 well.accepted.2 d.run well.reached fired m (omega (arith, lt, e)) (λ is. ne (is ∙ sym ends))) out

  -- so all its buffers are at home
  pub all-home : pool.AllHome old.pool d.lease
  all-home i lt = home-if (pool.seat_at old.pool.seats (get_or d.lease i 0)).out (λ out.
      let h = sound.seats.held c i o.runs lt out in
      elim (cases_eq h.0 n) [
        | inl same ↦ end-takes-none g n i kind (subst (λ (m : ℕ). MakesOrUses g m i) same h.2)
        | inr ne ↦ alone h.0 ne h.1.mark
      ])
    where
      home-if : (b : Bool) → (b ≡ true → ⊥) → b ≡ false
      home-if true h = absurd (h refl)
      home-if false h = refl

module _ {L D : Type 0} (lay : LayoutGhosts L) (disk : DiskGhosts D) (old end : Array L D) (c n : ℕ) (sound : IsSound lay disk old) (not_lost : old.lost ≡ None) (o : IsOutOf (desk_at old.clients c) n) (kind : kind_at (desk_at old.clients c).run.graph n ≡ Trm)
    (plain : IsPlain (item_at (desk_at old.clients c))) (h : Terminated old c n reply.Done end) where
  abbrev now : Desk
  now = with_ended (desk_at old.clients c) n Good

  abbrev done : Desk
  done = with_reply now reply.Done

  abbrev new : Array L D
  new = record end { log = noted end.log (event.Good (id_of old.clients c) n) }

  runs : RunsWell (lay.shape old.layout) old.graphs.items old.pool (desk_at old.clients c)
  runs = well lay disk old c n sound o kind

  spot : spot_at (desk_at old.clients c) n ≡ None
  spot = sound.devices.unplaced c n o (λ call. subst IsCall kind call)

  is-plain : IsPlainOp runs.op
  is-plain = subst IsPlain runs.item plain

  module _ (w : World) (s : Shows disk old w) where
    running : (buf : ℕ → ℕ → ℕ → ℕ) × ((w.clients c).current ≡ IsRunning (running_as (desk_at old.clients c) buf)) × HoldBytes disk.tells old.pool (desk_at old.clients c) buf
    running = shown-running disk.tells None old.pool (desk_at old.clients c) (w.clients c) (unlost disk old w s not_lost c) o.runs

    abbrev was : Running
    was = running_as (desk_at old.clients c) running.0

    abbrev v : Client
    v = record (w.clients c) { replies = (w.clients c).replies ++ reply.Done ∷ []; current = Idles }

    abbrev x : World
    x = record w { clients = put w.clients c v; out = w.out - 1; free = w.free + length (desk_at old.clients c).lease }

    some-out : suc (w.out - 1) ≡ w.out
    some-out = let a = s.out in let b = list-out old.clients c n old.lists (below lay disk old c n sound o kind) o.mark sound.jobs in omega (arith, a, b)

    replied : Replied c reply.Done w x
    replied = record {
      items = ap (λ (q : Client). q.items) (put-same w.clients c v);
      replies = ap (λ (q : Client). q.replies) (put-same w.clients c v);
      handed = λ i b k ne. ap (λ (q : Client). q.handed i b k) (put-same w.clients c v);
      current = ap (λ (q : Client). q.current) (put-same w.clients c v);
      others = λ k ne. put-other w.clients c v k ne;
    }

    terminates : Terminates (lay.shape old.layout) c n w x
    terminates = record {
      was = was;
      last = running_as now running.0;
      finishes = record {
        runs = running.1;
        below = node lay disk old c n sound o kind;
        out = o.mark;
        plan = refl;
        node = set-marked (desk_at old.clients c).run.marks n status.Good (out-below (desk_at old.clients c).run.marks n o.mark);
        fired_at = λ k ne. refl;
        told = subst (λ (p : Option Spot). Told (lay.shape old.layout) (desk_at old.clients c).run.graph (kind_at (desk_at old.clients c).run.graph n) p true w x) (sym spot) (λ a. refl);
        out_less = some-out;
      };
      is_end = kind;
      op = runs.op;
      op_is = ap op_of (ap (λ (l : List Item). slice_get l (length (w.clients c).replies)) (unlost disk old w s not_lost c).items ∙ (ap (λ (l : List Reply). slice_get (desk_at old.clients c).items (length l)) (unlost disk old w s not_lost c).replies ∙ runs.item));
      replies = replies-plain (lay.shape old.layout) runs.op was c w x is-plain replied;
      after = columns-plain (lay.shape old.layout) runs.op was w x is-plain refl refl;
      contents = λ a b k. refl;
      failed = λ a. refl;
      lost = refl;
      blocks = record { blocks = λ b k. refl; history = refl };
      free = refl;
    }

    shows-now : ShowsClient disk.tells None end.pool done v
    shows-now = record {
      items = (unlost disk old w s not_lost c).items;
      replies = ap (λ (l : List Reply). l ++ reply.Done ∷ []) (unlost disk old w s not_lost c).replies;
      current = refl;
    }

    shows-other : (k : ℕ) → k ≢ c → ShowsClient disk.tells None end.pool (desk_at old.clients k) (w.clients k)
    shows-other k ne = record {
      items = (unlost disk old w s not_lost k).items;
      replies = (unlost disk old w s not_lost k).replies;
      current = current-kept disk.tells old.pool end.pool (lay.shape old.layout) old.graphs.items (desk_at old.clients k) (w.clients k).current (desk_at old.clients k).stage refl
          (λ r. (sound.well.each k (runs_below (lay.shape old.layout) old.graphs.items old.pool old.clients k sound.well r)).runs r)
          (λ b lt. ap (λ (e : pool.SeatView). e.bytes) (h.pool.others (get_or (desk_at old.clients k).lease b 0) (λ has. sound.well.apart k c ne b has.0 lt has.1 (sym (get_or_read_of (desk_at old.clients c).lease has)))))
          (unlost disk old w s not_lost k).current;
    }
      where
        get_or_read_of : (l : List ℕ) {a : ℕ} → (has : Contains l a) → get_or l has.0 0 ≡ a
        get_or_read_of l {a} has = sym (get_or_default_zero l has.0 a has.1) ∙ has.2

    shows-new : Shows disk new x
    shows-new = record {
      contents = λ told a m k lt. s.contents told a m k lt ∙ sym (ap (λ (e : Shelved D). device_byte disk (seen_at e a) m k) h.devices);
      failed = λ a. s.failed a ∙ sym (ap (λ (e : Shelved D). slice_index_or e.failed a false) h.devices);
      calls = λ a. subst (λ (e : Shelved D). AreTold disk (told_by disk (seen_at e a)) (w.calls a)) (sym h.devices) (s.calls a);
      columns = s.columns ∙ sym (ap (λ e. e.states) h.cols);
      clients = subst (λ (l : Option Loss). (k : ℕ) → ShowsClient disk.tells l end.pool (desk_at end.clients k) (x.clients k)) (sym (h.lost ∙ not_lost)) (shown-one disk.tells None end.pool old.clients end.clients w.clients c done v (below lay disk old c n sound o kind) h.clients shows-other shows-now);
      free = ap (λ (m : ℕ). m + length (desk_at old.clients c).lease) s.free ∙ sym h.pool.free;
      out = let a = s.out in let b = list-out old.clients c n old.lists (below lay disk old c n sound o kind) o.mark sound.jobs in let e = h.lists in omega (arith, a, b, e);
      rebuilt = s.rebuilt ∙ sym (ap (λ e. e.rebuilt) h.log);
      history = s.history ∙ sym (ap (λ e. e.history) h.log);
      lost = s.lost ∙ sym h.lost;
      handed = hands-more disk.tells old.log.handed end.log.handed w.clients c v reply.Done refl (ap (λ l. l.handed) h.log) refl refl s.handed;
    }

    steps : Step (lay.shape old.layout) (graphs_of old.graphs.items) (event.Good (id_of old.clients c) n) w x
    steps = subst (λ (l : Option Loss). StepBy (lay.shape old.layout) (graphs_of old.graphs.items) l (event.Good (id_of old.clients c) n) w x) (sym (s.lost ∙ not_lost)) (ap length (unlost disk old w s not_lost c).replies, inr (inr terminates))

  pub end-follows : Follows lay disk old (event.Good (id_of old.clients c) n) new
  end-follows w s = (x w s, shows-new w s, steps w s)

  -- the core between the terminator's end and the release
  abbrev between : Array L D
  between = record old { clients = slice_set old.clients c now; lists = old.lists + 1 }

  between-ended : NodeEnded disk old c n Good between
  between-ended = record {
    clients = refl;
    devices = subst (λ (p : Option Spot). DeviceCame disk p old.devices old.devices) (sym spot) refl;
    pool = record { unit = refl; free = refl; seats = refl; owner = λ k. refl; came = λ k t is. end-takes-none (desk_at old.clients c).run.graph n t.0 kind t.1; others = λ k free. refl };
    lists = refl;
    layout = refl;
    cols = refl;
    locks = refl;
    graphs = refl;
  }

  between-sound : IsSound lay disk between
  between-sound = end-sound lay disk old between c n Good sound o between-ended
      (step-reached (desk_at old.clients c).run.graph (Do n) (desk_at old.clients c).run now.run runs.reached (leading.end_leads (desk_at old.clients c).run runs.marks n Good (node lay disk old c n sound o kind) o.mark tt))

  desk-between : desk_at (slice_set old.clients c now) c ≡ now
  desk-between = desk-set old.clients c now (below lay disk old c n sound o kind)

  between-released : Released between c reply.Done new
  between-released = record {
    clients = h.clients ∙ sym (ap (λ (e : Desk). slice_set (slice_set old.clients c now) c (with_reply e reply.Done)) desk-between ∙ set-set old.clients c now done);
    leases = subst (λ (e : Desk). pool.KeepsOthers old.pool e.lease end.pool) (sym desk-between) h.leases;
    pool = subst (λ (e : Desk). pool.Returns old.pool e.lease end.pool) (sym desk-between) h.pool;
    locks = h.locks;
    lists = h.lists;
    devices = h.devices;
    layout = h.layout;
    cols = h.cols;
    graphs = h.graphs;
    lost = h.lost;
    spare = h.spare;
  }

  none-out : (m : ℕ) → mark_of now.run m ≢ status.Out
  none-out m out = elim (cases_eq m n) [
    | inl is ↦ let z : status.Good ≡ status.Out = sym (get_or-set_same (desk_at old.clients c).run.marks n status.Good status.Idle (out-below (desk_at old.clients c).run.marks n o.mark)) ∙ (sym (ap (mark_of now.run) is) ∙ out) in let u : ⊥ = cc in u
    | inr ne ↦ alone lay disk old c n sound o kind m ne (sym (get_or-set_other (desk_at old.clients c).run.marks n m status.Good status.Idle ne) ∙ out)
  ]

  pub plain-sound : IsSound lay disk new
  plain-sound = release-sound lay disk between new c reply.Done between-sound (ap (λ (e : Desk). e.stage) desk-between ∙ o.runs) (λ m out. none-out m (sym (ap (λ (e : Desk). mark_of e.run m) desk-between) ∙ out)) between-released
