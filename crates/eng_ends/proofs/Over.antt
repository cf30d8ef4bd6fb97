-- An operation is over: its terminator has ended, its item was replied, and all was given back.
use Rattle.std.proofs.Common.{◌≡◌, ◌≢◌, ℕ, suc, ◌+◌, ◌-◌, List, [], ◌∷◌, ◌++◌, length, get_or, subst, sym, ap, ◌∙◌, arith, inl, inr, refl, true, false, Option, Some, None}
use Rattle.std.specs.Prelude.{Contains, slice_get, slice_set, slice_index_or}
use Rattle.std.proofs.lemmas.Bool.{cases_eq}
use Rattle.std.proofs.lemmas.Grind.{get_or_default_zero}
use Rattle.std.proofs.lemmas.List.{get_or-set_same, get_or-set_other, set-set, length-set}
use Rattle.blk_plain.specs.declared.op.Outcome.TheVariants.{Good}
use Rattle.blk_disk.specs.declared.disk.Disk.{Ghosts as DiskGhosts}
use Rattle.buf_pool.specs.Pool as pool
use Rattle.lay_core.specs.declared.layout.Layout.{Ghosts as LayoutGhosts}
use Rattle.graph_mean.specs.declared.graph.Node.TheVariants.{Trm}
use Rattle.graph_mean.specs.declared.step.Status.TheVariants as status
use Rattle.graph_mean.specs.Graph.{kind_at}
use Rattle.graph_mean.specs.Steps.{Do, IsCall}
use Rattle.eng_one.specs.Control.{mark_of}
use Rattle.eng_one.proofs.Waiting.{step-reached}
use Rattle.eng_one.proofs.Leading as leading
use Rattle.eng_cols.specs.declared.spot.Spot.{Spot}
use Rattle.eng_cols.specs.declared.spot.Loss.{Loss}
use Rattle.eng_world.specs.declared.item.Item.{Item}
use Rattle.eng_world.specs.declared.item.Reply.{Reply}
use Rattle.eng_world.specs.World.{Running, Client, World, Nothing as Idles, Runs as IsRunning, op_now, op_of}
use Rattle.eng_world.specs.Nodes.{Finishes}
use Rattle.eng_state.specs.declared.array.Array.{Array}
use Rattle.eng_parts.specs.Shelf.{Shelved, seen_at}
use Rattle.eng_clients.specs.Desk.{Desk, desk_at, spot_at, with_ended, with_reply}
use Rattle.eng_log.specs.Log.{Logged}
use Rattle.eng_state.specs.Shows.{Shows, ShowsClient, HoldBytes, running_as, device_byte, told_by, AreTold}
use Rattle.eng_state.specs.Sound.{IsSound, IsOutOf, RunsWell}
use Rattle.eng_state.specs.Moves.{Terminated, Released, NodeEnded, DeviceCame}
use Rattle.eng_state.proofs.EndKeeps.{end-sound}
use Rattle.eng_state.proofs.EndStays.{end-stays}
use Rattle.eng_state.proofs.CalmStays.{released-stays}
use Rattle.eng_state.specs.Out.{OthersStay}
use Rattle.eng_ends.proofs.EndingPlain.{end-takes-none, below, well, node, alone}
use Rattle.eng_ends.proofs.Releasing.{release-sound}
use Rattle.eng_state.proofs.Put.{put, set-marked}
use Rattle.eng_state.proofs.Running.{runs_below}
use Rattle.eng_state.proofs.Shown.{unlost, shown-running, shown-one, desk-set}
use Rattle.eng_state.proofs.Putting.{out-below, list-out, current-kept}
use Rattle.eng_log.specs.Handed.{Hands}
use Rattle.eng_world.proofs.Words.{Told}

module _ {L D : Type 0} (lay : LayoutGhosts L) (disk : DiskGhosts D) (old end : Array L D) (c n : ℕ) (reply : Reply) (sound : IsSound lay disk old) (o : IsOutOf (desk_at old.clients c) n) (kind : kind_at (desk_at old.clients c).run.graph n ≡ Trm) (h : Terminated old c n reply end) (log : Logged) where
  abbrev now : Desk
  now = with_ended (desk_at old.clients c) n Good

  abbrev done : Desk
  done = with_reply now reply

  abbrev pub new : Array L D
  new = record end { log = log }

  pub runs : RunsWell (lay.shape old.layout) old.graphs.items old.pool (desk_at old.clients c)
  runs = well lay disk old c n sound o kind

  pub spot : spot_at (desk_at old.clients c) n ≡ None
  spot = sound.devices.unplaced c n o (λ call. subst IsCall kind call)

  -- ## What it shows

  module _ (not_lost : old.lost ≡ None) (w : World) (s : Shows disk old w) (handed : ℕ → ℕ → ℕ → ℕ) where
    abbrev pub running : (buf : ℕ → ℕ → ℕ → ℕ) × ((w.clients c).current ≡ IsRunning (running_as (desk_at old.clients c) buf)) × HoldBytes disk.tells old.pool (desk_at old.clients c) buf
    running = shown-running disk.tells None old.pool (desk_at old.clients c) (w.clients c) (unlost disk old w s not_lost c) o.runs

    abbrev pub was : Running
    was = running_as (desk_at old.clients c) running.0

    abbrev pub last : Running
    last = running_as now running.0

    -- the client, and the world, afterwards
    abbrev pub after : Client
    after = record (w.clients c) { replies = (w.clients c).replies ++ reply ∷ []; handed = handed; current = Idles }

    abbrev pub world : World
    world = record w { clients = put w.clients c after; out = w.out - 1; free = w.free + length (desk_at old.clients c).lease }

    some-out : suc (w.out - 1) ≡ w.out
    some-out = let a = s.out in let b = list-out old.clients c n old.lists (below lay disk old c n sound o kind) o.mark sound.jobs in omega (arith, a, b)

    pub finishes : Finishes (lay.shape old.layout) c n status.Good true was last w world
    finishes = record {
      runs = running.1;
      below = node lay disk old c n sound o kind;
      out = o.mark;
      plan = refl;
      node = set-marked (desk_at old.clients c).run.marks n status.Good (out-below (desk_at old.clients c).run.marks n o.mark);
      fired_at = λ k ne. refl;
      told = subst (λ (p : Option Spot). Told (lay.shape old.layout) (desk_at old.clients c).run.graph (kind_at (desk_at old.clients c).run.graph n) p true w world) (sym spot) (λ a. refl);
      out_less = some-out;
    }

    pub op-is : op_now (w.clients c) ≡ Some runs.op
    op-is = ap op_of (ap (λ (l : List Item). slice_get l (length (w.clients c).replies)) (unlost disk old w s not_lost c).items ∙ (ap (λ (l : List Reply). slice_get (desk_at old.clients c).items (length l)) (unlost disk old w s not_lost c).replies ∙ runs.item))

    shows-now : ShowsClient disk.tells None end.pool done after
    shows-now = record {
      items = (unlost disk old w s not_lost c).items;
      replies = ap (λ (l : List Reply). l ++ reply ∷ []) (unlost disk old w s not_lost c).replies;
      current = refl;
    }

    shows-other : (k : ℕ) → k ≢ c → ShowsClient disk.tells None end.pool (desk_at old.clients k) (w.clients k)
    shows-other k ne = record {
      items = (unlost disk old w s not_lost k).items;
      replies = (unlost disk old w s not_lost k).replies;
      current = current-kept disk.tells old.pool end.pool (lay.shape old.layout) old.graphs.items (desk_at old.clients k) (w.clients k).current (desk_at old.clients k).stage refl
          (λ r. (sound.well.each k (runs_below (lay.shape old.layout) old.graphs.items old.pool old.clients k sound.well r)).runs r)
          (λ b lt. ap (λ (e : pool.SeatView). e.bytes) (h.pool.others (get_or (desk_at old.clients k).lease b 0) (λ has. sound.well.apart k c ne b has.0 lt has.1 (sym (get_or_read_of (desk_at old.clients c).lease has)))))
          (unlost disk old w s not_lost k).current;
    }
      where
        get_or_read_of : (l : List ℕ) {a : ℕ} → (has : Contains l a) → get_or l has.0 0 ≡ a
        get_or_read_of l {a} has = sym (get_or_default_zero l has.0 a has.1) ∙ has.2

    pub shows-over : log.rebuilt ≡ old.log.rebuilt → log.history ≡ old.log.history → Hands disk.tells log.handed world.clients → Shows disk new world
    shows-over rebuilt history hands = record {
      contents = λ told a m k lt. s.contents told a m k lt ∙ sym (ap (λ (e : Shelved D). device_byte disk (seen_at e a) m k) h.devices);
      failed = λ a. s.failed a ∙ sym (ap (λ (e : Shelved D). slice_index_or e.failed a false) h.devices);
      calls = λ a. subst (λ (e : Shelved D). AreTold disk (told_by disk (seen_at e a)) (w.calls a)) (sym h.devices) (s.calls a);
      columns = s.columns ∙ sym (ap (λ e. e.states) h.cols);
      clients = subst (λ (l : Option Loss). (k : ℕ) → ShowsClient disk.tells l end.pool (desk_at end.clients k) (world.clients k)) (sym (h.lost ∙ not_lost)) (shown-one disk.tells None end.pool old.clients end.clients w.clients c done after (below lay disk old c n sound o kind) h.clients shows-other shows-now);
      free = ap (λ (m : ℕ). m + length (desk_at old.clients c).lease) s.free ∙ sym h.pool.free;
      out = let a = s.out in let b = list-out old.clients c n old.lists (below lay disk old c n sound o kind) o.mark sound.jobs in let e = h.lists in omega (arith, a, b, e);
      rebuilt = s.rebuilt ∙ sym rebuilt;
      history = s.history ∙ sym history;
      lost = s.lost ∙ sym h.lost;
      handed = hands;
    }

  -- ## It is sound

  -- the core between the terminator's end and the release
  abbrev between : Array L D
  between = record old { clients = slice_set old.clients c now; lists = old.lists + 1 }

  between-ended : NodeEnded disk old c n Good between
  between-ended = record {
    clients = refl;
    devices = subst (λ (p : Option Spot). DeviceCame disk p old.devices old.devices) (sym spot) refl;
    pool = record { unit = refl; free = refl; seats = refl; owner = λ k. refl; came = λ k t is. end-takes-none (desk_at old.clients c).run.graph n t.0 kind t.1; others = λ k free. refl };
    lists = refl;
    layout = refl;
    cols = refl;
    locks = refl;
    graphs = refl;
  }

  between-sound : IsSound lay disk between
  between-sound = end-sound lay disk old between c n Good sound o between-ended
      (step-reached (desk_at old.clients c).run.graph (Do n) (desk_at old.clients c).run now.run runs.reached (leading.end_leads (desk_at old.clients c).run runs.marks n Good (node lay disk old c n sound o kind) o.mark tt))

  desk-between : desk_at (slice_set old.clients c now) c ≡ now
  desk-between = desk-set old.clients c now (below lay disk old c n sound o kind)

  between-released : Released between c reply new
  between-released = record {
    clients = h.clients ∙ sym (ap (λ (e : Desk). slice_set (slice_set old.clients c now) c (with_reply e reply)) desk-between ∙ set-set old.clients c now done);
    leases = subst (λ (e : Desk). pool.KeepsOthers old.pool e.lease end.pool) (sym desk-between) h.leases;
    pool = subst (λ (e : Desk). pool.Returns old.pool e.lease end.pool) (sym desk-between) h.pool;
    locks = h.locks;
    lists = h.lists;
    devices = h.devices;
    layout = h.layout;
    cols = h.cols;
    graphs = h.graphs;
    lost = h.lost;
    spare = h.spare;
  }

  none-out : (m : ℕ) → mark_of now.run m ≢ status.Out
  none-out m out = elim (cases_eq m n) [
    | inl is ↦ let z : status.Good ≡ status.Out = sym (get_or-set_same (desk_at old.clients c).run.marks n status.Good status.Idle (out-below (desk_at old.clients c).run.marks n o.mark)) ∙ (sym (ap (mark_of now.run) is) ∙ out) in let u : ⊥ = cc in u
    | inr ne ↦ alone lay disk old c n sound o kind m ne (sym (get_or-set_other (desk_at old.clients c).run.marks n m status.Good status.Idle ne) ∙ out)
  ]

  pub over-sound : IsSound lay disk new
  over-sound = release-sound lay disk between new c reply between-sound (ap (λ (e : Desk). e.stage) desk-between ∙ o.runs) (λ m out. none-out m (sym (ap (λ (e : Desk). mark_of e.run m) desk-between) ∙ out)) between-released

  -- ## What else is out stays

  pub over-stays : OthersStay disk lay c n old new
  over-stays job other out =
      released-stays lay disk between c between-sound reply new between-released
      (let e = length-set old.clients c now in let b = below lay disk old c n sound o kind in omega (arith, e, b))
      (λ m theirs. none-out m (sym (ap (λ (e : Desk). mark_of e.run m) desk-between) ∙ theirs.mark))
      job (end-stays lay disk old between c n Good sound o between-ended job other out)
