-- A read ends: one event of the world.
use Rattle.std.proofs.Common.{◌≡◌, ◌≢◌, ℕ, zero, suc, ◌<◌, ◌+◌, ◌-◌, List, [], ◌∷◌, ◌++◌, length, get_or, subst, sym, ap, ◌∙◌, arith, inl, inr, refl, Option, Some, None}
use Rattle.std.specs.Prelude.{◌==◌, if◌then◌else◌, slice_get}
use Rattle.std.proofs.lemmas.Bool.{cases_eq, cond-true, cond-false, eq-eqb, ne_eqb}
use Rattle.std.proofs.lemmas.List.{get_or_default}
use Rattle.std.proofs.lemmas.Option.{slice_get_within}
use Rattle.blk_plain.specs.declared.op.Op.{Op}
use Rattle.blk_plain.specs.declared.op.Op.TheVariants as op
use Rattle.blk_plain.specs.declared.op.Span.{Span}
use Rattle.blk_disk.specs.declared.disk.Disk.{Ghosts as DiskGhosts}
use Rattle.blk_disk.specs.Disk.{sector_at}
use Rattle.lay_core.specs.Layout.{Shape, block_of}
use Rattle.lay_core.specs.Layout as layout
use Rattle.lay_core.specs.declared.layout.Layout.{Ghosts as LayoutGhosts}
use Rattle.graph_mean.specs.declared.graph.Node.TheVariants.{Trm}
use Rattle.graph_mean.specs.declared.graph.Ret.{Ret}
use Rattle.graph_mean.specs.Graph.{View, kind_at, ret_at}
use Rattle.graph_mean.specs.Steps.{Covers}
use Rattle.eng_cols.specs.declared.spot.Loss.{Loss}
use Rattle.eng_world.specs.declared.item.Item.TheVariants as item
use Rattle.eng_world.specs.declared.item.Reply.{Reply}
use Rattle.eng_world.specs.declared.item.Reply.TheVariants as reply
use Rattle.eng_world.specs.declared.item.Traced.TheVariants as event
use Rattle.eng_world.specs.World.{Running, Client, World, Replied, Runs as IsRunning}
use Rattle.eng_world.specs.Nodes.{Terminates, RepliesTo, ColumnsAfter}
use Rattle.eng_world.specs.Step.{StepBy, Step}
use Rattle.eng_state.specs.declared.array.Array.{Array}
use Rattle.eng_clients.specs.Desk.{Desk, desk_at, item_at}
use Rattle.eng_log.specs.Handed.{Handout, Hands, AreRegions, region_at, handed_byte}
use Rattle.eng_log.specs.Log.{Logged, noted, with_bytes}
use Rattle.eng_clients.specs.Seats.{bytes_at}
use Rattle.eng_state.specs.Shows.{Shows, HoldBytes, running_as}
use Rattle.eng_state.specs.Sound.{IsSound, IsOutOf, RunsWell}
use Rattle.eng_state.specs.Moves.{Terminated, id_of}
use Rattle.eng_state.specs.Steps.{graphs_of, Follows}
use Rattle.eng_ends.specs.Copied.{AreLaid, Copies, block_at, sector_for, picked}
use Rattle.eng_ends.proofs.Handouts.{op-is, in-span, hit-covers, covers-hit, hit-one, picked-one, picked-some, no_ret}
use Rattle.eng_ends.proofs.Over as over
use Rattle.eng_state.proofs.Put.{put-same, put-other}
use Rattle.eng_state.proofs.Shown.{unlost, shown-running}
use Rattle.eng_world.proofs.Words.{HandsOut}

-- one reply more doesn't change those before it
reply-before : (l : List Reply) (r : Reply) (i : ℕ) (x : Reply) → i ≢ length l → slice_get (l ++ r ∷ []) i ≡ Some x → slice_get l i ≡ Some x
reply-before [] r zero x ne h = absurd (ne refl)
reply-before [] r (suc i) x ne h = h
reply-before (a ∷ l) r zero x ne h = h
reply-before (a ∷ l) r (suc i) x ne h = reply-before l r i x (λ e. ne (ap suc e)) h

-- which stay, and it is the last
reply-after : (l : List Reply) (r : Reply) (i : ℕ) (x : Reply) → slice_get l i ≡ Some x → slice_get (l ++ r ∷ []) i ≡ Some x
reply-after [] r i x h = let z : None ≡ Some x = h in absurd (let u : ⊥ = cc in u)
reply-after (a ∷ l) r zero x h = h
reply-after (a ∷ l) r (suc i) x h = reply-after l r i x h

reply-last : (l : List Reply) (r : Reply) → slice_get (l ++ r ∷ []) (length l) ≡ Some r
reply-last [] r = refl
reply-last (a ∷ l) r = reply-last l r

module _ {L D : Type 0} (lay : LayoutGhosts L) (disk : DiskGhosts D) (old end : Array L D) (bytes : List ℕ) (c n : ℕ) (sound : IsSound lay disk old) (not_lost : old.lost ≡ None) (o : IsOutOf (desk_at old.clients c) n) (kind : kind_at (desk_at old.clients c).run.graph n ≡ Trm)
    (span : Span) (file : Option ℕ) (is : item_at (desk_at old.clients c) ≡ Some (item.Run (op.Read span) file)) (laid : AreLaid old.log.handed old.clients) (regions : AreRegions old.log.handed)
    (copied : Copies (desk_at old.clients c).run.graph (sector_for (lay.shape old.layout) (desk_at old.clients c) span (region_at old.log.handed c (length (desk_at old.clients c).replies)).first) (bytes_at old.pool (desk_at old.clients c).lease) (length (desk_at old.clients c).run.graph.rets) old.log.handed.bytes bytes)
    (h : Terminated (record old { log = with_bytes old.log bytes }) c n reply.Data end) where
  abbrev y : Shape
  y = lay.shape old.layout

  abbrev d : Desk
  d = desk_at old.clients c

  abbrev g : View
  g = d.run.graph

  -- the item that is replied
  abbrev i : ℕ
  i = length d.replies

  -- what was handed out, this read's sectors among it
  abbrev given : Handout
  given = record old.log.handed { bytes = bytes }

  -- the end, as it is of a core to which no bytes were handed: its log is another in the end
  abbrev back : Array L D
  back = record end { log = old.log }

  ended : Terminated old c n reply.Data back
  ended = record {
    clients = h.clients;
    leases = h.leases;
    pool = h.pool;
    locks = h.locks;
    lists = h.lists;
    devices = h.devices;
    log = refl;
    layout = h.layout;
    cols = h.cols;
    graphs = h.graphs;
    lost = h.lost;
    spare = h.spare;
  }

  abbrev now : Logged
  now = noted end.log (event.Good (id_of old.clients c) n)

  abbrev runs : RunsWell y old.graphs.items old.pool d
  runs = over.runs lay disk old back c n reply.Data sound o kind ended now

  -- a sector of another item's region isn't one that a return goes to
  elsewhere : (k j b : ℕ) → b < (region_at given k j).count → ((k ≡ c) × (j ≡ i) → ⊥) → sector_at bytes ((region_at given k j).first + b) ≡ sector_at old.log.handed.bytes ((region_at given k j).first + b)
  elsewhere k j b lt ne = copied.rest ((region_at given k j).first + b) (λ m a less co e.
      let inside = in-span y old.graphs.items old.pool d sound.layout runs span file is m a less co in
      let count = laid.reads c i span file is in
      let both = regions.apart k j c i b (block_at y d (ret_at g m) a - span.first) lt (let lo = inside.0 in let hi = inside.1 in omega (arith, lo, hi, count)) e in
      ne both)

  module _ (w : World) (s : Shows disk old w) where
    same-replies : (w.clients c).replies ≡ d.replies
    same-replies = (unlost disk old w s not_lost c).replies

    -- an item that was replied isn't the one that is replied now
    unreplied : (k j : ℕ) → slice_get (w.clients k).replies j ≡ Some reply.Data → (k ≡ c) × (j ≡ i) → ⊥
    unreplied k j got both =
        let here : slice_get (w.clients c).replies j ≡ Some reply.Data = subst (λ (q : ℕ). slice_get (w.clients q).replies j ≡ Some reply.Data) both.0 got in
        let within = slice_get_within (w.clients c).replies j reply.Data here in
        let long = ap length same-replies in
        let e = both.1 in
        omega (arith, within, long, e)

    -- what was handed out for another item is as it was
    byte-elsewhere : (k j b m : ℕ) → b < (region_at given k j).count → ((k ≡ c) × (j ≡ i) → ⊥) → handed_byte given k j b m ≡ handed_byte old.log.handed k j b m
    byte-elsewhere k j b m lt ne = ap (λ (l : List ℕ). get_or l m 0) (elsewhere k j b lt ne)

    data-before : disk.tells → (k j b m : ℕ) → slice_get (w.clients k).replies j ≡ Some reply.Data → b < (region_at given k j).count → m < 512 → (w.clients k).handed j b m ≡ handed_byte given k j b m
    data-before told k j b m got lt lm = s.handed.read told k j b m got lt lm ∙ sym (byte-elsewhere k j b m lt (unreplied k j got))

    abbrev running : (buf : ℕ → ℕ → ℕ → ℕ) × ((w.clients c).current ≡ IsRunning (running_as d buf)) × HoldBytes disk.tells old.pool d buf
    running = shown-running disk.tells None old.pool d (w.clients c) (unlost disk old w s not_lost c) o.runs

    -- what the reply hands out
    abbrev data_of : ℕ → ℕ → ℕ
    data_of b m = picked y d running.0 g.rets (span.first + b) m (handed_byte given c i b m)

    abbrev handed : ℕ → ℕ → ℕ → ℕ
    handed a b m = if a == i then data_of b m else (w.clients c).handed a b m

    abbrev x : World
    x = over.world lay disk old back c n reply.Data sound o kind ended now not_lost w s handed

    abbrev v : Client
    v = over.after lay disk old back c n reply.Data sound o kind ended now not_lost w s handed

    abbrev was : Running
    was = over.was lay disk old back c n reply.Data sound o kind ended now not_lost w s handed

    handed-here : (b m : ℕ) → handed i b m ≡ data_of b m
    handed-here b m = cond-true (i == i) _ _ (eq-eqb i i refl)

    handed-else : (a b m : ℕ) → a ≢ i → handed a b m ≡ (w.clients c).handed a b m
    handed-else a b m ne = cond-false (a == i) _ _ (ne_eqb a i ne)

    replied : Replied c reply.Data w x
    replied = record {
      items = ap (λ (q : Client). q.items) (put-same w.clients c v);
      replies = ap (λ (q : Client). q.replies) (put-same w.clients c v);
      handed = λ a b m ne. ap (λ (q : Client). q.handed a b m) (put-same w.clients c v) ∙ handed-else a b m (λ e. ne refl (e ∙ sym (ap length same-replies)));
      current = ap (λ (q : Client). q.current) (put-same w.clients c v);
      others = λ k ne. put-other w.clients c v k ne;
    }

    hands-out : HandsOut y was span.first ((x.clients c).handed was.plan.index)
    hands-out j a m ret has co lm e =
        let k = has.0 in
        let at : ret_at g k ≡ ret = get_or_default g.rets k no_ret ret has.1 ∙ has.2 in
        let covers = subst (λ (r : Ret). Covers g r.buf a) (sym at) co in
        let hit = covers-hit y old.graphs.items old.pool d sound.layout runs span file is k a (span.first + j) has.1 covers (ap (λ (r : Ret). block_at y d r a) at ∙ e) in
        ap (λ (q : Client). q.handed i j m) (put-same w.clients c v) ∙ (handed-here j m
        ∙ (picked-one y d running.0 (span.first + j) m (handed_byte given c i j m) g.rets k has.1 hit.0 (λ b lb hb. hit-one y old.graphs.items old.pool d sound.layout runs span file is b k (span.first + j) lb has.1 hb hit.0)
        ∙ (ap (λ (r : Ret). running.0 r.buf (layout.offset_of y (span.first + j)) m) at ∙ ap (λ (q : ℕ). running.0 ret.buf q m) hit.1)))

    -- a picked byte is the one that was copied
    picked-copied : disk.tells → (b m : ℕ) → m < 512 → data_of b m ≡ handed_byte given c i b m
    picked-copied told b m lm = elim (picked-some y d running.0 (span.first + b) m (handed_byte given c i b m) g.rets) [
      | inl e ↦ e
      | inr e ↦
          let hit = hit-covers y old.graphs.items old.pool d sound.layout runs span file is e.0 (span.first + b) e.1 e.2 in
          let at : sector_for y d span (region_at given c i).first (ret_at g e.0) (layout.offset_of y (span.first + b)) ≡ (region_at given c i).first + b = let same = hit.1 in omega (arith, same) in
          e.3 ∙ (running.2 told (ret_at g e.0).buf (layout.offset_of y (span.first + b)) m hit.0 lm
          ∙ ap (λ (l : List ℕ). get_or l m 0) (sym (copied.here e.0 (layout.offset_of y (span.first + b)) e.1 hit.0) ∙ ap (sector_at bytes) at))
    ]

    data-now : disk.tells → (k a b m : ℕ) → slice_get (x.clients k).replies a ≡ Some reply.Data → b < (region_at given k a).count → m < 512 → (x.clients k).handed a b m ≡ handed_byte given k a b m
    data-now told k a b m got lt lm = elim (cases_eq k c) [
      | inl same ↦
          let here : x.clients k ≡ v = ap x.clients same ∙ put-same w.clients c v in
          ap (λ (q : Client). q.handed a b m) here ∙ elim (cases_eq a i) [
            | inl own ↦ ap (λ (q : ℕ). handed q b m) own ∙ (handed-here b m ∙ (picked-copied told b m lm ∙ sym (ap (λ (q : ℕ). handed_byte given q a b m) same ∙ ap (λ (q : ℕ). handed_byte given c q b m) own)))
            | inr other ↦ handed-else a b m other ∙ (ap (λ (q : ℕ). (w.clients q).handed a b m) (sym same) ∙ data-before told k a b m
                (subst (λ (q : ℕ). slice_get (w.clients q).replies a ≡ Some reply.Data) (sym same) (reply-before (w.clients c).replies reply.Data a reply.Data (λ e. other (e ∙ ap length same-replies)) (sym (ap (λ (q : Client). slice_get q.replies a) here) ∙ got))) lt lm)
          ]
      | inr ne ↦
          let there = put-other w.clients c v k ne in
          ap (λ (q : Client). q.handed a b m) there ∙ data-before told k a b m (sym (ap (λ (q : Client). slice_get q.replies a) there) ∙ got) lt lm
    ]

    -- what was replied still is, and so is this item now
    data-stays : (k a : ℕ) → slice_get (w.clients k).replies a ≡ Some reply.Data → slice_get (x.clients k).replies a ≡ Some reply.Data
    data-stays k a had = elim (cases_eq k c) [
      | inl same ↦
          let here : x.clients k ≡ v = ap x.clients same ∙ put-same w.clients c v in
          ap (λ (q : Client). slice_get q.replies a) here ∙ reply-after (w.clients c).replies reply.Data a reply.Data (subst (λ (q : ℕ). slice_get (w.clients q).replies a ≡ Some reply.Data) same had)
      | inr ne ↦ ap (λ (q : Client). slice_get q.replies a) (put-other w.clients c v k ne) ∙ had
    ]

    data-here : (k a : ℕ) → (k ≡ c) × (a ≡ i) → slice_get (x.clients k).replies a ≡ Some reply.Data
    data-here k a both =
        let here : x.clients k ≡ v = ap x.clients both.0 ∙ put-same w.clients c v in
        ap (λ (q : Client). slice_get q.replies a) here ∙ (ap (slice_get ((w.clients c).replies ++ reply.Data ∷ [])) (both.1 ∙ sym (ap length same-replies)) ∙ reply-last (w.clients c).replies reply.Data)

    hands-now : Hands disk.tells given x.clients
    hands-now = record {
      read = data-now;
      zeros = λ k a b m none lt lm. byte-elsewhere k a b m lt (λ both. none (data-here k a both)) ∙ s.handed.zeros k a b m (λ had. none (data-stays k a had)) lt lm;
    }

    terminates : Terminates y c n w x
    terminates = record {
      was = was;
      last = over.last lay disk old back c n reply.Data sound o kind ended now not_lost w s handed;
      finishes = over.finishes lay disk old back c n reply.Data sound o kind ended now not_lost w s handed;
      is_end = kind;
      op = runs.op;
      op_is = over.op-is lay disk old back c n reply.Data sound o kind ended now not_lost w s handed;
      replies = subst (λ (a : Op). RepliesTo y a was c w x) (sym (op-is y old.graphs.items old.pool d sound.layout runs span file is)) (replied, hands-out);
      after = subst (λ (a : Op). ColumnsAfter y a was w x) (sym (op-is y old.graphs.items old.pool d sound.layout runs span file is)) (refl, refl);
      contents = λ a b k. refl;
      failed = λ a. refl;
      lost = refl;
      blocks = record { blocks = λ b k. refl; history = refl };
      free = refl;
    }

    shows-now : Shows disk (record end { log = now }) x
    shows-now = over.shows-over lay disk old back c n reply.Data sound o kind ended now not_lost w s handed (ap (λ (l : Logged). l.rebuilt) h.log) (ap (λ (l : Logged). l.history) h.log)
        (subst (λ (q : Handout). Hands disk.tells q x.clients) (sym (ap (λ (l : Logged). l.handed) h.log)) hands-now)

    steps : Step y (graphs_of old.graphs.items) (event.Good (id_of old.clients c) n) w x
    steps = subst (λ (l : Option Loss). StepBy y (graphs_of old.graphs.items) l (event.Good (id_of old.clients c) n) w x) (sym (s.lost ∙ not_lost)) (ap length same-replies, inr (inr terminates))

  pub data-follows : Follows lay disk old (event.Good (id_of old.clients c) n) (record end { log = now })
  data-follows w s = (x w s, shows-now w s, steps w s)

  pub data-sound : IsSound lay disk (record end { log = now })
  data-sound = over.over-sound lay disk old back c n reply.Data sound o kind ended now
