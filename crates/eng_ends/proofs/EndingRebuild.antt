-- A rebuild ends: one event of the world.
use Rattle.std.proofs.Common.{◌≡◌, ◌⊎◌, ℕ, suc, List, length, subst, sym, ap, ◌∙◌, inl, inr, refl, true, Option, None}
use Rattle.std.specs.Prelude.{slice_index}
use Rattle.blk_plain.specs.declared.op.Op.{Op}
use Rattle.blk_plain.specs.declared.op.Op.TheVariants as op
use Rattle.blk_disk.specs.declared.disk.Disk.{Ghosts as DiskGhosts}
use Rattle.lay_core.specs.Layout.{Shape}
use Rattle.lay_core.specs.declared.layout.Layout.{Ghosts as LayoutGhosts}
use Rattle.graph_mean.specs.declared.graph.Node.TheVariants.{Trm}
use Rattle.graph_mean.specs.Graph.{kind_at}
use Rattle.eng_cols.specs.declared.spot.Loss.{Loss}
use Rattle.eng_cols.specs.declared.spot.Spot.{Spot}
use Rattle.eng_cols.specs.Cols.{ColumnState, Columns}
use Rattle.eng_cols.specs.Changes.{IsEnded}
use Rattle.eng_world.specs.declared.item.Reply.TheVariants as reply
use Rattle.eng_world.specs.declared.item.Traced.TheVariants as event
use Rattle.eng_world.specs.World.{Running, Client, World, Replied}
use Rattle.eng_world.specs.Nodes.{Terminates, RepliesTo, ColumnsAfter}
use Rattle.eng_world.specs.Step.{StepBy, Step}
use Rattle.eng_state.specs.declared.array.Array.{Array}
use Rattle.eng_clients.specs.Desk.{Desk, desk_at, item_at}
use Rattle.eng_log.specs.Log.{Logged, noted, counted}
use Rattle.eng_state.specs.Shows.{Shows}
use Rattle.eng_state.specs.Sound.{IsSound, IsOutOf, RunsWell}
use Rattle.eng_state.specs.Moves.{Terminated, id_of}
use Rattle.eng_state.specs.Steps.{graphs_of, Follows}
use Rattle.eng_clients.specs.Rebuilt.{IsRebuild, IsRebuildOp, HasRebuilt, CountsRebuilt}
use Rattle.eng_ends.proofs.Over as over
use Rattle.eng_state.specs.Out.{OthersStay}
use Rattle.eng_state.proofs.Put.{put-same, put-other}
use Rattle.eng_ends.proofs.Rebuilding.{has-stripe, stripe-named, unit-within, rebuilt-seen, seen-rebuilt}
use Rattle.eng_state.proofs.Shown.{unlost}
use Rattle.eng_log.specs.Handed.{Handout, Hands}
use Rattle.eng_state.proofs.Handing.{hands-more}
use Rattle.eng_state.specs.Restored.{StripeEnds}
use Rattle.eng_world.proofs.Words.{Told}

replies-done : (y : Shape) (o : Op) (r : Running) (c : ℕ) (old new : World) → IsRebuildOp o → Replied c reply.Done old new → RepliesTo y o r c old new
replies-done y (op.Rebuild stripe) r c old new is h = h
replies-done y (op.Write span pattern) r c old new is h = absurd is
replies-done y (op.Writes patches) r c old new is h = absurd is
replies-done y (op.Read span) r c old new is h = absurd is
replies-done y (op.Sync stripe) r c old new is h = absurd is

-- what columns and log are after a stripe's end
abbrev Became : Shape → Desk → Columns → Logged → Columns → Logged → Type 0
Became y d cols log now_cols now_log =
    ((unit : ℕ) × HasRebuilt y cols.states d unit × IsEnded y (slice_index d.map.stripes 0) unit cols.states now_cols.states × (now_log ≡ counted log))
    ⊎ (((unit : ℕ) → HasRebuilt y cols.states d unit → ⊥) × (now_cols ≡ cols) × (now_log ≡ log))

module _ {L D : Type 0} (lay : LayoutGhosts L) (disk : DiskGhosts D) (old end : Array L D) (cols : Columns) (log : Logged) (c n : ℕ) (not_lost : old.lost ≡ None) (o : IsOutOf (desk_at old.clients c) n) (kind : kind_at (desk_at old.clients c).run.graph n ≡ Trm)
    (rebuild : IsRebuild (item_at (desk_at old.clients c))) (became : Became (lay.shape old.layout) (desk_at old.clients c) old.cols old.log cols log)
    (sound : IsSound lay disk (record old { cols = cols; log = log })) (h : Terminated (record old { cols = cols; log = log }) c n reply.Done end) where
  abbrev y : Shape
  y = lay.shape old.layout

  abbrev d : Desk
  d = desk_at old.clients c

  abbrev mid : Array L D
  mid = record old { cols = cols; log = log }

  abbrev now : Logged
  now = noted end.log (event.Good (id_of old.clients c) n)

  abbrev runs : RunsWell y old.graphs.items old.pool d
  runs = over.runs lay disk mid end c n reply.Done sound o kind h now

  is-rebuild : IsRebuildOp runs.op
  is-rebuild = subst IsRebuild runs.item rebuild

  same-history : log.history ≡ old.log.history
  same-history = elim became [
    | inl e ↦ ap (λ (l : Logged). l.history) e.3
    | inr e ↦ ap (λ (l : Logged). l.history) e.2
  ]

  same-handed : log.handed ≡ old.log.handed
  same-handed = elim became [
    | inl e ↦ ap (λ (l : Logged). l.handed) e.3
    | inr e ↦ ap (λ (l : Logged). l.handed) e.2
  ]

  module _ (w : World) (s : Shows disk old w) where
    abbrev between : World
    between = record w { columns = cols.states; rebuilt = log.rebuilt }

    shows-between : Shows disk mid between
    shows-between = record {
      contents = s.contents;
      failed = s.failed;
      calls = s.calls;
      columns = refl;
      clients = s.clients;
      free = s.free;
      out = s.out;
      rebuilt = refl;
      history = s.history ∙ sym same-history;
      lost = s.lost;
      handed = subst (λ (h : Handout). Hands disk.tells h w.clients) (sym same-handed) s.handed;
    }

    abbrev x : World
    x = over.world lay disk mid end c n reply.Done sound o kind h now not_lost between shows-between (w.clients c).handed

    abbrev v : Client
    v = over.after lay disk mid end c n reply.Done sound o kind h now not_lost between shows-between (w.clients c).handed

    abbrev was : Running
    was = over.was lay disk mid end c n reply.Done sound o kind h now not_lost between shows-between (w.clients c).handed

    replied : Replied c reply.Done w x
    replied = record {
      items = ap (λ (q : Client). q.items) (put-same w.clients c v);
      replies = ap (λ (q : Client). q.replies) (put-same w.clients c v);
      handed = λ i b k ne. ap (λ (q : Client). q.handed i b k) (put-same w.clients c v);
      current = ap (λ (q : Client). q.current) (put-same w.clients c v);
      others = λ k ne. put-other w.clients c v k ne;
    }

    columns-after : (a : Op) → runs.op ≡ a → IsRebuildOp a → ColumnsAfter y a was w x
    columns-after (op.Rebuild stripe) is r = elim became [
      | inl e ↦ inl (
        e.0,
        unit-within y old.graphs.items old.pool d runs e.0 e.1.own,
        e.1.own,
        rebuilt-seen y old.cols.states w.columns d _ s.columns runs.task.unit_sectors e.0 e.1,
        subst (λ (l : List ColumnState). IsEnded y stripe e.0 l cols.states) (sym s.columns)
            (subst (λ (q : ℕ). IsEnded y q e.0 old.cols.states cols.states) (stripe-named y old.graphs.items old.pool d runs stripe is (has-stripe y old.graphs.items old.pool d runs e.0 e.1.wrote)) e.2),
        ap (λ (l : Logged). l.rebuilt) e.3 ∙ ap suc (sym s.rebuilt),
      )
      | inr e ↦ inr (
        λ unit own r. e.0 unit (seen-rebuilt y old.cols.states w.columns d _ s.columns runs.task.unit_sectors unit own r),
        (ap (λ (v : Columns). v.states) e.1 ∙ sym s.columns, ap (λ (l : Logged). l.rebuilt) e.2 ∙ sym s.rebuilt),
      )
    ]
    columns-after (op.Write span pattern) is r = absurd r
    columns-after (op.Writes patches) is r = absurd r
    columns-after (op.Read span) is r = absurd r
    columns-after (op.Sync stripe) is r = absurd r

    terminates : Terminates y c n w x
    terminates = let f = over.finishes lay disk mid end c n reply.Done sound o kind h now not_lost between shows-between (w.clients c).handed in record {
      was = was;
      last = over.last lay disk mid end c n reply.Done sound o kind h now not_lost between shows-between (w.clients c).handed;
      finishes = record { runs = f.runs; below = f.below; out = f.out; plan = f.plan; node = f.node; fired_at = f.fired_at; told = subst (λ (p : Option Spot). Told y d.run.graph (kind_at d.run.graph n) p true w x) (sym (over.spot lay disk mid end c n reply.Done sound o kind h now)) (λ a. refl); out_less = f.out_less };
      is_end = kind;
      op = runs.op;
      op_is = over.op-is lay disk mid end c n reply.Done sound o kind h now not_lost between shows-between (w.clients c).handed;
      replies = replies-done y runs.op was c w x is-rebuild replied;
      after = columns-after runs.op refl is-rebuild;
      contents = λ a b k. refl;
      failed = λ a. refl;
      lost = refl;
      blocks = record { blocks = λ b k. refl; history = refl };
      free = refl;
    }

    steps : Step y (graphs_of old.graphs.items) (event.Good (id_of old.clients c) n) w x
    steps = subst (λ (l : Option Loss). StepBy y (graphs_of old.graphs.items) l (event.Good (id_of old.clients c) n) w x) (sym (s.lost ∙ not_lost)) (ap length (unlost disk old w s not_lost c).replies, inr (inr terminates))

    shows-now : Shows disk (record end { log = now }) x
    shows-now = over.shows-over lay disk mid end c n reply.Done sound o kind h now not_lost between shows-between (w.clients c).handed (ap (λ (l : Logged). l.rebuilt) h.log) (ap (λ (l : Logged). l.history) h.log) (hands-more disk.tells log.handed end.log.handed w.clients c v reply.Done refl (ap (λ (l : Logged). l.handed) h.log) refl refl shows-between.handed)

  follows-from : Follows lay disk old (event.Good (id_of old.clients c) n) (record end { log = now })
  follows-from w s = (x w s, shows-now w s, steps w s)

module _ {L D : Type 0} (lay : LayoutGhosts L) (disk : DiskGhosts D) (old mid end : Array L D) (c n : ℕ) (o : IsOutOf (desk_at old.clients c) n) (kind : kind_at (desk_at old.clients c).run.graph n ≡ Trm)
    (ends : StripeEnds (lay.shape old.layout) old c mid) (sound : IsSound lay disk mid) (h : Terminated mid c n reply.Done end) where
  pub rebuild-follows : old.lost ≡ None → IsRebuild (item_at (desk_at old.clients c)) → Follows lay disk old (event.Good (id_of old.clients c) n) (record end { log = noted end.log (event.Good (id_of old.clients c) n) })
  rebuild-follows not_lost rebuild = elim ends [
    | inl e ↦ follows-from lay disk old end mid.cols (counted old.log) c n not_lost o kind rebuild (inl (e.0, e.1.rebuilt, e.1.ended, refl)) (subst (λ (m : Array L D). IsSound lay disk m) e.1.rest sound) (subst (λ (m : Array L D). Terminated m c n reply.Done end) e.1.rest h)
    | inr e ↦ follows-from lay disk old end old.cols old.log c n not_lost o kind rebuild (inr (e.0, refl, refl)) (subst (λ (m : Array L D). IsSound lay disk m) e.1 sound) (subst (λ (m : Array L D). Terminated m c n reply.Done end) e.1 h)
  ]

  pub rebuild-sound : IsSound lay disk (record end { log = noted end.log (event.Good (id_of old.clients c) n) })
  rebuild-sound = elim ends [
    | inl e ↦ over.over-sound lay disk (record old { cols = mid.cols; log = counted old.log }) end c n reply.Done (subst (λ (m : Array L D). IsSound lay disk m) e.1.rest sound) o kind (subst (λ (m : Array L D). Terminated m c n reply.Done end) e.1.rest h) _
    | inr e ↦ over.over-sound lay disk old end c n reply.Done (subst (λ (m : Array L D). IsSound lay disk m) e.1 sound) o kind (subst (λ (m : Array L D). Terminated m c n reply.Done end) e.1 h) _
  ]

  pub rebuild-trace : CountsRebuilt (lay.shape old.layout) old.cols.states (desk_at old.clients c) (noted old.log (event.Good (id_of old.clients c) n)) (noted end.log (event.Good (id_of old.clients c) n))
  rebuild-trace = elim ends [
    | inl e ↦ inl (e.0, e.1.rebuilt, ap (λ (l : Logged). noted l (event.Good (id_of old.clients c) n)) (h.log ∙ ap (λ (m : Array L D). m.log) e.1.rest))
    | inr e ↦ inr (e.0, ap (λ (l : Logged). noted l (event.Good (id_of old.clients c) n)) (h.log ∙ ap (λ (m : Array L D). m.log) e.1))
  ]

  pub rebuild-stays : OthersStay disk lay c n old (record end { log = noted end.log (event.Good (id_of old.clients c) n) })
  rebuild-stays = elim ends [
    | inl e ↦ over.over-stays lay disk (record old { cols = mid.cols; log = counted old.log }) end c n reply.Done (subst (λ (m : Array L D). IsSound lay disk m) e.1.rest sound) o kind (subst (λ (m : Array L D). Terminated m c n reply.Done end) e.1.rest h) end.log
    | inr e ↦ over.over-stays lay disk old end c n reply.Done (subst (λ (m : Array L D). IsSound lay disk m) e.1 sound) o kind (subst (λ (m : Array L D). Terminated m c n reply.Done end) e.1 h) end.log
  ]
