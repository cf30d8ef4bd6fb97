-- A read or a write ends bad once the array is lost.
use Rattle.std.proofs.Common.{◌≡◌, ◌≢◌, ℕ, ◌<◌, ◌⊎◌, List, length, subst, sym, ap, ◌∙◌, arith, inl, inr, refl, Bool, true, false, Option, Some, ◌||◌, ◌==◌}
use Rattle.std.specs.Prelude.{slice_set}
use Rattle.std.proofs.lemmas.List.{length-set, get_or-set_other}
use Rattle.blk_plain.specs.declared.op.Outcome.{Outcome}
use Rattle.blk_plain.specs.declared.op.Outcome.TheVariants.{Bad}
use Rattle.blk_disk.specs.declared.disk.Disk.{Ghosts as DiskGhosts}
use Rattle.lay_core.specs.Layout.{Shape}
use Rattle.lay_core.specs.declared.layout.Layout.{Ghosts as LayoutGhosts}
use Rattle.graph_mean.specs.declared.graph.Node.{Node}
use Rattle.graph_mean.specs.declared.graph.Node.TheVariants.{Rd, Wr, Xor, Cmt, Trm}
use Rattle.graph_mean.specs.declared.step.Phase.{Phase}
use Rattle.graph_mean.specs.declared.step.Status.TheVariants as status
use Rattle.eng_cols.specs.declared.spot.Spot.{Spot}
use Rattle.eng_cols.specs.declared.spot.Loss.{Loss}
use Rattle.eng_cols.specs.Cols.{ColumnState, Dead, HasDevice}
use Rattle.eng_cols.specs.Changes.{killed}
use Rattle.eng_cols.proofs.Killing.{order-kept, device-back, killed-device}
use Rattle.eng_job.specs.Performed.{is_ok_of}
use Rattle.eng_world.specs.declared.item.Traced.TheVariants as event
use Rattle.eng_world.specs.World.{Running, Client, World}
use Rattle.eng_world.specs.Step.{StepBy, LostBad}
use Rattle.eng_state.specs.declared.array.Array.{Array}
use Rattle.eng_parts.specs.Shelf.{has_failed, failing}
use Rattle.eng_clients.specs.Desk.{Desk, desk_at, with_ended}
use Rattle.eng_log.specs.Log.{Logged, noted}
use Rattle.eng_state.specs.Shows.{Shows}
use Rattle.eng_state.specs.Sound.{IsSound, Seated}
use Rattle.eng_state.specs.Moves.{id_of, CameHome}
use Rattle.eng_state.specs.Steps.{graphs_of, Follows}
use Rattle.eng_state.specs.Bad.{CallBack, EndsBad, struck_lost}
use Rattle.eng_state.proofs.Put.{put-same, put-other, set-marked}
use Rattle.eng_fails.proofs.Keeping.{stays, kept-sound}
use Rattle.eng_state.proofs.Leaving.{seen-below}
use Rattle.eng_fails.proofs.Failing as failure
use Rattle.eng_fails.proofs.EndingBad as ending
use Rattle.eng_fails.proofs.FinishingBad.{shows-same}
use Rattle.eng_world.proofs.Words.{Told, HasAnswered, BadContents}
use Rattle.eng_world.specs.Nodes.{EndContents}

module _ {L D : Type 0} (lay : LayoutGhosts L) (disk : DiskGhosts D) (old : Array L D) (c n : ℕ) (after : D) (first count : ℕ) (bytes : List ℕ) (outcome : Outcome) (sound : IsSound lay disk old) (r : CallBack lay disk old c n after first bytes count outcome)
    (on : (has_failed old.devices r.at.device ≡ true) ⊎ HasDevice old.cols.states r.at.column r.at.device) where
  abbrev y : Shape
  y = lay.shape old.layout

  abbrev k : ℕ
  k = r.at.column

  abbrev device : ℕ
  device = r.at.device

  pub slot-below : device < length old.devices.slots
  slot-below = seen-below old.devices device _ r.are_out.device

  failed-below : device < length old.devices.failed
  failed-below = let long = sound.seated.long in let lt = slot-below in omega (arith, long, lt)

  -- no column that is left has the device
  apart : (j d : ℕ) → HasDevice (killed old.cols.states k) j d → d ≢ device
  apart j d h e = elim on [
    | inl failed ↦ let z : true ≡ false = sym failed ∙ (sym (ap (has_failed old.devices) e) ∙ sound.seated.unfailed j d (device-back old.cols.states k j d h)) in let u : ⊥ = cc in u
    | inr has ↦
        let same = sound.seated.order.one_column j k device (subst (HasDevice old.cols.states j) e (device-back old.cols.states k j d h)) has in
        killed-device old.cols.states k d (subst (λ (i : ℕ). HasDevice (killed old.cols.states k) i d) same h)
  ]

  seated-lost : Seated disk y (record old.cols { states = killed old.cols.states k }) (failing old.devices device)
  seated-lost = record {
    fit = record { columns = length-set old.cols.states k Dead ∙ sound.seated.fit.columns; stripes = sound.seated.fit.stripes };
    kept = failure.kept-killed old.cols k sound.seated.kept;
    order = order-kept old.cols.states k sound.seated.order;
    long = length-set old.devices.failed device true ∙ sound.seated.long;
    there = λ j d h. sound.seated.there j d (device-back old.cols.states k j d h);
    unfailed = λ j d h. get_or-set_other old.devices.failed device d true false (apart j d h) ∙ sound.seated.unfailed j d (device-back old.cols.states k j d h);
  }

  pub struck-sound : IsSound lay disk (struck_lost old r.at)
  struck-sound = kept-sound lay disk old old.clients (record old.cols { states = killed old.cols.states k }) (slice_set old.devices.failed device true) old.log old.lost sound refl (λ j. stays (desk_at old.clients j)) seated-lost

  -- what came back is as it was
  pub back-lost : CallBack lay disk (struck_lost old r.at) c n after first bytes count outcome
  back-lost = record {
    unit = r.unit;
    buf = r.buf;
    at = r.at;
    left = r.left;
    buffer = r.buffer;
    writes = r.writes;
    out = r.out;
    kind = r.kind;
    spot = r.spot;
    are_out = record { device = r.are_out.device; seat = r.are_out.seat; bytes = r.are_out.bytes; long = r.are_out.long; first_is = r.are_out.first_is; count_is = r.are_out.count_is; room = r.are_out.room };
    calls = r.calls;
    long = r.long;
    same_buffer = r.same_buffer;
    kept = r.kept;
  }

  abbrev BackAs : Array L D → Type 0
  BackAs m = (b : CallBack lay disk m c n after first bytes count outcome) × (b.buf ≡ r.buf) × (b.at ≡ r.at)

  pub back-at : (m : Array L D) → m ≡ struck_lost old r.at → (b : CallBack lay disk m c n after first bytes count outcome) × (b.buf ≡ r.buf) × (b.at ≡ r.at)
  unfolding back-lost
  back-at m is = subst BackAs (sym is) (back-lost, refl, refl)

  pub sound-at : (m : Array L D) → m ≡ struck_lost old r.at → IsSound lay disk m
  sound-at m is = subst (IsSound lay disk) (sym is) struck-sound

  module _ (fin : Array L D) (loss : Loss) (is_lost : old.lost ≡ Some loss) (ends : EndsBad lay disk old c n after first bytes count outcome r) (h : CameHome (struck_lost old r.at) c n r.buf r.at after bytes Bad fin) where
    abbrev e : Desk
    e = desk_at old.clients c

    abbrev log : Logged
    log = noted fin.log (event.Bad (id_of old.clients c) n)

    abbrev p : Phase
    p = (with_ended e n Bad).run.phase

    rebuilt : log.rebuilt ≡ old.log.rebuilt
    rebuilt = ap (λ (l : Logged). l.rebuilt) h.log

    history : log.history ≡ old.log.history
    history = ap (λ (l : Logged). l.history) h.log

    handed : log.handed ≡ old.log.handed
    handed = ap (λ (l : Logged). l.handed) h.log

    module _ (w : World) (s : Shows disk old w) where
      abbrev mid : World
      mid = ending.mid lay disk old c n after first count bytes outcome sound r w s log rebuilt history handed p

      abbrev was : Running
      was = ending.was lay disk old c n after first count bytes outcome sound r w s log rebuilt history handed p

      abbrev x : World
      x = record mid { failed = λ d. w.failed d || (d == device); columns = killed w.columns k }

      lost-contents : (q : Node) → BadContents y was q r.at w mid → EndContents y was q (Some r.at) false w x
      lost-contents (Rd unit buf) b = b
      lost-contents (Wr unit buf) b = b
      lost-contents (Xor to) b = b
      lost-contents Cmt b = b
      lost-contents Trm b = b

      lost-bad : LostBad y c n w x
      lost-bad = record {
        was = was;
        call = ending.call-made lay disk old c n after first count bytes outcome sound r;
        at = r.at;
        at_is = r.spot;
        home = record {
          next = ending.next lay disk old c n after first count bytes outcome sound r w s log rebuilt history handed p;
          answer = is_ok_of outcome;
          answered = subst (λ (o : Option Spot). HasAnswered false (ending.kind_now lay disk old c n after first count bytes outcome sound r) o w (is_ok_of outcome)) (sym r.spot) (ending.answered lay disk old c n after first count bytes outcome sound r w s log rebuilt history handed p ends);
          finishes = record {
            runs = (ending.running lay disk old c n after first count bytes outcome sound r w s log rebuilt history handed p).1;
            below = ending.node lay disk old c n after first count bytes outcome sound r;
            out = r.out.mark;
            plan = refl;
            node = set-marked e.run.marks n status.Bad (ending.marks lay disk old c n after first count bytes outcome sound r);
            fired_at = λ j ne. refl;
            told = subst (λ (o : Option Spot). Told y e.run.graph (ending.kind_now lay disk old c n after first count bytes outcome sound r) o (is_ok_of outcome) w x) (sym r.spot) (put-same w.calls r.at.device _, λ j ne. put-other w.calls r.at.device _ j ne);
            out_less = ending.some-out lay disk old c n after first count bytes outcome sound r w s log rebuilt history handed p;
          };
          contents = subst (λ (o : Option Spot). EndContents y was (ending.kind_now lay disk old c n after first count bytes outcome sound r) o false w x) (sym r.spot) (lost-contents (ending.kind_now lay disk old c n after first count bytes outcome sound r) (ending.bad-contents lay disk old c n after first count bytes outcome sound r w s log rebuilt history handed p));
          goes = record {
            items = ap (λ (q : Client). q.items) (put-same w.clients c _);
            replies = ap (λ (q : Client). q.replies) (put-same w.clients c _);
            handed = λ i b j. ap (λ (q : Client). q.handed i b j) (put-same w.clients c _);
            current = ap (λ (q : Client). q.current) (put-same w.clients c _);
            others = λ j ne. put-other w.clients c _ j ne;
          };
          blocks = record { blocks = λ b j. refl; history = refl };
          free = refl;
          rebuilt = refl;
          lost = refl;
        };
        failed = λ d. refl;
        columns = refl;
      }

      abbrev ghost_core : Array L D
      ghost_core = struck_lost (ending.alone_core lay disk old c n after first count bytes outcome sound r log p) r.at

      shows-ghost : Shows disk ghost_core x
      shows-ghost = let t = ending.shows-mid lay disk old c n after first count bytes outcome sound r w s log rebuilt history handed p in record {
        contents = t.contents;
        failed = λ d. ap (λ (b : Bool). b || (d == device)) (s.failed d) ∙ sym (failure.one-fails old.devices.failed device failed-below d);
        calls = t.calls;
        columns = ap (λ (cols : List ColumnState). killed cols k) s.columns;
        clients = t.clients;
        free = t.free;
        out = t.out;
        rebuilt = t.rebuilt;
        history = t.history;
        lost = t.lost;
        handed = t.handed;
      }

    pub lost-follows : Follows lay disk old (event.Bad (id_of old.clients c) n) (record fin { log = log })
    unfolding lost-bad
    lost-follows w s = (
      x w s,
      shows-same disk (ghost_core w s) (record fin { log = log }) (x w s) h.devices h.cols h.clients h.pool h.lists refl h.lost (shows-ghost w s),
      subst (λ (l : Option Loss). StepBy y (graphs_of old.graphs.items) l (event.Bad (id_of old.clients c) n) w (x w s)) (sym (s.lost ∙ is_lost)) (lost-bad w s, refl),
    )
