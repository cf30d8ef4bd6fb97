-- The graph of an operation is refused as it is taken: one event of the world.
use Rattle.std.proofs.Common.{◌≡◌, ◌≢◌, ℕ, ◌<◌, List, [], ◌∷◌, ◌++◌, length, length-append, subst, sym, ap, ◌∙◌, arith, inr, refl, Option, None}
use Rattle.std.specs.Prelude.{slice_set}
use Rattle.blk_plain.specs.declared.op.Op.{Op}
use Rattle.blk_disk.specs.declared.disk.Disk.{Ghosts as DiskGhosts}
use Rattle.buf_pool.specs.Pool as pool
use Rattle.stripe_lock.specs.Table.{Table}
use Rattle.lay_core.specs.Layout.{Shape}
use Rattle.lay_core.specs.declared.layout.Layout.{Ghosts as LayoutGhosts}
use Rattle.graph_mean.specs.Graph.{Held}
use Rattle.eng_cols.specs.declared.spot.Loss.{Loss}
use Rattle.eng_world.specs.declared.item.Item.TheVariants as item
use Rattle.eng_world.specs.declared.item.Reply.{Reply}
use Rattle.eng_world.specs.declared.item.Reply.TheVariants as reply
use Rattle.graph_mean.specs.declared.refusal.Refusal.{Refusal}
use Rattle.eng_world.specs.declared.item.Traced.TheVariants as event
use Rattle.eng_world.specs.World.{Client, World, Nothing as Idles}
use Rattle.eng_world.specs.Serving.{CanTake as MayTake, Refuses}
use Rattle.eng_world.specs.Step.{StepBy, Step}
use Rattle.eng_clients.specs.declared.stage.Stage.TheVariants.{Nothing, Runs}
use Rattle.eng_state.specs.declared.array.Array.{Array}
use Rattle.eng_clients.specs.Desk.{Desk, desk_at, with_reply}
use Rattle.eng_state.specs.Moves.{id_of}
use Rattle.eng_plan.specs.Asked.{lease_for}
use Rattle.eng_state.specs.Serves.{Serves, ServesWell, Stands, CanTake}
use Rattle.eng_state.specs.Shows.{Shows, ShowsClient}
use Rattle.eng_state.specs.Sound.{IsSound, IsWell, AreWell, SeatsOut, Locked, jobs_of}
use Rattle.eng_state.specs.Steps.{graphs_of, Follows}
use Rattle.eng_state.specs.Taken.{Refused}
use Rattle.eng_state.proofs.Asking as asking
use Rattle.eng_starts.proofs.Changing as changing
use Rattle.eng_starts.proofs.KeepingServed as keeping
use Rattle.eng_state.proofs.Put.{put, put-same, put-other}
use Rattle.eng_state.proofs.Served as served
use Rattle.eng_state.proofs.Shown.{unlost}
use Rattle.eng_state.proofs.Handing.{hands-replied}

module _ {L D : Type 0} (lay : LayoutGhosts L) (disk : DiskGhosts D) (old new : Array L D) (c : ℕ) (op : Op) (file : Option ℕ) (cause : Refusal) (sound : IsSound lay disk old) (stands : Stands lay old) (can : CanTake lay old c)
    (serves : Serves old.graphs.items (lay.shape old.layout) (desk_at old.clients c) op file) (f : Refused lay old c op file cause (reply.Refused cause) (event.Take (id_of old.clients c)) new) where
  abbrev y : Shape
  y = lay.shape old.layout

  abbrev gs : List Held
  gs = old.graphs.items

  abbrev d : Desk
  d = desk_at old.clients c

  abbrev r : Reply
  r = reply.Refused cause

  abbrev now : Desk
  now = with_reply f.plan r

  abbrev n : ℕ
  n = lease_for y gs op file

  below17 : c < 17
  below17 = asking.below17 lay disk old c op file sound stands can serves f.plan f.replanned n refl

  below : c < length old.clients
  below = asking.below lay disk old c op file sound stands can serves f.plan f.replanned n refl

  rests : d.stage ≢ Runs
  rests = asking.rests lay disk old c op file sound stands can serves f.plan f.replanned n refl

  module _ (w : World) (s : Shows disk old w) where
    abbrev v : Client
    v = record (w.clients c) { replies = (w.clients c).replies ++ r ∷ []; current = Idles }

    abbrev x : World
    x = record w { clients = put w.clients c v; free = w.free }

    refuses : Refuses y (graphs_of gs) c w x
    refuses = record {
      op = op;
      graph = f.refused.0;
      plan = asking.asked lay disk old c op file sound stands can serves f.plan f.replanned n refl;
      can = subst (λ (o : Option ℕ). MayTake y (graphs_of gs) c op o (asking.asked lay disk old c op file sound stands can serves f.plan f.replanned n refl) w) f.refused.1 (asking.may lay disk old c op file sound stands can serves f.plan f.replanned n refl w s);
      cause = cause;
      refused = f.refused.2;
      replies = record {
        replied = record {
          items = ap (λ (q : Client). q.items) (put-same w.clients c v);
          replies = ap (λ (q : Client). q.replies) (put-same w.clients c v);
          handed = λ i b k ne. ap (λ (q : Client). q.handed i b k) (put-same w.clients c v);
          current = ap (λ (q : Client). q.current) (put-same w.clients c v);
          others = λ k ne. put-other w.clients c v k ne;
        };
        only = keeping.only-clients lay disk old new f.rest w c v w.free;
        pool = record { free = refl; out = refl };
      };
    }

    shows-now : ShowsClient disk.tells None old.pool now v
    shows-now = record {
      items = (unlost disk old w s can.not_lost c).items ∙ sym (ap (λ (e : Desk). e.items) f.replanned.rest);
      replies = ap (λ (l : List Reply). l ++ r ∷ []) ((unlost disk old w s can.not_lost c).replies ∙ sym (ap (λ (e : Desk). e.replies) f.replanned.rest));
      current = refl;
    }

    shows-clients : (k : ℕ) → ShowsClient disk.tells None old.pool (desk_at (slice_set old.clients c now) k) (x.clients k)
    shows-clients = keeping.shown-each lay disk old new f.rest old.pool (slice_set old.clients c now) w.clients c now v (changing.here old.clients c now below) (changing.else old.clients c now below) shows-now (λ k ne. unlost disk old w s can.not_lost k)

    shows-new : Shows disk new x
    shows-new = keeping.shows-of lay disk old new f.rest w c v w.free s can.not_lost (event.Take (id_of old.clients c)) f.log (s.free ∙ ap (λ (p : pool.PoolView). length p.free) (sym f.pool))
        (λ k. subst (λ (p : pool.PoolView). ShowsClient disk.tells None p (desk_at new.clients k) (x.clients k)) (sym f.pool) (subst (λ (l : List Desk). ShowsClient disk.tells None old.pool (desk_at l k) (x.clients k)) (sym f.clients) (shows-clients k))) (hands-replied disk.tells old.log.handed w.clients c v r refl refl refl s.handed)

    steps : Step y (graphs_of gs) (event.Take (id_of old.clients c)) w x
    steps = subst (λ (l : Option Loss). StepBy y (graphs_of gs) l (event.Take (id_of old.clients c)) w x) (sym (s.lost ∙ can.not_lost)) (ap length (unlost disk old w s can.not_lost c).replies, inr refuses)

  pub refuse-follows : Follows lay disk old (event.Take (id_of old.clients c)) new
  refuse-follows w s = (x w s, shows-new w s, steps w s)

  -- ## What it keeps

  idle-now : now.stage ≢ Runs
  idle-now runs = let z : Nothing ≡ Runs = runs in let u : ⊥ = cc in u

  jobs-now : jobs_of now ≡ 0
  jobs-now = ap (λ (e : Desk). jobs_of e) f.replanned.rest ∙ ((sound.well.each c below17).idle rests).1

  well-now : IsWell y gs old.pool now
  well-now = record {
    runs = λ is. absurd (idle-now is);
    idle = λ ne. (refl, jobs-now);
    spots = ap (λ (e : Desk). length e.spots) f.replanned.rest ∙ (sound.well.each c below17).spots;
    replies =
        let e = ap (λ (a : Desk). length a.replies) f.replanned.rest in
        let i = ap (λ (a : Desk). length a.items) f.replanned.rest in
        let h = served.item-below d (item.Run op file) serves.item in
        let more = length-append f.plan.replies (r ∷ []) in
        omega (arith, e, i, h, more);
  }

  apart-now : (k : ℕ) → k ≢ c → pool.AreApart [] (desk_at old.clients k).lease × pool.AreApart (desk_at old.clients k).lease []
  apart-now k ne = ((λ i j hi hj e. let u : ⊥ = omega (arith, hi) in u), (λ i j hi hj e. let u : ⊥ = omega (arith, hj) in u))

  pub refuse-sound : IsSound lay disk new
  refuse-sound = keeping.sound-of lay disk old new f.rest (slice_set old.clients c now) f.clients sound (ap (λ (p : pool.PoolView). p.unit) f.pool)
      (subst (λ (p : pool.PoolView). AreWell y gs p (slice_set old.clients c now)) (sym f.pool) (changing.well-after old.clients c now below y gs old.pool old.pool (λ k ne runs. (asking.lease-of lay disk old c op file sound stands can serves f.plan f.replanned n refl k runs).lease) well-now apart-now sound.well))
      (changing.devices-after old.clients c now below (λ m o. rests o.runs) (λ m o. idle-now o.runs) old.devices sound.devices)
      (subst (λ (p : pool.PoolView). SeatsOut (slice_set old.clients c now) p) (sym f.pool) (changing.seats-after old.clients c now below (λ m o. rests o.runs) (λ m o. idle-now o.runs) old.pool old.pool (λ k b ne lt. refl) (λ runs. absurd (idle-now runs)) (changing.named-in y gs old.pool old.clients sound.well) sound.seats))
      (subst (λ (t : Table). Locked (slice_set old.clients c now) t) (sym f.locks) (changing.locked-after old.clients c now below old.locks old.locks refl (λ k t ne. refl) (λ runs. absurd (idle-now runs)) (λ runs. absurd (idle-now runs)) (λ ne. sound.locked.idle c rests) sound.locked))
      (changing.jobs-after old.clients c now below ((sound.well.each c below17).idle rests).1 jobs-now)

  serves-now : ServesWell gs y now
  serves-now = record { busy = λ b. absurd (b refl); runs = λ is. absurd (idle-now is) }

  pub refuse-stands : Stands lay new
  refuse-stands = keeping.stands-of lay disk old new f.rest (slice_set old.clients c now) f.clients stands
      (changing.each-after old.clients c now below (λ k e. ServesWell gs y e) serves-now (λ k ne. stands.serves k))
