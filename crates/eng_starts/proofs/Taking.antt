-- An operation is taken: one event of the world.
use Rattle.std.proofs.Common.{◌≡◌, ◌≢◌, ℕ, ◌<◌, ◌-◌, List, length, get_or, subst, sym, ap, ◌∙◌, arith, inl, refl, Option, Some, None}
use Rattle.std.specs.Prelude.{slice_set, Contains}
use Rattle.std.proofs.lemmas.List.{get_or_default}
use Rattle.blk_plain.specs.declared.op.Op.{Op}
use Rattle.blk_disk.specs.declared.disk.Disk.{Ghosts as DiskGhosts}
use Rattle.buf_pool.specs.Pool as pool
use Rattle.stripe_lock.specs.declared.mode.Mode.{Mode}
use Rattle.lay_core.specs.Layout.{Shape}
use Rattle.lay_core.specs.declared.layout.Layout.{Ghosts as LayoutGhosts}
use Rattle.graph_mean.specs.Task.{Aim, Missing, missing_of}
use Rattle.graph_mean.specs.Refused.{IsFree as Unrefused}
use Rattle.graph_mean.specs.Graph.{Held, View}
use Rattle.eng_cols.specs.declared.spot.Loss.{Loss}
use Rattle.eng_world.specs.declared.item.Traced.TheVariants as event
use Rattle.eng_world.specs.World.{Plan, Running, Client, World, Runs as IsRunning}
use Rattle.eng_world.specs.Planning.{IsFresh}
use Rattle.eng_world.specs.Serving.{Takes}
use Rattle.eng_world.specs.Step.{StepBy, Step}
use Rattle.eng_clients.specs.declared.stage.Stage.TheVariants.{Nothing, Waits, Runs}
use Rattle.eng_state.specs.declared.array.Array.{Array}
use Rattle.eng_clients.specs.Desk.{Desk, desk_at, graph_of, plan_of, with_started, with_lease}
use Rattle.eng_state.specs.Moves.{id_of}
use Rattle.eng_clients.specs.Planned.{CanRun}
use Rattle.eng_plan.specs.Asked.{lease_for}
use Rattle.eng_clients.specs.Seats.{bytes_at}
use Rattle.eng_state.specs.Serves.{Serves, ServesWell, Stands, CanTake}
use Rattle.eng_state.specs.Shows.{Shows, ShowsClient, running_as}
use Rattle.eng_state.specs.Sound.{IsSound, IsWell, RunsWell, IsOutOf}
use Rattle.eng_state.specs.Steps.{graphs_of, Follows}
use Rattle.eng_state.specs.Taken.{Taken}
use Rattle.eng_state.proofs.Asking as asking
use Rattle.eng_starts.proofs.Changing as changing
use Rattle.eng_log.proofs.Filling.{covers-below}
use Rattle.eng_starts.proofs.KeepingServed as keeping
use Rattle.eng_state.proofs.Put.{put, put-same, put-other}
use Rattle.eng_log.proofs.Seating.{fills-lease, fills-home}
use Rattle.eng_state.proofs.Served as served
use Rattle.eng_state.proofs.Shown.{unlost}
use Rattle.eng_state.proofs.Handing.{hands-kept}
use Rattle.eng_log.specs.Filled.{buffer_byte}
use Rattle.eng_world.proofs.Words.{IsAccepted}

-- the graph of the file was refused for no cause
passed : (graphs : List Held) (d : Desk) (p : Plan) (file : Option ℕ) → p.graph ≡ graph_of graphs d → CanRun graphs d → p.task ≡ d.task → p.missing ≡ missing_of d.missing → IsAccepted file p
passed graphs d p None g r t m = tt
passed graphs d p (Some n) g r t m =
    subst (λ (v : View). Unrefused v p.task p.missing) (sym g) (subst (λ (a : Aim). Unrefused (graph_of graphs d) a p.missing) (sym t) (subst (λ (ms : Missing). Unrefused (graph_of graphs d) d.task ms) (sym m) r.free))

module _ {L D : Type 0} (lay : LayoutGhosts L) (disk : DiskGhosts D) (old new : Array L D) (c : ℕ) (op : Op) (file : Option ℕ) (sound : IsSound lay disk old) (stands : Stands lay old) (can : CanTake lay old c)
    (serves : Serves old.graphs.items (lay.shape old.layout) (desk_at old.clients c) op file) (f : Taken lay old c op file (event.Take (id_of old.clients c)) new) where
  abbrev y : Shape
  y = lay.shape old.layout

  abbrev gs : List Held
  gs = old.graphs.items

  abbrev d : Desk
  d = desk_at old.clients c

  abbrev now : Desk
  now = with_started gs (with_lease f.plan f.lease)

  abbrev g : View
  g = graph_of gs f.plan

  busy : d.stage ≢ Nothing
  busy none = let z : Waits ≡ Nothing = sym can.waits ∙ none in let u : ⊥ = cc in u

  below17 : c < 17
  below17 = served.busy-below y gs old.pool old.clients c sound.well busy

  below : c < length old.clients
  below = let all = sound.well.all in let h = below17 in omega (arith, all, h)

  rests : d.stage ≢ Runs
  rests runs = let z : Waits ≡ Runs = sym can.waits ∙ runs in let u : ⊥ = cc in u

  long : length f.lease ≡ lease_for y gs op file
  long = f.leases.count

  -- ## The pool

  leased-new : pool.IsLease new.pool f.lease
  leased-new = fills-lease f.mid new.pool f.lease f.lease f.filled.alone f.leases.is_lease

  home-new : pool.AllHome new.pool f.lease
  home-new = fills-home f.mid new.pool f.lease f.lease f.filled.alone f.leases.all_home

  -- a seat that isn't leased here is as it was
  seat-kept : (k : ℕ) → (Contains f.lease k → ⊥) → pool.seat_at new.pool.seats k ≡ pool.seat_at old.pool.seats k
  seat-kept k free = f.filled.alone.others k free ∙ f.leases.others k free

  -- the seats of another lease are
  others-free : (m : List ℕ) → pool.IsLease old.pool m → (b : ℕ) → b < length m → Contains f.lease (get_or m b 0) → ⊥
  others-free m lease b lt has = (f.apart m lease).1 b has.0 lt has.1 (sym (get_or_default f.lease has.0 0 (get_or m b 0) has.1 ∙ has.2))

  lease-of : (k : ℕ) → (desk_at old.clients k).stage ≡ Runs → RunsWell y gs old.pool (desk_at old.clients k)
  lease-of k runs = (sound.well.each k (served.busy-below y gs old.pool old.clients k sound.well (λ none. let z : Runs ≡ Nothing = sym runs ∙ none in let u : ⊥ = cc in u))).runs runs

  other-lease : (k : ℕ) → (desk_at old.clients k).stage ≡ Runs → pool.IsLease new.pool (desk_at old.clients k).lease
  other-lease k runs = fills-lease f.mid new.pool f.lease (desk_at old.clients k).lease f.filled.alone (f.apart (desk_at old.clients k).lease (lease-of k runs).lease).0

  other-seat : (k b : ℕ) → (desk_at old.clients k).stage ≡ Runs → b < length (desk_at old.clients k).lease → pool.seat_at new.pool.seats (get_or (desk_at old.clients k).lease b 0) ≡ pool.seat_at old.pool.seats (get_or (desk_at old.clients k).lease b 0)
  other-seat k b runs lt = seat-kept (get_or (desk_at old.clients k).lease b 0) (others-free (desk_at old.clients k).lease (lease-of k runs).lease b lt)

  -- ## The world

  module _ (w : World) (s : Shows disk old w) where
    abbrev buf : ℕ → ℕ → ℕ → ℕ
    buf b o k = buffer_byte g (bytes_at new.pool f.lease b) b o k

    abbrev next : Running
    next = running_as now buf

    abbrev v : Client
    v = record (w.clients c) { current = IsRunning next }

    abbrev x : World
    x = record w { clients = put w.clients c v; free = w.free - length f.lease }

    fresh : IsFresh y op (plan_of now) next
    fresh = record {
      plan = refl;
      node = served.begun-idle g;
      phase = refl;
      by = refl;
      buf = λ b u o k is covers lt. f.filled.fresh_is b u o k is covers lt;
    }

    takes : Takes y (graphs_of gs) c w x
    takes = record {
      op = op;
      graph = file;
      plan = plan_of now;
      can = asking.may lay disk old c op file sound stands can serves f.plan f.replanned (length f.lease) long w s;
      passes = passed gs f.plan (plan_of now) file refl f.runs refl refl;
      running = next;
      is_fresh = fresh;
      goes = record {
        items = ap (λ (q : Client). q.items) (put-same w.clients c v);
        replies = ap (λ (q : Client). q.replies) (put-same w.clients c v);
        handed = λ i b k. ap (λ (q : Client). q.handed i b k) (put-same w.clients c v);
        current = ap (λ (q : Client). q.current) (put-same w.clients c v);
        others = λ k ne. put-other w.clients c v k ne;
      };
      only = keeping.only-clients lay disk old new f.rest w c v (w.free - length f.lease);
      free = refl;
      out = refl;
    }

    shows-now : ShowsClient disk.tells None new.pool now v
    shows-now = record {
      items = (unlost disk old w s can.not_lost c).items ∙ sym (served.items-same y sound.layout gs old.cols.states op file d f.plan serves f.replanned f.runs f.lease long);
      replies = (unlost disk old w s can.not_lost c).replies ∙ sym (served.replies-same y sound.layout gs old.cols.states op file d f.plan serves f.replanned f.runs f.lease long);
      current = (buf, refl, λ told b o k covers lt. refl);
    }

    shows-clients : (k : ℕ) → ShowsClient disk.tells None new.pool (desk_at (slice_set old.clients c now) k) (x.clients k)
    shows-clients = keeping.shown-each lay disk old new f.rest new.pool (slice_set old.clients c now) w.clients c now v (changing.here old.clients c now below) (changing.else old.clients c now below) shows-now
        (λ k ne. keeping.shown-else disk.tells old.pool new.pool (desk_at old.clients k) (w.clients k)
        (λ runs b o covers. ap (λ (t : pool.SeatView). t.bytes) (other-seat k b runs (let lt = covers-below (desk_at old.clients k).run.graph b o covers in let bufs = (lease-of k runs).bufs in omega (arith, lt, bufs)))) (unlost disk old w s can.not_lost k))

    frees : w.free - length f.lease ≡ length new.pool.free
    frees = let a = s.free in let b = f.leases.free in let e = ap length f.filled.alone.free in let h = long in omega (arith, a, b, e, h)

    shows-new : Shows disk new x
    shows-new = keeping.shows-of lay disk old new f.rest w c v (w.free - length f.lease) s can.not_lost (event.Take (id_of old.clients c)) f.log frees
        (λ k. subst (λ (l : List Desk). ShowsClient disk.tells None new.pool (desk_at l k) (x.clients k)) (sym f.clients) (shows-clients k)) (hands-kept disk.tells old.log.handed w.clients c v refl refl s.handed)

    steps : Step y (graphs_of gs) (event.Take (id_of old.clients c)) w x
    steps = subst (λ (l : Option Loss). StepBy y (graphs_of gs) l (event.Take (id_of old.clients c)) w x) (sym (s.lost ∙ can.not_lost)) (ap length (unlost disk old w s can.not_lost c).replies, inl takes)

  pub take-follows : Follows lay disk old (event.Take (id_of old.clients c)) new
  take-follows w s = (x w s, shows-new w s, steps w s)

  -- ## What it keeps

  after-clients : new.clients ≡ slice_set old.clients c now
  after-clients = f.clients

  well-now : IsWell y gs new.pool now
  well-now = record {
    runs = λ is. served.runs-well y sound.layout gs old.cols.states op file d f.plan serves f.replanned f.runs f.lease long new.pool leased-new;
    idle = λ ne. absurd (ne refl);
    spots = ap (λ (e : Desk). length e.spots) f.replanned.rest ∙ (sound.well.each c below17).spots;
    replies = let e = ap (λ (a : Desk). length a.replies) f.replanned.rest in let i = ap (λ (a : Desk). length a.items) f.replanned.rest in let h = (sound.well.each c below17).replies in omega (arith, e, i, h);
  }

  apart-now : (k : ℕ) → k ≢ c → pool.AreApart f.lease (desk_at old.clients k).lease × pool.AreApart (desk_at old.clients k).lease f.lease
  apart-now k ne = (
    (λ i j hi hj e. (away j hj).1 j i hj hi (sym e)),
    (λ i j hi hj e. (away i hi).1 i j hi hj e),
  )
    where
      away : (b : ℕ) → b < length (desk_at old.clients k).lease → pool.IsLease f.mid (desk_at old.clients k).lease × pool.AreApart (desk_at old.clients k).lease f.lease
      away b lt = f.apart (desk_at old.clients k).lease (lease-of k (served.leases-runs y gs old.pool old.clients sound.well k b lt)).lease

  seat-out : (k b : ℕ) → k ≢ c → b < length (desk_at old.clients k).lease → (pool.seat_at new.pool.seats (get_or (desk_at old.clients k).lease b 0)).out ≡ (pool.seat_at old.pool.seats (get_or (desk_at old.clients k).lease b 0)).out
  seat-out k b ne lt = ap (λ (t : pool.SeatView). t.out) (other-seat k b (served.leases-runs y gs old.pool old.clients sound.well k b lt) lt)

  quiet : (n : ℕ) → IsOutOf d n → ⊥
  quiet n o = rests o.runs

  calm : (n : ℕ) → IsOutOf now n → ⊥
  calm n o = served.begun-calm gs (with_lease f.plan f.lease) n o

  pub take-sound : IsSound lay disk new
  take-sound = keeping.sound-of lay disk old new f.rest (slice_set old.clients c now) f.clients sound (f.filled.alone.unit ∙ f.leases.unit)
      (changing.well-after old.clients c now below y gs old.pool new.pool (λ k ne runs. other-lease k runs) well-now apart-now sound.well)
      (changing.devices-after old.clients c now below quiet calm old.devices sound.devices)
      (changing.seats-after old.clients c now below quiet calm old.pool new.pool seat-out (λ runs. home-new) (changing.named-in y gs old.pool old.clients sound.well) sound.seats)
      (changing.locked-after old.clients c now below old.locks new.locks f.locks.owners (λ k t ne. f.locks.others k t ne)
      (λ runs t has. f.locks.each t has ∙ ap (λ (m : Mode). Some m) (sym (served.mode-is y sound.layout gs old.cols.states op file d f.plan serves f.replanned f.runs f.lease long)))
      (λ runs t none. f.locks.only t none)
      (λ ne. absurd (ne refl)) sound.locked)
      (changing.jobs-after old.clients c now below ((sound.well.each c below17).idle rests).1 (served.begun-jobs g))

  pub take-stands : Stands lay new
  take-stands = keeping.stands-of lay disk old new f.rest (slice_set old.clients c now) f.clients stands
      (changing.each-after old.clients c now below (λ k e. ServesWell gs y e) (served.serves-well y sound.layout gs old.cols.states op file d f.plan serves f.replanned f.runs f.lease long) (λ k ne. stands.serves k))
