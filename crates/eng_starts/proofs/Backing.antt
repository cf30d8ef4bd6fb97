-- An operation that was undone is planned anew: one event of the world.
use Rattle.std.proofs.Common.{Bool, ◌≡◌, ◌≢◌, ℕ, ◌<◌, List, length, get_or, subst, sym, ap, ◌∙◌, arith, inl, inr, refl, Option, Some, None}
use Rattle.std.specs.Prelude.{slice_set, Contains, slice_get}
use Rattle.std.proofs.lemmas.List.{get_or_default}
use Rattle.std.proofs.lemmas.List.Elements.{All-contains}
use Rattle.std.proofs.lemmas.Bool.{cases_Bool}
use Rattle.lay_core.specs.Touched.{Touched, IsSplit}
use Rattle.blk_plain.specs.declared.op.Span.{Span}
use Rattle.blk_plain.specs.declared.op.Op.{Op}
use Rattle.blk_disk.specs.declared.disk.Disk.{Ghosts as DiskGhosts}
use Rattle.buf_pool.specs.Pool as pool
use Rattle.stripe_lock.specs.Table.{Table}
use Rattle.stripe_lock.specs.declared.mode.Mode.{Mode}
use Rattle.lay_core.specs.Layout.{Shape}
use Rattle.lay_core.specs.declared.layout.Layout.{Ghosts as LayoutGhosts}
use Rattle.graph_mean.specs.Task.{Aim}
use Rattle.graph_mean.specs.Graph.{Held, View}
use Rattle.eng_cols.specs.Cols.{ColumnState}
use Rattle.eng_cols.specs.declared.spot.Loss.{Loss}
use Rattle.eng_world.specs.declared.item.Item.{Item}
use Rattle.eng_world.specs.declared.item.Reply.{Reply}
use Rattle.eng_world.specs.declared.item.Traced.TheVariants as event
use Rattle.eng_world.specs.World.{Running, Client, World, item_now, Runs as IsRunning}
use Rattle.eng_world.specs.Planning.{IsPlan}
use Rattle.eng_world.specs.Serving.{PlansAnew, Backs}
use Rattle.eng_world.specs.Step.{StepBy, Step}
use Rattle.eng_clients.specs.declared.stage.Stage.TheVariants.{Nothing, Runs}
use Rattle.eng_state.specs.declared.array.Array.{Array}
use Rattle.eng_clients.specs.Desk.{Desk, desk_at, graph_of, item_at, plan_of, with_started}
use Rattle.eng_state.specs.Moves.{id_of}
use Rattle.eng_plan.specs.Asked.{lease_for, blocks_by}
use Rattle.eng_plan.proofs.Maps.{op-count}
use Rattle.eng_starts.proofs.SameStripes.{same-at}
use Rattle.eng_clients.specs.Seats.{bytes_at}
use Rattle.eng_state.specs.Serves.{Serves, ServesWell, RunsOn, Stands, CanBack}
use Rattle.eng_state.specs.Shows.{Shows, ShowsClient, HoldBytes, running_as}
use Rattle.eng_state.specs.Sound.{IsSound, IsWell, RunsWell, Locked, IsOutOf, jobs_of, mode_for}
use Rattle.eng_state.specs.Steps.{graphs_of, Follows}
use Rattle.eng_state.specs.Taken.{Replaced}
use Rattle.eng_state.proofs.Putting.{none-out-sum}
use Rattle.eng_starts.proofs.Changing as changing
use Rattle.eng_log.proofs.Filling.{covers-below}
use Rattle.eng_starts.proofs.KeepingServed as keeping
use Rattle.eng_state.proofs.Put.{put, put-same, put-other}
use Rattle.eng_log.proofs.Seating.{fills-lease, fills-home}
use Rattle.eng_state.proofs.Served as served
use Rattle.eng_state.proofs.Shown.{unlost, shown-running}
use Rattle.eng_state.proofs.Handing.{hands-kept}
use Rattle.eng_log.specs.Filled.{buffer_byte}

-- two splits of one test have the same stripes
pub same-stripes : (y : Shape) (test : ℕ → Bool) (a b : Touched) → IsSplit y test a → IsSplit y test b → (s : ℕ) → Contains a.stripes s → Contains b.stripes s
same-stripes y test a b sa sb s has =
    let below = All-contains (λ i. i < y.stripes) a.stripes s sa.stripes_within has in
    (sb.stripes_touched s below).1 ((sa.stripes_touched s below).0 has)

-- of an operation that is undone nothing is out
module _ {L D : Type 0} (lay : LayoutGhosts L) (disk : DiskGhosts D) (old : Array L D) (c : ℕ) (op : Op) (file : Option ℕ) (sound : IsSound lay disk old) (stands : Stands lay old) (can : CanBack lay old c)
    (serves : Serves old.graphs.items (lay.shape old.layout) (desk_at old.clients c) op file) where
  abbrev d : Desk
  d = desk_at old.clients c

  pub on : RunsOn old.graphs.items (lay.shape old.layout) d op file
  on = (stands.serves c).runs can.runs op file serves

  pub quiet : (n : ℕ) → IsOutOf d n → ⊥
  quiet n o = on.undone can.undone n o.mark

  pub no-jobs : jobs_of d ≡ 0
  no-jobs = none-out-sum d.run.marks (λ k. on.undone can.undone k)

  pub all-home : pool.AllHome old.pool d.lease
  all-home b lt = elim (cases_Bool (pool.seat_at old.pool.seats (get_or d.lease b 0)).out) [
    | inl out ↦ let h = sound.seats.held c b can.runs lt out in absurd (quiet h.0 h.1)
    | inr home ↦ home
  ]

  pub below17 : c < 17
  below17 = served.busy-below (lay.shape old.layout) old.graphs.items old.pool old.clients c sound.well (λ none. let z : Runs ≡ Nothing = sym can.runs ∙ none in let u : ⊥ = cc in u)

  pub below : c < length old.clients
  below = let all = sound.well.all in let h = below17 in omega (arith, all, h)

  pub well : RunsWell (lay.shape old.layout) old.graphs.items old.pool d
  well = (sound.well.each c below17).runs can.runs

  pub others-well : (k : ℕ) → (desk_at old.clients k).stage ≡ Runs → RunsWell (lay.shape old.layout) old.graphs.items old.pool (desk_at old.clients k)
  others-well k runs = (sound.well.each k (served.busy-below (lay.shape old.layout) old.graphs.items old.pool old.clients k sound.well (λ none. let z : Runs ≡ Nothing = sym runs ∙ none in let u : ⊥ = cc in u))).runs runs

  -- no seat of another is one of its lease
  pub seat-free : (k b : ℕ) → k ≢ c → b < length (desk_at old.clients k).lease → Contains d.lease (get_or (desk_at old.clients k).lease b 0) → ⊥
  seat-free k b ne lt has = sound.well.apart c k (λ e. ne (sym e)) has.0 b has.1 lt (get_or_default d.lease has.0 0 (get_or (desk_at old.clients k).lease b 0) has.1 ∙ has.2)

module _ {L D : Type 0} (lay : LayoutGhosts L) (disk : DiskGhosts D) (old new : Array L D) (c : ℕ) (op : Op) (sound : IsSound lay disk old) (stands : Stands lay old) (can : CanBack lay old c)
    (serves : Serves old.graphs.items (lay.shape old.layout) (desk_at old.clients c) op None) (f : Replaced lay old c op (event.Back (id_of old.clients c)) new) where
  abbrev y : Shape
  y = lay.shape old.layout

  abbrev gs : List Held
  gs = old.graphs.items

  abbrev e : Desk
  e = desk_at old.clients c

  abbrev now : Desk
  now = with_started gs f.plan

  abbrev g : View
  g = graph_of gs f.plan

  here-below : c < length old.clients
  here-below = below lay disk old c op None sound stands can serves

  ons : RunsOn gs y e op None
  ons = on lay disk old c op None sound stands can serves

  lease-same : f.plan.lease ≡ e.lease
  lease-same = ap (λ (a : Desk). a.lease) f.replanned.rest

  long : length f.plan.lease ≡ lease_for y gs op None
  long = ap length lease-same ∙ ons.lease

  other-seat : (k b : ℕ) → k ≢ c → b < length (desk_at old.clients k).lease → pool.seat_at new.pool.seats (get_or (desk_at old.clients k).lease b 0) ≡ pool.seat_at old.pool.seats (get_or (desk_at old.clients k).lease b 0)
  other-seat k b ne lt = f.filled.alone.others (get_or (desk_at old.clients k).lease b 0) (λ has. seat-free lay disk old c op None sound stands can serves k b ne lt (subst (λ (l : List ℕ). Contains l (get_or (desk_at old.clients k).lease b 0)) lease-same has))

  leases : (m : List ℕ) → pool.IsLease old.pool m → pool.IsLease new.pool m
  leases m is = fills-lease old.pool new.pool f.plan.lease m f.filled.alone is

  lease-old : pool.IsLease old.pool f.plan.lease
  lease-old = subst (λ (l : List ℕ). pool.IsLease old.pool l) (sym lease-same) (well lay disk old c op None sound stands can serves).lease

  home-new : pool.AllHome new.pool f.plan.lease
  home-new = fills-home old.pool new.pool f.plan.lease f.plan.lease f.filled.alone (subst (λ (l : List ℕ). pool.AllHome old.pool l) (sym lease-same) (all-home lay disk old c op None sound stands can serves))

  module _ (w : World) (s : Shows disk old w) where
    running : (buf : ℕ → ℕ → ℕ → ℕ) × ((w.clients c).current ≡ IsRunning (running_as e buf)) × HoldBytes disk.tells old.pool e buf
    running = shown-running disk.tells None old.pool e (w.clients c) (unlost disk old w s can.not_lost c) can.runs

    abbrev was : Running
    was = running_as e running.0

    abbrev buf : ℕ → ℕ → ℕ → ℕ
    buf b o k = buffer_byte g (bytes_at new.pool f.plan.lease b) b o k

    abbrev next : Running
    next = running_as now buf

    abbrev v : Client
    v = record (w.clients c) { current = IsRunning next }

    abbrev x : World
    x = record w { clients = put w.clients c v; free = w.free }

    item-is : item_now (w.clients c) ≡ item_at e
    item-is = ap (λ (l : List Item). slice_get l (length (w.clients c).replies)) (unlost disk old w s can.not_lost c).items ∙ ap (λ (l : List Reply). slice_get e.items (length l)) (unlost disk old w s can.not_lost c).replies

    anew : PlansAnew y (graphs_of gs) c op was w x
    anew = record {
      plan = plan_of now;
      is_plan = subst (λ (cols : List ColumnState). IsPlan y (graphs_of gs) cols op None (plan_of now)) (sym s.columns) (served.plan-is y sound.layout gs old.cols.states op None e f.plan serves f.replanned f.runs f.plan.lease long);
      index = ap length (served.replies-same y sound.layout gs old.cols.states op None e f.plan serves f.replanned f.runs f.plan.lease long);
      stripes = ap (λ (t : Aim). t.stripes) f.replanned.planned.task ∙ (op-count y sound.layout op f.plan.map f.replanned.planned.split ∙ (sym (op-count y sound.layout op e.map ons.split) ∙ (well lay disk old c op None sound stands can serves).stripes));
      stripe = λ q lt.
          let many = ap (λ (t : Aim). t.stripes) f.replanned.planned.task in
          let a = op-count y sound.layout op f.plan.map f.replanned.planned.split in let b = op-count y sound.layout op e.map ons.split in
          let p = f.replanned.planned.split.split in
          let o = ons.split.split in
          same-at f.plan.map.stripes e.map.stripes p.stripes_ascend o.stripes_ascend (same-stripes y (blocks_by y op) f.plan.map e.map p o) (same-stripes y (blocks_by y op) e.map f.plan.map o p) q (omega (arith, many, lt)) (omega (arith, many, lt, a, b));
      lease = ap length lease-same;
      next = next;
      is_fresh = record {
        plan = refl;
        node = served.begun-idle g;
        phase = refl;
        by = refl;
        buf = λ b u o k is covers lt. f.filled.fresh_is b u o k is covers lt;
      };
      goes = record {
        items = ap (λ (q : Client). q.items) (put-same w.clients c v);
        replies = ap (λ (q : Client). q.replies) (put-same w.clients c v);
        handed = λ i b k. ap (λ (q : Client). q.handed i b k) (put-same w.clients c v);
        current = ap (λ (q : Client). q.current) (put-same w.clients c v);
        others = λ k ne. put-other w.clients c v k ne;
      };
      only = keeping.only-clients lay disk old new f.rest w c v w.free;
      pool = record { free = refl; out = refl };
    }

    backs : Backs y (graphs_of gs) c w x
    backs = record {
      was = was;
      runs = running.1;
      undone = can.undone;
      op = op;
      graph = None;
      item = item-is ∙ serves.item;
      back = anew;
    }

    shows-now : ShowsClient disk.tells None new.pool now v
    shows-now = record {
      items = (unlost disk old w s can.not_lost c).items ∙ sym (ap (λ (a : Desk). a.items) f.replanned.rest);
      replies = (unlost disk old w s can.not_lost c).replies ∙ sym (ap (λ (a : Desk). a.replies) f.replanned.rest);
      current = (buf, refl, λ told b o k covers lt. refl);
    }

    shows-clients : (k : ℕ) → ShowsClient disk.tells None new.pool (desk_at (slice_set old.clients c now) k) (x.clients k)
    shows-clients = keeping.shown-each lay disk old new f.rest new.pool (slice_set old.clients c now) w.clients c now v (changing.here old.clients c now here-below) (changing.else old.clients c now here-below) shows-now
        (λ k ne. keeping.shown-else disk.tells old.pool new.pool (desk_at old.clients k) (w.clients k)
        (λ runs b o covers. ap (λ (t : pool.SeatView). t.bytes) (other-seat k b ne (let lt = covers-below (desk_at old.clients k).run.graph b o covers in let bufs = (others-well lay disk old c op None sound stands can serves k runs).bufs in omega (arith, lt, bufs)))) (unlost disk old w s can.not_lost k))

    shows-new : Shows disk new x
    shows-new = keeping.shows-of lay disk old new f.rest w c v w.free s can.not_lost (event.Back (id_of old.clients c)) f.log (s.free ∙ ap length (sym f.filled.alone.free))
        (λ k. subst (λ (l : List Desk). ShowsClient disk.tells None new.pool (desk_at l k) (x.clients k)) (sym f.clients) (shows-clients k)) (hands-kept disk.tells old.log.handed w.clients c v refl refl s.handed)

    steps : Step y (graphs_of gs) (event.Back (id_of old.clients c)) w x
    steps = subst (λ (l : Option Loss). StepBy y (graphs_of gs) l (event.Back (id_of old.clients c)) w x) (sym (s.lost ∙ can.not_lost)) (ap length (unlost disk old w s can.not_lost c).replies, backs)

  pub anew-follows : Follows lay disk old (event.Back (id_of old.clients c)) new
  anew-follows w s = (x w s, shows-new w s, steps w s)

  -- ## What it keeps

  well-now : IsWell y gs new.pool now
  well-now = record {
    runs = λ is. served.runs-well y sound.layout gs old.cols.states op None e f.plan serves f.replanned f.runs f.plan.lease long new.pool (leases f.plan.lease lease-old);
    idle = λ ne. absurd (ne refl);
    spots = ap (λ (a : Desk). length a.spots) f.replanned.rest ∙ (sound.well.each c (below17 lay disk old c op None sound stands can serves)).spots;
    replies = let a = ap (λ (a : Desk). length a.replies) f.replanned.rest in let i = ap (λ (a : Desk). length a.items) f.replanned.rest in let h = (sound.well.each c (below17 lay disk old c op None sound stands can serves)).replies in omega (arith, a, i, h);
  }

  apart-now : (k : ℕ) → k ≢ c → pool.AreApart f.plan.lease (desk_at old.clients k).lease × pool.AreApart (desk_at old.clients k).lease f.plan.lease
  apart-now k ne = subst (λ (l : List ℕ). pool.AreApart l (desk_at old.clients k).lease × pool.AreApart (desk_at old.clients k).lease l) (sym lease-same) (sound.well.apart c k (λ z. ne (sym z)), sound.well.apart k c ne)

  calm : (n : ℕ) → IsOutOf now n → ⊥
  calm n o = served.begun-calm gs f.plan n o

  mode-same : mode_for f.plan.task.kind ≡ mode_for e.task.kind
  mode-same = served.mode-is y sound.layout gs old.cols.states op None e f.plan serves f.replanned f.runs f.plan.lease long ∙ sym ons.mode

  pub anew-sound : IsSound lay disk new
  anew-sound = keeping.sound-of lay disk old new f.rest (slice_set old.clients c now) f.clients sound f.filled.alone.unit
      (changing.well-after old.clients c now here-below y gs old.pool new.pool (λ k ne runs. leases (desk_at old.clients k).lease (others-well lay disk old c op None sound stands can serves k runs).lease) well-now apart-now sound.well)
      (changing.devices-after old.clients c now here-below (quiet lay disk old c op None sound stands can serves) calm old.devices sound.devices)
      (changing.seats-after old.clients c now here-below (quiet lay disk old c op None sound stands can serves) calm old.pool new.pool (λ k b ne lt. ap (λ (t : pool.SeatView). t.out) (other-seat k b ne lt)) (λ runs. home-new) (changing.named-in y gs old.pool old.clients sound.well) sound.seats)
      (subst (λ (t : Table). Locked (slice_set old.clients c now) t) (sym f.locks) (changing.locked-after old.clients c now here-below old.locks old.locks refl (λ k t ne. refl)
      (λ runs t has. sound.locked.each c t can.runs (same-stripes y (blocks_by y op) f.plan.map e.map f.replanned.planned.split.split ons.split.split t has) ∙ ap (λ (m : Mode). Some m) (sym mode-same))
      (λ runs t none. sound.locked.only c t can.runs (λ has. none (same-stripes y (blocks_by y op) e.map f.plan.map ons.split.split f.replanned.planned.split.split t has)))
      (λ ne. absurd (ne refl)) sound.locked))
      (changing.jobs-after old.clients c now here-below (no-jobs lay disk old c op None sound stands can serves) (served.begun-jobs g))

  pub anew-stands : Stands lay new
  anew-stands = keeping.stands-of lay disk old new f.rest (slice_set old.clients c now) f.clients stands
      (changing.each-after old.clients c now here-below (λ k a. ServesWell gs y a) (served.serves-well y sound.layout gs old.cols.states op None e f.plan serves f.replanned f.runs f.plan.lease long) (λ k ne. stands.serves k))
