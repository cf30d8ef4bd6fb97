-- An operation that was undone is given up: one event of the world.
use Rattle.std.proofs.Common.{◌≡◌, ◌≢◌, ℕ, ◌<◌, ◌+◌, List, [], ◌∷◌, ◌++◌, length, length-append, get_or, subst, sym, ap, ◌∙◌, arith, refl, Option, Some, None}
use Rattle.std.specs.Prelude.{slice_set, slice_get}
use Rattle.blk_plain.specs.declared.op.Op.{Op}
use Rattle.blk_disk.specs.declared.disk.Disk.{Ghosts as DiskGhosts}
use Rattle.buf_pool.specs.Pool as pool
use Rattle.lay_core.specs.Layout.{Shape}
use Rattle.lay_core.specs.declared.layout.Layout.{Ghosts as LayoutGhosts}
use Rattle.graph_mean.specs.Graph.{Held}
use Rattle.eng_cols.specs.declared.spot.Loss.{Loss}
use Rattle.eng_world.specs.declared.item.Item.{Item}
use Rattle.eng_world.specs.declared.item.Item.TheVariants as item
use Rattle.eng_world.specs.declared.item.Reply.{Reply}
use Rattle.eng_world.specs.declared.item.Reply.TheVariants as reply
use Rattle.eng_world.specs.declared.item.Traced.TheVariants as event
use Rattle.eng_world.specs.World.{Running, Client, World, item_now, Nothing as Idles, Runs as IsRunning}
use Rattle.eng_world.specs.Serving.{GivesUp, Backs}
use Rattle.eng_world.specs.Step.{StepBy, Step}
use Rattle.eng_clients.specs.declared.stage.Stage.TheVariants.{Nothing, Runs}
use Rattle.eng_state.specs.declared.array.Array.{Array}
use Rattle.eng_clients.specs.Desk.{Desk, desk_at, item_at, with_reply}
use Rattle.eng_state.specs.Moves.{id_of}
use Rattle.eng_state.specs.Serves.{Serves, ServesWell, Stands, CanBack}
use Rattle.eng_state.specs.Shows.{Shows, ShowsClient, HoldBytes, running_as}
use Rattle.eng_state.specs.Sound.{IsSound, IsWell}
use Rattle.eng_state.specs.Steps.{graphs_of, Follows}
use Rattle.eng_state.specs.Taken.{GivenUp}
use Rattle.eng_starts.proofs.Backing as backing
use Rattle.eng_starts.proofs.Changing as changing
use Rattle.eng_log.proofs.Filling.{covers-below}
use Rattle.eng_starts.proofs.KeepingServed as keeping
use Rattle.eng_state.proofs.Put.{put, put-same, put-other}
use Rattle.eng_state.proofs.Served as served
use Rattle.eng_state.proofs.Shown.{unlost, shown-running}
use Rattle.eng_state.proofs.Handing.{hands-replied}

module _ {L D : Type 0} (lay : LayoutGhosts L) (disk : DiskGhosts D) (old new : Array L D) (c : ℕ) (op : Op) (file : ℕ) (device : ℕ) (sound : IsSound lay disk old) (stands : Stands lay old) (can : CanBack lay old c)
    (serves : Serves old.graphs.items (lay.shape old.layout) (desk_at old.clients c) op (Some file)) (by : (desk_at old.clients c).by ≡ Some device) (f : GivenUp lay old c (reply.Undone device) (event.Back (id_of old.clients c)) new) where
  abbrev y : Shape
  y = lay.shape old.layout

  abbrev gs : List Held
  gs = old.graphs.items

  abbrev e : Desk
  e = desk_at old.clients c

  abbrev r : Reply
  r = reply.Undone device

  abbrev now : Desk
  now = with_reply e r

  here-below : c < length old.clients
  here-below = backing.below lay disk old c op (Some file) sound stands can serves

  other-seat : (k b : ℕ) → k ≢ c → b < length (desk_at old.clients k).lease → pool.seat_at new.pool.seats (get_or (desk_at old.clients k).lease b 0) ≡ pool.seat_at old.pool.seats (get_or (desk_at old.clients k).lease b 0)
  other-seat k b ne lt = f.pool.others (get_or (desk_at old.clients k).lease b 0) (backing.seat-free lay disk old c op (Some file) sound stands can serves k b ne lt)

  module _ (w : World) (s : Shows disk old w) where
    running : (buf : ℕ → ℕ → ℕ → ℕ) × ((w.clients c).current ≡ IsRunning (running_as e buf)) × HoldBytes disk.tells old.pool e buf
    running = shown-running disk.tells None old.pool e (w.clients c) (unlost disk old w s can.not_lost c) can.runs

    abbrev was : Running
    was = running_as e running.0

    abbrev v : Client
    v = record (w.clients c) { replies = (w.clients c).replies ++ r ∷ []; current = Idles }

    abbrev x : World
    x = record w { clients = put w.clients c v; free = w.free + length e.lease }

    item-is : item_now (w.clients c) ≡ item_at e
    item-is = ap (λ (l : List Item). slice_get l (length (w.clients c).replies)) (unlost disk old w s can.not_lost c).items ∙ ap (λ (l : List Reply). slice_get e.items (length l)) (unlost disk old w s can.not_lost c).replies

    gives-up : GivesUp c was w x
    gives-up = record {
      device = device;
      by = by;
      replied = record {
        items = ap (λ (q : Client). q.items) (put-same w.clients c v);
        replies = ap (λ (q : Client). q.replies) (put-same w.clients c v);
        handed = λ i b k ne. ap (λ (q : Client). q.handed i b k) (put-same w.clients c v);
        current = ap (λ (q : Client). q.current) (put-same w.clients c v);
        others = λ k ne. put-other w.clients c v k ne;
      };
      only = keeping.only-clients lay disk old new f.rest w c v (w.free + length e.lease);
      free = refl;
      out = refl;
    }

    backs : Backs y (graphs_of gs) c w x
    backs = record {
      was = was;
      runs = running.1;
      undone = can.undone;
      op = op;
      graph = Some file;
      item = item-is ∙ serves.item;
      back = gives-up;
    }

    shows-now : ShowsClient disk.tells None new.pool now v
    shows-now = record {
      items = (unlost disk old w s can.not_lost c).items;
      replies = ap (λ (l : List Reply). l ++ r ∷ []) (unlost disk old w s can.not_lost c).replies;
      current = refl;
    }

    shows-clients : (k : ℕ) → ShowsClient disk.tells None new.pool (desk_at (slice_set old.clients c now) k) (x.clients k)
    shows-clients = keeping.shown-each lay disk old new f.rest new.pool (slice_set old.clients c now) w.clients c now v (changing.here old.clients c now here-below) (changing.else old.clients c now here-below) shows-now
        (λ k ne. keeping.shown-else disk.tells old.pool new.pool (desk_at old.clients k) (w.clients k)
        (λ runs b o covers. ap (λ (t : pool.SeatView). t.bytes) (other-seat k b ne (let lt = covers-below (desk_at old.clients k).run.graph b o covers in let bufs = (backing.others-well lay disk old c op (Some file) sound stands can serves k runs).bufs in omega (arith, lt, bufs)))) (unlost disk old w s can.not_lost k))

    shows-new : Shows disk new x
    shows-new = keeping.shows-of lay disk old new f.rest w c v (w.free + length e.lease) s can.not_lost (event.Back (id_of old.clients c)) f.log (let a = s.free in let b = f.pool.free in omega (arith, a, b))
        (λ k. subst (λ (l : List Desk). ShowsClient disk.tells None new.pool (desk_at l k) (x.clients k)) (sym f.clients) (shows-clients k)) (hands-replied disk.tells old.log.handed w.clients c v r refl refl refl s.handed)

    steps : Step y (graphs_of gs) (event.Back (id_of old.clients c)) w x
    steps = subst (λ (l : Option Loss). StepBy y (graphs_of gs) l (event.Back (id_of old.clients c)) w x) (sym (s.lost ∙ can.not_lost)) (ap length (unlost disk old w s can.not_lost c).replies, backs)

  pub up-follows : Follows lay disk old (event.Back (id_of old.clients c)) new
  up-follows w s = (x w s, shows-new w s, steps w s)

  -- ## What it keeps

  idle-now : now.stage ≢ Runs
  idle-now runs = let z : Nothing ≡ Runs = runs in let u : ⊥ = cc in u

  well-now : IsWell y gs new.pool now
  well-now = record {
    runs = λ is. absurd (idle-now is);
    idle = λ ne. (refl, backing.no-jobs lay disk old c op (Some file) sound stands can serves);
    spots = (sound.well.each c (backing.below17 lay disk old c op (Some file) sound stands can serves)).spots;
    replies =
        let h = served.item-below e (item.Run op (Some file)) serves.item in
        let more = length-append e.replies (r ∷ []) in
        omega (arith, h, more);
  }

  apart-now : (k : ℕ) → k ≢ c → pool.AreApart [] (desk_at old.clients k).lease × pool.AreApart (desk_at old.clients k).lease []
  apart-now k ne = ((λ i j hi hj e. let u : ⊥ = omega (arith, hi) in u), (λ i j hi hj e. let u : ⊥ = omega (arith, hj) in u))

  pub up-sound : IsSound lay disk new
  up-sound = keeping.sound-of lay disk old new f.rest (slice_set old.clients c now) f.clients sound f.pool.unit
      (changing.well-after old.clients c now here-below y gs old.pool new.pool (λ k ne runs. f.others (desk_at old.clients k).lease (backing.others-well lay disk old c op (Some file) sound stands can serves k runs).lease (sound.well.apart k c ne)) well-now apart-now sound.well)
      (changing.devices-after old.clients c now here-below (backing.quiet lay disk old c op (Some file) sound stands can serves) (λ m o. idle-now o.runs) old.devices sound.devices)
      (changing.seats-after old.clients c now here-below (backing.quiet lay disk old c op (Some file) sound stands can serves) (λ m o. idle-now o.runs) old.pool new.pool (λ k b ne lt. ap (λ (t : pool.SeatView). t.out) (other-seat k b ne lt)) (λ runs. absurd (idle-now runs)) (changing.named-in y gs old.pool old.clients sound.well) sound.seats)
      (changing.locked-after old.clients c now here-below old.locks new.locks f.locks.owners (λ k t ne. f.locks.others k t ne) (λ runs. absurd (idle-now runs)) (λ runs. absurd (idle-now runs)) (λ ne. f.locks.nothing) sound.locked)
      (changing.jobs-after old.clients c now here-below (backing.no-jobs lay disk old c op (Some file) sound stands can serves) (backing.no-jobs lay disk old c op (Some file) sound stands can serves))

  pub up-stands : Stands lay new
  up-stands = keeping.stands-of lay disk old new f.rest (slice_set old.clients c now) f.clients stands
      (changing.each-after old.clients c now here-below (λ k a. ServesWell gs y a) (record { busy = λ b. absurd (b refl); runs = λ is. absurd (idle-now is) }) (λ k ne. stands.serves k))
