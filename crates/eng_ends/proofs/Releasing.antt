-- A core is sound after an operation of which no node is out has given all back.
use Rattle.std.proofs.Common.{◌≡◌, ◌≢◌, ℕ, ◌<◌, ◌+◌, ◌*◌, List, [], ◌∷◌, length, get_or, subst, sym, ap, ◌∙◌, arith, inl, inr, refl, true, Some, None, length-append}
use Rattle.std.specs.Prelude.{IsSome, slice_set, sum_by, Contains}
use Rattle.std.proofs.lemmas.Bool.{cases_eq}
use Rattle.std.proofs.lemmas.Grind.{get_or_default_zero}
use Rattle.std.proofs.lemmas.List.{length-set}
use Rattle.std.proofs.lemmas.List.Sums.{sum_by-set}
use Rattle.std.proofs.lemmas.Option.{slice_get_within}
use Rattle.blk_disk.specs.declared.disk.Disk.{Ghosts as DiskGhosts}
use Rattle.buf_pool.specs.Pool as pool
use Rattle.stripe_lock.specs.Table.{HoldsNothing, mode_of}
use Rattle.lay_core.specs.Layout.{Shape, IsLayout}
use Rattle.lay_core.specs.declared.layout.Layout.{Ghosts as LayoutGhosts}
use Rattle.graph_mean.specs.declared.step.Status.TheVariants as status
use Rattle.graph_mean.specs.Graph.{Held, kind_at}
use Rattle.graph_mean.specs.Steps.{IsCall}
use Rattle.eng_one.specs.Control.{mark_of}
use Rattle.eng_cols.specs.Cols.{Columns}
use Rattle.eng_world.specs.declared.item.Reply.{Reply}
use Rattle.eng_world.specs.Nodes.{MakesOrUses}
use Rattle.eng_clients.specs.declared.stage.Stage.TheVariants.{Nothing, Runs}
use Rattle.eng_state.specs.declared.array.Array.{Array}
use Rattle.eng_parts.specs.Shelf.{Shelved}
use Rattle.eng_clients.specs.Desk.{Desk, desk_at, no_desk, spot_at, with_reply}
use Rattle.eng_state.specs.Sound.{IsSound, IsOutOf, HasAway, RunsWell, IsWell, AreWell, Locked, Seated, DevicesOut, SeatsOut, jobs_of, mode_for}
use Rattle.eng_state.specs.Moves.{Released}
use Rattle.eng_state.proofs.Shown.{desk-set, desk-else}
use Rattle.eng_state.proofs.Running.{runs_below}
use Rattle.eng_state.proofs.Putting.{out-below, none-out-sum}

module _ {L D : Type 0} (lay : LayoutGhosts L) (disk : DiskGhosts D) (old new : Array L D) (c : ℕ) (reply : Reply) (sound : IsSound lay disk old) (runs : (desk_at old.clients c).stage ≡ Runs)
    (alone : (m : ℕ) → mark_of (desk_at old.clients c).run m ≢ status.Out) (f : Released old c reply new) where
  abbrev y : Shape
  y = lay.shape old.layout

  abbrev d : Desk
  d = desk_at old.clients c

  abbrev done : Desk
  done = with_reply d reply

  abbrev after : List Desk
  after = slice_set old.clients c done

  below17 : c < 17
  below17 = runs_below y old.graphs.items old.pool old.clients c sound.well runs

  below : c < length old.clients
  below = let all = sound.well.all in let h = below17 in omega (arith, all, h)

  here : desk_at after c ≡ done
  here = desk-set old.clients c done below

  other : (k : ℕ) → k ≢ c → desk_at after k ≡ desk_at old.clients k
  other k ne = desk-else old.clients c k done ne

  -- the client doesn't run any more
  idle-here : (k : ℕ) → k ≡ c → (desk_at after k).stage ≡ Runs → ⊥
  idle-here k is r = let z : Nothing ≡ Runs = sym (ap (λ (e : Desk). e.stage) (ap (desk_at after) is ∙ here)) ∙ r in let u : ⊥ = cc in u

  well : RunsWell y old.graphs.items old.pool d
  well = (sound.well.each c below17).runs runs

  -- a seat of another's lease isn't one of this
  apart-seat : (k b : ℕ) → k ≢ c → b < length (desk_at old.clients k).lease → Contains d.lease (get_or (desk_at old.clients k).lease b 0) → ⊥
  apart-seat k b ne lt has = sound.well.apart k c ne b has.0 lt has.1 (sym (sym (get_or_default_zero d.lease has.0 _ has.1) ∙ has.2))

  same-seat : (k b : ℕ) → k ≢ c → b < length (desk_at old.clients k).lease → pool.seat_at new.pool.seats (get_or (desk_at old.clients k).lease b 0) ≡ pool.seat_at old.pool.seats (get_or (desk_at old.clients k).lease b 0)
  same-seat k b ne lt = f.pool.others (get_or (desk_at old.clients k).lease b 0) (apart-seat k b ne lt)

  -- ## What is out

  was-out : (k m : ℕ) → IsOutOf (desk_at after k) m → (k ≢ c) × IsOutOf (desk_at old.clients k) m
  was-out k m p = elim (cases_eq k c) [
    | inl is ↦ absurd (idle-here k is p.runs)
    | inr ne ↦ (ne, subst (λ (e : Desk). IsOutOf e m) (other k ne) p)
  ]

  still-out : (k m : ℕ) → IsOutOf (desk_at old.clients k) m → (k ≢ c) × IsOutOf (desk_at after k) m
  still-out k m p = elim (cases_eq k c) [
    | inl is ↦ absurd (alone m (subst (λ (j : ℕ). mark_of (desk_at old.clients j).run m ≡ status.Out) is p.mark))
    | inr ne ↦ (ne, subst (λ (e : Desk). IsOutOf e m) (sym (other k ne)) p)
  ]

  away-was : (k m device : ℕ) → HasAway after k m device → HasAway old.clients k m device
  away-was k m device h = let o = was-out k m h.out in record { out = o.1; at = h.at; spot = sym (ap (λ (e : Desk). spot_at e m) (other k o.0)) ∙ h.spot; is = h.is }

  away-still : (k m device : ℕ) → HasAway old.clients k m device → HasAway after k m device
  away-still k m device h = let o = still-out k m h.out in record { out = o.1; at = h.at; spot = ap (λ (e : Desk). spot_at e m) (other k o.0) ∙ h.spot; is = h.is }

  devices : DevicesOut after old.devices
  devices = record {
    away = λ k m device h. sound.devices.away k m device (away-was k m device h);
    held = λ device x is. let h = sound.devices.held device x is in (h.0, h.1, away-still h.0 h.1 device h.2);
    one = λ k j m i device g h. sound.devices.one k j m i device (away-was k m device g) (away-was j i device h);
    placed = λ k m p call. let o = was-out k m p in
        subst (λ (e : Desk). IsCall (kind_at e.run.graph m) → IsSome (spot_at e m)) (sym (other k o.0)) (sound.devices.placed k m o.1) call;
    unplaced = λ k m p none. let o = was-out k m p in
        subst (λ (e : Desk). (IsCall (kind_at e.run.graph m) → ⊥) → spot_at e m ≡ None) (sym (other k o.0)) (sound.devices.unplaced k m o.1) none;
  }

  named-in : (k m b : ℕ) → IsOutOf (desk_at old.clients k) m → MakesOrUses (desk_at old.clients k).run.graph m b → b < length (desk_at old.clients k).lease
  named-in k m b p t =
      let w = (sound.well.each k (runs_below y old.graphs.items old.pool old.clients k sound.well p.runs)).runs p.runs in
      let e = w.marks in let lt = out-below (desk_at old.clients k).run.marks m p.mark in let bufs = w.bufs in
      let node : m < length (desk_at old.clients k).run.graph.nodes = omega (arith, e, lt) in
      elim t [
        | inl made ↦ let h = w.accepted.2.makes_named m b node made in omega (arith, bufs, h)
        | inr used ↦ let h = w.accepted.2.uses_named m b node used in omega (arith, bufs, h)
      ]

  seats : SeatsOut after new.pool
  seats = record {
    away = λ k m b p t. let o = was-out k m p in let takes = subst (λ (e : Desk). MakesOrUses e.run.graph m b) (other k o.0) t in
        subst (λ (e : Desk). (pool.seat_at new.pool.seats (get_or e.lease b 0)).out ≡ true) (sym (other k o.0))
        (ap (λ (v : pool.SeatView). v.out) (same-seat k b o.0 (named-in k m b o.1 takes)) ∙ sound.seats.away k m b o.1 takes);
    held = λ k b stage lt out. elim (cases_eq k c) [
      | inl is ↦ absurd (idle-here k is stage)
      | inr ne ↦ let lt2 = subst (λ (e : Desk). b < length e.lease) (other k ne) lt in
          let out2 = subst (λ (e : Desk). (pool.seat_at new.pool.seats (get_or e.lease b 0)).out ≡ true) (other k ne) out in
          let h = sound.seats.held k b (sym (ap (λ (e : Desk). e.stage) (other k ne)) ∙ stage) lt2 (sym (ap (λ (v : pool.SeatView). v.out) (same-seat k b ne lt2)) ∙ out2) in
          (h.0, (still-out k h.0 h.1).1, subst (λ (e : Desk). MakesOrUses e.run.graph h.0 b) (sym (other k ne)) h.2)
    ];
    one = λ k m i b p q t u. let o = was-out k m p in
        sound.seats.one k m i b o.1 (was-out k i q).1 (subst (λ (e : Desk). MakesOrUses e.run.graph m b) (other k o.0) t) (subst (λ (e : Desk). MakesOrUses e.run.graph i b) (other k o.0) u);
  }

  -- ## Clients

  well-now : IsWell y old.graphs.items new.pool done
  well-now = record {
    runs = λ r. let z : Nothing ≡ Runs = r in absurd (let u : ⊥ = cc in u);
    idle = λ ne. (refl, none-out-sum d.run.marks alone);
    spots = (sound.well.each c below17).spots;
    replies = let lt = slice_get_within d.items (length d.replies) _ well.item in let e = length-append d.replies (reply ∷ []) in omega (arith, lt, e);
  }

  well-other : (k : ℕ) → k < 17 → k ≢ c → IsWell y old.graphs.items new.pool (desk_at old.clients k)
  well-other k lt ne = let h = sound.well.each k lt in record {
    runs = λ r. let x = h.runs r in record { op = x.op; item = x.item; task = x.task; stripes = x.stripes; lends = x.lends; few = x.few; few_bufs = x.few_bufs; marks = x.marks; accepted = x.accepted; reached = x.reached; lease = f.leases (desk_at old.clients k).lease x.lease (sound.well.apart k c ne); bufs = x.bufs };
    idle = h.idle;
    spots = h.spots;
    replies = h.replies;
  }

  wells : AreWell y old.graphs.items new.pool after
  wells = record {
    all = length-set old.clients c done ∙ sound.well.all;
    each = λ k lt. elim (cases_eq k c) [
      | inl is ↦ subst (λ (j : ℕ). IsWell y old.graphs.items new.pool (desk_at after j)) (sym is) (subst (λ (e : Desk). IsWell y old.graphs.items new.pool e) (sym here) well-now)
      | inr ne ↦ subst (λ (e : Desk). IsWell y old.graphs.items new.pool e) (sym (other k ne)) (well-other k lt ne)
    ];
    apart = λ k j ne. elim (cases_eq k c) [
      | inl is ↦ subst (λ (l : List ℕ). pool.AreApart l (desk_at after j).lease) (sym (ap (λ (e : Desk). e.lease) (ap (desk_at after) is ∙ here))) (λ a b lt more. absurd (omega (arith, lt)))
      | inr nk ↦ elim (cases_eq j c) [
        | inl is ↦ subst (λ (l : List ℕ). pool.AreApart (desk_at after k).lease l) (sym (ap (λ (e : Desk). e.lease) (ap (desk_at after) is ∙ here))) (λ a b more lt. absurd (omega (arith, lt)))
        | inr nj ↦ subst (λ (e : Desk). pool.AreApart e.lease (desk_at after j).lease) (sym (other k nk)) (subst (λ (e : Desk). pool.AreApart (desk_at old.clients k).lease e.lease) (sym (other j nj)) (sound.well.apart k j ne))
      ]
    ];
  }

  locked : Locked after new.locks
  locked = record {
    owners = f.locks.owners ∙ sound.locked.owners;
    each = λ k s r has. elim (cases_eq k c) [
      | inl is ↦ absurd (idle-here k is r)
      | inr ne ↦ f.locks.others k s ne ∙ (subst (λ (e : Desk). e.stage ≡ Runs → Contains e.map.stripes s → mode_of old.locks k s ≡ Some (mode_for e.task.kind)) (sym (other k ne)) (sound.locked.each k s) r has)
    ];
    only = λ k s r none. elim (cases_eq k c) [
      | inl is ↦ absurd (idle-here k is r)
      | inr ne ↦ f.locks.others k s ne ∙ (subst (λ (e : Desk). e.stage ≡ Runs → (Contains e.map.stripes s → ⊥) → mode_of old.locks k s ≡ None) (sym (other k ne)) (sound.locked.only k s) r none)
    ];
    idle = λ k ne_runs. elim (cases_eq k c) [
      | inl is ↦ subst (λ (j : ℕ). HoldsNothing new.locks j) (sym is) f.locks.nothing
      | inr ne ↦ λ s. f.locks.others k s ne ∙ subst (λ (e : Desk). (e.stage ≢ Runs) → HoldsNothing old.locks k) (sym (other k ne)) (sound.locked.idle k) ne_runs s
    ];
  }

  pub release-sound : IsSound lay disk new
  release-sound = record {
    layout = subst IsLayout shape sound.layout;
    seated = subst (λ (v : Shape). Seated disk v new.cols new.devices) shape (subst (λ (v : Columns). Seated disk y v new.devices) (sym f.cols) (subst (λ (v : Shelved D). Seated disk y old.cols v) (sym f.devices) sound.seated));
    unit = f.pool.unit ∙ (sound.unit ∙ ap (λ (v : Shape). 512 * v.unit_sectors) shape);
    well = subst (λ (v : Shape). AreWell v new.graphs.items new.pool new.clients) shape (subst (λ (l : List Held). AreWell y l new.pool new.clients) (sym (ap (λ v. v.items) f.graphs)) (subst (λ (l : List Desk). AreWell y old.graphs.items new.pool l) (sym f.clients) wells));
    devices = subst (λ (l : List Desk). DevicesOut l new.devices) (sym f.clients) (subst (λ (v : Shelved D). DevicesOut after v) (sym f.devices) devices);
    seats = subst (λ (l : List Desk). SeatsOut l new.pool) (sym f.clients) seats;
    locked = subst (λ (l : List Desk). Locked l new.locks) (sym f.clients) locked;
    jobs = jobs;
  }
    where
      shape : y ≡ lay.shape new.layout
      shape = sym (ap lay.shape f.layout)

      jobs : new.lists + sum_by jobs_of new.clients ≡ 32
      jobs =
          let moved = ap (sum_by jobs_of) f.clients in let all = sum_by-set jobs_of old.clients c done no_desk below in
          let same : jobs_of done ≡ jobs_of d = refl in let lists = f.lists in let was = sound.jobs in omega (arith, moved, all, same, lists, was)
