-- A core is sound after a client alone has changed, of which the same nodes are out.
use Rattle.std.proofs.Common.{◌≡◌, ◌≢◌, ℕ, ◌<◌, ◌+◌, ◌*◌, List, length, get_or, subst, sym, ap, ◌∙◌, arith, inl, inr, true, Some, None}
use Rattle.std.specs.Prelude.{IsSome, slice_set, sum_by, Contains, ◌↔◌}
use Rattle.std.proofs.lemmas.Bool.{cases_eq}
use Rattle.std.proofs.lemmas.List.{length-set}
use Rattle.std.proofs.lemmas.List.Sums.{sum_by-set}
use Rattle.blk_disk.specs.declared.disk.Disk.{Ghosts as DiskGhosts}
use Rattle.buf_pool.specs.Pool as pool
use Rattle.stripe_lock.specs.Table.{Table}
use Rattle.lay_core.specs.Layout.{Shape, IsLayout}
use Rattle.lay_core.specs.declared.layout.Layout.{Ghosts as LayoutGhosts}
use Rattle.graph_mean.specs.declared.step.Status.TheVariants as status
use Rattle.graph_mean.specs.Graph.{Held, View, kind_at}
use Rattle.graph_mean.specs.Steps.{IsCall}
use Rattle.eng_one.specs.Control.{mark_of}
use Rattle.eng_cols.specs.Cols.{Columns}
use Rattle.eng_world.specs.Nodes.{MakesOrUses}
use Rattle.eng_clients.specs.declared.stage.Stage.TheVariants.{Runs}
use Rattle.eng_state.specs.declared.array.Array.{Array}
use Rattle.eng_parts.specs.Shelf.{Shelved}
use Rattle.eng_clients.specs.Desk.{Desk, desk_at, no_desk, spot_at}
use Rattle.eng_state.specs.Sound.{IsSound, IsOutOf, HasAway, IsWell, AreWell, Locked, Seated, DevicesOut, SeatsOut, jobs_of, mode_for}
use Rattle.eng_state.specs.Moves.{OnlyClient}
use Rattle.eng_state.proofs.Shown.{desk-set, desk-else}

-- of the two desks the same nodes are out, and they run or don't by the same graph, lease, stripes and spots
pub record SameOut (d e : Desk) : Type 0 where
  pub stage : (e.stage ≡ Runs) ↔ (d.stage ≡ Runs)
  pub out : (m : ℕ) → (mark_of e.run m ≡ status.Out) ↔ (mark_of d.run m ≡ status.Out)
  pub jobs : jobs_of e ≡ jobs_of d
  pub graph : e.run.graph ≡ d.run.graph
  pub lease : e.lease ≡ d.lease
  pub spots : e.spots ≡ d.spots
  pub stripes : e.map.stripes ≡ d.map.stripes
  pub kind : e.task.kind ≡ d.task.kind

module _ {L D : Type 0} (lay : LayoutGhosts L) (disk : DiskGhosts D) (old new : Array L D) (c : ℕ) (e : Desk) (sound : IsSound lay disk old) (below : c < length old.clients) (f : OnlyClient old c e new)
    (s : SameOut (desk_at old.clients c) e) (well : IsWell (lay.shape old.layout) old.graphs.items old.pool e) where
  abbrev y : Shape
  y = lay.shape old.layout

  abbrev after : List Desk
  after = slice_set old.clients c e

  here : desk_at after c ≡ e
  here = desk-set old.clients c e below

  other : (k : ℕ) → k ≢ c → desk_at after k ≡ desk_at old.clients k
  other k ne = desk-else old.clients c k e ne

  -- what is the same of the two desks is so of all
  same : {A : Type 0} (g : Desk → A) → g e ≡ g (desk_at old.clients c) → (k : ℕ) → g (desk_at after k) ≡ g (desk_at old.clients k)
  same g q k = elim (cases_eq k c) [
    | inl is ↦ ap (λ (j : ℕ). g (desk_at after j)) is ∙ (ap g here ∙ (q ∙ sym (ap (λ (j : ℕ). g (desk_at old.clients j)) is)))
    | inr ne ↦ ap g (other k ne)
  ]

  stage-was : (k : ℕ) → (desk_at after k).stage ≡ Runs → (desk_at old.clients k).stage ≡ Runs
  stage-was k r = elim (cases_eq k c) [
    | inl is ↦ subst (λ (j : ℕ). (desk_at old.clients j).stage ≡ Runs) (sym is) (s.stage.0 (sym (ap (λ (a : Desk). a.stage) (ap (desk_at after) is ∙ here)) ∙ r))
    | inr ne ↦ sym (ap (λ (a : Desk). a.stage) (other k ne)) ∙ r
  ]

  stage-still : (k : ℕ) → (desk_at old.clients k).stage ≡ Runs → (desk_at after k).stage ≡ Runs
  stage-still k r = elim (cases_eq k c) [
    | inl is ↦ ap (λ (a : Desk). a.stage) (ap (desk_at after) is ∙ here) ∙ s.stage.1 (sym (ap (λ (j : ℕ). (desk_at old.clients j).stage) is) ∙ r)
    | inr ne ↦ ap (λ (a : Desk). a.stage) (other k ne) ∙ r
  ]

  was-out : (k m : ℕ) → IsOutOf (desk_at after k) m → IsOutOf (desk_at old.clients k) m
  was-out k m p = record {
    runs = stage-was k p.runs;
    mark = elim (cases_eq k c) [
      | inl is ↦ subst (λ (j : ℕ). mark_of (desk_at old.clients j).run m ≡ status.Out) (sym is) ((s.out m).0 (sym (ap (λ (a : Desk). mark_of a.run m) (ap (desk_at after) is ∙ here)) ∙ p.mark))
      | inr ne ↦ sym (ap (λ (a : Desk). mark_of a.run m) (other k ne)) ∙ p.mark
    ];
  }

  still-out : (k m : ℕ) → IsOutOf (desk_at old.clients k) m → IsOutOf (desk_at after k) m
  still-out k m p = record {
    runs = stage-still k p.runs;
    mark = elim (cases_eq k c) [
      | inl is ↦ ap (λ (a : Desk). mark_of a.run m) (ap (desk_at after) is ∙ here) ∙ (s.out m).1 (sym (ap (λ (j : ℕ). mark_of (desk_at old.clients j).run m) is) ∙ p.mark)
      | inr ne ↦ ap (λ (a : Desk). mark_of a.run m) (other k ne) ∙ p.mark
    ];
  }

  same-spots : (k : ℕ) → (desk_at after k).spots ≡ (desk_at old.clients k).spots
  same-spots = same (λ a. a.spots) s.spots

  same-graph : (k : ℕ) → (desk_at after k).run.graph ≡ (desk_at old.clients k).run.graph
  same-graph = same (λ a. a.run.graph) s.graph

  same-lease : (k : ℕ) → (desk_at after k).lease ≡ (desk_at old.clients k).lease
  same-lease = same (λ a. a.lease) s.lease

  spot-same : (k m : ℕ) → spot_at (desk_at after k) m ≡ spot_at (desk_at old.clients k) m
  spot-same k m = ap (λ l. get_or l m None) (same-spots k)

  away-was : (k m device : ℕ) → HasAway after k m device → HasAway old.clients k m device
  away-was k m device h = record { out = was-out k m h.out; at = h.at; spot = sym (spot-same k m) ∙ h.spot; is = h.is }

  away-still : (k m device : ℕ) → HasAway old.clients k m device → HasAway after k m device
  away-still k m device h = record { out = still-out k m h.out; at = h.at; spot = spot-same k m ∙ h.spot; is = h.is }

  devices : DevicesOut after old.devices
  devices = record {
    away = λ k m device h. sound.devices.away k m device (away-was k m device h);
    held = λ device x is. let h = sound.devices.held device x is in (h.0, h.1, away-still h.0 h.1 device h.2);
    one = λ k j m i device g h. sound.devices.one k j m i device (away-was k m device g) (away-was j i device h);
    placed = λ k m p call. subst IsSome (sym (spot-same k m)) (sound.devices.placed k m (was-out k m p) (subst (λ (g : View). IsCall (kind_at g m)) (same-graph k) call));
    unplaced = λ k m p none. spot-same k m ∙ sound.devices.unplaced k m (was-out k m p) (λ call. none (subst (λ (g : View). IsCall (kind_at g m)) (sym (same-graph k)) call));
  }

  seats : SeatsOut after old.pool
  seats = record {
    away = λ k m b p t. subst (λ (l : List ℕ). (pool.seat_at old.pool.seats (get_or l b 0)).out ≡ true) (sym (same-lease k)) (sound.seats.away k m b (was-out k m p) (subst (λ (g : View). MakesOrUses g m b) (same-graph k) t));
    held = λ k b stage lt out.
        let h = sound.seats.held k b (stage-was k stage) (subst (λ (l : List ℕ). b < length l) (same-lease k) lt) (subst (λ (l : List ℕ). (pool.seat_at old.pool.seats (get_or l b 0)).out ≡ true) (same-lease k) out) in
        (h.0, still-out k h.0 h.1, subst (λ (g : View). MakesOrUses g h.0 b) (sym (same-graph k)) h.2);
    one = λ k m i b p q t u. sound.seats.one k m i b (was-out k m p) (was-out k i q) (subst (λ (g : View). MakesOrUses g m b) (same-graph k) t) (subst (λ (g : View). MakesOrUses g i b) (same-graph k) u);
  }

  wells : AreWell y old.graphs.items old.pool after
  wells = record {
    all = length-set old.clients c e ∙ sound.well.all;
    each = λ k lt. elim (cases_eq k c) [
      | inl is ↦ subst (λ (j : ℕ). IsWell y old.graphs.items old.pool (desk_at after j)) (sym is) (subst (λ (a : Desk). IsWell y old.graphs.items old.pool a) (sym here) well)
      | inr ne ↦ subst (λ (a : Desk). IsWell y old.graphs.items old.pool a) (sym (other k ne)) (sound.well.each k lt)
    ];
    apart = λ k j ne. subst (λ (l : List ℕ). pool.AreApart l (desk_at after j).lease) (sym (same-lease k)) (subst (λ (l : List ℕ). pool.AreApart (desk_at old.clients k).lease l) (sym (same-lease j)) (sound.well.apart k j ne));
  }

  locked : Locked after old.locks
  locked = record {
    owners = sound.locked.owners;
    each = λ k a r has. sound.locked.each k a (stage-was k r) (subst (λ (l : List ℕ). Contains l a) (same (λ q. q.map.stripes) s.stripes k) has) ∙ ap Some (ap mode_for (sym (same (λ q. q.task.kind) s.kind k)));
    only = λ k a r none. sound.locked.only k a (stage-was k r) (λ has. none (subst (λ (l : List ℕ). Contains l a) (sym (same (λ q. q.map.stripes) s.stripes k)) has));
    idle = λ k ne. sound.locked.idle k (λ r. ne (stage-still k r));
  }

  pub quiet-sound : IsSound lay disk new
  quiet-sound = record {
    layout = subst IsLayout shape sound.layout;
    seated = subst (λ (v : Shape). Seated disk v new.cols new.devices) shape (subst (λ (v : Columns). Seated disk y v new.devices) (sym f.cols) (subst (λ (v : Shelved D). Seated disk y old.cols v) (sym f.devices) sound.seated));
    unit = ap (λ (p : pool.PoolView). p.unit) f.pool ∙ (sound.unit ∙ ap (λ (v : Shape). 512 * v.unit_sectors) shape);
    well = subst (λ (v : Shape). AreWell v new.graphs.items new.pool new.clients) shape (subst (λ (l : List Held). AreWell y l new.pool new.clients) (sym (ap (λ v. v.items) f.graphs)) (subst (λ (p : pool.PoolView). AreWell y old.graphs.items p new.clients) (sym f.pool) (subst (λ (l : List Desk). AreWell y old.graphs.items old.pool l) (sym f.clients) wells)));
    devices = subst (λ (l : List Desk). DevicesOut l new.devices) (sym f.clients) (subst (λ (v : Shelved D). DevicesOut after v) (sym f.devices) devices);
    seats = subst (λ (l : List Desk). SeatsOut l new.pool) (sym f.clients) (subst (λ (p : pool.PoolView). SeatsOut after p) (sym f.pool) seats);
    locked = subst (λ (l : List Desk). Locked l new.locks) (sym f.clients) (subst (λ (t : Table). Locked after t) (sym f.locks) locked);
    jobs = jobs;
  }
    where
      shape : y ≡ lay.shape new.layout
      shape = sym (ap lay.shape f.layout)

      jobs : new.lists + sum_by jobs_of new.clients ≡ 32
      jobs =
          let moved = ap (sum_by jobs_of) f.clients in let all = sum_by-set jobs_of old.clients c e no_desk below in
          let equal = s.jobs in let lists = f.lists in let was = sound.jobs in omega (arith, moved, all, equal, lists, was)
