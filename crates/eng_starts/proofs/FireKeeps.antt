-- A core from which a node was fired is sound.
use Rattle.std.proofs.Common.{◌≡◌, ℕ, ◌<◌, ◌≤◌, ◌+◌, ◌*◌, List, length, get_or, subst, sym, ap, ◌∙◌, arith, inl, inr, refl, Bool, false, Option, Some, None}
use Rattle.std.specs.Prelude.{slice_set, slice_index_or, sum_by, Contains}
use Rattle.std.proofs.lemmas.Bool.{cases_eq}
use Rattle.std.proofs.lemmas.List.{length-set}
use Rattle.blk_disk.specs.declared.disk.Disk.{Ghosts as DiskGhosts}
use Rattle.buf_pool.specs.Pool as pool
use Rattle.stripe_lock.specs.Table.{Table}
use Rattle.lay_core.specs.Layout.{Shape, IsLayout}
use Rattle.lay_core.specs.declared.layout.Layout.{Ghosts as LayoutGhosts}
use Rattle.graph_mean.specs.declared.step.Status.TheVariants as status
use Rattle.graph_mean.specs.Graph.{Held, kind_at}
use Rattle.graph_mean.specs.declared.graph.Node.{Node}
use Rattle.graph_mean.specs.declared.graph.Node.TheVariants.{Rd, Wr, Xor, Cmt, Trm}
use Rattle.graph_mean.specs.Steps.{Fire, IsCall}
use Rattle.eng_one.proofs.Waiting.{step-reached}
use Rattle.eng_one.proofs.Leading as leading
use Rattle.eng_cols.specs.declared.spot.Spot.{Spot}
use Rattle.eng_cols.specs.Cols.{Columns, ColumnState}
use Rattle.eng_world.specs.Nodes.{MakesOrUses, place_of}
use Rattle.eng_world.specs.World.{Plan}
use Rattle.eng_state.specs.declared.array.Array.{Array}
use Rattle.eng_parts.specs.Shelf.{Seen, Shelved, seen_at}
use Rattle.eng_clients.specs.Desk.{Desk, desk_at, plan_of, with_fired}
use Rattle.eng_state.specs.Sound.{IsSound, RunsWell, IsWell, AreWell, Locked, Seated, DevicesOut, SeatsOut, jobs_of, mode_for}
use Rattle.eng_state.specs.Can.{CanFire, place_now}
use Rattle.eng_state.specs.Moves.{Fired, DeviceLeft}
use Rattle.eng_state.proofs.Leaving.{device-left, failed-left}
use Rattle.eng_state.proofs.Marking as marking
use Rattle.eng_state.proofs.Running.{runs_below}
use Rattle.eng_state.proofs.FiringSound.{devices-fired, seats-fired}
use Rattle.eng_clients.specs.Seats.{BuffersLeft}

-- each device keeps what it is, also as it leaves
seated-left : {D : Type 0} → (disk : DiskGhosts D) (y : Shape) (cols : Columns) (old new : Shelved D) (o : Option Spot) → DeviceLeft o old new → Seated disk y cols old → Seated disk y cols new
seated-left {D} disk y cols old new o l s = record {
  fit = s.fit;
  kept = s.kept;
  order = s.order;
  long = ap length (failed-left old new o l) ∙ (s.long ∙ sym (slots-left o l));
  there = λ c device h. let t = s.there c device h in moved device t.0 (64 + y.rows * y.unit_sectors) t.1 t.2;
  unfailed = λ c device h. ap (λ (f : List Bool). slice_index_or f device false) (failed-left old new o l) ∙ s.unfailed c device h;
}
  where
    slots-left : (p : Option Spot) → DeviceLeft p old new → length new.slots ≡ length old.slots
    slots-left None e = ap (λ (v : Shelved D). length v.slots) e
    slots-left (Some at) e = ap (λ (v : Shelved D). length v.slots) e.2 ∙ length-set old.slots at.device _

    device_of : Option (Seen D) → Option D
    device_of None = None
    device_of (Some a) = Some a.device

    there-is : (p : Option (Seen D)) (x : D) → device_of p ≡ Some x → (a : Seen D) × (p ≡ Some a) × (a.device ≡ x)
    there-is None x e = let z : None ≡ Some x = e in absurd (let u : ⊥ = cc in u)
    there-is (Some a) x e = (a, refl, let q : a.device ≡ x = cc in q)

    moved : (device : ℕ) (x : Seen D) (m : ℕ) → seen_at old device ≡ Some x → m ≤ disk.size x.device → (a : Seen D) × (seen_at new device ≡ Some a) × (m ≤ disk.size a.device)
    moved device x m is big =
        let e = there-is (seen_at new device) x.device (device-left old new o l device_of (λ a. refl) device ∙ ap device_of is) in
        (e.0, e.1, subst (λ (z : D). m ≤ disk.size z) (sym e.2) big)

-- what makes no call has no place
place-none : (y : Shape) (cols : List ColumnState) (p : Plan) (k : Node) → (IsCall k → ⊥) → place_of y cols p k ≡ None
place-none y cols p (Rd i b) none = absurd (none tt)
place-none y cols p (Wr i b) none = absurd (none tt)
place-none y cols p (Xor to) none = refl
place-none y cols p Cmt none = refl
place-none y cols p Trm none = refl

-- a lease of the pool is one still
lease-left : (old new : pool.PoolView) (is_out : ℕ → Type 0) (l : List ℕ) → BuffersLeft old is_out new → pool.IsLease old l → pool.IsLease new l
lease-left old new is_out l b h i lt = let e = b.seats in let m = (h i lt).0 in (omega (arith, e, m), b.owner (get_or l i 0) ∙ (h i lt).1)

module _ {L D : Type 0} (lay : LayoutGhosts L) (disk : DiskGhosts D) (old new : Array L D) (c n : ℕ) (sound : IsSound lay disk old) (can : CanFire lay old c n) (f : Fired lay old c n new) where
  abbrev y : Shape
  y = lay.shape old.layout

  abbrev d : Desk
  d = desk_at old.clients c

  abbrev place : Option Spot
  place = place_now lay old c n

  abbrev after : List Desk
  after = slice_set old.clients c (with_fired d n place)

  below17 : c < 17
  below17 = runs_below y old.graphs.items old.pool old.clients c sound.well can.runs

  below : c < length old.clients
  below = let all = sound.well.all in let h = below17 in omega (arith, all, h)

  well : RunsWell y old.graphs.items old.pool d
  well = (sound.well.each c below17).runs can.runs

  marks : n < length d.run.marks
  marks = let e = well.marks in let h = can.ready.below in omega (arith, e, h)

  spots : n < length d.spots
  spots = let e = (sound.well.each c below17).spots in let h = can.ready.below in let few = well.few in omega (arith, e, h, few)

  -- a buffer that a node takes is one of its lease's
  named : (b : ℕ) → MakesOrUses d.run.graph n b → b < length d.lease
  named b t = let bufs = well.bufs in elim t [
    | inl m ↦ let h = well.accepted.2.makes_named n b can.ready.below m in omega (arith, bufs, h)
    | inr u ↦ let h = well.accepted.2.uses_named n b can.ready.below u in omega (arith, bufs, h)
  ]

  devices : DevicesOut after new.devices
  devices = devices-fired old.clients c n place below can.runs marks spots can.ready.idle old.devices new.devices f.devices can.placed (place-none y old.cols.states (plan_of d) (kind_at d.run.graph n)) sound.devices

  seats : SeatsOut after new.pool
  seats = seats-fired old.clients c n place below can.runs marks spots can.ready.idle old.pool new.pool f.pool can.buffers_home well.lease named (λ k ne. sound.well.apart k c ne) sound.seats

  runs-well : RunsWell y old.graphs.items new.pool (with_fired d n place)
  runs-well = record {
    op = well.op;
    item = well.item;
    task = well.task;
    stripes = well.stripes;
    lends = record { there = well.lends.there; same = well.lends.same };
    few = well.few;
    few_bufs = well.few_bufs;
    marks = let h = length-set d.run.marks n status.Out in let e = well.marks in omega (arith, h, e);
    accepted = well.accepted;
    reached = step-reached d.run.graph (Fire n) d.run (with_fired d n place).run well.reached (leading.fire_leads d.run well.marks n can.ready);
    lease = lease-left old.pool new.pool _ d.lease f.pool well.lease;
    bufs = well.bufs;
  }

  well-other : (e : Desk) → IsWell y old.graphs.items old.pool e → IsWell y old.graphs.items new.pool e
  well-other e h = record {
    runs = λ r. let x = h.runs r in record { op = x.op; item = x.item; task = x.task; stripes = x.stripes; lends = x.lends; few = x.few; few_bufs = x.few_bufs; marks = x.marks; accepted = x.accepted; reached = x.reached; lease = lease-left old.pool new.pool _ e.lease f.pool x.lease; bufs = x.bufs };
    idle = h.idle;
    spots = h.spots;
    replies = h.replies;
  }

  well-now : IsWell y old.graphs.items new.pool (with_fired d n place)
  well-now = record {
    runs = λ r. runs-well;
    idle = λ ne. absurd (ne can.runs);
    spots = length-set d.spots n place ∙ (sound.well.each c below17).spots;
    replies = (sound.well.each c below17).replies;
  }

  same : {A : Type 0} (g : Desk → A) → g (with_fired d n place) ≡ g d → (k : ℕ) → g (desk_at after k) ≡ g (desk_at old.clients k)
  same g e k = marking.same old.clients c n place below can.runs marks spots can.ready.idle g e k

  wells : AreWell y old.graphs.items new.pool after
  wells = record {
    all = length-set old.clients c _ ∙ sound.well.all;
    each = λ k lt. elim (cases_eq k c) [
      | inl is ↦ subst (λ (j : ℕ). IsWell y old.graphs.items new.pool (desk_at after j)) (sym is) (subst (λ (e : Desk). IsWell y old.graphs.items new.pool e) (sym (marking.here old.clients c n place below can.runs marks spots can.ready.idle)) well-now)
      | inr ne ↦ subst (λ (e : Desk). IsWell y old.graphs.items new.pool e) (sym (marking.other old.clients c n place below can.runs marks spots can.ready.idle k ne)) (well-other (desk_at old.clients k) (sound.well.each k lt))
    ];
    apart = λ k j ne. subst (λ (l : List ℕ). pool.AreApart l (desk_at after j).lease) (sym (same (λ e. e.lease) refl k)) (subst (λ (l : List ℕ). pool.AreApart (desk_at old.clients k).lease l) (sym (same (λ e. e.lease) refl j)) (sound.well.apart k j ne));
  }

  locked : Locked after old.locks
  locked = record {
    owners = sound.locked.owners;
    each = λ k s runs has. sound.locked.each k s (sym (same (λ e. e.stage) refl k) ∙ runs) (subst (λ (l : List ℕ). Contains l s) (same (λ e. e.map.stripes) refl k) has) ∙ ap Some (ap mode_for (sym (same (λ e. e.task.kind) refl k)));
    only = λ k s runs none. sound.locked.only k s (sym (same (λ e. e.stage) refl k) ∙ runs) (λ has. none (subst (λ (l : List ℕ). Contains l s) (sym (same (λ e. e.map.stripes) refl k)) has));
    idle = λ k ne. sound.locked.idle k (λ r. ne (same (λ e. e.stage) refl k ∙ r));
  }

  pub fire-sound : IsSound lay disk new
  fire-sound = record {
    layout = subst IsLayout shape sound.layout;
    seated = subst (λ (v : Shape). Seated disk v new.cols new.devices) shape (subst (λ (v : Columns). Seated disk y v new.devices) (sym f.cols) (seated-left disk y old.cols old.devices new.devices place f.devices sound.seated));
    unit = f.pool.unit ∙ (sound.unit ∙ ap (λ (v : Shape). 512 * v.unit_sectors) shape);
    well = subst (λ (v : Shape). AreWell v new.graphs.items new.pool new.clients) shape (subst (λ (l : List Held). AreWell y l new.pool new.clients) (sym (ap (λ v. v.items) f.graphs)) (subst (λ (l : List Desk). AreWell y old.graphs.items new.pool l) (sym f.clients) wells));
    devices = subst (λ (l : List Desk). DevicesOut l new.devices) (sym f.clients) devices;
    seats = subst (λ (l : List Desk). SeatsOut l new.pool) (sym f.clients) seats;
    locked = subst (λ (t : Table). Locked new.clients t) (sym f.locks) (subst (λ (l : List Desk). Locked l old.locks) (sym f.clients) locked);
    jobs = jobs;
  }
    where
      shape : y ≡ lay.shape new.layout
      shape = sym (ap lay.shape f.layout)

      jobs : new.lists + sum_by jobs_of new.clients ≡ 32
      jobs =
          let more = ap (sum_by jobs_of) f.clients ∙ marking.one-job-more old.clients c n place below can.runs marks spots can.ready.idle in
          let all = sound.jobs in let less = f.lists in omega (arith, more, all, less)
