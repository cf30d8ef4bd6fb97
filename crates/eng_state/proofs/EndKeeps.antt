-- A core of which a node has ended is sound.
use Rattle.std.proofs.Common.{◌≡◌, ◌≢◌, ℕ, ◌<◌, ◌≤◌, ◌+◌, ◌*◌, List, length, get_or, subst, sym, ap, ◌∙◌, arith, inl, inr, refl, Bool, true, false, Option, Some, None}
use Rattle.std.specs.Prelude.{IsSome, slice_set, slice_index_or, sum_by, Contains}
use Rattle.std.proofs.lemmas.Bool.{cases_eq}
use Rattle.std.proofs.lemmas.List.{length-set, get_or-set_same}
use Rattle.blk_plain.specs.declared.op.Outcome.{Outcome}
use Rattle.blk_disk.specs.declared.disk.Disk.{Ghosts as DiskGhosts}
use Rattle.buf_pool.specs.Pool as pool
use Rattle.stripe_lock.specs.Table.{Table}
use Rattle.lay_core.specs.Layout.{Shape, IsLayout}
use Rattle.lay_core.specs.declared.layout.Layout.{Ghosts as LayoutGhosts}
use Rattle.graph_mean.specs.Graph.{Held, View, kind_at}
use Rattle.graph_mean.specs.Steps.{IsCall}
use Rattle.eng_one.specs.Control.{mark_for, ended, IsReached}
use Rattle.eng_cols.specs.declared.spot.Spot.{Spot}
use Rattle.eng_cols.specs.Cols.{Columns}
use Rattle.eng_world.specs.Nodes.{MakesOrUses}
use Rattle.eng_state.specs.declared.array.Array.{Array}
use Rattle.eng_parts.specs.Shelf.{Seen, Shelved, seen_at, IsAway, come_home}
use Rattle.eng_clients.specs.Desk.{Desk, desk_at, spot_at, with_ended}
use Rattle.eng_state.specs.Sound.{IsSound, IsOutOf, HasAway, RunsWell, IsWell, AreWell, Locked, Seated, DevicesOut, SeatsOut, jobs_of, mode_for}
use Rattle.eng_log.specs.Log.{Logged}
use Rattle.eng_state.specs.Moves.{DeviceCame, IsTaken, NodeEnded, CameHome, CamePlain}
use Rattle.eng_state.proofs.Homing.{home-here, home-else}
use Rattle.eng_state.proofs.Unmarking as unmarking
use Rattle.eng_state.proofs.Running.{runs_below}
use Rattle.eng_state.proofs.Putting.{out-below, put-else}
use Rattle.eng_state.proofs.FiringSound.{home-away}
use Rattle.eng_clients.proofs.SeatsApart.{seats-differ}
use Rattle.eng_clients.specs.Seats.{BuffersCame}

-- ## Devices

-- of a device that came home it is known how large it is
came-there : {D : Type 0} → (disk : DiskGhosts D) (old new : Shelved D) (o : Option Spot) → DeviceCame disk o old new → (device m : ℕ) (x : Seen D) → seen_at old device ≡ Some x → m ≤ disk.size x.device → (a : Seen D) × (seen_at new device ≡ Some a) × (m ≤ disk.size a.device)
came-there {D} disk old new None e device m x is big = (x, ap (λ (s : Shelved D). seen_at s device) e ∙ is, big)
came-there {D} disk old new (Some at) e device m x is big = elim (cases_eq device at.device) [
  | inl same ↦ (record { out = false; device = e.0 }, ap (λ (s : Shelved D). seen_at s device) e.4 ∙ (ap (λ (j : ℕ). seen_at (come_home old at.device e.0) j) same ∙ home-here old at.device _ e.0 e.2), subst (λ (s : ℕ). m ≤ s) (sym (e.3 ∙ size-is same)) big)
  | inr ne ↦ (x, ap (λ (s : Shelved D). seen_at s device) e.4 ∙ (home-else old at.device e.0 device ne ∙ is), big)
]
  where
    size-in : Option (Seen D) → ℕ
    size-in None = 0
    size-in (Some s) = disk.size s.device

    size-is : device ≡ at.device → disk.size e.1 ≡ disk.size x.device
    size-is same = ap size-in (sym e.2 ∙ (sym (ap (seen_at old) same) ∙ is))

came-failed : {D : Type 0} → (disk : DiskGhosts D) (old new : Shelved D) (o : Option Spot) → DeviceCame disk o old new → new.failed ≡ old.failed
came-failed {D} disk old new None e = ap (λ (s : Shelved D). s.failed) e
came-failed {D} disk old new (Some at) e = ap (λ (s : Shelved D). s.failed) e.4

came-slots : {D : Type 0} → (disk : DiskGhosts D) (old new : Shelved D) (o : Option Spot) → DeviceCame disk o old new → length new.slots ≡ length old.slots
came-slots {D} disk old new None e = ap (λ (s : Shelved D). length s.slots) e
came-slots {D} disk old new (Some at) e = ap (λ (s : Shelved D). length s.slots) e.4 ∙ length-set old.slots at.device _

seated-came : {D : Type 0} → (disk : DiskGhosts D) (y : Shape) (cols : Columns) (old new : Shelved D) (o : Option Spot) → DeviceCame disk o old new → Seated disk y cols old → Seated disk y cols new
seated-came disk y cols old new o e s = record {
  fit = s.fit;
  kept = s.kept;
  order = s.order;
  long = ap length (came-failed disk old new o e) ∙ (s.long ∙ sym (came-slots disk old new o e));
  there = λ c device h. let t = s.there c device h in came-there disk old new o e device (64 + y.rows * y.unit_sectors) t.0 t.1 t.2;
  unfailed = λ c device h. ap (λ (f : List Bool). slice_index_or f device false) (came-failed disk old new o e) ∙ s.unfailed c device h;
}

module _ (desks : List Desk) (c n : ℕ) (o : Outcome) (below : c < length desks) (marks : n < length (desk_at desks c).run.marks) (out : IsOutOf (desk_at desks c) n) where
  abbrev d : Desk
  d = desk_at desks c

  abbrev after : List Desk
  after = slice_set desks c (with_ended d n o)

  module _ {D : Type 0} (disk : DiskGhosts D) (old new : Shelved D) (sound : DevicesOut desks old) where
    -- who is away was, and isn't the one that came home
    away-kept : (p : Option Spot) → DeviceCame disk p old new → spot_at d n ≡ p → (k m device : ℕ) → HasAway desks k m device → ((k ≡ c) × (m ≡ n) → ⊥) → (x : D) × IsAway new device x
    away-kept None e spot k m device h apart = let a = sound.away k m device h in (a.0, ap (λ (s : Shelved D). seen_at s device) e ∙ a.1)
    away-kept (Some at) e spot k m device h apart =
        let a = sound.away k m device h in
        (a.0, ap (λ (s : Shelved D). seen_at s device) e.4 ∙ (home-else old at.device e.0 device (λ same. apart (sound.one k c m n device h (record { out = out; at = at; spot = spot; is = sym same }))) ∙ a.1))

    away-only : (p : Option Spot) → DeviceCame disk p old new → spot_at d n ≡ p → (device : ℕ) (x : D) → IsAway new device x → IsAway old device x × ((at : Spot) → p ≡ Some at → device ≡ at.device → ⊥)
    away-only None e spot device x is = (sym (ap (λ (s : Shelved D). seen_at s device) e) ∙ is, λ at z same. let y : None ≡ Some at = z in let u : ⊥ = cc in u)
    away-only (Some at) e spot device x is = elim (cases_eq device at.device) [
      | inl same ↦ absurd (home-away (seen_at new device) e.0 x (ap (λ (s : Shelved D). seen_at s device) e.4 ∙ (ap (λ (j : ℕ). seen_at (come_home old at.device e.0) j) same ∙ home-here old at.device _ e.0 e.2)) is)
      | inr ne ↦ (sym (ap (λ (s : Shelved D). seen_at s device) e.4 ∙ home-else old at.device e.0 device ne) ∙ is, λ to z same. ne (same ∙ ap (λ (s : Spot). s.device) (let q : to ≡ at = cc in q)))
    ]

    pub devices-ended : (p : Option Spot) → DeviceCame disk p old new → spot_at d n ≡ p → DevicesOut after new
    devices-ended p e spot = record {
      away = λ k m device h. let was = unmarking.away-was desks c n o below marks out k m device h in away-kept p e spot k m device was.0 was.1;
      held = λ device x is.
          let was = away-only p e spot device x is in let h = sound.held device x was.0 in
          (h.0, h.1, unmarking.away-still desks c n o below marks out h.0 h.1 device (λ same. was.1 h.2.at (sym spot ∙ (own same h.2 ∙ h.2.spot)) (sym h.2.is)) h.2);
      one = λ k j m i device g h. sound.one k j m i device (unmarking.away-was desks c n o below marks out k m device g).0 (unmarking.away-was desks c n o below marks out j i device h).0;
      placed = λ k m q call. let was = unmarking.was-out desks c n o below marks out k m q in
          subst IsSome (sym (unmarking.spot-same desks c n o below marks out k m)) (sound.placed k m was.0 (subst (λ (g : View). IsCall (kind_at g m)) (unmarking.same desks c n o below marks out (λ a. a.run.graph) refl k) call));
      unplaced = λ k m q none. let was = unmarking.was-out desks c n o below marks out k m q in
          unmarking.spot-same desks c n o below marks out k m ∙ sound.unplaced k m was.0 (λ call. none (subst (λ (g : View). IsCall (kind_at g m)) (sym (unmarking.same desks c n o below marks out (λ a. a.run.graph) refl k)) call));
    }
      where
        own : {k m device : ℕ} → (k ≡ c) × (m ≡ n) → HasAway desks k m device → spot_at d n ≡ spot_at (desk_at desks k) m
        own {k} {m} same h = sym (ap (λ (j : ℕ). spot_at (desk_at desks j) m) same.0 ∙ ap (λ (j : ℕ). spot_at (desk_at desks c) j) same.1)

  -- ## Buffers

  module _ (old new : pool.PoolView) (b : BuffersCame old (IsTaken d n) new) (leased : pool.IsLease old d.lease) (named : (a : ℕ) → MakesOrUses d.run.graph n a → a < length d.lease)
      (apart : (k : ℕ) → k ≢ c → pool.AreApart (desk_at desks k).lease d.lease) (inside : (k m a : ℕ) → IsOutOf (desk_at desks k) m → MakesOrUses (desk_at desks k).run.graph m a → a < length (desk_at desks k).lease) (sound : SeatsOut desks old) where
    same-lease : (k : ℕ) → (desk_at after k).lease ≡ (desk_at desks k).lease
    same-lease = unmarking.same desks c n o below marks out (λ a. a.lease) refl

    same-graph : (k : ℕ) → (desk_at after k).run.graph ≡ (desk_at desks k).run.graph
    same-graph = unmarking.same desks c n o below marks out (λ a. a.run.graph) refl

    same-stage : (k : ℕ) → (desk_at after k).stage ≡ (desk_at desks k).stage
    same-stage = unmarking.same desks c n o below marks out (λ a. a.stage) refl

    takes-old : (k m a : ℕ) → MakesOrUses (desk_at after k).run.graph m a → MakesOrUses (desk_at desks k).run.graph m a
    takes-old k m a t = subst (λ (g : View). MakesOrUses g m a) (same-graph k) t

    -- a seat that the node took is of its own lease, and of the buffer that it took
    own-seat : (k a : ℕ) → a < length (desk_at desks k).lease → IsTaken d n (get_or (desk_at desks k).lease a 0) → (k ≡ c) × MakesOrUses d.run.graph n a
    own-seat k a lt t = elim (cases_eq k c) [
      | inl is ↦ (is, subst (λ (i : ℕ). MakesOrUses d.run.graph n i) (seats-differ old d.lease leased t.0 a (named t.0 t.1) (subst (λ (j : ℕ). a < length (desk_at desks j).lease) is lt) (t.2 ∙ ap (λ (j : ℕ). get_or (desk_at desks j).lease a 0) is)) t.1)
      | inr ne ↦ absurd (apart k ne a t.0 lt (named t.0 t.1) (sym t.2))
    ]

    pub seats-ended : SeatsOut after new
    seats-ended = record {
      away = λ k m a p t.
          let was = unmarking.was-out desks c n o below marks out k m p in let takes = takes-old k m a t in let lt = inside k m a was.0 takes in
          subst (λ (s : List ℕ). (pool.seat_at new.seats (get_or s a 0)).out ≡ true) (sym (same-lease k))
          (ap (λ (v : pool.SeatView). v.out) (b.others (get_or (desk_at desks k).lease a 0) (λ home. let e = own-seat k a lt home in
          was.1 (e.0, sound.one c m n a (subst (λ (j : ℕ). IsOutOf (desk_at desks j) m) e.0 was.0) out (subst (λ (j : ℕ). MakesOrUses (desk_at desks j).run.graph m a) e.0 takes) e.1))) ∙ sound.away k m a was.0 takes);
      held = λ k a stage lt is.
          let lt2 = subst (λ (s : List ℕ). a < length s) (same-lease k) lt in
          let is2 = subst (λ (s : List ℕ). (pool.seat_at new.seats (get_or s a 0)).out ≡ true) (same-lease k) is in
          let free : IsTaken d n (get_or (desk_at desks k).lease a 0) → ⊥ = λ home. b.came (get_or (desk_at desks k).lease a 0) home is2 in
          let h = sound.held k a (sym (same-stage k) ∙ stage) lt2 (sym (ap (λ (v : pool.SeatView). v.out) (b.others (get_or (desk_at desks k).lease a 0) free)) ∙ is2) in
          (h.0, unmarking.still-out desks c n o below marks out k h.0 (λ e. free (a, subst (λ (i : ℕ). MakesOrUses d.run.graph i a) e.1 (subst (λ (j : ℕ). MakesOrUses (desk_at desks j).run.graph h.0 a) e.0 h.2), sym (ap (λ (j : ℕ). get_or (desk_at desks j).lease a 0) e.0))) h.1, subst (λ (g : View). MakesOrUses g h.0 a) (sym (same-graph k)) h.2);
      one = λ k m i a p q t u. sound.one k m i a (unmarking.was-out desks c n o below marks out k m p).0 (unmarking.was-out desks c n o below marks out k i q).0 (takes-old k m a t) (takes-old k i a u);
    }

-- a lease of the pool is one still
lease-came : (old new : pool.PoolView) (is_home : ℕ → Type 0) (l : List ℕ) → BuffersCame old is_home new → pool.IsLease old l → pool.IsLease new l
lease-came old new is_home l b h i lt = let e = b.seats in let m = (h i lt).0 in (omega (arith, e, m), b.owner (get_or l i 0) ∙ (h i lt).1)

module _ {L D : Type 0} (lay : LayoutGhosts L) (disk : DiskGhosts D) (old new : Array L D) (c n : ℕ) (o : Outcome) (sound : IsSound lay disk old) (out : IsOutOf (desk_at old.clients c) n) (f : NodeEnded disk old c n o new)
    (reached : IsReached (desk_at old.clients c).run.graph (ended (desk_at old.clients c).run n o)) where
  abbrev y : Shape
  y = lay.shape old.layout

  abbrev d2 : Desk
  d2 = desk_at old.clients c

  abbrev after2 : List Desk
  after2 = slice_set old.clients c (with_ended d2 n o)

  below17 : c < 17
  below17 = runs_below y old.graphs.items old.pool old.clients c sound.well out.runs

  below2 : c < length old.clients
  below2 = let all = sound.well.all in let h = below17 in omega (arith, all, h)

  well : RunsWell y old.graphs.items old.pool d2
  well = (sound.well.each c below17).runs out.runs

  marks2 : n < length d2.run.marks
  marks2 = out-below d2.run.marks n out.mark

  -- a buffer that a node takes is one of its lease's
  named-in : (k m b : ℕ) → IsOutOf (desk_at old.clients k) m → MakesOrUses (desk_at old.clients k).run.graph m b → b < length (desk_at old.clients k).lease
  named-in k m b p t =
      let w = (sound.well.each k (runs_below y old.graphs.items old.pool old.clients k sound.well p.runs)).runs p.runs in
      let e = w.marks in let lt = out-below (desk_at old.clients k).run.marks m p.mark in let bufs = w.bufs in
      let node : m < length (desk_at old.clients k).run.graph.nodes = omega (arith, e, lt) in
      elim t [
        | inl made ↦ let h = w.accepted.2.makes_named m b node made in omega (arith, bufs, h)
        | inr used ↦ let h = w.accepted.2.uses_named m b node used in omega (arith, bufs, h)
      ]

  same2 : {A : Type 0} (g : Desk → A) → g (with_ended d2 n o) ≡ g d2 → (k : ℕ) → g (desk_at after2 k) ≡ g (desk_at old.clients k)
  same2 g e k = unmarking.same old.clients c n o below2 marks2 out g e k

  well-now : IsWell y old.graphs.items new.pool (with_ended d2 n o)
  well-now = record {
    runs = λ r. record {
      op = well.op;
      item = well.item;
      task = well.task;
      stripes = well.stripes;
      lends = record { there = well.lends.there; same = well.lends.same };
      few = well.few;
      few_bufs = well.few_bufs;
      marks = length-set d2.run.marks n (mark_for o) ∙ well.marks;
      accepted = well.accepted;
      reached = reached;
      lease = lease-came old.pool new.pool _ d2.lease f.pool well.lease;
      bufs = well.bufs;
    };
    idle = λ ne. absurd (ne out.runs);
    spots = (sound.well.each c below17).spots;
    replies = (sound.well.each c below17).replies;
  }

  well-other : (e : Desk) → IsWell y old.graphs.items old.pool e → IsWell y old.graphs.items new.pool e
  well-other e h = record {
    runs = λ r. let x = h.runs r in record { op = x.op; item = x.item; task = x.task; stripes = x.stripes; lends = x.lends; few = x.few; few_bufs = x.few_bufs; marks = x.marks; accepted = x.accepted; reached = x.reached; lease = lease-came old.pool new.pool _ e.lease f.pool x.lease; bufs = x.bufs };
    idle = h.idle;
    spots = h.spots;
    replies = h.replies;
  }

  wells : AreWell y old.graphs.items new.pool after2
  wells = record {
    all = length-set old.clients c _ ∙ sound.well.all;
    each = λ k lt. elim (cases_eq k c) [
      | inl is ↦ subst (λ (j : ℕ). IsWell y old.graphs.items new.pool (desk_at after2 j)) (sym is) (subst (λ (e : Desk). IsWell y old.graphs.items new.pool e) (sym (unmarking.here old.clients c n o below2 marks2 out)) well-now)
      | inr ne ↦ subst (λ (e : Desk). IsWell y old.graphs.items new.pool e) (sym (unmarking.other old.clients c n o below2 marks2 out k ne)) (well-other (desk_at old.clients k) (sound.well.each k lt))
    ];
    apart = λ k j ne. subst (λ (l : List ℕ). pool.AreApart l (desk_at after2 j).lease) (sym (same2 (λ e. e.lease) refl k)) (subst (λ (l : List ℕ). pool.AreApart (desk_at old.clients k).lease l) (sym (same2 (λ e. e.lease) refl j)) (sound.well.apart k j ne));
  }

  locked2 : Locked after2 old.locks
  locked2 = record {
    owners = sound.locked.owners;
    each = λ k s runs has. sound.locked.each k s (sym (same2 (λ e. e.stage) refl k) ∙ runs) (subst (λ (l : List ℕ). Contains l s) (same2 (λ e. e.map.stripes) refl k) has) ∙ ap Some (ap mode_for (sym (same2 (λ e. e.task.kind) refl k)));
    only = λ k s runs none. sound.locked.only k s (sym (same2 (λ e. e.stage) refl k) ∙ runs) (λ has. none (subst (λ (l : List ℕ). Contains l s) (sym (same2 (λ e. e.map.stripes) refl k)) has));
    idle = λ k ne. sound.locked.idle k (λ r. ne (same2 (λ e. e.stage) refl k ∙ r));
  }

  pub end-sound : IsSound lay disk new
  end-sound = record {
    layout = subst IsLayout shape sound.layout;
    seated = subst (λ (v : Shape). Seated disk v new.cols new.devices) shape (subst (λ (v : Columns). Seated disk y v new.devices) (sym f.cols) (seated-came disk y old.cols old.devices new.devices _ f.devices sound.seated));
    unit = f.pool.unit ∙ (sound.unit ∙ ap (λ (v : Shape). 512 * v.unit_sectors) shape);
    well = subst (λ (v : Shape). AreWell v new.graphs.items new.pool new.clients) shape (subst (λ (l : List Held). AreWell y l new.pool new.clients) (sym (ap (λ v. v.items) f.graphs)) (subst (λ (l : List Desk). AreWell y old.graphs.items new.pool l) (sym f.clients) wells));
    devices = subst (λ (l : List Desk). DevicesOut l new.devices) (sym f.clients) (devices-ended old.clients c n o below2 marks2 out disk old.devices new.devices sound.devices (spot_at d2 n) f.devices refl);
    seats = subst (λ (l : List Desk). SeatsOut l new.pool) (sym f.clients) (seats-ended old.clients c n o below2 marks2 out old.pool new.pool f.pool well.lease (λ a t. named-in c n a out t) (λ k ne. sound.well.apart k c ne) named-in sound.seats);
    locked = subst (λ (t : Table). Locked new.clients t) (sym f.locks) (subst (λ (l : List Desk). Locked l old.locks) (sym f.clients) locked2);
    jobs = jobs;
  }
    where
      shape : y ≡ lay.shape new.layout
      shape = sym (ap lay.shape f.layout)

      jobs : new.lists + sum_by jobs_of new.clients ≡ 32
      jobs =
          let less = ap (sum_by jobs_of) f.clients in let one = unmarking.one-job-less old.clients c n o below2 marks2 out in
          let all = sound.jobs in let more = f.lists in omega (arith, less, one, all, more)

-- ## A call

module _ {L D : Type 0} (lay : LayoutGhosts L) (disk : DiskGhosts D) (old mid : Array L D) (c n b : ℕ) (at : Spot) (x before : D) (bytes : List ℕ) (o : Outcome) (h : CameHome old c n b at x bytes o mid) where
  abbrev d3 : Desk
  d3 = desk_at old.clients c

  -- the end of a call is a node's end
  pub call-ended : spot_at d3 n ≡ Some at → IsAway old.devices at.device before → disk.size x ≡ disk.size before
      → MakesOrUses d3.run.graph n b → ((a : ℕ) → MakesOrUses d3.run.graph n a → a ≡ b) → get_or d3.lease b 0 < length old.pool.seats → (log : Logged) (next : ℕ)
      → NodeEnded disk old c n o (record mid { log = log; next = next })
  call-ended spot away size takes only inside log next = record {
    clients = h.clients;
    devices = subst (λ (p : Option Spot). DeviceCame disk p old.devices mid.devices) (sym spot) (x, before, away, size, h.devices);
    pool = subst (λ (p : pool.PoolView). BuffersCame old.pool (IsTaken d3 n) p) (sym h.pool) (record {
      unit = refl;
      free = refl;
      seats = length-set old.pool.seats (get_or d3.lease b 0) _;
      owner = owner-same;
      came = λ k t is. let e = seat-is k t in let z : false ≡ true = sym (ap (λ (v : pool.SeatView). v.out) (get_or-set_same old.pool.seats (get_or d3.lease b 0) _ pool.nowhere inside)) ∙ (ap (λ (j : ℕ). (pool.seat_at (pool.put old.pool (get_or d3.lease b 0) bytes).seats j).out) (sym e) ∙ is) in let u : ⊥ = cc in u;
      others = λ k free. put-else old.pool (get_or d3.lease b 0) bytes inside k (λ e. free (b, takes, sym e));
    });
    lists = h.lists;
    layout = h.layout;
    cols = h.cols;
    locks = h.locks;
    graphs = h.graphs;
  }
    where
      seat-is : (k : ℕ) → IsTaken d3 n k → k ≡ get_or d3.lease b 0
      seat-is k t = sym t.2 ∙ ap (λ (a : ℕ). get_or d3.lease a 0) (only t.0 t.1)

      owner-same : (k : ℕ) → (pool.seat_at (pool.put old.pool (get_or d3.lease b 0) bytes).seats k).owner ≡ (pool.seat_at old.pool.seats k).owner
      owner-same k = elim (cases_eq k (get_or d3.lease b 0)) [
        | inl e ↦ ap (λ (j : ℕ). (pool.seat_at (pool.put old.pool (get_or d3.lease b 0) bytes).seats j).owner) e ∙ (ap (λ (v : pool.SeatView). v.owner) (get_or-set_same old.pool.seats (get_or d3.lease b 0) _ pool.nowhere inside) ∙ sym (ap (λ (j : ℕ). (pool.seat_at old.pool.seats j).owner) e))
        | inr ne ↦ ap (λ (v : pool.SeatView). v.owner) (put-else old.pool (get_or d3.lease b 0) bytes inside k ne)
      ]

-- ## What takes nothing along

module _ {L D : Type 0} (lay : LayoutGhosts L) (disk : DiskGhosts D) (old mid : Array L D) (c n : ℕ) (o : Outcome) (h : CamePlain old c n o mid) where
  -- the end of a commit or a terminator is a node's end
  pub plain-ended : spot_at (desk_at old.clients c) n ≡ None → ((b : ℕ) → MakesOrUses (desk_at old.clients c).run.graph n b → ⊥) → (log : Logged) → NodeEnded disk old c n o (record mid { log = log })
  plain-ended spot none log = record {
    clients = h.clients;
    devices = subst (λ (p : Option Spot). DeviceCame disk p old.devices mid.devices) (sym spot) h.devices;
    pool = subst (λ (p : pool.PoolView). BuffersCame old.pool (IsTaken (desk_at old.clients c) n) p) (sym h.pool) (record {
      unit = refl;
      free = refl;
      seats = refl;
      owner = λ k. refl;
      came = λ k t is. none t.0 t.1;
      others = λ k free. refl;
    });
    lists = h.lists;
    layout = h.layout;
    cols = h.cols;
    locks = h.locks;
    graphs = h.graphs;
  }
