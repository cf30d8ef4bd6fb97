-- An exclusive-or ends: one event of the world.
use Rattle.std.proofs.Common.{◌≡◌, ◌≢◌, ℕ, suc, ◌<◌, ◌≤◌, ◌+◌, ◌*◌, ◌-◌, List, [], ◌∷◌, length, get_or, bit_xor, subst, sym, ap, ◌∙◌, arith, inl, inr, refl, Bool, true, false, Option, None}
use Rattle.std.specs.Prelude.{slice_index, slice_index_or, if◌then◌else◌, Contains}
use Rattle.std.specs.List.{AllByRecursion}
use Rattle.std.proofs.lemmas.Bool.{cases_eq, eq-eqb, ne_eqb, eqb-true}
use Rattle.std.proofs.lemmas.Cmp.{nat_eq_equiv}
use Rattle.std.proofs.lemmas.List.{length-set, get_or-set_same}
use Rattle.std.proofs.lemmas.List.Elements.{All-from_recursion, Contains-append_left, Contains-append_right, Contains-push}
use Rattle.std.proofs.lemmas.Map.Views.{Contains-from_any, list_any-from_Contains}
use Rattle.blk_plain.specs.declared.op.Outcome.TheVariants.{Good}
use Rattle.blk_disk.specs.declared.disk.Disk.{Ghosts as DiskGhosts}
use Rattle.buf_pool.specs.Pool as pool
use Rattle.lay_core.specs.Layout.{Shape}
use Rattle.lay_core.specs.declared.layout.Layout.{Ghosts as LayoutGhosts}
use Rattle.graph_mean.specs.declared.graph.Node.{Node}
use Rattle.graph_mean.specs.declared.step.Status.TheVariants as status
use Rattle.graph_mean.specs.Graph.{View, kind_at, vertex_at, buf_at}
use Rattle.graph_mean.specs.Refusals.{Makes, Uses}
use Rattle.graph_mean.specs.Sums.{xor_by}
use Rattle.graph_mean.specs.Steps.{Covers, Do, IsCall, settled, phase_after}
use Rattle.graph_mean.proofs.Formal.{follows-lt}
use Rattle.eng_one.specs.Control.{mark_in, settled_in}
use Rattle.eng_one.proofs.Waiting.{step-reached}
use Rattle.eng_one.proofs.Leading as leading
use Rattle.eng_cols.specs.declared.spot.Spot.{Spot}
use Rattle.eng_cols.specs.declared.spot.Loss.{Loss}
use Rattle.eng_job.specs.declared.job.Source.{Source}
use Rattle.eng_job.specs.Performed.{AreLong}
use Rattle.eng_world.specs.declared.item.Traced.TheVariants as event
use Rattle.eng_world.specs.World.{Running, Client, World, Runs as IsRunning}
use Rattle.eng_world.specs.Nodes.{Works, CanBeGood, made, EndContents}
use Rattle.eng_world.specs.Step.{Step}
use Rattle.eng_clients.specs.declared.stage.Stage.{Stage}
use Rattle.eng_state.specs.declared.array.Array.{Array}
use Rattle.eng_parts.specs.Shelf.{Shelved, seen_at}
use Rattle.eng_clients.specs.Seats.{bytes_at, seat_of, BuffersCame}
use Rattle.eng_clients.specs.Desk.{Desk, desk_at, spot_at, with_ended}
use Rattle.eng_log.specs.Log.{Logged, noted}
use Rattle.eng_state.specs.Shows.{Shows, ShowsClient, ShowsCurrent, HoldBytes, running_as, device_byte, told_by, AreTold}
use Rattle.eng_state.specs.Sound.{IsSound, RunsWell}
use Rattle.eng_state.specs.Moves.{DeviceCame, IsTaken, NodeEnded, id_of}
use Rattle.eng_clients.specs.Gathered.{has, numbers, IsNamed}
use Rattle.eng_state.specs.Steps.{graphs_of, Follows}
use Rattle.eng_ends.specs.Summed.{SumBack, SumHome}
use Rattle.eng_clients.specs.Scattered.{SourcesOut, SourcesHome}
use Rattle.eng_state.proofs.Handing.{hands-on}
use Rattle.eng_state.proofs.EndKeeps.{end-sound}
use Rattle.eng_state.proofs.EndStays.{end-stays}
use Rattle.eng_state.specs.Out.{OthersStay}
use Rattle.eng_ends.proofs.GoodSteps.{good-step}
use Rattle.eng_state.proofs.Put.{put, put-same, put-other, set-marked}
use Rattle.eng_log.proofs.Repeating.{byte-sector_at}
use Rattle.eng_state.proofs.Running.{runs_below}
use Rattle.eng_state.proofs.Shown.{shown-running, shown-one, replies-shown}
use Rattle.eng_state.proofs.Putting.{put-here, put-else, current-kept, covers-below, out-below, list-out, settled-same}
use Rattle.eng_clients.proofs.SeatsApart.{seats-differ}
use Rattle.eng_log.specs.Filled.{buffer_byte}
use Rattle.eng_world.proofs.Words.{Told}
use Rattle.graph_mean.specs.declared.graph.Node.TheVariants.{Cmt, Trm}

-- sums whose terms are the same
xor_by-among : (f g : ℕ → ℕ) (xs : List ℕ) → ((b : ℕ) → Contains xs b → f b ≡ g b) → xor_by f xs ≡ xor_by g xs
xor_by-among f g [] e = refl
xor_by-among f g (x ∷ xs) e = ap (λ (a : ℕ). bit_xor a (xor_by f xs)) (e x (Contains-append_left (x ∷ []) xs x (Contains-push [] x))) ∙ ap (bit_xor (g x)) (xor_by-among f g xs (λ b h. e b (Contains-append_right (x ∷ []) xs b h)))

-- sources that are as long as a unit are as long as what fits one
long-sources : (unit count : ℕ) (from : List Source) → 512 * count ≤ unit → AllByRecursion (λ (s : Source). length s.buffer ≡ unit) from → AreLong count from
long-sources unit count from fits h = λ k x lt. let e = All-from_recursion (λ (s : Source). length s.buffer ≡ unit) from h k x lt in omega (arith, fits, e)

-- ## What came back

module _ {L D : Type 0} (lay : LayoutGhosts L) (disk : DiskGhosts D) (old : Array L D) (c n : ℕ) (bytes : List ℕ) (from : List Source) (count : ℕ) (sound : IsSound lay disk old) (r : SumBack disk old c n bytes from count Good) where
  abbrev pub y : Shape
  y = lay.shape old.layout

  abbrev pub d : Desk
  d = desk_at old.clients c

  abbrev pub g : View
  g = d.run.graph

  abbrev pub named : List ℕ
  named = (vertex_at g n).sources

  abbrev pub seat : ℕ
  seat = get_or d.lease r.to 0

  pub below17 : c < 17
  below17 = runs_below y old.graphs.items old.pool old.clients c sound.well r.out.runs

  pub below : c < length old.clients
  below = let all = sound.well.all in let e = below17 in omega (arith, all, e)

  pub well : RunsWell y old.graphs.items old.pool d
  well = (sound.well.each c below17).runs r.out.runs

  pub marks : n < length d.run.marks
  marks = out-below d.run.marks n r.out.mark

  pub node : n < length g.nodes
  node = let e = well.marks in let lt = marks in omega (arith, e, lt)

  makes : Makes (kind_at g n) r.to
  makes = subst (λ (k : Node). Makes k r.to) (sym r.kind) refl

  uses : (b : ℕ) → Contains named b → Uses (kind_at g n) named b
  uses b h = subst (λ (k : Node). Uses k named b) (sym r.kind) h

  pub to-below : r.to < length g.bufs
  to-below = well.accepted.2.makes_named n r.to node makes

  pub to-leased : r.to < length d.lease
  to-leased = let lt = to-below in let e = well.bufs in omega (arith, lt, e)

  contains : (b : ℕ) → has (numbers from) b ≡ true → Contains named b
  contains b h = Contains-from_any eqb-true b named (sym (r.are_sources.all b) ∙ h)

  from-leased : (b : ℕ) → has (numbers from) b ≡ true → b < length d.lease
  from-leased b h = let lt = well.accepted.2.sources_named n b node (contains b h) in let e = well.bufs in omega (arith, lt, e)

  -- what is sent home after the target is out still
  pub sources-out : SourcesOut old.pool d.lease from
  sources-out = record {
    below = from-leased;
    seats = λ b h. r.are_sources.seats b (sym (r.are_sources.all b) ∙ h);
    bytes = r.are_sources.bytes;
    longs = r.are_sources.longs;
    once = r.are_sources.once;
  }

  -- the target is no source
  apart : Contains named r.to → ⊥
  apart h = elim (well.accepted.2.made n r.to node (uses r.to h)) [
    | inl fresh ↦ well.accepted.2.is_new n r.to fresh.0 fresh.2 node makes
    | inr m ↦ let same = well.accepted.2.made_once n m.0 r.to node m.1 makes m.2 in
        let lt = follows-lt g d.task _ well.accepted.0 well.accepted.1 well.accepted.2 n m.0 m.3 in omega (arith, same, lt)
  ]

  pub no-source : IsNamed d.lease (numbers from) seat → ⊥
  no-source h = apart (subst (λ (b : ℕ). Contains named b) (seats-differ old.pool d.lease well.lease h.0 r.to (from-leased h.0 h.1) to-leased h.2) (contains h.0 h.1))

  pub spot : spot_at d n ≡ None
  spot = sound.devices.unplaced c n r.out (λ call. subst IsCall r.kind call)

  -- the target as the sources are home
  module _ (p : pool.PoolView) (home : SourcesHome old.pool d.lease from p) where
    pub mid-lease : pool.IsLease p d.lease
    mid-lease i lt = let e = home.seats in let m = (well.lease i lt).0 in (omega (arith, e, m), home.owner (get_or d.lease i 0) ∙ (well.lease i lt).1)

    pub mid-out : (seat_of p d r.to).out ≡ true
    mid-out = ap (λ (v : pool.SeatView). v.out) (home.others seat no-source) ∙ r.are_sources.seat

    pub mid-long : length bytes ≡ p.unit
    mid-long = r.sums.long ∙ (r.are_sources.long ∙ sym home.unit)

    pub inside : seat < length p.seats
    inside = (mid-lease r.to to-leased).0

    abbrev pub after : pool.PoolView
    after = pool.put p seat bytes

    -- the seats of the node alone have changed
    pub all-came : BuffersCame old.pool (IsTaken d n) after
    all-came = record {
      unit = home.unit;
      free = home.free;
      seats = length-set p.seats seat _ ∙ home.seats;
      owner = λ k. owner-same k ∙ home.owner k;
      came = λ k t is. elim (cases_eq k seat) [
        | inl e ↦ let z : false ≡ true = sym (ap (λ (v : pool.SeatView). v.out) here) ∙ (ap (λ (j : ℕ). (pool.seat_at after.seats j).out) (sym e) ∙ is) in let u : ⊥ = cc in u
        | inr ne ↦ let z : false ≡ true = sym (ap (λ (v : pool.SeatView). v.out) (put-else p seat bytes inside k ne) ∙ home.came k (source-of k t ne)) ∙ is in let u : ⊥ = cc in u
      ];
      others = λ k free.
          put-else p seat bytes inside k (λ e. free (r.to, inl makes, sym e))
          ∙ home.others k (λ h. free (h.0, inr (uses h.0 (contains h.0 h.1)), h.2));
    }
      where
        here : pool.seat_at after.seats seat ≡ record (pool.seat_at p.seats seat) { out = false; bytes = bytes }
        here = get_or-set_same p.seats seat _ pool.nowhere inside

        owner-same : (k : ℕ) → (pool.seat_at after.seats k).owner ≡ (pool.seat_at p.seats k).owner
        owner-same k = elim (cases_eq k seat) [
          | inl e ↦ ap (λ (j : ℕ). (pool.seat_at after.seats j).owner) e ∙ (ap (λ (v : pool.SeatView). v.owner) here ∙ sym (ap (λ (j : ℕ). (pool.seat_at p.seats j).owner) e))
          | inr ne ↦ ap (λ (v : pool.SeatView). v.owner) (put-else p seat bytes inside k ne)
        ]

        source-of : (k : ℕ) → IsTaken d n k → k ≢ seat → IsNamed d.lease (numbers from) k
        source-of k t ne = elim t.1 [
          | inl m ↦ absurd (ne (sym t.2 ∙ ap (λ (a : ℕ). get_or d.lease a 0) (sym (subst (λ (q : Node). Makes q t.0) r.kind m))))
          | inr u ↦ (t.0, r.are_sources.all t.0 ∙ list_any-from_Contains nat_eq_equiv t.0 named (subst (λ (q : Node). Uses q named t.0) r.kind u), t.2)
        ]

    -- another buffer has the bytes that it had
    pub bytes-else : (k : ℕ) → k ≢ seat → (pool.seat_at after.seats k).bytes ≡ (pool.seat_at old.pool.seats k).bytes
    bytes-else k ne = ap (λ (v : pool.SeatView). v.bytes) (put-else p seat bytes inside k ne) ∙ home.bytes k

  -- the same along the calls, as the sources are home
  module _ (two : Array L D) (home : SourcesHome old.pool d.lease from two.pool) (rest : two ≡ record old { pool = two.pool }) where
    same-desk : desk_at two.clients c ≡ d
    same-desk = ap (λ (s : Array L D). desk_at s.clients c) rest

    pub target-lease : pool.IsLease two.pool (desk_at two.clients c).lease
    target-lease = subst (λ (a : Desk). pool.IsLease two.pool a.lease) (sym same-desk) (mid-lease two.pool home)

    pub target-buf : (b : ℕ) → b ≡ r.to → b < length (desk_at two.clients c).lease
    target-buf b is = subst (λ (a : Desk). b < length a.lease) (sym same-desk) (subst (λ (a : ℕ). a < length d.lease) (sym is) to-leased)

    pub target-out : (b : ℕ) → b ≡ r.to → (seat_of two.pool (desk_at two.clients c) b).out ≡ true
    target-out b is = subst (λ (a : Desk). (seat_of two.pool a b).out ≡ true) (sym same-desk) (subst (λ (a : ℕ). (seat_of two.pool d a).out ≡ true) (sym is) (mid-out two.pool home))

  -- the target holds the sum
  pub sum-is : (j : ℕ) → j < 512 * count → slice_index bytes j ≡ xor_by (λ b. slice_index (bytes_at old.pool d.lease b) j) named
  sum-is j lt =
      let fits : 512 * count ≤ old.pool.unit = let named_in = (well.accepted.2.bufs r.to to-below).named.within in let e = well.task.unit_sectors in let is = r.are_sources.count_is in let unit = sound.unit in omega (arith, named_in, e, is, unit) in
      let long = r.are_sources.long in
      r.sums.bytes (omega (arith, fits, long)) (long-sources old.pool.unit count from fits r.are_sources.longs) j lt ∙ r.are_sources.sum j

-- ## The event

module _ {L D : Type 0} (lay : LayoutGhosts L) (disk : DiskGhosts D) (old mid : Array L D) (c n : ℕ) (bytes : List ℕ) (from : List Source) (count : ℕ) (sound : IsSound lay disk old) (r : SumBack disk old c n bytes from count Good) (h : SumHome old c n r.to bytes from mid) where
  abbrev now : Desk
  now = with_ended (desk_at old.clients c) n Good

  abbrev log : Logged
  log = noted mid.log (event.Good (id_of old.clients c) n)

  abbrev new : Array L D
  new = record mid { log = log }

  abbrev held : pool.PoolView
  held = pool.put h.mid (get_or (desk_at old.clients c).lease r.to 0) bytes

  abbrev q : View
  q = (desk_at old.clients c).run.graph

  module _ (w : World) (s : Shows disk old w) where
    running : (buf : ℕ → ℕ → ℕ → ℕ) × ((w.clients c).current ≡ IsRunning (running_as (desk_at old.clients c) buf)) × HoldBytes disk.tells old.pool (desk_at old.clients c) buf
    running = shown-running disk.tells old.lost old.pool (desk_at old.clients c) (w.clients c) (s.clients c) r.out.runs

    abbrev was : Running
    was = running_as (desk_at old.clients c) running.0

    abbrev filled : ℕ → ℕ → ℕ → ℕ
    filled = made (lay.shape old.layout) w.contents was (kind_at q n) (spot_at (desk_at old.clients c) n) (vertex_at q n).sources

    abbrev next : Running
    next = running_as now filled

    abbrev x : World
    x = record w {
      clients = put w.clients c (record (w.clients c) { current = IsRunning next });
      out = w.out - 1;
    }

    some-out : suc (w.out - 1) ≡ w.out
    some-out = let a = s.out in let b = list-out old.clients c n old.lists (below lay disk old c n bytes from count sound r) r.out.mark sound.jobs in omega (arith, a, b)

    phase-same : now.run.phase ≡ settled q (mark_in now.run.marks) (desk_at old.clients c).run.phase
    phase-same = ap (λ (k : Node). settled_in now.run.marks (phase_after k (desk_at old.clients c).run.phase)) r.kind
        ∙ settled-same q now.run.marks (desk_at old.clients c).run.phase (length-set (desk_at old.clients c).run.marks n status.Good ∙ (well lay disk old c n bytes from count sound r).marks)

    works : Works (lay.shape old.layout) c n w x
    works = record {
      was = was;
      next = next;
      finishes = record {
        runs = running.1;
        below = node lay disk old c n bytes from count sound r;
        out = r.out.mark;
        plan = refl;
        node = set-marked (desk_at old.clients c).run.marks n status.Good (marks lay disk old c n bytes from count sound r);
        fired_at = λ k ne. refl;
        told = subst (λ (p : Option Spot). Told (lay.shape old.layout) q (kind_at q n) p true w x) (sym (spot lay disk old c n bytes from count sound r)) (λ a. refl);
        out_less = some-out;
      };
      neither = subst (λ (k : Node). (k ≡ Cmt → ⊥) × (k ≡ Trm → ⊥)) (sym r.kind) ((λ e. let u : ⊥ = cc in u), (λ e. let u : ⊥ = cc in u));
      can = subst (λ (k : Node). CanBeGood k (spot_at (desk_at old.clients c) n) w) (sym r.kind) tt;
      buf = λ b o k covers lt. refl;
      phase = phase-same;
      by = refl;
      contents = subst (λ (k : Node). EndContents (lay.shape old.layout) was k (spot_at (desk_at old.clients c) n) true w x) (sym r.kind) (λ a b k. refl);
      goes = record {
        items = ap (λ (v : Client). v.items) (put-same w.clients c _);
        replies = ap (λ (v : Client). v.replies) (put-same w.clients c _);
        handed = λ i b k. ap (λ (v : Client). v.handed i b k) (put-same w.clients c _);
        current = ap (λ (v : Client). v.current) (put-same w.clients c _);
        others = λ k ne. put-other w.clients c _ k ne;
      };
      columns = record { failed = λ a. refl; columns = refl; rebuilt = refl; lost = refl };
      blocks = record { blocks = λ b k. refl; history = refl };
      free = refl;
    }

    -- the sum of the sources, as the target holds it
    sum-byte : disk.tells → (o k : ℕ) → Covers q r.to o → k < 512 → xor_by (λ b. running.0 b o k) (vertex_at q n).sources ≡ buffer_byte q bytes r.to o k
    sum-byte told o k covers lt =
        let from_here = (buf_at q r.to).from in
        let j = 512 * (o - from_here) + k in
        let lo = covers.0 in let hi = covers.1 in let is = r.are_sources.count_is in
        let inside_sum : j < 512 * count = omega (arith, lo, hi, is, lt) in
        xor_by-among (λ b. running.0 b o k) (λ b. slice_index (bytes_at old.pool (desk_at old.clients c).lease b) j) (vertex_at q n).sources each
        ∙ (sym (sum-is lay disk old c n bytes from count sound r j inside_sum) ∙ sym (byte-sector_at bytes (o - from_here) k lt))
      where
        each : (b : ℕ) → Contains (vertex_at q n).sources b → running.0 b o k ≡ slice_index (bytes_at old.pool (desk_at old.clients c).lease b) (512 * (o - (buf_at q r.to).from) + k)
        each b in_list =
            let range = (well lay disk old c n bytes from count sound r).accepted.2.xor n r.to b (node lay disk old c n bytes from count sound r) r.kind in_list in
            let same = range.1 in let many = range.2 in let lo = covers.0 in let hi = covers.1 in
            running.2 told b o k (omega (arith, same, lo), omega (arith, same, many, hi)) lt
            ∙ (byte-sector_at (bytes_at old.pool (desk_at old.clients c).lease b) (o - (buf_at q b).from) k lt
            ∙ ap (λ (a : ℕ). slice_index (bytes_at old.pool (desk_at old.clients c).lease b) (512 * (o - a) + k)) same)

    -- what the buffers hold now
    holds : HoldBytes disk.tells held now filled
    holds = λ told b o k covers lt. subst (λ (e : Node). made (lay.shape old.layout) w.contents was e (spot_at (desk_at old.clients c) n) (vertex_at q n).sources b o k ≡ buffer_byte q (bytes_at held (desk_at old.clients c).lease b) b o k) (sym r.kind)
        (elim (cases_eq b r.to) [
          | inl is ↦ ap (λ (t : Bool). if t then xor_by (λ a. running.0 a o k) (vertex_at q n).sources else running.0 b o k) (eq-eqb b r.to is)
              ∙ (sum-byte told o k (subst (λ (a : ℕ). Covers q a o) is covers) lt
              ∙ (ap (λ (l : List ℕ). buffer_byte q l r.to o k) (sym (put-here h.mid (get_or (desk_at old.clients c).lease r.to 0) bytes (inside lay disk old c n bytes from count sound r h.mid h.sources)))
              ∙ sym (ap (λ (a : ℕ). buffer_byte q (bytes_at held (desk_at old.clients c).lease a) a o k) is)))
          | inr ne ↦ ap (λ (t : Bool). if t then xor_by (λ a. running.0 a o k) (vertex_at q n).sources else running.0 b o k) (ne_eqb b r.to ne)
              ∙ (running.2 told b o k covers lt
              ∙ ap (λ (l : List ℕ). buffer_byte q l b o k) (sym (bytes-else lay disk old c n bytes from count sound r h.mid h.sources (get_or (desk_at old.clients c).lease b 0)
              (λ e. ne (seats-differ old.pool (desk_at old.clients c).lease (well lay disk old c n bytes from count sound r).lease b r.to (in-lease b o covers) (to-leased lay disk old c n bytes from count sound r) e)))))
        ])
      where
        in-lease : (b o : ℕ) → Covers q b o → b < length (desk_at old.clients c).lease
        in-lease b o covers = let lt = covers-below q b o covers in let bufs = (well lay disk old c n bytes from count sound r).bufs in omega (arith, lt, bufs)

    shows-now : ShowsClient disk.tells old.lost held now (record (w.clients c) { current = IsRunning next })
    shows-now = record {
      items = (s.clients c).items;
      replies = (s.clients c).replies;
      current = subst (λ (t : Stage). ShowsCurrent disk.tells held t now (IsRunning next)) (sym r.out.runs) (filled, refl, holds);
    }

    shows-other : (k : ℕ) → k ≢ c → ShowsClient disk.tells old.lost held (desk_at old.clients k) (w.clients k)
    shows-other k ne = record {
      items = (s.clients k).items;
      replies = (s.clients k).replies;
      current = current-kept disk.tells old.pool held (lay.shape old.layout) old.graphs.items (desk_at old.clients k) (w.clients k).current (desk_at old.clients k).stage refl
          (λ runs. (sound.well.each k (runs_below (lay.shape old.layout) old.graphs.items old.pool old.clients k sound.well runs)).runs runs)
          (λ b lt. bytes-else lay disk old c n bytes from count sound r h.mid h.sources (get_or (desk_at old.clients k).lease b 0) (λ e. sound.well.apart k c ne b r.to lt (to-leased lay disk old c n bytes from count sound r) e))
          (s.clients k).current;
    }

    clients-new : (k : ℕ) → ShowsClient disk.tells old.lost held (desk_at mid.clients k) (x.clients k)
    clients-new = shown-one disk.tells old.lost held old.clients mid.clients w.clients c now (record (w.clients c) { current = IsRunning next }) (below lay disk old c n bytes from count sound r) h.clients shows-other shows-now

    shows-new : Shows disk new x
    shows-new = record {
      contents = λ told a m k lt. s.contents told a m k lt ∙ sym (ap (λ (v : Shelved D). device_byte disk (seen_at v a) m k) h.devices);
      failed = λ a. s.failed a ∙ sym (ap (λ (v : Shelved D). slice_index_or v.failed a false) h.devices);
      calls = λ a. subst (λ (v : Shelved D). AreTold disk (told_by disk (seen_at v a)) (w.calls a)) (sym h.devices) (s.calls a);
      columns = s.columns ∙ sym (ap (λ v. v.states) h.cols);
      clients = subst (λ (p : pool.PoolView). (k : ℕ) → ShowsClient disk.tells mid.lost p (desk_at mid.clients k) (x.clients k)) (sym h.pool)
          (subst (λ (l : Option Loss). (k : ℕ) → ShowsClient disk.tells l held (desk_at mid.clients k) (x.clients k)) (sym h.lost) clients-new);
      free = s.free ∙ (ap length (sym h.sources.free) ∙ ap length (sym (ap (λ (p : pool.PoolView). p.free) h.pool)));
      out = let a = s.out in let b = list-out old.clients c n old.lists (below lay disk old c n bytes from count sound r) r.out.mark sound.jobs in let e = h.lists in omega (arith, a, b, e);
      rebuilt = s.rebuilt ∙ sym (ap (λ v. v.rebuilt) h.log);
      history = s.history ∙ sym (ap (λ v. v.history) h.log);
      lost = s.lost ∙ sym h.lost;
      handed = hands-on disk.tells old.log.handed _ w.clients c (record (w.clients c) { current = IsRunning next }) (ap (λ l. l.handed) h.log) refl refl s.handed;
    }

    steps : Step (lay.shape old.layout) (graphs_of old.graphs.items) (event.Good (id_of old.clients c) n) w x
    unfolding works
    steps = good-step (lay.shape old.layout) (graphs_of old.graphs.items) (id_of old.clients c) n w x works refl (λ none. ap length (replies-shown disk old w s (sym s.lost ∙ none) c))

  pub sum-follows : Follows lay disk old (event.Good (id_of old.clients c) n) new
  sum-follows w s = (x w s, shows-new w s, steps w s)

  ended : NodeEnded disk old c n Good new
  ended = record {
    clients = h.clients;
    devices = subst (λ (p : Option Spot). DeviceCame disk p old.devices mid.devices) (sym (spot lay disk old c n bytes from count sound r)) h.devices;
    pool = subst (λ (p : pool.PoolView). BuffersCame old.pool (IsTaken (desk_at old.clients c) n) p) (sym h.pool) (all-came lay disk old c n bytes from count sound r h.mid h.sources);
    lists = h.lists;
    layout = h.layout;
    cols = h.cols;
    locks = h.locks;
    graphs = h.graphs;
  }

  pub sum-sound : IsSound lay disk new
  sum-sound =
      let w = well lay disk old c n bytes from count sound r in
      end-sound lay disk old new c n Good sound r.out ended
      (step-reached q (Do n) (desk_at old.clients c).run now.run w.reached (leading.end_leads (desk_at old.clients c).run w.marks n Good (node lay disk old c n bytes from count sound r) r.out.mark tt))

  pub sum-stays : OthersStay disk lay c n old new
  sum-stays = end-stays lay disk old new c n Good sound r.out ended
