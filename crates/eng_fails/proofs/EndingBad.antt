-- A read or a write ends bad: what the world shows before its column fails.
use Rattle.std.proofs.Common.{◌≡◌, ◌≢◌, ℕ, suc, ◌<◌, ◌≤◌, ◌+◌, ◌-◌, ◌⊎◌, List, [], ◌∷◌, ◌++◌, length, get_or, subst, sym, ap, ◌∙◌, arith, inl, inr, refl, Bool, true, false, Option, Some}
use Rattle.std.specs.Prelude.{slice_set, ◌==◌, if◌then◌else◌}
use Rattle.std.proofs.lemmas.Bool.{cases_eq, eq-eqb, ne_eqb}
use Rattle.std.proofs.lemmas.List.{length-set}
use Rattle.blk_disk.specs.declared.disk.Call.{Call}
use Rattle.blk_disk.specs.declared.disk.Disk.{Ghosts as DiskGhosts}
use Rattle.blk_disk.specs.Disk as blk
use Rattle.buf_pool.specs.Pool as pool
use Rattle.lay_core.specs.Layout.{Shape}
use Rattle.lay_core.specs.declared.layout.Layout.{Ghosts as LayoutGhosts}
use Rattle.graph_mean.specs.declared.graph.Node.{Node}
use Rattle.graph_mean.specs.declared.graph.Node.TheVariants.{Wr}
use Rattle.graph_mean.specs.declared.step.Status.TheVariants as status
use Rattle.graph_mean.specs.declared.step.Phase.{Phase}
use Rattle.graph_mean.specs.Graph.{View, kind_at, buf_at}
use Rattle.graph_mean.specs.Steps.{Covers}
use Rattle.eng_one.specs.Control.{settled_in}
use Rattle.eng_cols.specs.declared.spot.Spot.{Spot}
use Rattle.eng_cols.specs.Contents.{sector_at}
use Rattle.eng_world.specs.World.{Running, Client, World, Runs as IsRunning}
use Rattle.eng_clients.specs.declared.stage.Stage.{Stage}
use Rattle.eng_state.specs.declared.array.Array.{Array}
use Rattle.eng_parts.specs.Shelf.{Seen, seen_at, come_home}
use Rattle.eng_clients.specs.Seats.{bytes_at}
use Rattle.eng_clients.specs.Desk.{Desk, desk_at}
use Rattle.eng_state.specs.Shows.{Shows, ShowsClient, ShowsCurrent, HoldBytes, running_as, device_byte, told_by, AreTold}
use Rattle.eng_state.specs.Sound.{IsSound, RunsWell}
use Rattle.eng_state.proofs.Put.{put, put-same, put-other, set-marked}
use Rattle.eng_state.proofs.Running.{runs_below}
use Rattle.eng_state.proofs.Shown.{shown-running, shown-one}
use Rattle.eng_state.proofs.Written.{written, written-here, written-else, writes-at, in-range}
use Rattle.eng_state.proofs.Homing.{home-here, home-else, tells-more}
use Rattle.eng_state.proofs.Putting.{put-here, put-else, current-other, covers-below, out-below, list-out, settled-same}
use Rattle.eng_clients.proofs.SeatsApart.{seats-differ}
use Rattle.std.specs.Prelude.{if◌then◌else◌}
use Rattle.std.proofs.lemmas.Bool.{cases_Bool}
use Rattle.blk_plain.specs.declared.op.Outcome.{Outcome}
use Rattle.eng_job.specs.Performed.{is_ok_of}
use Rattle.graph_mean.specs.Steps.{IsCall}
use Rattle.eng_cols.specs.Contents.{Contents}
use Rattle.eng_world.specs.Nodes.{FailsNode, IsLateWrite, ReadsInto}
use Rattle.graph_mean.specs.declared.graph.Node.TheVariants.{Rd}
use Rattle.graph_mean.specs.declared.step.Phase.{Phase}
use Rattle.eng_log.specs.Log.{Logged}
use Rattle.eng_state.specs.Bad.{CallBack, EndsBad}
use Rattle.eng_state.proofs.Handing.{hands-on}
use Rattle.eng_log.specs.Filled.{buffer_byte}
use Rattle.eng_world.proofs.Words.{call_of, Told, HasAnswered, BadContents}

module _ {L D : Type 0} (lay : LayoutGhosts L) (disk : DiskGhosts D) (old : Array L D) (c n : ℕ) (after : D) (first count : ℕ) (bytes : List ℕ) (outcome : Outcome) (sound : IsSound lay disk old) (r : CallBack lay disk old c n after first bytes count outcome) where
  abbrev pub y : Shape
  y = lay.shape old.layout

  abbrev pub d : Desk
  d = desk_at old.clients c

  -- its desk, whatever the phase
  abbrev pub bad_in : Phase → Desk
  bad_in p = record d { run = record d.run { marks = slice_set d.run.marks n status.Bad; phase = p } }

  abbrev pub g : View
  g = d.run.graph

  abbrev pub seat : ℕ
  seat = get_or d.lease r.buf 0

  pub below17 : c < 17
  below17 = runs_below y old.graphs.items old.pool old.clients c sound.well r.out.runs

  pub below : c < length old.clients
  below = let all = sound.well.all in let e = below17 in omega (arith, all, e)

  pub well : RunsWell y old.graphs.items old.pool d
  well = (sound.well.each c below17).runs r.out.runs

  pub marks : n < length d.run.marks
  marks = out-below d.run.marks n r.out.mark

  pub node : n < length g.nodes
  node = let e = well.marks in let lt = marks in omega (arith, e, lt)

  pub is-write : r.writes ≡ true → kind_at g n ≡ Wr r.unit r.buf
  is-write e = r.kind ∙ ap (λ (v : Bool). if v then Wr r.unit r.buf else Rd r.unit r.buf) e

  pub is-read : r.writes ≡ false → kind_at g n ≡ Rd r.unit r.buf
  is-read e = r.kind ∙ ap (λ (v : Bool). if v then Wr r.unit r.buf else Rd r.unit r.buf) e

  abbrev pub kind_now : Node
  kind_now = kind_at g n

  pub call-made : IsCall (kind_at g n)
  call-made = subst IsCall (sym r.kind) (by r.writes)
    where
      by : (v : Bool) → IsCall (if v then Wr r.unit r.buf else Rd r.unit r.buf)
      by true = tt
      by false = tt

  pub in-own : r.buf < length d.lease
  in-own = let bufs = well.bufs in elim (cases_Bool r.writes) [
    | inl e ↦ let lt = (well.accepted.2.write n r.unit r.buf node (is-write e)).1.below in omega (arith, bufs, lt)
    | inr e ↦ let lt = (well.accepted.2.read n r.unit r.buf node (is-read e)).1.below in omega (arith, bufs, lt)
  ]

  pub inside : seat < length old.pool.seats
  inside = (well.lease r.buf in-own).0

  -- the core as the node alone makes it, before its column fails
  abbrev pub alone_core : Logged → Phase → Array L D
  alone_core log p = record old { clients = slice_set old.clients c (bad_in p); devices = come_home old.devices r.at.device after; pool = pool.put old.pool seat bytes; lists = old.lists + 1; log = log }

  module _ (w : World) (s : Shows disk old w) (log : Logged) (rebuilt : log.rebuilt ≡ old.log.rebuilt) (history : log.history ≡ old.log.history) (handed : log.handed ≡ old.log.handed) (p : Phase) where
    abbrev now : Desk
    now = bad_in p

    pub running : (buf : ℕ → ℕ → ℕ → ℕ) × ((w.clients c).current ≡ IsRunning (running_as d buf)) × HoldBytes disk.tells old.pool d buf
    running = shown-running disk.tells old.lost old.pool d (w.clients c) (s.clients c) r.out.runs

    abbrev pub was : Running
    was = running_as d running.0

    -- what the buffers hold, and what the devices
    abbrev pub filled : Bool → ℕ → ℕ → ℕ → ℕ
    filled true b o k = running.0 b o k
    filled false b o k = if b == r.buf then buffer_byte g bytes b o k else running.0 b o k

    abbrev pub sectors : ℕ → ℕ → ℕ
    sectors o k = get_or (disk.sector after (sector_at y r.at o)) k 0

    abbrev pub contents : Bool → Contents
    contents true = written y g r.buf r.at sectors w.contents
    contents false = w.contents

    abbrev pub next : Running
    next = running_as now (filled r.writes)

    abbrev pub call : Call
    call = call_of y g (kind_at g n) r.at (is_ok_of outcome)

    abbrev pub mid : World
    mid = record w {
      contents = contents r.writes;
      clients = put w.clients c (record (w.clients c) { current = IsRunning next });
      calls = put w.calls r.at.device (w.calls r.at.device ++ call ∷ []);
      out = w.out - 1;
    }

    pub some-out : suc (w.out - 1) ≡ w.out
    some-out = let a = s.out in let b = list-out old.clients c n old.lists below r.out.mark sound.jobs in omega (arith, a, b)

    pub answered : EndsBad lay disk old c n after first bytes count outcome r → HasAnswered false (kind_at g n) (Some r.at) w (is_ok_of outcome)
    answered (inl bad) ok = let z : false ≡ true = sym (ap is_ok_of bad) ∙ ok in absurd (let u : ⊥ = cc in u)
    answered (inr late) ok = subst (λ (q : Node). IsLateWrite q (Some r.at) w) (sym (is-write late.0)) (s.failed r.at.device ∙ late.1)

    buf-same : (b o k : ℕ) → (ReadsInto (kind_at g n) b → ⊥) → filled r.writes b o k ≡ running.0 b o k
    buf-same b o k none = elim (cases_Bool r.writes) [
      | inl e ↦ ap (λ (v : Bool). filled v b o k) e
      | inr e ↦ ap (λ (v : Bool). filled v b o k) e ∙ ap (λ (t : Bool). if t then buffer_byte g bytes b o k else running.0 b o k) (ne_eqb b r.buf (λ is. none (subst (λ (q : Node). ReadsInto q b) (sym (is-read e)) is)))
    ]

    pub bad-contents : BadContents y was (kind_at g n) r.at w mid
    bad-contents = elim (cases_Bool r.writes) [
      | inl e ↦ subst (λ (q : Node). BadContents y was q r.at w mid) (sym (is-write e)) (λ a m k none. ap (λ (v : Bool). contents v a m k) e ∙ (writes-at y g r.buf r.at sectors w.contents w (record w { contents = contents true }) refl refl).others a m k none)
      | inr e ↦ subst (λ (q : Node). BadContents y was q r.at w mid) (sym (is-read e)) (λ a m k. ap (λ (v : Bool). contents v a m k) e)
    ]

    pub fails-node : p ≡ settled_in (slice_set d.run.marks n status.Bad) d.run.phase → EndsBad lay disk old c n after first bytes count outcome r → FailsNode y c n r.at w mid
    fails-node is ends = record {
      was = was;
      next = next;
      answer = is_ok_of outcome;
      answered = answered ends;
      finishes = record {
        runs = running.1;
        below = node;
        out = r.out.mark;
        plan = refl;
        node = set-marked d.run.marks n status.Bad marks;
        fired_at = λ k ne. refl;
        told = subst (λ (o : Option Spot). Told y g (kind_at g n) o (is_ok_of outcome) w mid) (sym r.spot) (put-same w.calls r.at.device _, λ k ne. put-other w.calls r.at.device _ k ne);
        out_less = some-out;
      };
      call = call-made;
      at_is = r.spot;
      buf = buf-same;
      phase = is ∙ settled-same g now.run.marks d.run.phase (length-set d.run.marks n status.Bad ∙ well.marks);
      by = refl;
      contents = bad-contents;
      goes = record {
        items = ap (λ (q : Client). q.items) (put-same w.clients c _);
        replies = ap (λ (q : Client). q.replies) (put-same w.clients c _);
        handed = λ i b k. ap (λ (q : Client). q.handed i b k) (put-same w.clients c _);
        current = ap (λ (q : Client). q.current) (put-same w.clients c _);
        others = λ k ne. put-other w.clients c _ k ne;
      };
      columns = record { failed = λ a. refl; columns = refl; rebuilt = refl; lost = refl };
      blocks = record { blocks = λ b k. refl; history = refl };
      free = refl;
    }

    -- what the buffers hold now
    holds : HoldBytes disk.tells (pool.put old.pool seat bytes) now (filled r.writes)
    holds = λ told b o k covers lt. elim (cases_eq b r.buf) [
      | inl is ↦ elim (cases_Bool r.writes) [
        | inl e ↦ ap (λ (v : Bool). filled v b o k) e ∙ (running.2 told b o k covers lt ∙ (ap (λ (a : ℕ). buffer_byte g (bytes_at old.pool d.lease a) a o k) is
            ∙ (ap (λ (l : List ℕ). buffer_byte g l r.buf o k) (sym r.are_out.bytes ∙ (sym (r.same_buffer e) ∙ sym (put-here old.pool seat bytes inside))) ∙ sym (ap (λ (a : ℕ). buffer_byte g (bytes_at (pool.put old.pool seat bytes) d.lease a) a o k) is))))
        | inr e ↦ ap (λ (v : Bool). filled v b o k) e ∙ (ap (λ (t : Bool). if t then buffer_byte g bytes b o k else running.0 b o k) (eq-eqb b r.buf is)
            ∙ (ap (λ (a : ℕ). buffer_byte g bytes a o k) is ∙ (ap (λ (l : List ℕ). buffer_byte g l r.buf o k) (sym (put-here old.pool seat bytes inside)) ∙ sym (ap (λ (a : ℕ). buffer_byte g (bytes_at (pool.put old.pool seat bytes) d.lease a) a o k) is))))
      ]
      | inr ne ↦ (elim (cases_Bool r.writes) [
        | inl e ↦ ap (λ (v : Bool). filled v b o k) e
        | inr e ↦ ap (λ (v : Bool). filled v b o k) e ∙ ap (λ (t : Bool). if t then buffer_byte g bytes b o k else running.0 b o k) (ne_eqb b r.buf ne)
      ]) ∙ (running.2 told b o k covers lt
          ∙ ap (λ (v : pool.SeatView). buffer_byte g v.bytes b o k) (sym (put-else old.pool seat bytes inside (get_or d.lease b 0) (λ e. ne (seats-differ old.pool d.lease well.lease b r.buf (in-lease b o covers) in-own e)))))
    ]
      where
        in-lease : (b o : ℕ) → Covers g b o → b < length d.lease
        in-lease b o covers = let lt = covers-below g b o covers in let bufs = well.bufs in omega (arith, lt, bufs)

    shows-now : ShowsClient disk.tells old.lost (pool.put old.pool seat bytes) now (record (w.clients c) { current = IsRunning next })
    shows-now = record {
      items = (s.clients c).items;
      replies = (s.clients c).replies;
      current = subst (λ (t : Stage). ShowsCurrent disk.tells (pool.put old.pool seat bytes) t now (IsRunning next)) (sym r.out.runs) (filled r.writes, refl, holds);
    }

    shows-other : (k : ℕ) → k ≢ c → ShowsClient disk.tells old.lost (pool.put old.pool seat bytes) (desk_at old.clients k) (w.clients k)
    shows-other k ne = record {
      items = (s.clients k).items;
      replies = (s.clients k).replies;
      current = current-other old.pool seat bytes inside disk.tells y old.graphs.items (desk_at old.clients k) (w.clients k).current (desk_at old.clients k).stage refl
          (λ runs. (sound.well.each k (runs_below y old.graphs.items old.pool old.clients k sound.well runs)).runs runs) (λ b lt e. sound.well.apart k c ne b r.buf lt in-own e) (s.clients k).current;
    }

    device-new : (m k : ℕ) → device_byte disk (seen_at (come_home old.devices r.at.device after) r.at.device) m k ≡ get_or (disk.sector after m) k 0
    device-new m k = ap (λ (o : Option (Seen D)). device_byte disk o m k) (home-here old.devices r.at.device _ after r.are_out.device)

    device-old : (m k : ℕ) → device_byte disk (seen_at old.devices r.at.device) m k ≡ get_or (disk.sector r.left m) k 0
    device-old m k = ap (λ (o : Option (Seen D)). device_byte disk o m k) r.are_out.device

    -- where the call wrote nothing the device holds what it held
    device-kept : disk.tells → (m k : ℕ) → k < 512 → (r.writes ≡ true → (m < first) ⊎ (first + count ≤ m)) → w.contents r.at.device m k ≡ device_byte disk (seen_at (come_home old.devices r.at.device after) r.at.device) m k
    device-kept told m k lt h = s.contents told r.at.device m k lt ∙ (device-old m k ∙ (ap (λ (l : List ℕ). get_or l k 0) (sym (r.kept told m h)) ∙ sym (device-new m k)))

    written-now : disk.tells → (m k : ℕ) → k < 512 → contents true r.at.device m k ≡ device_byte disk (seen_at (come_home old.devices r.at.device after) r.at.device) m k
    written-now told m k lt = elim (in-range first count m) [
      | inl here ↦ written-here y g r.buf r.at sectors w.contents m k (omega (arith, from-is, here.0)) (let e = r.are_out.count_is in omega (arith, from-is, e, here.1))
          ∙ (ap (λ (j : ℕ). get_or (disk.sector after j) k 0) (let e : sector_at y r.at (m - sector_at y r.at (buf_at g r.buf).from + (buf_at g r.buf).from) ≡ m = omega (arith, from-is, here.0) in e) ∙ sym (device-new m k))
      | inr out ↦ written-else y g r.buf r.at sectors w.contents r.at.device m k (λ e. let q = r.are_out.count_is in elim out [ inl lo ↦ omega (arith, from-is, lo, e.1) | inr hi ↦ omega (arith, from-is, hi, q, e.2) ])
          ∙ device-kept told m k lt (λ t. out)
    ]
      where
        from-is : first ≡ sector_at y r.at (buf_at g r.buf).from
        from-is = r.are_out.first_is

    contents-new : disk.tells → (a m k : ℕ) → k < 512 → contents r.writes a m k ≡ device_byte disk (seen_at (come_home old.devices r.at.device after) a) m k
    contents-new told a m k lt = elim (cases_eq a r.at.device) [
      | inl is ↦ subst (λ (j : ℕ). contents r.writes j m k ≡ device_byte disk (seen_at (come_home old.devices r.at.device after) j) m k) (sym is) (elim (cases_Bool r.writes) [
        | inl e ↦ ap (λ (v : Bool). contents v r.at.device m k) e ∙ written-now told m k lt
        | inr e ↦ ap (λ (v : Bool). contents v r.at.device m k) e ∙ device-kept told m k lt (λ t. let z : true ≡ false = sym t ∙ e in absurd (let u : ⊥ = cc in u))
      ])
      | inr ne ↦ (elim (cases_Bool r.writes) [
        | inl e ↦ ap (λ (v : Bool). contents v a m k) e ∙ written-else y g r.buf r.at sectors w.contents a m k (λ h. ne h.0)
        | inr e ↦ ap (λ (v : Bool). contents v a m k) e
      ]) ∙ (s.contents told a m k lt ∙ ap (λ (o : Option (Seen D)). device_byte disk o m k) (sym (home-else old.devices r.at.device after a ne)))
    ]

    abbrev a_call : ℕ → ℕ → ℕ → Call
    a_call kind f m = record { kind = kind; first = f; count = m; good = is_ok_of outcome }

    call-is : a_call (if r.writes then 1 else 0) first count ≡ call
    call-is = subst (λ (q : Node). a_call (if r.writes then 1 else 0) first count ≡ call_of y g q r.at (is_ok_of outcome)) (sym r.kind) (by r.writes)
      where
        at-first : (kind : ℕ) → a_call kind first count ≡ a_call kind (sector_at y r.at (buf_at g r.buf).from) (buf_at g r.buf).count
        at-first kind = ap (λ (f : ℕ). a_call kind f count) r.are_out.first_is ∙ ap (λ (m : ℕ). a_call kind (sector_at y r.at (buf_at g r.buf).from) m) r.are_out.count_is

        by : (v : Bool) → a_call (if v then 1 else 0) first count ≡ call_of y g (if v then Wr r.unit r.buf else Rd r.unit r.buf) r.at (is_ok_of outcome)
        by true = at-first 1
        by false = at-first 0

    calls-told : (a : ℕ) → AreTold disk (told_by disk (seen_at (come_home old.devices r.at.device after) a)) (mid.calls a)
    calls-told a = elim (cases_eq a r.at.device) [
      | inl is ↦ subst (λ (j : ℕ). AreTold disk (told_by disk (seen_at (come_home old.devices r.at.device after) j)) (mid.calls j)) (sym is)
          (subst (λ (o : Option (Seen D)). AreTold disk (told_by disk o) (mid.calls r.at.device)) (sym (home-here old.devices r.at.device _ after r.are_out.device))
          (subst (λ (l : List Call). AreTold disk (disk.calls after) l) (sym (put-same w.calls r.at.device _))
          (tells-more disk (disk.calls r.left) (disk.calls after) (w.calls r.at.device) call (subst (λ (q : Call). blk.Tells (disk.calls r.left) (disk.calls after) q) call-is r.calls.told)
          (subst (λ (o : Option (Seen D)). AreTold disk (told_by disk o) (w.calls r.at.device)) r.are_out.device (s.calls r.at.device)))))
      | inr ne ↦ subst (λ (o : Option (Seen D)). AreTold disk (told_by disk o) (mid.calls a)) (sym (home-else old.devices r.at.device after a ne)) (subst (λ (l : List Call). AreTold disk (told_by disk (seen_at old.devices a)) l) (sym (put-other w.calls r.at.device _ a ne)) (s.calls a))
    ]

    pub shows-mid : Shows disk (alone_core log p) mid
    shows-mid = record {
      contents = contents-new;
      failed = s.failed;
      calls = calls-told;
      columns = s.columns;
      clients = shown-one disk.tells old.lost (pool.put old.pool seat bytes) old.clients (slice_set old.clients c now) w.clients c now (record (w.clients c) { current = IsRunning next }) below refl shows-other shows-now;
      free = s.free;
      out = let a = s.out in let b = list-out old.clients c n old.lists below r.out.mark sound.jobs in omega (arith, a, b);
      rebuilt = s.rebuilt ∙ sym rebuilt;
      history = s.history ∙ sym history;
      lost = s.lost;
      handed = hands-on disk.tells old.log.handed log.handed w.clients c (record (w.clients c) { current = IsRunning next }) handed refl refl s.handed;
    }
