-- A read or a write ends bad, and its column fails with it: one event of the world.
use Rattle.std.proofs.Common.{◌≡◌, ◌≢◌, ℕ, ◌<◌, ◌+◌, List, length, get_or, subst, sym, ap, ◌∙◌, arith, inl, inr, refl, true, Option, Some, None}
use Rattle.std.specs.Prelude.{slice_get, slice_set}
use Rattle.std.proofs.lemmas.Bool.{cases_eq, cases_Bool}
use Rattle.std.proofs.lemmas.List.{length-set}
use Rattle.blk_plain.specs.declared.op.Outcome.{Outcome}
use Rattle.blk_plain.specs.declared.op.Outcome.TheVariants.{Bad}
use Rattle.blk_disk.specs.declared.disk.Disk.{Ghosts as DiskGhosts}
use Rattle.buf_pool.specs.Pool as pool
use Rattle.lay_core.specs.Layout.{Shape}
use Rattle.lay_core.specs.declared.layout.Layout.{Ghosts as LayoutGhosts}
use Rattle.graph_mean.specs.declared.step.Status.TheVariants as status
use Rattle.graph_mean.specs.declared.graph.Node.{Node}
use Rattle.graph_mean.specs.declared.graph.Node.TheVariants.{Rd}
use Rattle.graph_mean.specs.declared.step.Phase.{Phase}
use Rattle.graph_mean.specs.declared.step.Phase.TheVariants.{Before}
use Rattle.graph_mean.specs.Graph.{View, kind_at}
use Rattle.graph_mean.specs.Steps.{Units, Fail}
use Rattle.graph_mean.specs.Task.{missing_of}
use Rattle.eng_one.specs.Control.{Stands, MayEndBad, LosesOwn, settled_in}
use Rattle.eng_one.proofs.Waiting.{step-reached}
use Rattle.eng_one.proofs.Leading as leading
use Rattle.eng_one.proofs.Walking.{may-bad}
use Rattle.eng_cols.specs.declared.spot.Spot.{Spot}
use Rattle.eng_cols.specs.declared.spot.Loss.{Loss}
use Rattle.eng_cols.specs.Cols.{ColumnState, Columns, Live, Dead, Filling, HasDevice}
use Rattle.eng_cols.proofs.Spots.{seat-device}
use Rattle.eng_world.specs.declared.item.Traced.TheVariants as event
use Rattle.eng_world.specs.World.{World}
use Rattle.eng_world.specs.Nodes.{MakesOrUses, Bads}
use Rattle.eng_world.specs.Step.{StepBy, Step}
use Rattle.eng_state.specs.declared.array.Array.{Array}
use Rattle.eng_parts.specs.Shelf.{Shelved, come_home}
use Rattle.eng_clients.specs.Desk.{Desk, desk_at, with_ended}
use Rattle.eng_log.specs.Log.{Logged, noted}
use Rattle.eng_state.specs.Out.{AreOut, OthersStay}
use Rattle.eng_state.specs.Shows.{Shows}
use Rattle.eng_state.specs.Sound.{IsSound, RunsWell}
use Rattle.eng_state.specs.Moves.{id_of, CameHome}
use Rattle.eng_state.specs.Steps.{graphs_of, Follows}
use Rattle.eng_state.specs.Failing.{after_failure, suffered, HaveSuffered, FailedBy, dying}
use Rattle.eng_state.specs.Bad.{with_bad, Standing, CallBack, EndsBad, FailedIfAlive}
use Rattle.eng_state.proofs.Shown.{desk-set, desk-else, replies-shown}
use Rattle.eng_fails.proofs.Keeping.{GoesOn}
use Rattle.eng_state.proofs.Running.{read_buf, read_unit}
use Rattle.eng_fails.proofs.Suffering.{suffered-goes}
use Rattle.eng_fails.proofs.Failing as failing
use Rattle.eng_fails.proofs.Failed.{either-first, alone, loses-own, spot-parts}
use Rattle.eng_fails.proofs.EndingBad as ending
use Rattle.eng_state.proofs.EndKeeps.{end-sound, call-ended}
use Rattle.eng_state.proofs.EndStays.{end-stays}
use Rattle.eng_state.proofs.Leaving.{read-takes, write-takes, takes-read, takes-write}

-- ## A core that shows what another shows

pub shows-same : {L D : Type 0} (disk : DiskGhosts D) (a b : Array L D) (x : World) → b.devices ≡ a.devices → b.cols ≡ a.cols → b.clients ≡ a.clients → b.pool ≡ a.pool → b.lists ≡ a.lists → b.log ≡ a.log → b.lost ≡ a.lost → Shows disk a x → Shows disk b x
shows-same {L} {D} disk a b x devices cols clients pools lists log lost s =
    subst (λ (v : Shelved D). Shows disk (record b { devices = v }) x) (sym devices)
    (subst (λ (v : Columns). Shows disk (record b { devices = a.devices; cols = v }) x) (sym cols)
    (subst (λ (v : List Desk). Shows disk (record b { devices = a.devices; cols = a.cols; clients = v }) x) (sym clients)
    (subst (λ (v : pool.PoolView). Shows disk (record b { devices = a.devices; cols = a.cols; clients = a.clients; pool = v }) x) (sym pools)
    (subst (λ (v : ℕ). Shows disk (record b { devices = a.devices; cols = a.cols; clients = a.clients; pool = a.pool; lists = v }) x) (sym lists)
    (subst (λ (v : Logged). Shows disk (record b { devices = a.devices; cols = a.cols; clients = a.clients; pool = a.pool; lists = a.lists; log = v }) x) (sym log)
    (subst (λ (v : Option Loss). Shows disk (record b { devices = a.devices; cols = a.cols; clients = a.clients; pool = a.pool; lists = a.lists; log = a.log; lost = v }) x) (sym lost)
    (record { contents = s.contents; failed = s.failed; calls = s.calls; columns = s.columns; clients = s.clients; free = s.free; out = s.out; rebuilt = s.rebuilt; history = s.history; lost = s.lost; handed = s.handed })))))))

-- ## What came back while its column failed

module _ {L D : Type 0} (lay : LayoutGhosts L) (disk : DiskGhosts D) (old : Array L D) (c n : ℕ) (after : D) (first count : ℕ) (bytes : List ℕ) (outcome : Outcome) (k : ℕ) where
  back-in : (desks : List Desk) (lost : Option Loss) → GoesOn (desk_at old.clients c) (desk_at desks c) → CallBack lay disk old c n after first bytes count outcome → CallBack lay disk (after_failure old k desks lost) c n after first bytes count outcome
  back-in desks lost g r = record {
    unit = r.unit;
    buf = r.buf;
    at = r.at;
    left = r.left;
    buffer = r.buffer;
    writes = r.writes;
    out = record { runs = g.runs r.out.runs; mark = g.was n r.out.mark };
    kind = ap (λ (v : View). kind_at v n) g.graph ∙ r.kind;
    spot = ap (λ (l : List (Option Spot)). get_or l n None) g.spots ∙ r.spot;
    are_out = subst (λ (v : View). AreOut disk (lay.shape old.layout) (after_failure old k desks lost).devices old.pool v (desk_at desks c).lease r.at r.buf r.left first r.buffer count) (sym g.graph)
        (subst (λ (l : List ℕ). AreOut disk (lay.shape old.layout) (after_failure old k desks lost).devices old.pool (desk_at old.clients c).run.graph l r.at r.buf r.left first r.buffer count) (sym g.lease)
        (record { device = r.are_out.device; seat = r.are_out.seat; bytes = r.are_out.bytes; long = r.are_out.long; first_is = r.are_out.first_is; count_is = r.are_out.count_is; room = r.are_out.room }));
    calls = r.calls;
    long = r.long;
    same_buffer = r.same_buffer;
    kept = r.kept;
  }

  -- through the same buffer, and fired at the same place
  abbrev BackAs : CallBack lay disk old c n after first bytes count outcome → Array L D → Type 0
  BackAs r m = (b : CallBack lay disk m c n after first bytes count outcome) × (b.buf ≡ r.buf) × (b.at ≡ r.at)

  pub back-kept : (mid : Array L D) → FailedIfAlive lay old k mid → (r : CallBack lay disk old c n after first bytes count outcome) → (b : CallBack lay disk mid c n after first bytes count outcome) × (b.buf ≡ r.buf) × (b.at ≡ r.at)
  unfolding back-in
  back-kept mid (inl h) r = subst (BackAs r) (sym h.1) (r, refl, refl)
  back-kept mid (inr h) r = subst (BackAs r) (sym h.1.is)
      (back-in mid.clients mid.lost (subst (GoesOn (desk_at old.clients c)) (sym (h.1.desks.each c)) (suffered-goes (lay.shape old.layout) old.cols.states k (desk_at old.clients c))) r, refl, refl)

-- the core stays sound as its column fails
pub failed-sound_if : {L D : Type 0} (lay : LayoutGhosts L) (disk : DiskGhosts D) (old mid : Array L D) (k : ℕ) → IsSound lay disk old → FailedIfAlive lay old k mid → IsSound lay disk mid
failed-sound_if lay disk old mid k sound (inl h) = subst (IsSound lay disk) (sym h.1) sound
failed-sound_if lay disk old mid k sound (inr h) = failing.sound-with lay disk old k mid sound h.1 mid.log

-- nothing is written down yet
pub log-kept : {L D : Type 0} (lay : LayoutGhosts L) (old mid : Array L D) (k : ℕ) → FailedIfAlive lay old k mid → mid.log ≡ old.log
log-kept {L} {D} lay old mid k (inl h) = ap (λ (m : Array L D). m.log) h.1
log-kept {L} {D} lay old mid k (inr h) = ap (λ (m : Array L D). m.log) h.1.is

-- ## A bad end keeps the core sound

module _ {L D : Type 0} (lay : LayoutGhosts L) (disk : DiskGhosts D) (old : Array L D) (c n : ℕ) (after : D) (first count : ℕ) (bytes : List ℕ) (outcome : Outcome) (sound : IsSound lay disk old) (r : CallBack lay disk old c n after first bytes count outcome) where
  abbrev pub d : Desk
  d = desk_at old.clients c

  pub may : MayEndBad (kind_at d.run.graph n) d.run.phase
  may = let w = ending.well lay disk old c n after first count bytes outcome sound r in
      may-bad d.run.graph d.task (missing_of d.missing) w.accepted.0 w.accepted.1 w.accepted.2 d.run w.reached n (ending.call-made lay disk old c n after first count bytes outcome sound r) r.out.mark

  takes : MakesOrUses d.run.graph n r.buf
  takes = elim (cases_Bool r.writes) [
    | inl e ↦ write-takes d.run.graph n r.unit r.buf (ending.is-write lay disk old c n after first count bytes outcome sound r e)
    | inr e ↦ read-takes d.run.graph n r.unit r.buf (ending.is-read lay disk old c n after first count bytes outcome sound r e)
  ]

  takes-only : (a : ℕ) → MakesOrUses d.run.graph n a → a ≡ r.buf
  takes-only a t = elim (cases_Bool r.writes) [
    | inl e ↦ takes-write d.run.graph n r.unit r.buf a (ending.is-write lay disk old c n after first count bytes outcome sound r e) t
    | inr e ↦ takes-read d.run.graph n r.unit r.buf a (ending.is-read lay disk old c n after first count bytes outcome sound r e) t
  ]

  all-units : Units
  all-units s i = true

  pub bad-sound : (fin : Array L D) (log : Logged) → CameHome old c n r.buf r.at after bytes Bad fin → IsSound lay disk (record fin { log = log })
  unfolding all-units
  bad-sound fin log h =
      let w = ending.well lay disk old c n after first count bytes outcome sound r in
      let node = ending.node lay disk old c n after first count bytes outcome sound r in
      end-sound lay disk old (record fin { log = log }) c n Bad sound r.out
      (call-ended lay disk old fin c n r.buf r.at after r.left bytes Bad h r.spot r.are_out.device r.calls.size takes takes-only (ending.inside lay disk old c n after first count bytes outcome sound r) log fin.next)
      (step-reached d.run.graph (Fail n all-units) d.run (with_ended d n Bad).run w.reached (leading.end_leads d.run w.marks n Bad node r.out.mark may all-units (λ s i u. refl)))

  pub bad-stays : (fin : Array L D) (log : Logged) → CameHome old c n r.buf r.at after bytes Bad fin → OthersStay disk lay c n old (record fin { log = log })
  bad-stays fin log h = end-stays lay disk old (record fin { log = log }) c n Bad sound r.out
      (call-ended lay disk old fin c n r.buf r.at after r.left bytes Bad h r.spot r.are_out.device r.calls.size takes takes-only (ending.inside lay disk old c n after first count bytes outcome sound r) log fin.next)

-- ## The event

module _ {L D : Type 0} (lay : LayoutGhosts L) (disk : DiskGhosts D) (old mid fin : Array L D) (c n : ℕ) (after : D) (first count : ℕ) (bytes : List ℕ) (outcome : Outcome) (sound : IsSound lay disk old) (not_lost : old.lost ≡ None) (standing : Standing lay old)
    (r : CallBack lay disk old c n after first bytes count outcome) (ends : EndsBad lay disk old c n after first bytes count outcome r) (stands : Stands (desk_at old.clients c).run) (h : CameHome mid c n r.buf r.at after bytes Bad fin) where
  abbrev y : Shape
  y = lay.shape old.layout

  abbrev e : Desk
  e = desk_at old.clients c

  abbrev log : Logged
  log = noted fin.log (event.Bad (id_of old.clients c) n)

  abbrev new : Array L D
  new = record fin { log = log }

  -- the phase as the node ends, before its column fails
  abbrev ph : Phase
  ph = settled_in (slice_set e.run.marks n status.Bad) e.run.phase

  node : n < length e.run.graph.nodes
  node = ending.node lay disk old c n after first count bytes outcome sound r

  below : c < length old.clients
  below = ending.below lay disk old c n after first count bytes outcome sound r

  runs-well : RunsWell y old.graphs.items old.pool e
  runs-well = ending.well lay disk old c n after first count bytes outcome sound r

  may-end : MayEndBad (kind_at e.run.graph n) e.run.phase
  may-end = may lay disk old c n after first count bytes outcome sound r

  -- in phase Before it is a read
  reads-before : e.run.phase ≡ Before → kind_at e.run.graph n ≡ Rd r.unit r.buf
  reads-before before = elim (cases_Bool r.writes) [
    | inl w ↦ absurd (subst (λ (q : Node). MayEndBad q Before) (ending.is-write lay disk old c n after first count bytes outcome sound r w) (subst (MayEndBad (kind_at e.run.graph n)) before may-end))
    | inr w ↦ ending.is-read lay disk old c n after first count bytes outcome sound r w
  ]

  -- whose unit is lost with the column
  own : e.run.phase ≡ Before → LosesOwn e.run.graph n (dying y old.cols.states r.at.column e)
  own before = let is = reads-before before in
      loses-own y old.cols.states e n r.unit r.buf r.at is (read_buf y old.graphs.items old.pool e runs-well n r.unit r.buf node is).stripe (read_unit y old.graphs.items old.pool e runs-well n r.unit r.buf node is)
      (standing.reads c n r.unit r.buf r.at r.out before is r.spot)

  -- so where the column is dead the phase is another
  late : slice_get old.cols.states r.at.column ≡ Some Dead → e.run.phase ≢ Before
  late dead before = let is = reads-before before in
      not-dead (seat-device y old.cols.states _ r.unit r.at (spot-parts y old.cols.states _ r.unit r.at (standing.reads c n r.unit r.buf r.at r.out before is r.spot)).1)
    where
      not-dead : HasDevice old.cols.states r.at.column r.at.device → ⊥
      not-dead (inl on) = let z : Some Dead ≡ Some (Live r.at.device) = sym dead ∙ on in let u : ⊥ = cc in u
      not-dead (inr on) = let z : Some Dead ≡ Some (Filling r.at.device on.0) = sym dead ∙ on.1 in let u : ⊥ = cc in u

  abbrev ghost_core : Array L D
  ghost_core = ending.alone_core lay disk old c n after first count bytes outcome sound r old.log ph

  -- ## The column was dead

  dead-clients : mid ≡ old → slice_get old.cols.states r.at.column ≡ Some Dead → fin.clients ≡ slice_set old.clients c (with_bad e n)
  dead-clients same dead =
      h.clients ∙ (ap (λ (m : Array L D). slice_set m.clients c (with_ended (desk_at m.clients c) n Bad)) same
      ∙ ap (slice_set old.clients c) (alone y old.cols.states r.at.column e n stands node r.out.mark may-end (late dead)))

  dead-shows : mid ≡ old → slice_get old.cols.states r.at.column ≡ Some Dead → (x : World) → Shows disk (ending.alone_core lay disk old c n after first count bytes outcome sound r log ph) x → Shows disk new x
  dead-shows same dead x s = shows-same disk (ending.alone_core lay disk old c n after first count bytes outcome sound r log ph) new x
      (h.devices ∙ ap (λ (m : Array L D). come_home m.devices r.at.device after) same)
      (h.cols ∙ ap (λ (m : Array L D). m.cols) same)
      (dead-clients same dead)
      (h.pool ∙ ap (λ (m : Array L D). pool.put m.pool (get_or (desk_at m.clients c).lease r.buf 0) bytes) same)
      (h.lists ∙ ap (λ (m : Array L D). m.lists + 1) same)
      refl
      (h.lost ∙ ap (λ (m : Array L D). m.lost) same)
      s

  -- ## The column fails

  module _ (f : FailedBy lay old r.at.column mid) where
    goes : GoesOn e (desk_at mid.clients c)
    goes = subst (GoesOn e) (sym (f.desks.each c)) (suffered-goes y old.cols.states r.at.column e)

    below-mid : c < length mid.clients
    below-mid = let count = f.desks.count in let lt = below in omega (arith, count, lt)

    each-suffered : (j : ℕ) → desk_at fin.clients j ≡ suffered y old.cols.states r.at.column (desk_at ghost_core.clients j)
    each-suffered j = ap (λ (l : List Desk). desk_at l j) h.clients ∙ elim (cases_eq j c) [
      | inl is ↦ subst (λ (i : ℕ). desk_at (slice_set mid.clients c (with_ended (desk_at mid.clients c) n Bad)) i ≡ suffered y old.cols.states r.at.column (desk_at (slice_set old.clients c (with_bad e n)) i)) (sym is)
          (desk-set mid.clients c _ below-mid ∙ (ap (λ (a : Desk). with_ended a n Bad) (f.desks.each c)
          ∙ (either-first y old.cols.states r.at.column e n stands node r.out.mark may-end r.out.runs own
          ∙ sym (ap (suffered y old.cols.states r.at.column) (desk-set old.clients c (with_bad e n) below)))))
      | inr ne ↦ desk-else mid.clients c j _ ne ∙ (f.desks.each j ∙ sym (ap (suffered y old.cols.states r.at.column) (desk-else old.clients c j (with_bad e n) ne)))
    ]

    have-suffered : HaveSuffered y old.cols.states r.at.column ghost_core.clients fin.clients
    have-suffered = record {
      count = ap length h.clients ∙ (length-set mid.clients c _ ∙ (f.desks.count ∙ sym (length-set old.clients c _)));
      each = each-suffered;
    }

    log-is : fin.log ≡ old.log
    log-is = h.log ∙ ap (λ (m : Array L D). m.log) f.is

    alive-shows : (x : World) → Shows disk (record (after_failure ghost_core r.at.column fin.clients mid.lost) { log = log }) x → Shows disk new x
    alive-shows x s = shows-same disk (record (after_failure ghost_core r.at.column fin.clients mid.lost) { log = log }) new x
        (h.devices ∙ ap (λ (m : Array L D). come_home m.devices r.at.device after) f.is)
        (h.cols ∙ ap (λ (m : Array L D). m.cols) f.is)
        refl
        (h.pool ∙ (ap (λ (l : List ℕ). pool.put mid.pool (get_or l r.buf 0) bytes) goes.lease ∙ ap (λ (m : Array L D). pool.put m.pool (get_or e.lease r.buf 0) bytes) f.is))
        (h.lists ∙ ap (λ (m : Array L D). m.lists + 1) f.is)
        refl
        h.lost
        s

  -- ## Both

  step-bad : (w : World) → Shows disk old w → (x : World) → Bads y c n w x → Step y (graphs_of old.graphs.items) (event.Bad (id_of old.clients c) n) w x
  step-bad w s x bads = subst (λ (l : Option Loss). StepBy y (graphs_of old.graphs.items) l (event.Bad (id_of old.clients c) n) w x) (sym (s.lost ∙ not_lost)) (ap length (replies-shown disk old w s not_lost c), bads)

  pub bad-follows : FailedIfAlive lay old r.at.column mid → Follows lay disk old (event.Bad (id_of old.clients c) n) new
  bad-follows (inl m) w s =
      let fin_log : fin.log ≡ old.log = h.log ∙ ap (λ (q : Array L D). q.log) m.1 in
      let rebuilt = ap (λ (l : Logged). l.rebuilt) fin_log in
      let history = ap (λ (l : Logged). l.history) fin_log in
      let handed = ap (λ (l : Logged). l.handed) fin_log in
      let x = ending.mid lay disk old c n after first count bytes outcome sound r w s log rebuilt history handed ph in (
        x,
        dead-shows m.1 m.0 x (ending.shows-mid lay disk old c n after first count bytes outcome sound r w s log rebuilt history handed ph),
        step-bad w s x (record {
          at = r.at;
          mid = x;
          node = ending.fails-node lay disk old c n after first count bytes outcome sound r w s log rebuilt history handed ph refl ends;
          column = inl (ap (λ (cols : List ColumnState). slice_get cols r.at.column) s.columns ∙ m.0, refl);
        }),
      )
  bad-follows (inr m) w s =
      let v = ending.mid lay disk old c n after first count bytes outcome sound r w s old.log refl refl refl ph in
      let t = ending.shows-mid lay disk old c n after first count bytes outcome sound r w s old.log refl refl refl ph in
      let known = failing.among lay disk old r.at.column sound in
      let hs = have-suffered m.1 in
      let rebuilt = ap (λ (l : Logged). l.rebuilt) (log-is m.1) in
      let history = ap (λ (l : Logged). l.history) (log-is m.1) in
      let handed = ap (λ (l : Logged). l.handed) (log-is m.1) in
      let x = failing.x lay disk ghost_core r.at.column fin.clients mid.lost log known hs v t not_lost m.1.lost rebuilt history handed in (
        x,
        alive-shows m.1 x (failing.shows-failed lay disk ghost_core r.at.column fin.clients mid.lost log known hs v t not_lost m.1.lost rebuilt history handed),
        step-bad w s x (record {
          at = r.at;
          mid = v;
          node = ending.fails-node lay disk old c n after first count bytes outcome sound r w s old.log refl refl refl ph refl ends;
          column = inr (λ dead. m.0 (ap (λ (cols : List ColumnState). slice_get cols r.at.column) (sym s.columns) ∙ dead), failing.column-fails lay disk ghost_core r.at.column fin.clients mid.lost log known hs v t not_lost m.1.lost rebuilt history handed);
        }),
      )
