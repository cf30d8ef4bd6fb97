-- A core is steady after an operation is taken, refused, planned anew or given up.
use Rattle.std.proofs.Common.{◌≡◌, ℕ, ◌<◌, ◌≤◌, ◌+◌, ◌*◌, List, length, get_or, subst, sym, ap, ◌∙◌, arith, inl, inr, refl, Bool, true, false, if◌then◌else◌, Option, Some, None}
use Rattle.std.specs.Prelude.{slice_set, nat_lt}
use Rattle.std.proofs.lemmas.Bool.{cases_Bool, cases_lt, le-ltb, ltb-true}
use Rattle.std.proofs.lemmas.List.Folds.{Any-from_list_any}
use Rattle.blk_plain.specs.declared.op.Op.{Op}
use Rattle.blk_plain.specs.declared.op.Op.TheVariants.{Write, Writes, Read, Rebuild, Sync}
use Rattle.blk_plain.specs.declared.op.Span.{Span}
use Rattle.blk_plain.specs.Plain.{is_in, is_in_some, spans_of}
use Rattle.blk_disk.specs.declared.disk.Disk.{Ghosts as DiskGhosts}
use Rattle.lay_core.specs.Layout.{Shape, IsLayout, data_units, blocks_in}
use Rattle.lay_core.specs.Touched.{Touched, PassesEnd, PassesEndSome, stripe_count, stripes_among}
use Rattle.lay_core.specs.declared.layout.Layout.{Ghosts as LayoutGhosts}
use Rattle.graph_mean.specs.Graph.{Held, View}
use Rattle.graph_mean.specs.Task.{Aim, Missing, IsTask, task_of, missing_of, is_read, is_write}
use Rattle.graph_lib.specs.Laws.{AreMissing}
use Rattle.graph_lib.specs.Library.{library}
use Rattle.graph_lib.proofs.Promises.{few-nodes, few-made}
use Rattle.graph_lib.proofs.SpanRanges.{spans-few}
use Rattle.eng_cols.specs.Cols.{ColumnState}
use Rattle.eng_cols.specs.Lost.{NotLost}
use Rattle.eng_world.specs.Planning.{kind_of}
use Rattle.eng_world.specs.declared.item.Item.TheVariants as item
use Rattle.eng_world.specs.declared.item.Reply.{Reply}
use Rattle.eng_world.specs.declared.item.Reply.TheVariants as reply
use Rattle.eng_world.specs.declared.item.Traced.{Traced}
use Rattle.eng_world.specs.declared.item.Traced.TheVariants as event
use Rattle.eng_clients.specs.declared.stage.Stage.TheVariants.{Nothing, Waits, Runs}
use Rattle.eng_state.specs.declared.array.Array.{Array}
use Rattle.eng_clients.specs.Desk.{Desk, desk_at, item_at, graph_of, with_reply, with_started, with_lease}
use Rattle.eng_log.specs.Log.{noted}
use Rattle.eng_state.specs.Moves.{id_of}
use Rattle.eng_plan.specs.Asked.{IsInside, IsOpSplit, whole, spans_by, stripes_by, lease_for}
use Rattle.eng_clients.specs.Planned.{IsPlanned, IsDrawn, CanRun, Replanned}
use Rattle.eng_state.specs.Room.{HasRoom}
use Rattle.eng_state.specs.Serves.{Serves, Stands, CanTake, CanBack}
use Rattle.eng_array.specs.Serving.{WasPlanned, IsServing, some_passes, most_for_span, most_for_unit, most_drawn, most_for}
use Rattle.eng_state.specs.Sound.{IsSound}
use Rattle.eng_array.specs.Steady.{IsSteady}
use Rattle.eng_state.specs.Steps.{Follows}
use Rattle.eng_state.specs.Taken.{Taken, IsTaken, Replaced, GivenUp, BackAs, IsBack}
use Rattle.eng_plan.proofs.Lacking.{missing-each}
use Rattle.eng_plan.proofs.Maps.{not-past, op-count, op-spans}
use Rattle.eng_plan.proofs.SpanStripes.{short-few, span-many, whole-many}
use Rattle.eng_state.proofs.GoingOn.{same-seats}
use Rattle.eng_array.proofs.OneServing.{each-set, idle-serving, planned-serving, items-set}
use Rattle.eng_state.proofs.Plans.{task-sound}
use Rattle.eng_array.proofs.Reached.{run-stands}
use Rattle.eng_state.proofs.Served as served
use Rattle.eng_state.proofs.Settling.{lent-file}
use Rattle.eng_array.proofs.Steady.{Keeps, notes-of, item-among, steady-on, waits-room, undone-room}

-- a graph of the library has no more nodes than one for its operation may have
module _ (y : Shape) (law : IsLayout y) (cols : List ColumnState) (m : Touched) (missing : Missing) where
  abbrev nodes : Op → ℕ
  nodes op = length (library (task_of y (kind_of y cols op) m) missing true).nodes

  inside-end : (span : Span) → (PassesEnd y span → ⊥) → nat_lt (blocks_in y) (span.first + span.count) ≡ false
  inside-end span within = elim (cases_lt (blocks_in y) (span.first + span.count)) [
    | inl past ↦ absurd (within past)
    | inr le ↦ le-ltb (blocks_in y) (span.first + span.count) le
  ]

  inside-all : (spans : List Span) → (PassesEndSome y spans → ⊥) → some_passes y spans ≡ false
  inside-all spans within = elim (cases_Bool (some_passes y spans)) [
    | inl past ↦
        let a = Any-from_list_any (λ (s : Span). nat_lt (blocks_in y) (s.first + s.count)) spans past in
        absurd (within (a.0, a.1, a.2, a.3, ltb-true (blocks_in y) (a.1.first + a.1.count) a.4))
    | inr none ↦ none
  ]

  -- by its stripes and spans
  spans-most : (op : Op) → IsTask (task_of y (kind_of y cols op) m) → AreMissing (task_of y (kind_of y cols op) m) missing → IsOpSplit y op m → nodes op ≤ (2 * data_units y + 1) * (stripes_by y op + 2 * length (spans_by y op)) + 2
  spans-most op task gone split =
      let ranges = spans-few y (kind_of y cols op) (spans_by y op) m law (op-spans y law op m split.split) in
      let few : nodes op ≤ (2 * data_units y + 1) * (length m.stripes + 2 * length (spans_by y op)) + 2 = few-nodes (task_of y (kind_of y cols op) m) missing true task gone (2 * length (spans_by y op)) (omega (arith, ranges)) in
      subst (λ (n : ℕ). nodes op ≤ (2 * data_units y + 1) * (n + 2 * length (spans_by y op)) + 2) (op-count y law op m split) few

  span-most : (op : Op) (span : Span) → 1 ≤ span.count → (PassesEnd y span → ⊥) → (16 < stripe_count y span → ⊥) → nodes op ≤ (2 * data_units y + 1) * (stripes_among y (is_in span) + 2) + 2 → nodes op ≤ most_for_span y span
  span-most op span some within short few =
      subst (λ (b : Bool). nodes op ≤ (if b then 0 else (2 * data_units y + 1) * (stripe_count y span + 2) + 2)) (sym (inside-end span within))
      (subst (λ (n : ℕ). nodes op ≤ (2 * data_units y + 1) * (n + 2) + 2) (sym (span-many y law span some within (short-few (stripe_count y span) short))) few)

  unit-most : (op : Op) (stripe : ℕ) → IsTask (task_of y (kind_of y cols op) m) → AreMissing (task_of y (kind_of y cols op) m) missing → is_read (kind_of y cols op) ≡ false → is_write (kind_of y cols op) ≡ false → length m.stripes ≡ stripes_among y (is_in (whole y stripe)) → (y.stripes ≤ stripe → ⊥) → nodes op ≤ most_for_unit y
  unit-most op stripe task gone no_read no_write count within =
      let few : nodes op ≤ (y.width + 1) * length m.stripes + 2 = few-made (task_of y (kind_of y cols op) m) missing true task gone no_read no_write in
      let one : length m.stripes ≡ 1 = count ∙ sym (whole-many y law stripe (not-past stripe y.stripes within)) in
      let least : nodes op ≤ (y.width + 1) * 1 + 2 = subst (λ (n : ℕ). nodes op ≤ (y.width + 1) * n + 2) one few in
      omega (arith, least)

  drawn-most : (op : Op) → IsInside y op → IsOpSplit y op m → AreMissing (task_of y (kind_of y cols op) m) missing → nodes op ≤ most_drawn y op
  drawn-most (Write span pattern) inside split gone = span-most (Write span pattern) span inside.asked inside.inside inside.short (spans-most (Write span pattern) (task-sound y law m cols (Write span pattern) inside split) gone split)
  drawn-most (Writes patches) inside split gone =
      subst (λ (b : Bool). nodes (Writes patches) ≤ (if b then 0 else (2 * data_units y + 1) * (stripes_among y (is_in_some (spans_of patches)) + 2 * length (spans_of patches)) + 2)) (sym (inside-all (spans_of patches) inside.inside))
      (spans-most (Writes patches) (task-sound y law m cols (Writes patches) inside split) gone split)
  drawn-most (Read span) inside split gone = span-most (Read span) span inside.asked inside.inside inside.short (spans-most (Read span) (task-sound y law m cols (Read span) inside split) gone split)
  drawn-most (Rebuild stripe) inside split gone = unit-most (Rebuild stripe) stripe (task-sound y law m cols (Rebuild stripe) inside split) gone refl refl (op-count y law (Rebuild stripe) m split) inside.inside
  drawn-most (Sync stripe) inside split gone = unit-most (Sync stripe) stripe (task-sound y law m cols (Sync stripe) inside split) gone refl refl (op-count y law (Sync stripe) m split) inside.inside

-- a planned graph has no more nodes than one for its operation may have
module _ (y : Shape) (law : IsLayout y) (graphs : List Held) (cols : List ColumnState) (kept : NotLost y cols) (op : Op) (file : Option ℕ) (d : Desk) (inside : IsInside y op) (p : IsPlanned y graphs cols op file d) where
  abbrev aim : Aim
  aim = task_of y (kind_of y cols op) d.map

  gone : AreMissing aim (missing_of d.missing)
  gone s m is = missing-each y cols op d.map.stripes kept p.split.split.stripes_within s m (subst (λ (l : List (Option ℕ)). get_or l s None ≡ Some m) p.missing is)

  most-by : (o : Option ℕ) → d.file ≡ o → IsDrawn graphs o d → length (graph_of graphs d).nodes ≤ most_for y graphs op o
  most-by None is drawn =
      let same : graph_of graphs d ≡ library aim (missing_of d.missing) true = drawn ∙ ap (λ (t : Aim). library t (missing_of d.missing) true) p.task in
      subst (λ (g : View). length g.nodes ≤ most_drawn y op) (sym same) (drawn-most y law cols d.map (missing_of d.missing) op inside p.split gone)
  most-by (Some n) is drawn = let e = ap (λ (v : View). length v.nodes) (lent-file graphs d n is drawn) in omega (arith, e)

  planned-most : length (graph_of graphs d).nodes ≤ most_for y graphs op file
  planned-most = most-by file p.file_is p.drawn

module _ {L D : Type 0} (lay : LayoutGhosts L) (disk : DiskGhosts D) (old new : Array L D) (c : ℕ) (steady : IsSteady lay disk old) (none : old.lost ≡ None) where
  abbrev y : Shape
  y = lay.shape old.layout

  abbrev gs : List Held
  gs = old.graphs.items

  abbrev d : Desk
  d = desk_at old.clients c

  pub stands : Stands lay old
  stands = run-stands lay disk old steady.sound steady.reached steady.serving none

  kept : NotLost y old.cols.states
  kept = stands.kept none

  module _ (op : Op) (file : Option ℕ) (serves : Serves gs y d op file) where
    below : c < length old.clients
    below = let h = item-among lay disk old steady.sound c (item.Run op file) serves.item in let all = steady.sound.well.all in omega (arith, h, all)

    -- client c is served so, and the others as they were
    one-keeps : (e : Traced) (b : Desk) → b.items ≡ d.items → IsServing y gs b → new.clients ≡ slice_set old.clients c b → new.layout ≡ old.layout → new.graphs ≡ old.graphs → new.log ≡ noted old.log e → length new.pool.seats ≡ length old.pool.seats → Keeps lay disk old e new
    one-keeps e b items serving clients layout graphs log there = record {
      layout = layout;
      graphs = graphs;
      log = notes-of old.log e new.log log;
      there = there;
      items = λ k. subst (λ (l : List Desk). (desk_at l k).items ≡ (desk_at old.clients k).items) (sym clients) (items-set old.clients c b below items k);
      serving = λ k. subst (λ (l : List Desk). IsServing y gs (desk_at l k)) (sym clients) (each-set (IsServing y gs) old.clients c b below serving steady.serving k);
    }

    nothing-not : Nothing ≡ Runs → ⊥
    nothing-not e = let u : ⊥ = cc in u

    module _ (plan : Desk) (r : Replanned y gs old.cols.states op file d plan) where
      items-same : plan.items ≡ d.items
      items-same = ap (λ (a : Desk). a.items) r.rest

      -- it runs as it was planned, on these buffers
      started : CanRun gs plan → (l : List ℕ) → length l ≡ lease_for y gs op file → IsServing y gs (with_started gs (with_lease plan l))
      started runs l long = planned-serving y gs d (with_started gs (with_lease plan l)) items-same was (steady.serving c)
        where
          was : (o : Op) (f : Option ℕ) → item_at (with_started gs (with_lease plan l)) ≡ Some (item.Run o f) → WasPlanned y gs (with_started gs (with_lease plan l)) o f
          was o f at =
              let same = served.item-same y steady.sound.layout gs old.cols.states op file d plan serves r runs l long in
              subst (λ (v : Option ℕ). WasPlanned y gs (with_started gs (with_lease plan l)) o v) (served.same-file op o file f (item_at (with_started gs (with_lease plan l))) same at)
              (subst (λ (v : Op). WasPlanned y gs (with_started gs (with_lease plan l)) v file) (served.same-op op o file f (item_at (with_started gs (with_lease plan l))) same at)
              (record {
                split = r.planned.split;
                lease = long;
                nodes = planned-most y steady.sound.layout gs old.cols.states kept op file plan serves.inside r.planned;
              }))

      refused : (q : Reply) → IsServing y gs (with_reply plan q)
      refused q = idle-serving y gs d (with_reply plan q) items-same nothing-not (steady.serving c)

    taken-keeps : (e : Traced) → Taken lay old c op file e new → Keeps lay disk old e new
    taken-keeps e t = one-keeps e (with_started gs (with_lease t.plan t.lease)) (items-same t.plan t.replanned) (started t.plan t.replanned t.runs t.lease t.leases.count) t.clients t.rest.layout t.rest.graphs t.log (t.filled.alone.seats ∙ t.leases.seats)

    refused-keeps : (e : Traced) (q : Reply) (plan : Desk) → Replanned y gs old.cols.states op file d plan → new.clients ≡ slice_set old.clients c (with_reply plan q) → new.layout ≡ old.layout → new.graphs ≡ old.graphs → new.log ≡ noted old.log e → length new.pool.seats ≡ length old.pool.seats → Keeps lay disk old e new
    refused-keeps e q plan r clients layout graphs log there = one-keeps e (with_reply plan q) (items-same plan r) (refused plan r q) clients layout graphs log there

    given-keeps : (e : Traced) (q : Reply) → GivenUp lay old c q e new → Keeps lay disk old e new
    given-keeps e q g = one-keeps e (with_reply d q) refl (idle-serving y gs d (with_reply d q) refl nothing-not (steady.serving c)) g.clients g.rest.layout g.rest.graphs g.log g.pool.seats

  -- ## An operation is taken, or its graph refused

  module _ (can : CanTake lay old c) where
    pub take-room : HasRoom old.log
    take-room = let s = (stands.serves c).busy (λ z. let e : Waits ≡ Nothing = sym can.waits ∙ z in let u : ⊥ = cc in u) in waits-room lay disk old steady none c (item.Run s.0 s.1) s.2.item can.waits

    pub take-keeps : IsTaken lay old c (event.Take (id_of old.clients c)) new → Keeps lay disk old (event.Take (id_of old.clients c)) new
    take-keeps t = elim t.became [
      | inl f ↦ taken-keeps t.op t.file t.serves (event.Take (id_of old.clients c)) f
      | inr f ↦ refused-keeps t.op t.file t.serves (event.Take (id_of old.clients c)) (reply.Refused f.0) f.1.plan f.1.replanned f.1.clients f.1.rest.layout f.1.rest.graphs f.1.log (same-seats f.1.pool)
    ]

    pub take-steady : IsTaken lay old c (event.Take (id_of old.clients c)) new → IsSound lay disk new → Follows lay disk old (event.Take (id_of old.clients c)) new → IsSteady lay disk new
    take-steady t sound follows = steady-on lay disk old new (event.Take (id_of old.clients c)) (inl tt) steady sound follows (take-keeps t)

  -- ## One that was undone goes back

  module _ (can : CanBack lay old c) where
    pub back-room : HasRoom old.log
    back-room = undone-room lay disk old steady none c can.runs can.undone

    replaced-keeps : (e : Traced) (op : Op) → Serves gs y d op None → Replaced lay old c op e new → Keeps lay disk old e new
    replaced-keeps e op serves f =
        let leased : f.plan.lease ≡ d.lease = ap (λ (a : Desk). a.lease) f.replanned.rest in
        let long : length f.plan.lease ≡ lease_for y gs op None = ap (λ (l : List ℕ). length l) leased ∙ ((stands.serves c).runs can.runs op None serves).lease in
        one-keeps op None serves e (with_started gs f.plan) (items-same op None serves f.plan f.replanned) (started op None serves f.plan f.replanned f.runs f.plan.lease long) f.clients f.rest.layout f.rest.graphs f.log f.filled.alone.seats

    pub back-keeps : (e : Traced) (op : Op) (file : Option ℕ) → Serves gs y d op file → BackAs lay old c op file e new → Keeps lay disk old e new
    back-keeps e op None serves f = replaced-keeps e op serves f
    back-keeps e op (Some n) serves f = given-keeps op (Some n) serves e (reply.Undone f.0) f.2

    pub back-steady : IsBack lay old c (event.Back (id_of old.clients c)) new → IsSound lay disk new → Follows lay disk old (event.Back (id_of old.clients c)) new → IsSteady lay disk new
    back-steady b sound follows = steady-on lay disk old new (event.Back (id_of old.clients c)) (inl tt) steady sound follows (back-keeps (event.Back (id_of old.clients c)) b.op b.file b.serves b.became)
