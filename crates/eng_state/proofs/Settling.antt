-- A planned operation that takes its stripes and buffers, and begins.
use Rattle.std.proofs.Common.{◌≡◌, ℕ, ◌<◌, ◌≤◌, ◌+◌, ◌*◌, List, length, get_or, subst, sym, ap, ◌∙◌, arith, inl, inr, Option, Some, None}
use Rattle.std.specs.Prelude.{min, slice_set}
use Rattle.std.proofs.lemmas.Bool.{cases_lt}
use Rattle.std.proofs.lemmas.List.{get_or_default, set-set}
use Rattle.std.proofs.Math.Nat.{mul-le-mul_left}
use Rattle.eng_one.specs.Counts.{CanStart}
use Rattle.eng_one.proofs.Starting.{can-start}
use Rattle.blk_plain.specs.declared.op.Op.{Op}
use Rattle.stripe_lock.specs.Table as table
use Rattle.lay_core.specs.Layout.{Shape, IsLayout, data_units}
use Rattle.graph_mean.specs.declared.refusal.Refusal.TheVariants.{Large}
use Rattle.graph_mean.specs.Graph.{Held, View, buf_at}
use Rattle.graph_mean.specs.Task.{Aim, task_of, missing_of}
use Rattle.graph_mean.specs.Ordered.{IsOrdered}
use Rattle.graph_lib.specs.Laws.{HasFewBufs, SpansFew}
use Rattle.eng_cols.specs.Cols.{ColumnState}
use Rattle.eng_world.specs.Planning.{kind_of, span_count}
use Rattle.eng_state.specs.declared.array.Array.{Array}
use Rattle.eng_clients.specs.Desk.{Desk, desk_at, graph_of, with_started, with_lease}
use Rattle.eng_plan.specs.Asked.{no_graph, IsInside, spans_by, stripes_by, lease_for}
use Rattle.eng_clients.specs.Planned.{IsPlanned, IsDrawn, CanRun}
use Rattle.eng_plan.proofs.Maps.{op-spans, op-count, spans-few}
use Rattle.eng_state.proofs.Shown.{desk-set}

-- the graph of a desk by its number
pub lent-file : (graphs : List Held) (d : Desk) (n : ℕ) → d.file ≡ Some n → n < length graphs → graph_of graphs d ≡ (get_or graphs n no_graph).drawn
lent-file graphs d n is below = let h : graph_of graphs d ≡ (get_or graphs n d.graph).drawn = rw is in h ∙ ap (λ (x : Held). x.drawn) (get_or_default graphs n d.graph no_graph below)

module _ (y : Shape) (law : IsLayout y) (graphs : List Held) (cols : List ColumnState) (op : Op) (file : Option ℕ) (d : Desk) (inside : IsInside y op) (p : IsPlanned y graphs cols op file d) (r : CanRun graphs d) where
  abbrev g : View
  g = graph_of graphs d

  pub planned-few : length d.map.stripes ≤ 16
  planned-few = p.split.stripes_few

  pub planned-nodes : length g.nodes ≤ 2048
  planned-nodes = elim (cases_lt 2048 (length g.nodes)) [ inl more ↦ absurd (r.free Large (inl more)) | inr few ↦ few ]

  pub planned-can : CanStart g
  planned-can = can-start g d.task (missing_of d.missing) r.free

  pub planned-few_bufs : length g.bufs ≤ 2048
  planned-few_bufs = elim (cases_lt 2048 (length g.bufs)) [ inl more ↦ absurd (r.free Large (inr (inl more))) | inr few ↦ few ]

  by-file : SpansFew → (o : Option ℕ) → d.file ≡ o → IsDrawn graphs o d → length g.bufs ≤ lease_for y graphs op o
  by-file span None is drawn =
      let few : HasFewBufs g (task_of y (kind_of y cols op) d.map) = subst (λ (t : Aim). HasFewBufs g t) p.task (r.bufs is) in
      let ranges = span y (kind_of y cols op) (spans_by y op) d.map law (op-spans y law op d.map p.split.split) in
      let many = spans-few y law op in
      let most = few (2 * span_count op) (omega (arith, ranges, many)) in
      let all = planned-few_bufs in
      le-min 2048 ((2 * data_units y + 2) * (stripes_by y op + 2 * span_count op)) (length g.bufs) all (subst (λ (n : ℕ). length g.bufs ≤ (2 * data_units y + 2) * (n + 2 * span_count op)) (op-count y law op d.map p.split) most)
    where
      le-min : (a b n : ℕ) → n ≤ a → n ≤ b → n ≤ min a b
      le-min a b n x z = omega (arith, x, z)
  by-file span (Some n) is drawn = let e = ap (λ (v : View). length v.bufs) (lent-file graphs d n is drawn) in omega (arith, e)

  pub planned-bufs : SpansFew → length g.bufs ≤ lease_for y graphs op file
  planned-bufs span = by-file span file p.file_is p.drawn

  ordered : IsOrdered g d.task (missing_of d.missing) r.accepted.0 r.accepted.1
  ordered = r.accepted.2

  pub planned-long : (b : ℕ) → b < length g.bufs → 512 * (buf_at g b).count ≤ 512 * y.unit_sectors
  planned-long b below =
      let w = (ordered.bufs b below).named.within in
      let u = ap (λ (t : Aim). t.unit_sectors) p.task in
      mul-le-mul_left 512 (omega (arith, w, u))

module _ {L D : Type 0} (old s1 s2 : Array L D) (c : ℕ) (below : c < length old.clients)
    (lock : s1 ≡ record old { locks = s1.locks })
    (lend : s2 ≡ record s1 { pool = s2.pool; clients = slice_set s1.clients c (with_lease (desk_at s1.clients c) (desk_at s2.clients c).lease) }) where
  abbrev d : Desk
  d = desk_at old.clients c

  abbrev pub lease : List ℕ
  lease = (desk_at s2.clients c).lease

  abbrev pub now : Desk
  now = with_started old.graphs.items (with_lease d lease)

  clients-1 : s1.clients ≡ old.clients
  clients-1 = ap (λ (s : Array L D). s.clients) lock

  pub pool-1 : s1.pool ≡ old.pool
  pool-1 = ap (λ (s : Array L D). s.pool) lock

  clients-2 : s2.clients ≡ slice_set old.clients c (with_lease d lease)
  clients-2 = ap (λ (s : Array L D). s.clients) lend ∙ ap (λ (l : List Desk). slice_set l c (with_lease (desk_at l c) lease)) clients-1

  pub desk-2 : desk_at s2.clients c ≡ with_lease d lease
  desk-2 = ap (λ (l : List Desk). desk_at l c) clients-2 ∙ desk-set old.clients c (with_lease d lease) below

  pub graphs-2 : s2.graphs.items ≡ old.graphs.items
  graphs-2 = ap (λ (s : Array L D). s.graphs.items) lend ∙ ap (λ (s : Array L D). s.graphs.items) lock

  module _ (s3 : Array L D) (start : s3 ≡ record s2 { clients = slice_set s2.clients c (with_started s2.graphs.items (desk_at s2.clients c)) }) where
    clients-3 : s3.clients ≡ slice_set old.clients c now
    clients-3 =
        ap (λ (s : Array L D). s.clients) start
        ∙ (ap (λ (l : List Desk). slice_set l c (with_started s2.graphs.items (desk_at s2.clients c))) clients-2
        ∙ (set-set old.clients c (with_lease d lease) (with_started s2.graphs.items (desk_at s2.clients c))
        ∙ (ap (λ (e : Desk). slice_set old.clients c (with_started s2.graphs.items e)) desk-2
        ∙ ap (λ (gs : List Held). slice_set old.clients c (with_started gs (with_lease d lease))) graphs-2)))

    pub desk-3 : desk_at s3.clients c ≡ now
    desk-3 = ap (λ (l : List Desk). desk_at l c) clients-3 ∙ desk-set old.clients c now below

    pub graphs-3 : s3.graphs.items ≡ old.graphs.items
    graphs-3 = ap (λ (s : Array L D). s.graphs.items) start ∙ graphs-2

    pub pool-3 : s3.pool ≡ s2.pool
    pool-3 = ap (λ (s : Array L D). s.pool) start

    now-3 : s3 ≡ record old { locks = s1.locks; pool = s2.pool; clients = slice_set old.clients c now }
    now-3 =
        start
        ∙ (ap (λ (s : Array L D). record s { clients = slice_set s2.clients c (with_started s2.graphs.items (desk_at s2.clients c)) }) lend
        ∙ (ap (λ (s : Array L D). record s { pool = s2.pool; clients = slice_set s2.clients c (with_started s2.graphs.items (desk_at s2.clients c)) }) lock
        ∙ ap (λ (l : List Desk). record old { locks = s1.locks; pool = s2.pool; clients = l }) (sym (ap (λ (s : Array L D). s.clients) start) ∙ clients-3)))

    module _ (s4 : Array L D) (fill : s4 ≡ record s3 { pool = s4.pool }) where
      pub locks-4 : s4.locks ≡ s1.locks
      locks-4 = ap (λ (s : Array L D). s.locks) fill ∙ ap (λ (s : Array L D). s.locks) now-3

      pub now-4 : s4 ≡ record old { locks = s4.locks; pool = s4.pool; clients = slice_set old.clients c now }
      now-4 =
          fill
          ∙ (ap (λ (s : Array L D). record s { pool = s4.pool }) now-3
          ∙ ap (λ (t : table.Table). record old { locks = t; pool = s4.pool; clients = slice_set old.clients c now }) (sym locks-4))
