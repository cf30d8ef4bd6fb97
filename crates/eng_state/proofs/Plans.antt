-- A planned desk has the plan of its operation.
use Rattle.std.proofs.Common.{◌≡◌, ℕ, ◌<◌, ◌+◌, ◌*◌, ◌&&◌, List, length, get_or, map, subst, sym, ap, ◌∙◌, arith, refl, Bool, true, Option, Some, None}
use Rattle.std.specs.Prelude.{slice_index, nat_le, nat_lt}
use Rattle.std.proofs.lemmas.Bool.{le-leb, lt-ltb, leb-true, ltb-true, and_parts, and_from}
use Rattle.std.proofs.lemmas.List.Kept.{AllPairs-from_increasing}
use Rattle.std.proofs.lemmas.List.{get_or_default}
use Rattle.std.proofs.lemmas.List.Elements.{All-get_or, Contains-get_or}
use Rattle.blk_plain.specs.declared.op.Op.{Op}
use Rattle.blk_plain.specs.declared.op.Op.TheVariants.{Write, Writes, Read, Rebuild, Sync}
use Rattle.blk_plain.specs.declared.op.Span.{Span}
use Rattle.lay_core.specs.Layout.{Shape, IsLayout, data_units, block_of}
use Rattle.blk_plain.specs.Plain.{is_in, is_in_some, spans_of}
use Rattle.lay_core.specs.Touched.{Touched, IsSplit, HasBlock, is_touched as in_parts}
use Rattle.graph_lib.specs.Library.{library}
use Rattle.graph_mean.specs.Graph.{Held, View}
use Rattle.graph_mean.specs.Task.{Aim, IsTask, HasUnitBelow, Missing, task_of, missing_of}
use Rattle.eng_cols.specs.Cols.{ColumnState}
use Rattle.eng_cols.specs.Lost.{missing_of as missing_unit}
use Rattle.eng_world.specs.World.{Plan}
use Rattle.eng_world.specs.Planning.{IsTaskOf, IsPlan, IsChosen, Concerns, touches, kind_of, missing_for, span_count, lease_of}
use Rattle.eng_clients.specs.Desk.{Desk, graph_of}
use Rattle.eng_plan.specs.Asked.{IsInside, IsOpSplit, stripes_by, whole, lease_for}
use Rattle.eng_clients.specs.Planned.{IsPlanned, IsDrawn, plan_with}
use Rattle.eng_state.specs.Steps.{graphs_of}
use Rattle.eng_plan.proofs.Maps.{inside-map, op-count, whole-only, whole-has, not-past}
use Rattle.eng_plan.proofs.Lacking.{first-below, listed-missing, past-missing}
use Rattle.eng_state.proofs.Settling.{lent-file}

-- the stripes of a map are the operation's, and so is what it touches
record Meets (y : Shape) (m : Touched) (op : Op) : Type 0 where
  pub stripes : (q : ℕ) → q < length m.stripes → Concerns y op (get_or m.stripes q 0)
  pub all : (s : ℕ) → s < y.stripes → Concerns y op s → (q : ℕ) × (q < length m.stripes) × (get_or m.stripes q 0 ≡ s)
  pub touched : (q i o : ℕ) → q < length m.stripes → i < data_units y → o < y.unit_sectors → in_parts m.parts q i o ≡ touches op (block_of y (get_or m.stripes q 0) i o)

-- the stripes with a block of a test, where the operation concerns these and touches its blocks
module _ (y : Shape) (test : ℕ → Bool) (m : Touched) (split : IsSplit y test m) where
  abbrev Blocks : ℕ → Type 0
  Blocks s = HasBlock y test s

  test-stripes : (q : ℕ) → q < length m.stripes → Blocks (get_or m.stripes q 0)
  test-stripes q below = (split.stripes_touched (get_or m.stripes q 0) (All-get_or (λ s. s < y.stripes) m.stripes q 0 below split.stripes_within)).0 (Contains-get_or m.stripes q 0 below)

  test-all : (s : ℕ) → s < y.stripes → Blocks s → (q : ℕ) × (q < length m.stripes) × (get_or m.stripes q 0 ≡ s)
  test-all s below has = let h = (split.stripes_touched s below).1 has in (h.0, h.1, get_or_default m.stripes h.0 0 s h.1 ∙ h.2)

-- the one stripe whose whole span it is
module _ (y : Shape) (law : IsLayout y) (s : ℕ) (hs : s < y.stripes) (m : Touched) (split : IsSplit y (is_in (whole y s)) m) where
  -- each stripe of the map has a block of that one
  one-stripe : (q : ℕ) → q < length m.stripes → get_or m.stripes q 0 ≡ s
  one-stripe q below =
      let b = test-stripes y (is_in (whole y s)) m split q below in
      let t = get_or m.stripes q 0 in
      let h = and_parts (nat_le (whole y s).first (block_of y t b.0 b.1)) (nat_lt (block_of y t b.0 b.1) ((whole y s).first + (whole y s).count)) b.4 in
      whole-only y law s hs t b.0 b.1 b.2 b.3 (leb-true (whole y s).first (block_of y t b.0 b.1) h.0) (ltb-true (block_of y t b.0 b.1) ((whole y s).first + (whole y s).count) h.1)

  one-all : (t : ℕ) → t ≡ s → (q : ℕ) × (q < length m.stripes) × (get_or m.stripes q 0 ≡ t)
  one-all t is =
      let some = law.checks_below in
      let unit = law.unit_least in
      let d : 0 < data_units y = omega (arith, some) in
      let h = whole-has y law s hs 0 0 d unit in
      let low = le-leb (whole y s).first (block_of y s 0 0) h.0 in
      let high = lt-ltb (block_of y s 0 0) ((whole y s).first + (whole y s).count) h.1 in
      let all = test-all y (is_in (whole y s)) m split s hs (0, 0, d, unit, and_from _ _ low high) in
      (all.0, all.1, all.2 ∙ sym is)

  one-touched : (q i o : ℕ) → q < length m.stripes → i < data_units y → o < y.unit_sectors → in_parts m.parts q i o ≡ true
  one-touched q i o below hi ho =
      let h = whole-has y law s hs i o hi ho in
      let low = le-leb (whole y s).first (block_of y s i o) h.0 in
      let high = lt-ltb (block_of y s i o) ((whole y s).first + (whole y s).count) h.1 in
      split.parts_touched q i o below hi ho
      ∙ (ap (λ (t : ℕ). is_in (whole y s) (block_of y t i o)) (one-stripe q below) ∙ and_from _ _ low high)

module _ (y : Shape) (law : IsLayout y) (m : Touched) where
  meets : (op : Op) → IsInside y op → IsOpSplit y op m → Meets y m op
  meets (Write span pattern) is split = let t = split.split in record { stripes = test-stripes y (is_in span) m t; all = test-all y (is_in span) m t; touched = t.parts_touched }
  meets (Writes patches) is split = let t = split.split in record { stripes = test-stripes y (is_in_some (spans_of patches)) m t; all = test-all y (is_in_some (spans_of patches)) m t; touched = t.parts_touched }
  meets (Read span) is split = let t = split.split in record { stripes = test-stripes y (is_in span) m t; all = test-all y (is_in span) m t; touched = t.parts_touched }
  meets (Rebuild stripe) is split = let hs = not-past stripe y.stripes is.inside in record { stripes = one-stripe y law stripe hs m split.split; all = λ t below e. one-all y law stripe hs m split.split t e; touched = one-touched y law stripe hs m split.split }
  meets (Sync stripe) is split = let hs = not-past stripe y.stripes is.inside in record { stripes = one-stripe y law stripe hs m split.split; all = λ t below e. one-all y law stripe hs m split.split t e; touched = one-touched y law stripe hs m split.split }

  unit-below : (cols : List ColumnState) (op : Op) → HasUnitBelow y.width (kind_of y cols op)
  unit-below cols (Write span pattern) = tt
  unit-below cols (Writes patches) = tt
  unit-below cols (Read span) = tt
  unit-below cols (Rebuild stripe) = first-below y cols stripe (missing_unit y cols stripe) refl (let h = law.checks_below in omega (arith, h))
  unit-below cols (Sync stripe) = tt

  pub task-sound : (cols : List ColumnState) (op : Op) → IsInside y op → IsOpSplit y op m → IsTask (task_of y (kind_of y cols op) m)
  task-sound cols op inside split =
      let is = inside-map y law op m inside split in
      record {
        stripes_most = is.stripes_most;
        width_most = let a = law.width_most in let b = law.columns_most in omega (arith, a, b);
        checks_most = law.checks_most;
        checks_below = law.checks_below;
        unit_least = law.unit_least;
        unit_most = law.unit_most;
        parts_most = is.parts_most;
        parts_within = λ k p l. let q = is.parts_within k p l in record { stripe = q.stripe; unit = q.unit; some = q.some; fits = q.fits };
        unit_below = unit-below cols op;
      }

  -- the plan by this map
  abbrev plan_by : (cols : List ColumnState) (op : Op) (index : ℕ) (g : View) (lease : ℕ) → Plan
  plan_by cols op index g lease = record {
    index = index;
    graph = g;
    task = task_of y (kind_of y cols op) m;
    stripe = λ q. slice_index m.stripes q;
    missing = missing_of (map (missing_for y cols op) m.stripes);
    lease = lease;
  }

  task-is : (cols : List ColumnState) (op : Op) (index : ℕ) (g : View) (lease : ℕ) → IsInside y op → IsOpSplit y op m → IsTaskOf y op (plan_by cols op index g lease)
  task-is cols op index g lease inside split =
      let me = meets op inside split in
      record {
        sound = task-sound cols op inside split;
        width = refl;
        checks = refl;
        unit_sectors = refl;
        stripes = λ q below. (All-get_or (λ s. s < y.stripes) m.stripes q 0 below split.split.stripes_within, me.stripes q below);
        all = me.all;
        ascend = λ q r less below. AllPairs-from_increasing m.stripes split.split.stripes_ascend q r 0 less below;
        touched = me.touched;
      }

-- by the library's graph, or that of the file
chosen : (y : Shape) (graphs : List Held) (op : Op) (d : Desk) (p : Plan) (file : Option ℕ) → p.graph ≡ graph_of graphs d → p.task ≡ d.task → p.missing ≡ missing_of d.missing → p.task.stripes ≡ stripes_by y op → p.lease ≡ lease_for y graphs op file → d.file ≡ file → IsDrawn graphs file d → IsChosen y (graphs_of graphs) op file p
chosen y graphs op d p None graph task missing many lease is drawn = (
  graph ∙ (drawn ∙ (ap (λ (t : Aim). library t (missing_of d.missing) true) (sym task) ∙ ap (λ (ms : Missing). library p.task ms true) (sym missing))),
  lease ∙ ap (λ (n : ℕ). lease_of y n (span_count op)) (sym many),
)
chosen y graphs op d p (Some n) graph task missing many lease is drawn =
    let e = graph ∙ lent-file graphs d n is drawn in
    (e, lease ∙ sym (ap (λ (v : View). length v.bufs) e))

module _ (y : Shape) (law : IsLayout y) (graphs : List Held) (cols : List ColumnState) (op : Op) (file : Option ℕ) (d : Desk) (inside : IsInside y op) (p : IsPlanned y graphs cols op file d) (lease : ℕ) (long : lease ≡ lease_for y graphs op file) where
  abbrev by : Plan
  by = plan_by y law d.map cols op (length d.replies) (graph_of graphs d) lease

  abbrev plan-at : Aim → List (Option ℕ) → Plan
  plan-at t ms = record { index = length d.replies; graph = graph_of graphs d; task = t; stripe = λ q. slice_index d.map.stripes q; missing = missing_of ms; lease = lease }

  planned-by : IsPlan y (graphs_of graphs) cols op file by
  planned-by = record {
    task = task-is y law d.map cols op (length d.replies) (graph_of graphs d) lease inside p.split;
    kind = refl;
    missing = λ q below. listed-missing y cols op d.map.stripes q below;
    beyond = λ q past. past-missing y cols op d.map.stripes q past;
    graph_is = chosen y graphs op d by file refl (sym p.task) (sym (ap missing_of p.missing)) (op-count y law op d.map p.split) long p.file_is p.drawn;
  }

  -- the desk's plan, by its graph and with so many buffers, is the operation's
  pub planned-is : IsPlan y (graphs_of graphs) cols op file (plan_with d (graph_of graphs d) lease)
  planned-is =
      subst (λ (t : Aim). IsPlan y (graphs_of graphs) cols op file (plan-at t d.missing)) (sym p.task)
      (subst (λ (ms : List (Option ℕ)). IsPlan y (graphs_of graphs) cols op file (plan-at (task_of y (kind_of y cols op) d.map) ms)) (sym p.missing) planned-by)
