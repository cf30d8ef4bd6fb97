-- What is so of operations that wait or run.
use Rattle.std.proofs.Common.{◌≡◌, ◌≢◌, ℕ, ◌<◌, List, [], length, replicate, subst, sym, ap, ◌∙◌, arith, inl, inr, refl, Option, Some, None}
use Rattle.std.specs.Prelude.{sum_by}
use Rattle.std.proofs.lemmas.Bool.{cases_lt}
use Rattle.std.proofs.lemmas.List.{get_or_past, get_or-replicate, length-replicate}
use Rattle.std.proofs.lemmas.Option.{slice_get_within}
use Rattle.blk_plain.specs.declared.op.Op.{Op}
use Rattle.blk_plain.specs.declared.op.Op.TheVariants.{Write, Writes, Read, Rebuild, Sync}
use Rattle.buf_pool.specs.Pool as pool
use Rattle.stripe_lock.specs.declared.mode.Mode.TheVariants.{Share, Exclude}
use Rattle.lay_core.specs.Layout.{Shape, IsLayout}
use Rattle.graph_mean.specs.declared.step.Status.{Status}
use Rattle.graph_mean.specs.declared.step.Status.TheVariants as status
use Rattle.graph_mean.specs.declared.step.Phase.TheVariants as phase
use Rattle.graph_mean.specs.Graph.{Held, View}
use Rattle.graph_mean.specs.Task.{Aim}
use Rattle.eng_one.specs.Control.{mark_of, begun}
use Rattle.eng_one.proofs.Waiting.{begun-reached}
use Rattle.eng_cols.specs.Cols.{ColumnState}
use Rattle.eng_world.specs.declared.item.Item.{Item}
use Rattle.eng_world.specs.declared.item.Item.TheVariants as item
use Rattle.eng_world.specs.World.{IsRead}
use Rattle.eng_world.specs.Planning.{IsPlan, kind_of}
use Rattle.eng_clients.specs.declared.stage.Stage.{Stage}
use Rattle.eng_clients.specs.declared.stage.Stage.TheVariants.{Nothing, Waits, Runs}
use Rattle.eng_clients.specs.Desk.{Desk, desk_at, no_desk, graph_of, item_at, plan_of, with_started, with_lease}
use Rattle.eng_state.specs.Sound.{RunsWell, AreWell, IsOutOf, jobs_at, mode_for}
use Rattle.eng_clients.specs.Planned.{CanRun, Replanned}
use Rattle.eng_plan.specs.Asked.{mode_by, lease_for}
use Rattle.eng_state.specs.Serves.{Serves, RunsOn, ServesWell}
use Rattle.eng_state.specs.Steps.{graphs_of}
use Rattle.eng_state.proofs.Putting.{none-out-sum}
use Rattle.eng_state.proofs.Plans.{planned-is}
use Rattle.eng_state.proofs.Settling as settling
use Rattle.graph_lib.proofs.SpanRanges.{spans-few}

-- a client that does something is one of them
pub busy-below : (y : Shape) (graphs : List Held) (p : pool.PoolView) (desks : List Desk) (c : ℕ) → AreWell y graphs p desks → (desk_at desks c).stage ≢ Nothing → c < 17
busy-below y graphs p desks c well busy = elim (cases_lt c 17) [
  | inl below ↦ below
  | inr over ↦ let all = well.all in absurd (busy (ap (λ (d : Desk). d.stage) (get_or_past desks c no_desk (omega (arith, all, over)))))
]

-- ## Modes

pub mode-kind : (y : Shape) (cols : List ColumnState) (op : Op) → mode_for (kind_of y cols op) ≡ mode_by op
mode-kind y cols (Write span pattern) = refl
mode-kind y cols (Writes patches) = refl
mode-kind y cols (Read span) = refl
mode-kind y cols (Rebuild stripe) = refl
mode-kind y cols (Sync stripe) = refl

-- what shares its stripes is a read
pub share-read : (op : Op) → mode_by op ≡ Share → IsRead (Some op)
share-read (Write span pattern) is = let z : Exclude ≡ Share = is in absurd (let u : ⊥ = cc in u)
share-read (Writes patches) is = let z : Exclude ≡ Share = is in absurd (let u : ⊥ = cc in u)
share-read (Read span) is = tt
share-read (Rebuild stripe) is = let z : Exclude ≡ Share = is in absurd (let u : ⊥ = cc in u)
share-read (Sync stripe) is = let z : Exclude ≡ Share = is in absurd (let u : ⊥ = cc in u)

-- ## Items

-- an item is one operation, by one graph
op-in : Option Item → Option Op
op-in (Some (item.Run op file)) = Some op
op-in (Some (item.Fail column)) = None
op-in None = None

file-in : Option Item → Option ℕ
file-in (Some (item.Run op file)) = file
file-in (Some (item.Fail column)) = None
file-in None = None

pub same-op : (op other : Op) (file theirs : Option ℕ) (i : Option Item) → i ≡ Some (item.Run op file) → i ≡ Some (item.Run other theirs) → op ≡ other
unfolding op-in
same-op op other file theirs i a b = let z : Some op ≡ Some other = ap op-in (sym a ∙ b) in cc

pub same-file : (op other : Op) (file theirs : Option ℕ) (i : Option Item) → i ≡ Some (item.Run op file) → i ≡ Some (item.Run other theirs) → file ≡ theirs
unfolding file-in
same-file op other file theirs i a b = ap file-in (sym a ∙ b)

-- there is an item without a reply
pub item-below : (d : Desk) (i : Item) → item_at d ≡ Some i → length d.replies < length d.items
item-below d i is = slice_get_within d.items (length d.replies) i is

-- ## A run that begins

pub begun-idle : (g : View) (n : ℕ) → mark_of (begun g) n ≡ status.Idle
begun-idle g n = elim (cases_lt n (length g.nodes)) [
  | inl below ↦ get_or-replicate (length g.nodes) n status.Idle status.Idle below
  | inr past ↦ get_or_past (replicate (length g.nodes) status.Idle) n status.Idle (let e = length-replicate (length g.nodes) status.Idle in omega (arith, e, past))
]

idle-not-out : {m : Status} → m ≡ status.Idle → m ≢ status.Out
idle-not-out {m} is out = let z : status.Idle ≡ status.Out = sym is ∙ out in let u : ⊥ = cc in u

pub begun-jobs : (g : View) → sum_by jobs_at (begun g).marks ≡ 0
begun-jobs g = none-out-sum (begun g).marks (λ k. idle-not-out (begun-idle g k))

pub begun-calm : (graphs : List Held) (d : Desk) (n : ℕ) → IsOutOf (with_started graphs d) n → ⊥
begun-calm graphs d n o = idle-not-out (begun-idle (graph_of graphs d) n) o.mark

-- ## A planned operation that runs on these buffers

module _ (y : Shape) (law : IsLayout y) (graphs : List Held) (cols : List ColumnState) (op : Op) (file : Option ℕ) (old plan : Desk) (serves : Serves graphs y old op file) (r : Replanned y graphs cols op file old plan) (runs : CanRun graphs plan) (l : List ℕ) (long : length l ≡ lease_for y graphs op file) where
  abbrev pub now : Desk
  now = with_started graphs (with_lease plan l)

  pub items-same : plan.items ≡ old.items
  items-same = ap (λ (d : Desk). d.items) r.rest

  pub replies-same : plan.replies ≡ old.replies
  replies-same = ap (λ (d : Desk). d.replies) r.rest

  pub item-same : item_at now ≡ Some (item.Run op file)
  item-same = ap item_at r.rest ∙ serves.item

  pub plan-is : IsPlan y (graphs_of graphs) cols op file (plan_of now)
  plan-is = planned-is y law graphs cols op file plan serves.inside r.planned (length l) long

  pub runs-well : (p : pool.PoolView) → pool.IsLease p l → RunsWell y graphs p now
  runs-well p lease = record {
    op = op;
    item = item-same ∙ ap (λ (f : Option ℕ). Some (item.Run op f)) (sym r.planned.file_is);
    task = plan-is.task;
    stripes = sym (ap (λ (t : Aim). t.stripes) r.planned.task);
    lends = record { there = λ n is. serves.there n (sym r.planned.file_is ∙ is); same = refl };
    few = settling.planned-nodes y law graphs cols op file plan serves.inside r.planned runs;
    few_bufs = settling.planned-few_bufs y law graphs cols op file plan serves.inside r.planned runs;
    marks = length-replicate (length (graph_of graphs plan).nodes) status.Idle;
    accepted = runs.accepted;
    reached = begun-reached (graph_of graphs plan);
    lease = lease;
    bufs = let b = settling.planned-bufs y law graphs cols op file plan serves.inside r.planned runs spans-few in omega (arith, b, long);
  }

  pub mode-is : mode_for plan.task.kind ≡ mode_by op
  mode-is = ap (λ (t : Aim). mode_for t.kind) r.planned.task ∙ mode-kind y cols op

  pub serves-well : ServesWell graphs y now
  serves-well = record {
    busy = λ b. (op, file, record { item = item-same; inside = serves.inside; there = serves.there });
    runs = λ is other theirs s.
        subst (λ (f : Option ℕ). RunsOn graphs y now other f) (same-file op other file theirs (item_at now) item-same s.item)
        (subst (λ (o : Op). RunsOn graphs y now o file) (same-op op other file theirs (item_at now) item-same s.item) (record {
          split = r.planned.split;
          mode = mode-is;
          lease = long;
          undone = λ z. let u : ⊥ = before z in absurd u;
          by = λ z. let u : ⊥ = before z in absurd u;
        }));
  }
    where
      before : phase.Before ≡ phase.Undone → ⊥
      before z = cc

-- ## Who leases

stage-runs : (d : Desk) (t : Stage) (b : ℕ) → d.stage ≡ t → (d.stage ≢ Runs → d.lease ≡ []) → b < length d.lease → d.stage ≡ Runs
stage-runs d Nothing b is idle lt = let e = ap length (idle (λ r. let z : Nothing ≡ Runs = sym is ∙ r in let u : ⊥ = cc in u)) in absurd (none (length d.lease) e lt)
  where
    none : (n : ℕ) → n ≡ 0 → b < n → ⊥
    none n e l = omega (arith, e, l)
stage-runs d Waits b is idle lt = let e = ap length (idle (λ r. let z : Waits ≡ Runs = sym is ∙ r in let u : ⊥ = cc in u)) in absurd (none (length d.lease) e lt)
  where
    none : (n : ℕ) → n ≡ 0 → b < n → ⊥
    none n e l = omega (arith, e, l)
stage-runs d Runs b is idle lt = is

-- a client that leases something runs
pub leases-runs : (y : Shape) (graphs : List Held) (p : pool.PoolView) (desks : List Desk) → AreWell y graphs p desks → (k b : ℕ) → b < length (desk_at desks k).lease → (desk_at desks k).stage ≡ Runs
leases-runs y graphs p desks well k b lt = stage-runs (desk_at desks k) (desk_at desks k).stage b refl (λ rests. elim (cases_lt k 17) [
  | inl below ↦ ((well.each k below).idle rests).0
  | inr over ↦ let all = well.all in ap (λ (d : Desk). d.lease) (get_or_past desks k no_desk (omega (arith, all, over)))
]) lt
