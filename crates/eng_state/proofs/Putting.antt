-- A pool to which a buffer came home, and what the buffers of running operations hold then.
use Rattle.std.proofs.Common.{◌≡◌, ◌≢◌, ℕ, suc, ◌<◌, ◌≤◌, ◌+◌, List, [], ◌∷◌, length, get_or, sym, ap, ◌∙◌, arith, inl, inr, refl}
use Rattle.std.specs.Prelude.{sum_by, if◌then◌else◌}
use Rattle.std.proofs.lemmas.Bool.{cases_order}
use Rattle.std.proofs.lemmas.List.{get_or-set_same, get_or-set_other, get_or_past}
use Rattle.std.proofs.lemmas.List.Sums.{get_or-le-sum_by, sum_by-cons}
use Rattle.buf_pool.specs.Pool.{SeatView, PoolView, seat_at, put, nowhere}
use Rattle.lay_core.specs.Layout.{Shape}
use Rattle.graph_mean.specs.declared.graph.Buf.{Buf}
use Rattle.graph_mean.specs.declared.step.Status.{Status}
use Rattle.graph_mean.specs.declared.step.Status.TheVariants as status
use Rattle.graph_mean.specs.declared.step.Phase.{Phase}
use Rattle.graph_mean.specs.declared.step.Phase.TheVariants.{Before, After, RollingBack, Ended, Undone}
use Rattle.graph_mean.specs.Graph.{Held as Lent, View as Drawn}
use Rattle.graph_mean.specs.Steps.{Covers, settled, none_out}
use Rattle.eng_one.specs.Control.{mark_of, mark_in, settled_in}
use Rattle.eng_world.specs.World.{Current}
use Rattle.eng_clients.specs.declared.stage.Stage.{Stage}
use Rattle.eng_clients.specs.declared.stage.Stage.TheVariants.{Nothing, Waits, Runs}
use Rattle.eng_clients.specs.Desk.{Desk, desk_at, no_desk}
use Rattle.eng_state.specs.Shows.{ShowsCurrent, HoldBytes}
use Rattle.eng_state.specs.Sound.{RunsWell, jobs_of, jobs_at}
use Rattle.eng_log.specs.Filled.{buffer_byte}
use Rattle.graph_mean.proofs.Words.{no_buf}

-- what is covered is covered by a buffer of the graph
pub covers-below : (g : Drawn) (b o : ℕ) → Covers g b o → b < length g.bufs
covers-below g b o covers = elim (cases_order b (length g.bufs)) [
  | inl e ↦ past (omega (arith, e))
  | inr (inl below) ↦ below
  | inr (inr over) ↦ past (omega (arith, over))
]
  where
    past : length g.bufs ≤ b → b < length g.bufs
    past over =
        let e = get_or_past g.bufs b no_buf over in
        let from = ap (λ (v : Buf). v.from) e in let count = ap (λ (v : Buf). v.count) e in
        let lo = covers.0 in let hi = covers.1 in absurd (omega (arith, from, count, lo, hi))

module _ (p : PoolView) (k : ℕ) (bytes : List ℕ) (inside : k < length p.seats) where
  pub put-here : (seat_at (put p k bytes).seats k).bytes ≡ bytes
  put-here = ap (λ (v : SeatView). v.bytes) (get_or-set_same p.seats k _ nowhere inside)

  pub put-else : (j : ℕ) → j ≢ k → seat_at (put p k bytes).seats j ≡ seat_at p.seats j
  put-else j ne = get_or-set_other p.seats k j _ nowhere ne

  -- an operation whose lease hasn't that seat holds what it held
  pub hold-other : (tells : Type 0) (y : Shape) (graphs : List Lent) (e : Desk) (buf : ℕ → ℕ → ℕ → ℕ) → RunsWell y graphs p e → ((b : ℕ) → b < length e.lease → get_or e.lease b 0 ≢ k) → HoldBytes tells p e buf → HoldBytes tells (put p k bytes) e buf
  hold-other tells y graphs e buf w apart old = λ told b o i covers lt.
      let below = covers-below e.run.graph b o covers in let bufs = w.bufs in
      old told b o i covers lt ∙ ap (λ (v : SeatView). buffer_byte e.run.graph v.bytes b o i) (sym (put-else (get_or e.lease b 0) (apart b (omega (arith, below, bufs)))))

  pub current-other : (tells : Type 0) (y : Shape) (graphs : List Lent) (e : Desk) (now : Current) (t : Stage) → e.stage ≡ t → (e.stage ≡ Runs → RunsWell y graphs p e) → ((b : ℕ) → b < length e.lease → get_or e.lease b 0 ≢ k) → ShowsCurrent tells p t e now → ShowsCurrent tells (put p k bytes) t e now
  current-other tells y graphs e now Nothing is w apart s = s
  current-other tells y graphs e now Waits is w apart s = s
  current-other tells y graphs e now Runs is w apart s = (s.0, s.1, hold-other tells y graphs e s.0 (w is) apart s.2)

-- ## Nodes that are out

-- a node that is out is one of the run's
pub out-below : (marks : List Status) (n : ℕ) → mark_in marks n ≡ status.Out → n < length marks
out-below marks n out = elim (cases_order n (length marks)) [
  | inl e ↦ past (omega (arith, e))
  | inr (inl below) ↦ below
  | inr (inr over) ↦ past (omega (arith, over))
]
  where
    past : length marks ≤ n → n < length marks
    past over = let z : status.Idle ≡ status.Out = sym (get_or_past marks n status.Idle over) ∙ out in absurd (let u : ⊥ = cc in u)

-- a job is out, so a list is
pub list-out : (desks : List Desk) (c n lists : ℕ) → c < length desks → mark_of (desk_at desks c).run n ≡ status.Out → lists + sum_by jobs_of desks ≡ 32 → lists < 32
list-out desks c n lists below out all =
    let d = desk_at desks c in
    let one : jobs_at (mark_of d.run n) ≡ 1 = ap jobs_at out in
    let a = get_or-le-sum_by jobs_at d.run.marks n status.Idle (out-below d.run.marks n out) in
    let b = get_or-le-sum_by jobs_of desks c no_desk below in
    omega (arith, one, a, b, all)

-- the phase as it is settled, by marks or by nodes
pub settled-same : (g : Drawn) (marks : List Status) (p : Phase) → length marks ≡ length g.nodes → settled_in marks p ≡ settled g (mark_in marks) p
settled-same g marks Before e = refl
settled-same g marks After e = refl
settled-same g marks RollingBack e = ap (λ (m : ℕ). if none_out (mark_in marks) m then Undone else RollingBack) e
settled-same g marks Ended e = refl
settled-same g marks Undone e = refl

-- an operation is shown in another pool whose seats of its lease have the same bytes
pub current-kept : (tells : Type 0) (p q : PoolView) (y : Shape) (graphs : List Lent) (e : Desk) (now : Current) (t : Stage) → e.stage ≡ t → (e.stage ≡ Runs → RunsWell y graphs p e) → ((b : ℕ) → b < length e.lease → (seat_at q.seats (get_or e.lease b 0)).bytes ≡ (seat_at p.seats (get_or e.lease b 0)).bytes) → ShowsCurrent tells p t e now → ShowsCurrent tells q t e now
current-kept tells p q y graphs e now Nothing is w same s = s
current-kept tells p q y graphs e now Waits is w same s = s
current-kept tells p q y graphs e now Runs is w same s = (
  s.0,
  s.1,
  λ told b o i covers lt.
      let below = covers-below e.run.graph b o covers in let bufs = (w is).bufs in
      s.2 told b o i covers lt ∙ ap (λ (l : List ℕ). buffer_byte e.run.graph l b o i) (sym (same b (omega (arith, below, bufs)))),
)

-- where none of them is out, no job is
pub none-out-sum : (marks : List Status) → ((k : ℕ) → mark_in marks k ≢ status.Out) → sum_by jobs_at marks ≡ 0
none-out-sum [] none = refl
none-out-sum (m ∷ ms) none = let rest = none-out-sum ms (λ k. none (suc k)) in let first = none-here m (none 0) in let all = sum_by-cons jobs_at m ms in omega (arith, rest, first, all)
  where
    none-here : (t : Status) → t ≢ status.Out → jobs_at t ≡ 0
    none-here status.Idle ne = refl
    none-here status.Out ne = absurd (ne refl)
    none-here status.Good ne = refl
    none-here status.Bad ne = refl
    none-here status.Skipped ne = refl
