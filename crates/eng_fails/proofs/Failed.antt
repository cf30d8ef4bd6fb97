-- A node that ends bad, and the failure of its column, whichever of the two is done first.
use Rattle.std.proofs.Common.{◌≡◌, ◌≢◌, ℕ, zero, suc, ◌<◌, List, length, subst, sym, ap, ◌∙◌, arith, inl, inr, refl, Bool, true, false, Option, Some, None, ◌&&◌, ◌||◌, not}
use Rattle.std.specs.Prelude.{slice_get, slice_set, slice_index, if◌then◌else◌, cond}
use Rattle.std.proofs.lemmas.Bool.{cases_eq}
use Rattle.std.proofs.lemmas.List.{length-set, get_or-set_same, get_or-set_other}
use Rattle.blk_plain.specs.declared.op.Outcome.TheVariants.{Bad}
use Rattle.lay_core.specs.Layout.{Shape}
use Rattle.graph_mean.specs.declared.graph.Node.{Node}
use Rattle.graph_mean.specs.declared.graph.Node.TheVariants.{Rd}
use Rattle.graph_mean.specs.declared.step.Status.{Status}
use Rattle.graph_mean.specs.declared.step.Status.TheVariants as status
use Rattle.graph_mean.specs.declared.step.Phase.{Phase}
use Rattle.graph_mean.specs.declared.step.Phase.TheVariants.{Before, After, RollingBack, Ended, Undone}
use Rattle.graph_mean.specs.Graph.{View, kind_at}
use Rattle.graph_mean.specs.Steps.{Units, UnitOf, reads, is_good, is_still_read, none_out, phase_lost, settled, stripe_of}
use Rattle.eng_one.specs.Control.{mark_in, mark_of, settled_in, phase_bad, Stands, MayEndBad, LosesOwn}
use Rattle.eng_one.proofs.Settled.{some_out}
use Rattle.eng_one.proofs.Leading.{settled-same}
use Rattle.eng_one.proofs.Losing.{bad-phase_lost}
use Rattle.eng_cols.specs.declared.spot.Spot.{Spot}
use Rattle.eng_cols.specs.Cols.{ColumnState}
use Rattle.eng_cols.specs.Changes.{killed}
use Rattle.eng_cols.specs.Seats.{is_available, seat, spot}
use Rattle.eng_cols.proofs.Killing.{seat-apart}
use Rattle.eng_world.specs.Failing.{by_after, device_on}
use Rattle.eng_clients.specs.declared.stage.Stage.{Stage}
use Rattle.eng_clients.specs.declared.stage.Stage.TheVariants.{Nothing, Waits, Runs}
use Rattle.eng_clients.specs.Desk.{Desk, with_ended}
use Rattle.eng_state.specs.Failing.{dying, reads_dying, suffered_in, suffered}
use Rattle.eng_state.specs.Bad.{with_bad}
use Rattle.eng_fails.proofs.Dying.{dying-here}
use Rattle.lay_core.specs.Touched.{any_below}

-- ## What is still read

any-same : (p q : ℕ → Bool) (n : ℕ) → ((k : ℕ) → p k ≡ q k) → any_below p n ≡ any_below q n
any-same p q zero e = refl
any-same p q (suc n) e = ap (λ (b : Bool). b || any_below p n) (e n) ∙ ap (λ (b : Bool). q n || b) (any-same p q n e)

good-same : (marks : List Status) (n : ℕ) → n < length marks → mark_in marks n ≡ status.Out → (k : ℕ) → is_good (mark_in (slice_set marks n status.Bad) k) ≡ is_good (mark_in marks k)
good-same marks n below out k = elim (cases_eq k n) [
  | inl is ↦ ap (λ (j : ℕ). is_good (mark_in (slice_set marks n status.Bad) j)) is ∙ (ap is_good (get_or-set_same marks n status.Bad status.Idle below) ∙ (sym (ap is_good out) ∙ sym (ap (λ (j : ℕ). is_good (mark_in marks j)) is)))
  | inr ne ↦ ap is_good (get_or-set_other marks n k status.Bad status.Idle ne)
]

still-same : (g : View) (marks : List Status) (n : ℕ) (lost : Units) → n < length marks → mark_in marks n ≡ status.Out → is_still_read g (mark_in (slice_set marks n status.Bad)) lost ≡ is_still_read g (mark_in marks) lost
still-same g marks n lost below out = any-same (λ k. reads g (kind_at g k) lost && not (is_good (mark_in (slice_set marks n status.Bad) k))) (λ k. reads g (kind_at g k) lost && not (is_good (mark_in marks k))) (length g.nodes)
    (λ k. ap (λ (b : Bool). reads g (kind_at g k) lost && not b) (good-same marks n below out k))

-- ## The phase

-- with a node out a run that rolls back does so still
rolls-on : (g : View) (node : ℕ → Status) (n : ℕ) → n < length g.nodes → node n ≡ status.Out → settled g node RollingBack ≡ RollingBack
rolls-on g node n below out = ap (λ (b : Bool). if b then Undone else RollingBack) (some_out node (length g.nodes) n below out)

bad-after : (g : View) (node : ℕ → Status) (lost : Units) (n : ℕ) → n < length g.nodes → node n ≡ status.Out → (p : Phase) → phase_bad (phase_lost g node lost p) ≡ phase_bad p
bad-after g node lost n below out Before = by-test (is_still_read g node lost)
  where
    by-test : (b : Bool) → phase_bad (if b then settled g node RollingBack else Before) ≡ RollingBack
    by-test true = ap phase_bad (rolls-on g node n below out)
    by-test false = refl
bad-after g node lost n below out After = refl
bad-after g node lost n below out RollingBack = ap phase_bad (rolls-on g node n below out)
bad-after g node lost n below out Ended = refl
bad-after g node lost n below out Undone = refl

by-same : (marks : List Status) (b : Bool) (device : ℕ) (by : Option ℕ) (p : Phase) → by_after (settled_in marks p) b device by ≡ by_after p b device by
by-same marks b device by Before = refl
by-same marks b device by After = refl
by-same marks b device by RollingBack = by-test (none_out (mark_in marks) (length marks))
  where
    by-test : (t : Bool) → by_after (if t then Undone else RollingBack) b device by ≡ by
    by-test true = refl
    by-test false = refl
by-same marks b device by Ended = refl
by-same marks b device by Undone = refl

module _ (y : Shape) (cols : List ColumnState) (k : ℕ) (d : Desk) (n : ℕ) (stands : Stands d.run) (below : n < length d.run.graph.nodes) (out : mark_of d.run n ≡ status.Out) (may : MayEndBad (kind_at d.run.graph n) d.run.phase) where
  g : View
  g = d.run.graph

  abbrev lost : Units
  lost = dying y cols k d

  abbrev marks : List Status
  marks = slice_set d.run.marks n status.Bad

  within : n < length d.run.marks
  within = let e = stands.marks in omega (arith, e, below)

  abbrev made : Phase → Option ℕ → Desk
  made p by = record d { run = record d.run { marks = marks; phase = p }; by = by }

  -- whether the column failed first, or the node ended first
  either-in : (t : Stage) → t ≡ Runs → (d.run.phase ≡ Before → LosesOwn d.run.graph n lost) → with_ended (suffered_in t y cols k d) n Bad ≡ suffered_in t y cols k (with_bad d n)
  either-in Nothing e own = let z : Nothing ≡ Runs = e in absurd (let u : ⊥ = cc in u)
  either-in Waits e own = let z : Waits ≡ Runs = e in absurd (let u : ⊥ = cc in u)
  either-in Runs e own =
      ap (λ (p : Phase). made p (by_after d.run.phase (reads_dying y cols k d) (device_on (slice_get cols k) k) d.by))
      (ap (settled_in marks) (bad-after d.run.graph (mark_of d.run) lost n below out d.run.phase)
      ∙ (bad-phase_lost d.run n lost stands below may own
      ∙ ap (phase_lost d.run.graph (mark_in marks) lost) (sym (settled-same d.run.graph marks d.run.phase (length-set d.run.marks n status.Bad ∙ stands.marks)))))
      ∙ ap (made (phase_lost d.run.graph (mark_in marks) lost (settled_in marks d.run.phase)))
      (sym (by-same marks (reads_dying y cols k d) (device_on (slice_get cols k) k) d.by d.run.phase)
      ∙ ap (λ (b : Bool). by_after (settled_in marks d.run.phase) b (device_on (slice_get cols k) k) d.by) (sym (still-same d.run.graph d.run.marks n lost within out)))

  pub either-first : d.stage ≡ Runs → (d.run.phase ≡ Before → LosesOwn d.run.graph n lost) → with_ended (suffered y cols k d) n Bad ≡ suffered y cols k (with_bad d n)
  either-first runs own = either-in d.stage runs own

  -- past phase Before the node ends bad by itself
  alone-by : (p : Phase) → p ≢ Before → settled_in marks (phase_bad p) ≡ settled_in marks p
  alone-by Before ne = absurd (ne refl)
  alone-by After ne = refl
  alone-by RollingBack ne = refl
  alone-by Ended ne = refl
  alone-by Undone ne = refl

  pub alone : d.run.phase ≢ Before → with_ended d n Bad ≡ with_bad d n
  alone ne = ap (λ (p : Phase). made p d.by) (alone-by d.run.phase ne)

-- ## The unit of a read that is out

pub spot-parts : (y : Shape) (cols : List ColumnState) (s i : ℕ) (at : Spot) → spot y cols s i ≡ Some at → (is_available y cols s i ≡ true) × (seat y cols s i ≡ Some at)
spot-parts y cols s i at h = by_case (is_available y cols s i) refl h
  where
    by_case : (b : Bool) → is_available y cols s i ≡ b → cond b (seat y cols s i) None ≡ Some at → (is_available y cols s i ≡ true) × (seat y cols s i ≡ Some at)
    by_case true e h = (e, h)
    by_case false e h = let z : None ≡ Some at = h in absurd (let u : ⊥ = cc in u)

-- the death of the column on which it stands makes it missing
pub spot-dies : (y : Shape) (cols : List ColumnState) (s i : ℕ) (at : Spot) → spot y cols s i ≡ Some at → (is_available y cols s i && not (is_available y (killed cols at.column) s i)) ≡ true
spot-dies y cols s i at h = let p = spot-parts y cols s i at h in ap (λ (b : Bool). b && not (is_available y (killed cols at.column) s i)) p.0 ∙ ap not (gone (is_available y (killed cols at.column) s i) refl)
  where
    gone : (b : Bool) → is_available y (killed cols at.column) s i ≡ b → b ≡ false
    gone true e = absurd (seat-apart y cols at.column s i at e (spot-parts y cols s i at h).1 refl)
    gone false e = refl

-- so with its column's death a read in phase Before loses its own unit
pub loses-own : (y : Shape) (cols : List ColumnState) (d : Desk) (n i b : ℕ) (at : Spot) → kind_at d.run.graph n ≡ Rd i b → stripe_of d.run.graph b < d.task.stripes → i < y.width → spot y cols (slice_index d.map.stripes (stripe_of d.run.graph b)) i ≡ Some at → LosesOwn d.run.graph n (dying y cols at.column d)
loses-own y cols d n i b at is hq hi h s j unit =
    let u : UnitOf d.run.graph (Rd i b) s j = subst (λ (v : Node). UnitOf d.run.graph v s j) is unit in
    subst (λ (a : ℕ). dying y cols at.column d a j ≡ true) u.1 (subst (λ (a : ℕ). dying y cols at.column d (stripe_of d.run.graph b) a ≡ true) u.0
    (dying-here y cols at.column d (stripe_of d.run.graph b) i hq hi ∙ spot-dies y cols (slice_index d.map.stripes (stripe_of d.run.graph b)) i at h))
