-- A desk that suffers the death of a column goes on, or is abandoned.
use Rattle.std.proofs.Common.{◌≡◌, ℕ, List, sym, ap, ◌∙◌, refl, Bool, true, false, Option, Some, ◌||◌}
use Rattle.std.specs.Prelude.{slice_get, if◌then◌else◌}
use Rattle.lay_core.specs.Layout.{Shape}
use Rattle.graph_mean.specs.declared.step.Phase.{Phase}
use Rattle.graph_mean.specs.declared.step.Phase.TheVariants.{Before, After, RollingBack, Ended, Undone}
use Rattle.graph_mean.specs.Steps.{State, Units, Lose, Step, phase_lost}
use Rattle.eng_one.specs.Control.{Control, mark_of, IsPartOf, Leads, Stands, rolled_back}
use Rattle.eng_one.proofs.Losing.{phase-stays, phase-abandoned}
use Rattle.eng_one.proofs.Waiting.{step-reached}
use Rattle.eng_cols.specs.Cols.{ColumnState}
use Rattle.eng_world.specs.Failing.{by_after, device_on}
use Rattle.eng_clients.specs.declared.stage.Stage.{Stage}
use Rattle.eng_clients.specs.declared.stage.Stage.TheVariants.{Nothing, Waits, Runs}
use Rattle.eng_clients.specs.Desk.{Desk, with_abandoned}
use Rattle.eng_state.specs.Failing.{dying, reads_dying, suffered_in, suffered}
use Rattle.eng_fails.proofs.Keeping.{GoesOn, stays}

-- ## The run

-- as units are lost the run comes to the phase that this gives
abbrev pub lost_run : Control → Units → Control
lost_run r lost = record r { phase = phase_lost r.graph (mark_of r) lost r.phase }

abbrev without : Control → Units → State → State
without r lost x = record { node = mark_of r; buf = x.buf; cell = x.cell; missing = λ s i. x.missing s i || lost s i; phase = phase_lost r.graph (mark_of r) lost r.phase }

loses : (r : Control) (lost : Units) (x : State) → IsPartOf r x → Step r.graph x (Lose lost) (without r lost x)
loses r lost x p = (
  record { buf = λ b o. refl; missing = λ s i. refl; phase = ap (phase_lost r.graph (mark_of r) lost) (sym p.phase) },
  λ k. sym (p.node k),
  λ s i o. refl,
)

pub lost-leads : (r : Control) (lost : Units) → Leads r (Lose lost) (lost_run r lost)
lost-leads r lost = record { graph = refl; leads = λ x p. (without r lost x, record { node = λ k. refl; phase = refl }, loses r lost x p) }

-- ## The desk

module _ (y : Shape) (cols : List ColumnState) (k : ℕ) (d : Desk) where
  goes-in : (t : Stage) → d.stage ≡ t → GoesOn d (suffered_in t y cols k d)
  goes-in Nothing is = stays d
  goes-in Waits is = stays d
  goes-in Runs is = record {
    runs = λ h. h;
    ran = λ h. h;
    lease = refl;
    graph = refl;
    map = λ h. refl;
    kind = refl;
    spots = refl;
    out = λ n h. h;
    was = λ n h. h;
    jobs = refl;
    well = λ z graphs p well. record {
      runs = λ r. let x = well.runs r in record {
        op = x.op;
        item = x.item;
        task = x.task;
        stripes = x.stripes;
        lends = record { there = x.lends.there; same = x.lends.same };
        few = x.few;
        few_bufs = x.few_bufs;
        marks = x.marks;
        accepted = x.accepted;
        reached = step-reached d.run.graph (Lose (dying y cols k d)) d.run (lost_run d.run (dying y cols k d)) x.reached (lost-leads d.run (dying y cols k d));
        lease = x.lease;
        bufs = x.bufs;
      };
      idle = λ ne. absurd (ne is);
      spots = well.spots;
      replies = well.replies;
    };
  }

  pub suffered-goes : GoesOn d (suffered y cols k d)
  suffered-goes = goes-in d.stage refl

  -- ## What the code does

  by-else : (p : Phase) (b : Bool) → (p ≡ Before → b ≡ false) → by_after p b (device_on (slice_get cols k) k) d.by ≡ d.by
  by-else Before b h = ap (λ (v : Bool). if v then Some (device_on (slice_get cols k) k) else d.by) (h refl)
  by-else After b h = refl
  by-else RollingBack b h = refl
  by-else Ended b h = refl
  by-else Undone b h = refl

  made : Phase → Option ℕ → Desk
  made p by = record d { run = record d.run { phase = p }; by = by }

  -- one that doesn't run, is past its commit, or reads no such unit any more stays as it is
  stays-in : (t : Stage) → Stands d.run → (t ≡ Runs → d.run.phase ≡ Before → reads_dying y cols k d ≡ false) → suffered_in t y cols k d ≡ d
  unfolding made
  stays-in Nothing is h = refl
  stays-in Waits is h = refl
  stays-in Runs is h =
      ap (λ (p : Phase). made p (by_after d.run.phase (reads_dying y cols k d) (device_on (slice_get cols k) k) d.by)) (phase-stays d.run (dying y cols k d) is (h refl))
      ∙ ap (made d.run.phase) (by-else d.run.phase (reads_dying y cols k d) (h refl))

  pub suffered-stays : Stands d.run → (d.stage ≡ Runs → d.run.phase ≡ Before → reads_dying y cols k d ≡ false) → suffered y cols k d ≡ d
  suffered-stays is h = stays-in d.stage is h

  -- and else it is abandoned
  abandoned-in : (t : Stage) → t ≡ Runs → Stands d.run → d.run.phase ≡ Before → reads_dying y cols k d ≡ true → suffered_in t y cols k d ≡ with_abandoned d (device_on (slice_get cols k) k)
  unfolding made
  abandoned-in Nothing e is before reads = let z : Nothing ≡ Runs = e in absurd (let u : ⊥ = cc in u)
  abandoned-in Waits e is before reads = let z : Waits ≡ Runs = e in absurd (let u : ⊥ = cc in u)
  abandoned-in Runs e is before reads =
      ap (λ (p : Phase). made p (by_after d.run.phase (reads_dying y cols k d) (device_on (slice_get cols k) k) d.by)) (phase-abandoned d.run (dying y cols k d) is before reads)
      ∙ ap (made (rolled_back d.run).phase) (ap (λ (p : Phase). by_after p (reads_dying y cols k d) (device_on (slice_get cols k) k) d.by) before ∙ ap (λ (v : Bool). if v then Some (device_on (slice_get cols k) k) else d.by) reads)

  pub suffered-abandoned : Stands d.run → d.stage ≡ Runs → d.run.phase ≡ Before → reads_dying y cols k d ≡ true → suffered y cols k d ≡ with_abandoned d (device_on (slice_get cols k) k)
  suffered-abandoned is runs before reads = abandoned-in d.stage runs is before reads
