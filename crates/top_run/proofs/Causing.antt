-- What everything in a run comes from.
use Rattle.std.proofs.Common.{◌≡◌, ◌⊎◌, inl, inr, ℕ, List, Option, Some, None, sym, ◌∙◌, ap, subst}
use Rattle.std.specs.Prelude.{slice_get}
use Rattle.blk_disk.specs.declared.disk.Disk.{Ghosts as DiskGhosts}
use Rattle.lay_core.specs.declared.layout.Layout.{Ghosts as LayoutGhosts}
use Rattle.eng_cols.specs.declared.column.Column.{Column}
use Rattle.eng_cols.specs.declared.column.Column.TheVariants as set
use Rattle.eng_cols.specs.declared.spot.Loss.{Loss}
use Rattle.eng_cols.specs.Cols.{is_set_filling, passes}
use Rattle.eng_world.specs.World.{World}
use Rattle.eng_events.specs.Opened.{IsSetup}
use Rattle.eng_parts.specs.declared.setup.Setup.{Setup}
use Rattle.eng_parts.specs.declared.setup.Closed.{Closed}
use Rattle.eng_array.specs.declared.start.Start.{Start}
use Rattle.top_close.specs.Stage.{IsGivenUp}
use Rattle.top_serve.specs.Setups.{graphs_in, with_start}
use Rattle.top_serve.specs.Served as served
use Rattle.top_serve.specs.Served.{IsKeptAs, WasFailed}
use Rattle.top_run.specs.Work.{Service}
use Rattle.top_run.specs.Works.{work_of}
use Rattle.top_run.specs.Ends.{EndsSo}
use Rattle.top_run.specs.Ran.{RisesAt, IsFailedBy, EndsAs, Causes}
use Rattle.top_run.specs.Steps.{IsDeadBy}
use Rattle.top_run.proofs.Columns.{rise-before, ending-dies, kept-filling, not-so}

module _ {L D : Type 0} (lay : LayoutGhosts L) (disk : DiskGhosts D) (setup : Setup L D) (how : Option Start) (closed : Closed L D) (given : IsSetup lay disk setup) (s : served.IsServed lay disk setup how closed) (v : Service) (back : List (Option D)) (e : EndsSo lay closed disk v back) where
  abbrev Rises : ℕ → Type 0
  Rises = RisesAt disk (work_of lay setup how) setup.devices.items v back

  pub dead-by : (c : ℕ) → served.IsDeadBy lay disk setup how closed s.now c → WasFailed s.now c ⊎ Rises c
  dead-by c (inl failed) = inl failed
  dead-by c (inr rose) = inr (rose.0, rose.1, rise-before lay disk setup how closed given s v back e rose.0 rose.2)

  abbrev Unbuilt : ℕ → Type 0
  Unbuilt c = served.IsUnbuilt (lay.shape setup.layout) how s.now c

  abbrev Why : ℕ → Type 0
  Why = IsDeadBy disk (work_of lay setup how) setup.devices.items v back s.now

  abbrev As : Option Column → ℕ → Type 0
  As kept c = EndsAs disk (work_of lay setup how) setup.devices.items v back s.now (slice_get (with_start how setup.columns.items) c) kept c

  why : (c : ℕ) → served.IsDeadBy lay disk setup how closed s.now c ⊎ Unbuilt c → Why c
  why c (inl dead) = elim (dead-by c dead) [ inl failed ↦ inl failed | inr rose ↦ inr (inl rose) ]
  why c (inr unbuilt) = inr (inr unbuilt)

  pub came : (c : ℕ) → As (slice_get closed.columns.items c) c
  came c = elim (s.causes.ends c) [ inl kept ↦ inl kept | inr dead ↦ inr (dead.0, why c dead.1) ]

  -- a column that is given up was filling as the array was opened, or as its rebuild began
  given-before : (lost : Option Loss) (c : ℕ) → IsGivenUp lost closed.columns.items c → IsGivenUp lost (with_start how setup.columns.items) c
  given-before None c up = up
  given-before (Some loss) c up = elim (s.causes.ends c) [
    | inl kept ↦ kept-filling (slice_get (with_start how setup.columns.items) c) (slice_get closed.columns.items c) kept up
    | inr dead ↦ not-so (passes is_set_filling (slice_get closed.columns.items c)) (ap (passes is_set_filling) dead.0) up
  ]

  ends : (c : ℕ) → As (slice_get v.ending.columns c) c ⊎ ((slice_get v.ending.columns c ≡ Some set.Dead) × IsGivenUp v.ending.lost (with_start how setup.columns.items) c)
  ends c = elim ((ending-dies lay disk setup how closed given s v back e).each c) [
    | inl same ↦ inl (subst (λ (o : Option Column). As o c) (sym same) (came c))
    | inr dead ↦ elim dead.1 [
      | inl rose ↦ inl (inr (dead.0, inr (inl rose)))
      | inr up ↦ inr (dead.0, given-before v.ending.lost c up)
    ]
  ]

  failed-by : (d : ℕ) → served.IsFailedBy lay disk setup how closed s.now d → IsFailedBy disk (work_of lay setup how) setup.devices.items v back s.now d
  failed-by d (inl rose) = inl (rise-before lay disk setup how closed given s v back e d rose)
  failed-by d (inr failed) = inr (failed.0, failed.1, failed.2)

  pub causes : Causes disk (work_of lay setup how) setup.devices.items v back (graphs_in setup) s.start s.events s.now
  causes = record {
    count = (ending-dies lay disk setup how closed given s v back e).count ∙ s.causes.count;
    ends = ends;
    failed = λ d is. failed-by d (s.causes.failed d is);
    bad = λ later before id node split. let went = s.causes.bad later before id node split in (went.0, went.1, failed-by went.0 went.2);
  }
