-- What a run over an array with labels comes to.
use Rattle.std.proofs.Common.{◌≡◌, ◌⊎◌, ◌<◌, ◌∙◌, inl, inr, ap, sym, ℕ, List, Bool, Option, Some, None}
use Rattle.std.specs.Prelude.{slice_get}
use Rattle.blk_disk.specs.declared.disk.Disk.{Ghosts as DiskGhosts}
use Rattle.blk_disk.specs.Devices.{contents_of}
use Rattle.lay_core.specs.Layout.{blocks_in}
use Rattle.lay_core.specs.declared.layout.Layout.{Ghosts as LayoutGhosts}
use Rattle.eng_cols.specs.declared.column.Column.{Column}
use Rattle.eng_cols.specs.declared.column.Column.TheVariants as column
use Rattle.eng_cols.specs.Cols.{ColumnState}
use Rattle.eng_cols.specs.Contents.{InSync, decode}
use Rattle.eng_cols.specs.Deaths.{Dies}
use Rattle.eng_cols.specs.Stripes.{states_of}
use Rattle.raid_label.specs.declared.label.Label.{Label}
use Rattle.top_acts.specs.Mapped.{unmarked}
use Rattle.top_close.specs.Stage.{DiesIn}
use Rattle.top_run.specs.Effect.{answer_of, request_of}
use Rattle.top_run.specs.Ran.{WasInSync}
use Rattle.top_run.specs.Work.{Service, Work}
use Rattle.top_run.specs.Works.{service_seen, work_of}
use Rattle.top_run.proofs.Effect.{took-effect}
use Rattle.top_run.proofs.InTurnSame.{decode-same}
use Rattle.top_labelled.specs.declared.labelled.Labelled.{Labelled}
use Rattle.top_labelled.specs.declared.labelled.Outcome.{Outcome}
use Rattle.top_labelled.specs.declared.labelled.Outcome.TheVariants as outcome
use Rattle.top_labelled.specs.Begun.{IsAnew, is_kept, opened_as, sweeps_in, without}
use Rattle.top_labelled.specs.Effect.{TakesEffectBegun, TookEffect}
use Rattle.top_labelled.specs.Given.{CameTo}
use Rattle.top_labelled.specs.Ran.{RanLabelled}
use Rattle.top_labelled.specs.Words.{notice_in}
use Rattle.top_labelled.proofs.Looking.{begins-dies}
use Rattle.top_labelled.proofs.Without.{without-dies}

module _ {D : Type 0} (g : DiskGhosts D) (a : Work) (newest : Label) (taken : List (Option D)) (s : Service) (back : List (Option D)) (faulty map : Bool) (r : RanLabelled g a newest taken s back faulty map) where
  abbrev columns : List Column
  columns = without a.start r.begun

  abbrev late : List ColumnState
  late = states_of a.layout columns

  -- ## Columns

  died : Dies (DiesIn g None a.columns taken r.opened) a.columns r.begun
  died = begins-dies g a.layout (notice_in (is_kept map newest) r.begins.marks) (sweeps_in newest r.begins.union) (unmarked a.layout.stripes newest.serial) r.begins.union newest r.first a.columns r.begins.read r.begun taken r.begins.looked r.opened None r.begins.found
      r.begins.unread r.begins.looks r.begins.has

  named : Dies (IsAnew a.start) r.begun columns
  named = without-dies a.start r.begun

  was-or-dead : (c : ℕ) → (slice_get columns c ≡ slice_get a.columns c) ⊎ (slice_get columns c ≡ Some column.Dead)
  was-or-dead c = elim (named.each c) [
    | inr dead ↦ inr dead.0
    | inl same ↦ elim (died.each c) [
      | inr dead ↦ inr (same ∙ dead.0)
      | inl was ↦ inl (same ∙ was)
    ]
  ]

  -- ## What is held

  -- the devices mean the blocks of the opening
  opened-is : g.tells → (b k : ℕ) → b < blocks_in a.layout → k < 512 → decode a.layout (contents_of g r.opened) late b k ≡ r.run.start.blocks b k
  opened-is tells b k bl kl =
      sym (r.run.opens.opening.decoded b k bl kl
      ∙ (ap (λ (cols : List ColumnState). decode a.layout r.run.start.contents cols b k) r.run.opens.columns
      ∙ decode-same a.layout r.run.start.contents (contents_of g r.opened) late (λ d n j jl. r.run.opens.contents tells d n j jl) b k kl))

  pub begun-effect : TakesEffectBegun g (request_of a) taken back (answer_of s)
  begun-effect = record {
    begun = r.opened;
    columns = columns;
    count = named.count ∙ died.count;
    dies = was-or-dead;
    fits = λ tells fit. r.holds.in_sync tells (inl fit);
    same = λ tells fit b k bl kl. opened-is tells b k bl kl ∙ r.holds.same tells fit b k bl kl;
    effect = took-effect g (opened_as a columns r.began) r.opened s back r.run;
  }

-- of whatever came
pub effect-of : {L D : Type 0} (lay : LayoutGhosts L) (disk : DiskGhosts D) (l : Labelled L D) (o : Outcome) (back : List (Option D)) → CameTo lay disk l o back → TookEffect lay disk l o back
effect-of lay disk l (outcome.Ran service) back came = begun-effect disk (work_of lay l.setup l.start) l.label l.setup.devices.items (service_seen service) back l.failed l.map came
effect-of lay disk l (outcome.Lost ending) back came = tt
