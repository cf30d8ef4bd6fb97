-- What clients get of an array that is begun first, and what its devices hold.
use Rattle.std.specs.Prelude.{◌≡◌, ◌⊎◌, ◌<◌, ℕ, List, Option, Some, length, slice_get}
use Rattle.blk_disk.specs.declared.disk.Disk.{Ghosts as DiskGhosts}
use Rattle.blk_disk.specs.Devices.{contents_of}
use Rattle.lay_core.specs.Layout.{blocks_in}
use Rattle.lay_core.specs.declared.layout.Layout.{Ghosts as LayoutGhosts}
use Rattle.eng_cols.specs.declared.column.Column.{Column}
use Rattle.eng_cols.specs.declared.column.Column.TheVariants as column
use Rattle.eng_cols.specs.Contents.{InSync, decode}
use Rattle.eng_cols.specs.Stripes.{states_of}
use Rattle.run_effect.specs.Effect.{Answer, Request, TakesEffect, WasFit, held}
use Rattle.top_run.specs.Effect.{answer_of, request_of}
use Rattle.top_run.specs.Works.{service_seen, work_of}
use Rattle.top_labelled.specs.declared.labelled.Labelled.{Labelled}
use Rattle.top_labelled.specs.declared.labelled.Outcome.{Outcome}
use Rattle.top_labelled.specs.declared.labelled.Outcome.TheVariants as outcome

-- The array was begun, which left these devices and columns: a column is what it was, or has died. Where the check units fitted the data before, they do then, and the devices mean the blocks that they meant. On these each operation takes its effect.
pub record TakesEffectBegun {D : Type 0} (g : DiskGhosts D) (a : Request) (taken back : List (Option D)) (s : Answer) : Type 0 where
  pub begun : List (Option D)
  pub columns : List Column
  pub count : length columns ≡ length a.columns
  pub dies : (c : ℕ) → (slice_get columns c ≡ slice_get a.columns c) ⊎ (slice_get columns c ≡ Some column.Dead)
  pub fits : g.tells → WasFit g a taken back s → InSync a.layout (contents_of g begun) (states_of a.layout columns)
  pub same : g.tells → WasFit g a taken back s → (b k : ℕ) → b < blocks_in a.layout → k < 512
      → decode a.layout (contents_of g begun) (states_of a.layout columns) b k ≡ held g a taken back s b k
  pub effect : TakesEffect g (record a { columns = columns }) begun back s

-- what came of the clients, where they were served
abbrev pub TookEffect : {L D : Type 0} → LayoutGhosts L → DiskGhosts D → Labelled L D → Outcome → List (Option D) → Type 0
TookEffect lay disk l (outcome.Ran service) back = TakesEffectBegun disk (request_of (work_of lay l.setup l.start)) l.setup.devices.items back (answer_of (service_seen service))
TookEffect lay disk l (outcome.Lost ending) back = Unit {0}
