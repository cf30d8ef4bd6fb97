-- What a run means, by the devices as they are put back.
use Rattle.std.proofs.Common.{◌≡◌, List, Option, None, arith}
use Rattle.blk_plain.specs.declared.op.Op.{Op}
use Rattle.blk_disk.specs.declared.disk.Disk.{Ghosts as DiskGhosts}
use Rattle.blk_disk.specs.Devices.{contents_of}
use Rattle.lay_core.specs.Layout.{Shape}
use Rattle.lay_core.specs.declared.layout.Layout.{Ghosts as LayoutGhosts}
use Rattle.eng_cols.specs.Contents.{Agrees, AnyStripe}
use Rattle.eng_world.specs.Legal.{AreOps}
use Rattle.eng_world.specs.Plain.{replay}
use Rattle.eng_cols.specs.Stripes.{states_of}
use Rattle.eng_events.specs.Opened.{IsSetup}
use Rattle.eng_parts.specs.declared.setup.Setup.{Setup}
use Rattle.eng_parts.specs.declared.setup.Closed.{Closed}
use Rattle.eng_array.specs.declared.start.Start.{Start}
use Rattle.top_close.proofs.DyingLaws.{columns_die, still_agrees, agrees_by_devices}
use Rattle.top_serve.specs.Served as served
use Rattle.top_run.specs.Work.{Service}
use Rattle.top_run.specs.Works.{work_of}
use Rattle.top_run.specs.Ends.{EndsSo}
use Rattle.top_run.specs.Ran.{WasInSync, Means}
use Rattle.top_run.proofs.AtEnd.{same-contents, unlost}
use Rattle.top_run.proofs.Columns.{ending-apart, one-closed}

module _ {L D : Type 0} (lay : LayoutGhosts L) (disk : DiskGhosts D) (setup : Setup L D) (how : Option Start) (closed : Closed L D) (given : IsSetup lay disk setup) (s : served.IsServed lay disk setup how closed) (v : Service) (back : List (Option D)) (e : EndsSo lay closed disk v back) where
  abbrev y : Shape
  y = lay.shape setup.layout

  agrees : disk.tells → WasInSync disk (work_of lay setup how) setup.devices.items → v.ending.lost ≡ None → (ops : List Op) × AreOps s.now s.now.history ops
      × Agrees y (contents_of disk back) (states_of y v.ending.columns) (replay s.start.blocks ops) AnyStripe
  agrees tells sync none =
      let was = s.leaves.agrees tells sync (unlost lay disk setup how closed given s v back e none) in
      let blocks = replay s.start.blocks was.0 in
      let dead = still_agrees y (states_of y closed.columns.items) (states_of y v.ending.columns) (columns_die _ y closed.columns.items v.ending.columns e.dies (ending-apart lay disk setup how closed given s v back e) (one-closed lay disk setup how closed given s)) (contents_of disk closed.devices.items) blocks AnyStripe was.2 in
      (was.0, was.1, agrees_by_devices y (contents_of disk closed.devices.items) (contents_of disk back) (states_of y v.ending.columns) blocks AnyStripe (λ c d n k has from. same-contents lay disk setup how closed given s v back e tells d n k from) dead)

  pub means : Means disk (work_of lay setup how) setup.devices.items v back s.start s.now
  means = record { legal = s.means.legal; fits = s.means.fits; agrees = agrees }
