-- What tests know of a setup that is to be served.
use Rattle.std.specs.Prelude.{ℕ}
use Rattle.blk_disk.specs.declared.disk.Disk.{Ghosts as DiskGhosts}
use Rattle.lay_core.specs.declared.layout.Layout.{Ghosts as LayoutGhosts}
use Rattle.eng_parts.specs.declared.setup.Setup.{Setup}
use Rattle.eng_events.specs.Opened.{IsSetup}
use Rattle.eng_array.specs.Fitting.{FitsTrace}
use Rattle.eng_array.specs.declared.start.Start.TheVariants as start
use Rattle.top_serve.specs.Setups.{IsFew, IsNotLost, MayRebuild}

-- all that is asked of it
pub record IsReadyToServe {L D : Type 0} (lay : LayoutGhosts L) (disk : DiskGhosts D) (setup : Setup L D) : Type 0 where
  pub may : IsSetup lay disk setup
  pub few : IsFew setup
  pub trace : FitsTrace lay setup

-- and its second column may be rebuilt onto its second device, so many stripes at most
pub record IsDegraded {L D : Type 0} (lay : LayoutGhosts L) (disk : DiskGhosts D) (setup : Setup L D) : Type 0 where
  pub ready : IsReadyToServe lay disk setup
  pub kept : IsNotLost lay setup
  pub may : (most : ℕ) → MayRebuild lay disk setup (start.Fill 1 1 most)

-- or the rebuild of its second column may go on
pub record IsPaused {L D : Type 0} (lay : LayoutGhosts L) (disk : DiskGhosts D) (setup : Setup L D) : Type 0 where
  pub ready : IsReadyToServe lay disk setup
  pub kept : IsNotLost lay setup
  pub may : (most : ℕ) → MayRebuild lay disk setup (start.Resume 1 most)
