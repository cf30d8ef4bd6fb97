-- What was admitted.
use Rattle.std.specs.Prelude.{◌≡◌}
use Rattle.blk_disk.specs.declared.disk.Disk.{Ghosts}
use Rattle.top_bay.specs.Views.{IsWithinLimits, asked_seen}
use Rattle.top_duty.specs.declared.admitting.Admitted.{Admitted}
use Rattle.top_duty.specs.Opening.{sizes_of}
use Rattle.top_duty.specs.Views.{IsDutyOver, IsFitFor}

-- What is asked for lies within the limits. The sizes are those of the devices. What is to be done is what the action makes of the array, by sizes and fronts; and an array that something is done with is fit for it.
pub record IsAdmitted {D : Type 0} (g : Ghosts D) (a : Admitted D) : Type 0 where
  pub within : IsWithinLimits (asked_seen a.asked)
  pub sizes : a.sizes.items ≡ sizes_of g.size a.devices.items
  pub duty : IsDutyOver (asked_seen a.asked) (sizes_of g.size a.devices.items) a.fronts.items a.duty
  pub fit : IsFitFor g (asked_seen a.asked) a.devices.items a.duty
