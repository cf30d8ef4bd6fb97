-- The devices as a job comes home.
use Rattle.std.specs.Prelude.{List, Option, Some, None}
use Rattle.eng_cols.specs.declared.spot.Spot.{Spot}
use Rattle.eng_job.specs.declared.job.Work.{Work}
use Rattle.eng_job.specs.declared.job.Work.TheVariants.{Nothing, Read, Write, Sum}
use Rattle.eng_parts.specs.Shelf.{Seen, Shelved, come_home}

module _ {D : Type 0} where
  -- the device that a job has with it
  abbrev pub device_in : Work D → Option D
  device_in Nothing = None
  device_in (Read disk first buffer count) = Some disk
  device_in (Write disk first buffer count) = Some disk
  device_in (Sum target count) = None

  -- what is at each slot as this device comes home, from where the unit of its node stood
  abbrev pub slots_home : Option D → Option Spot → Shelved D → List (Option (Seen D))
  slots_home None at s = s.slots
  slots_home (Some x) None s = s.slots
  slots_home (Some x) (Some at) s = (come_home s at.device x).slots
