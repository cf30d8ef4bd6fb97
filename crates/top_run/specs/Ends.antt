-- How what was served comes to its end.
use Rattle.std.specs.Prelude.{◌≡◌, ◌⊎◌, ◌≤◌, ℕ, true, List, length, Option, None, count_by}
use Rattle.blk_disk.specs.declared.disk.Disk.{Ghosts as DiskGhosts}
use Rattle.blk_disk.specs.Devices.{Changes, calls_of}
use Rattle.lay_core.specs.Layout.{IsLayout}
use Rattle.lay_core.specs.declared.layout.Layout.{Ghosts as LayoutGhosts}
use Rattle.eng_cols.specs.Cols.{is_set_filling, is_set_spread, HasDeviceOn}
use Rattle.eng_cols.specs.Deaths.{Dies, LosesDevice}
use Rattle.eng_parts.specs.declared.setup.Closed.{Closed}
use Rattle.top_close.specs.Calls.{EndsSettled}
use Rattle.top_close.specs.Reserved.{IsReserved}
use Rattle.top_close.specs.Settled.{HaveDevices, AreSettled}
use Rattle.eng_cols.specs.Stripes.{states_of}
use Rattle.top_close.specs.Ended.{IsLossBy}
use Rattle.top_close.specs.Stage.{IsGivenUp, IsGivenUpIn}
use Rattle.top_run.specs.Work.{Service}
use Rattle.top_run.specs.Works.{service_of}

module _ {L D : Type 0} (lay : LayoutGhosts L) (closed : Closed L D) where
  -- What was served can be ended: the device of each column is there and no other's, there is an entry for each column, at most one is filling, and at most one is spread.
  pub record CanBeEnded : Type 0 where
    pub devices : HaveDevices closed.columns.items closed.devices.items
    pub columns : length closed.columns.items ≡ (lay.shape closed.layout).columns
    pub filling : count_by is_set_filling closed.columns.items ≤ 1
    pub spread : count_by is_set_spread closed.columns.items ≤ 1

  -- What was served has ended, over a layout that has its laws: what is told but for columns and loss is what was handed back, and nothing of a rebuild; the devices in use are settled; and the loss is that of before, or else of the columns in the end.
  pub record RunIsEnded (disk : DiskGhosts D) (s : Service) (back : List (Option D)) : Type 0 where
    pub law : IsLayout (lay.shape closed.layout)
    pub told : s ≡ service_of closed None s.ending
    pub settled : AreSettled disk (length closed.columns.items) closed.columns.items s.ending.columns closed.devices.items back
    pub last : (c d : ℕ) → HasDeviceOn s.ending.columns c d → EndsSettled (calls_of disk back d)
    pub lost : IsLossBy (lay.shape closed.layout) closed.lost (states_of (lay.shape closed.layout) s.ending.columns) s.ending.lost

  -- What was served has ended, whatever its end has called and written into the sectors of labels and maps: what is told but for columns, loss and a rebuild is what was handed back; no other sector has changed; a column has died where its device's count of faults rose, or where it was filling and the array is lost, and of a lost array none is filling in the end; and the loss is that of before, or else of the columns in the end.
  pub record EndsSo (disk : DiskGhosts D) (s : Service) (back : List (Option D)) : Type 0 where
    pub told : s ≡ service_of closed s.line s.ending
    pub frame : Changes disk (λ d n. IsReserved true n) closed.devices.items back
    pub dies : Dies (λ c. LosesDevice disk closed.columns.items closed.devices.items back c ⊎ IsGivenUp s.ending.lost closed.columns.items c) closed.columns.items s.ending.columns
    pub given_up : IsGivenUpIn s.ending.lost s.ending.columns
    pub lost : IsLossBy (lay.shape closed.layout) closed.lost (states_of (lay.shape closed.layout) s.ending.columns) s.ending.lost
