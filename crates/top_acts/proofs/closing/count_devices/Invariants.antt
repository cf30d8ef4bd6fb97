use Rattle.std.proofs.Common.{◌≡◌, ◌≤◌, take}
use Rattle.top_close.specs.Stage.{device_count}
use Rattle.top_acts.proofs.closing.count_devices.Given as goal

-- those so far are counted
abbrev pub invariant-loop-column : goal.invariant-loop-column
invariant-loop-column l = (l.count ≡ device_count (take l.column-index l.columns)) × (l.count ≤ l.column-index)
