-- Words that proofs go by, for what the specifications spell out.
use Rattle.std.specs.Prelude.{◌⊎◌, ℕ, List, Option, slice_get, ◌==◌, ◌&&◌, Bool, false}
use Rattle.blk_disk.specs.declared.disk.Call.{Call}
use Rattle.eng_cols.specs.declared.column.Column.{Column}
use Rattle.eng_cols.specs.declared.spot.Loss.{Loss}
use Rattle.top_rounds.specs.Calls.{WritesTo, WritesWell}
use Rattle.top_close.specs.Stage.{IsGivenUp}
use Rattle.top_rounds.specs.Passes.{IsKeptInUse}
use Rattle.eng_cols.specs.Cols.{has_device}

-- The device of column c had some call; of these all went well but the last, which did exactly where the column has it in the end. That of a column that was filling in a lost array isn't called in the last round: there all may have gone well, or there were none.
abbrev pub AreWritten : Option Loss → List Column → List Column → ℕ → Option (List Call) → Option (List Call) → Type 0
AreWritten lost columns after c before now = WritesTo (has_device (slice_get after c)) before now ⊎ (IsGivenUp lost columns c × WritesWell before now)

-- a write that begins at sector 0, whether it went well or not
abbrev pub is_label_write : Call → Bool
is_label_write call = (call.kind == 1) && (call.first == 0)

-- the sector of the label on the device of a column
abbrev pub IsFirstInUse : List Column → ℕ → ℕ → Type 0
IsFirstInUse columns d n = IsKeptInUse false columns d n
