-- Words that proofs go by, for what the specifications spell out.
use Rattle.std.specs.Prelude.{ℕ, ◌+◌, ◌*◌, Bool, ◌-◌, min, if◌then◌else◌}
use Rattle.blk_disk.specs.declared.disk.Call.{Call}
use Rattle.lay_core.specs.Layout.{Shape}
use Rattle.eng_cols.specs.declared.spot.Spot.{Spot}
use Rattle.raid_recon.specs.declared.ahead.Rows.{Rows}
use Rattle.raid_recon.specs.Ahead.{is_at_hand}

-- how many rows a call reads that begins with this one: so many, as far as there are
abbrev pub rows_from : Shape → ℕ → ℕ → ℕ
rows_from y most row = min most (y.rows - row)

-- the call by which a unit is read that isn't at hand, with the rows behind it
abbrev pub ahead_call : Shape → ℕ → Spot → Bool → Call
ahead_call y most at good = record { kind = 0; first = 64 + at.row * y.unit_sectors; count = rows_from y most at.row * y.unit_sectors; good = good }

-- the rows of a device behind the read of a unit that stands on it: what was at hand stays where the unit was at hand; else the rows are those that were read, and none where that failed
abbrev pub rows_read : Shape → ℕ → ℕ → Bool → Rows → Rows
rows_read y most row good rows =
    if is_at_hand rows row then rows
    else record { first = row; end = row + (if good then min most (y.rows - row) else 0) }
