-- What the labels of an array say of its columns in the end.
use Rattle.std.specs.Prelude.{◌≡◌, List, Bool, Option}
use Rattle.std.specs.Str.{bytes_eq}
use Rattle.blk_disk.specs.declared.disk.Disk.{Ghosts}
use Rattle.eng_cols.specs.declared.column.Column.{Column}
use Rattle.eng_cols.specs.declared.spot.Loss.{Loss}
use Rattle.eng_cols.specs.Deaths.{Dies, LosesDevice}
use Rattle.raid_label.specs.declared.label.Label.{Label}
use Rattle.top_rounds.specs.Labels.{seating_in, seating_of, seats_of}
use Rattle.top_close.specs.Stage.{DiesIn}

-- the label has the seats of these columns
abbrev pub names : Label → List Column → Bool
names label columns = bytes_eq label.seats (seats_of columns)

module _ {D : Type 0} (g : Ghosts D) where
  -- The label says what the columns were with which the last round began: since `columns` some had died, or were given up where the array is lost, and some may have died since whose devices failed.
  pub record HasSeats (lost : Option Loss) (next : Label) (columns after : List Column) (old new : List (Option D)) : Type 0 where
    pub round : List Column
    pub seating : seating_in next ≡ seating_of round
    pub came : Dies (DiesIn g lost columns old new) columns round
    pub went : Dies (LosesDevice g columns old new) round after
