-- The exit number and the last line of a call of the program.
use Rattle.std.specs.Prelude.{ℕ, List, [], ◌∷◌, ◌++◌, Option, Some, None, codes, decimal, flat_map}
use Rattle.eng_cols.specs.declared.column.Column.{Column}
use Rattle.eng_cols.specs.declared.spot.Loss.{Loss}
use Rattle.top_status.specs.declared.status.Status.{Status}
use Rattle.top_status.specs.declared.status.Status.TheVariants as status
use Rattle.top_status.specs.Dead.{dead_columns, dead_text}

-- the number that the program ends with
abbrev pub exit_number : Status → ℕ
exit_number status.Ok = 0
exit_number (status.Usage case) = 1
exit_number (status.Conf line code) = 2
exit_number (status.Script line code) = 3
exit_number (status.GraphText line code) = 4
exit_number status.BayFault = 5
exit_number (status.NoFile name) = 6
exit_number status.SinkFault = 7
exit_number (status.Lost first second stripe) = 8
exit_number (status.Label column code found wanted) = 9
exit_number (status.Small column has needs) = 10
exit_number (status.NotInSync count) = 11
exit_number status.NoSpare = 12
exit_number (status.LongText name) = 13
exit_number status.NoRebuild = 14
exit_number (status.Rebuilding column) = 15
exit_number status.Memory = 70

-- status, a word and numbers, with a space before each number
unfoldable pub numbers_line : List ℕ → List ℕ → List ℕ
numbers_line word numbers = codes "status " ++ word ++ flat_map (λ number. codes " " ++ decimal number) numbers ++ codes "\n"

-- words and a name
unfoldable pub name_line : List ℕ → List ℕ → List ℕ
name_line front name = front ++ name ++ codes "\n"

-- the last line; a fault of the sink has none
abbrev pub status_text : Status → List ℕ
status_text status.Ok = numbers_line (codes "ok") []
status_text (status.Usage case) = numbers_line (codes "usage") (case ∷ [])
status_text (status.Conf line code) = numbers_line (codes "conf") (line ∷ code ∷ [])
status_text (status.Script line code) = numbers_line (codes "script") (line ∷ code ∷ [])
status_text (status.GraphText line code) = numbers_line (codes "graph") (line ∷ code ∷ [])
status_text status.BayFault = numbers_line (codes "bay") []
status_text (status.NoFile name) = name_line (codes "status nofile ") name
status_text status.SinkFault = []
status_text (status.Lost first second stripe) = numbers_line (codes "lost") (first ∷ second ∷ stripe ∷ [])
status_text (status.Label column code found wanted) = numbers_line (codes "label") (column ∷ code ∷ found ∷ wanted ∷ [])
status_text (status.Small column has needs) = numbers_line (codes "small") (column ∷ has ∷ needs ∷ [])
status_text (status.NotInSync count) = numbers_line (codes "parity") (count ∷ [])
status_text status.NoSpare = numbers_line (codes "nospare") []
status_text (status.LongText name) = name_line (codes "status long ") name
status_text status.NoRebuild = numbers_line (codes "norebuild") []
status_text (status.Rebuilding column) = numbers_line (codes "rebuilding") (column ∷ [])
status_text status.Memory = numbers_line (codes "memory") []

-- how a run ends that was lost by this, or wasn't
abbrev pub status_of_loss : Option Loss → Status
status_of_loss None = status.Ok
status_of_loss (Some loss) = status.Lost loss.first loss.second loss.stripe

-- what is printed at the end of a run: the columns that are dead in the end, and its status
abbrev pub ending_text : List Column → Status → List ℕ
ending_text columns status = dead_text (dead_columns columns) ++ status_text status
