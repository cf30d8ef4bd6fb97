-- What the functions that write a label, or read one, have of it piece by piece; Bytes says it
-- in one.
use Rattle.std.specs.Prelude.{ℕ, ◌==◌, ◌&&◌, Bool, List, [], ◌∷◌, codes, ◌||◌, not, ◌++◌, drop, nat_le, Option, Some, None, if◌then◌else◌}
use Rattle.raid_label.specs.declared.label.Label.{Label}
use Rattle.raid_label.specs.Bytes.{word_at}
use Rattle.std.specs.List.{list_all}
use Rattle.std.specs.Int.{w32, to_le_bytes}
use Rattle.raid_label.specs.declared.fault.LabelFault.{LabelFault}
use Rattle.raid_label.specs.declared.fault.LabelFault.TheVariants.{Shape}
use Rattle.std.specs.Option.{option_or}

-- the eight bytes with which a label begins
abbrev pub magic : List ℕ
magic = codes "RFLABEL1"

-- its numbers, in their order
abbrev pub words_of : Label → List ℕ
words_of l = l.version ∷ l.serial ∷ l.counter ∷ l.column ∷ l.columns ∷ l.unit ∷ l.rows ∷ l.level ∷ l.clean ∷ l.b ∷ l.k ∷ l.r ∷ l.lambda ∷ []

-- the two of the column that is filling
abbrev pub filling_of : Label → List ℕ
filling_of l = l.filling ∷ l.done ∷ []

-- no byte but 0 stands from there on
abbrev pub has_zeros : List ℕ → ℕ → Bool
has_zeros sector at = list_all (λ b. b == 0) (drop at sector)

-- in version 1 zeros stand behind the seats
abbrev pub is_first : List ℕ → Bool
is_first sector = word_at sector 8 == 1 && has_zeros sector 92

-- the two numbers name a column that there is, or none, of which no stripe is done then
unfoldable pub names_filling : List ℕ → Bool
names_filling sector = nat_le (word_at sector 92) (word_at sector 24) && (not (word_at sector 92 == 0) || word_at sector 96 == 0)

-- in version 2 the two numbers, and zeros behind them
abbrev pub is_second : List ℕ → Bool
is_second sector = (word_at sector 8 == 2 && names_filling sector) && has_zeros sector 100

-- numbers in four bytes each, the lowest first
abbrev pub bytes_of_words : List ℕ → List ℕ
bytes_of_words [] = []
bytes_of_words (n ∷ ns) = to_le_bytes w32 n ++ bytes_of_words ns

-- a fault where the two numbers differ
abbrev pub fault_unless_same : (ℕ → ℕ → LabelFault) → ℕ → ℕ → Option LabelFault
fault_unless_same fault found wanted = if found == wanted then None else Some (fault found wanted)

-- the first number of the array's shape that differs: columns, unit, level, the four of the design, rows
unfoldable pub shape_fault : Label → Label → Option LabelFault
shape_fault l w =
    option_or (fault_unless_same Shape l.columns w.columns)
    (option_or (fault_unless_same Shape l.unit w.unit)
    (option_or (fault_unless_same Shape l.level w.level)
    (option_or (fault_unless_same Shape l.b w.b)
    (option_or (fault_unless_same Shape l.k w.k)
    (option_or (fault_unless_same Shape l.r w.r)
    (option_or (fault_unless_same Shape l.lambda w.lambda)
    (fault_unless_same Shape l.rows w.rows)))))))
