-- What is told of a layout, line by line.
use Rattle.std.specs.Prelude.{ℕ, ◌+◌, ◌-◌, ◌==◌, ◌&&◌, List, [], ◌∷◌, ◌++◌, Option, Some, None, codes, decimal, flat_map, if◌then◌else◌}
use Rattle.std.specs.List.{range_with_len}
use Rattle.lay_core.specs.Layout.{Shape, data_units, block_of, blocks_in}
use Rattle.lay_core.specs.declared.place.Place.{Place}
use Rattle.put_line.specs.Line.{line}
use Rattle.top_layout.specs.Costs.{write_reads, write_writes}
use Rattle.top_layout.specs.Tallies.{tally_of}
use Rattle.top_layout.specs.declared.tally.Tally.TheVariants as tally

-- its numbers
unfoldable pub head_line : ℕ → Shape → List ℕ
head_line level y = line
    (codes "layout " ∷ (level ∷ []) ∷ codes " columns " ∷ decimal y.columns
    ∷ codes " width " ∷ decimal y.width ∷ codes " data " ∷ decimal (data_units y)
    ∷ codes " unit " ∷ decimal y.unit_sectors ∷ codes " rows " ∷ decimal y.rows
    ∷ codes " stripes " ∷ decimal y.stripes ∷ codes " blocks " ∷ decimal (blocks_in y) ∷ codes "\n" ∷ [])

-- ## Where units stand

-- a data unit: its place, and the first of its blocks
unfoldable pub data_line : ℕ → ℕ → Place → ℕ → List ℕ
data_line s i p block = line
    (codes "stripe " ∷ decimal s ∷ codes " unit " ∷ decimal i ∷ codes " column " ∷ decimal p.column
    ∷ codes " row " ∷ decimal p.row ∷ codes " block " ∷ decimal block ∷ codes "\n" ∷ [])

-- a check unit, or a spare place
unfoldable pub other_line : ℕ → List ℕ → Place → List ℕ
other_line s word p = line
    (codes "stripe " ∷ decimal s ∷ word ∷ codes " column " ∷ decimal p.column
    ∷ codes " row " ∷ decimal p.row ∷ codes "\n" ∷ [])

-- the data units of a stripe
unfoldable pub units_text : Shape → ℕ → List ℕ
units_text y s = flat_map (λ i. data_line s i (y.place s i) (block_of y s i 0)) (range_with_len 0 (data_units y))

-- its check unit, if it has one
unfoldable pub check_text : Shape → ℕ → List ℕ
check_text y s =
    if y.checks == 0 then [] else other_line s (codes " check") (y.place s (data_units y))

-- its spare place, if it has one
unfoldable pub spare_text : ℕ → Option Place → List ℕ
spare_text s None = []
spare_text s (Some p) = other_line s (codes " spare") p

unfoldable pub stripe_text : Shape → ℕ → List ℕ
stripe_text y s = units_text y s ++ (check_text y s ++ spare_text s (y.spare s))

unfoldable pub stripes_text : Shape → List ℕ
stripes_text y = flat_map (stripe_text y) (range_with_len 0 y.stripes)

-- ## What columns have

-- how many data units, check units and spare places lie on a column
unfoldable pub column_line : Shape → ℕ → List ℕ
column_line y c = line
    (codes "column " ∷ decimal c ∷ codes " data " ∷ decimal (tally_of y (tally.Data c))
    ∷ codes " check " ∷ decimal (tally_of y (tally.Check c))
    ∷ codes " spare " ∷ decimal (tally_of y (tally.Spare c)) ∷ codes "\n" ∷ [])

unfoldable pub columns_text : Shape → List ℕ
columns_text y = flat_map (column_line y) (range_with_len 0 y.columns)

-- ## What a rebuild loads

-- how many units a rebuild of column c reads on column d, and how many it writes there into spare places
unfoldable pub load_line : ℕ → ℕ → ℕ → ℕ → List ℕ
load_line c d reads writes = line
    (codes "rebuild " ∷ decimal c ∷ codes " column " ∷ decimal d ∷ codes " reads " ∷ decimal reads
    ∷ codes " writes " ∷ decimal writes ∷ codes "\n" ∷ [])

-- nothing is told of the column itself, or of one that has no part in it
unfoldable pub load_text : Shape → ℕ → ℕ → List ℕ
load_text y c d =
    if c == d then []
    else (if tally_of y (tally.Shared c d) == 0 && tally_of y (tally.Spared c d) == 0 then []
    else load_line c d (tally_of y (tally.Shared c d)) (tally_of y (tally.Spared c d)))

unfoldable pub loads_of : Shape → ℕ → List ℕ
loads_of y c = flat_map (load_text y c) (range_with_len 0 y.columns)

-- without check units nothing is rebuilt
unfoldable pub loads_text : Shape → List ℕ
loads_text y = if y.checks == 0 then [] else flat_map (loads_of y) (range_with_len 0 y.columns)

-- ## What operations cost

-- a write of m data units of one stripe
unfoldable pub write_line : Shape → ℕ → List ℕ
write_line y m = line
    (codes "write " ∷ decimal m ∷ codes " reads " ∷ decimal (write_reads y m)
    ∷ codes " writes " ∷ decimal (write_writes y m) ∷ codes "\n" ∷ [])

unfoldable pub writes_text : Shape → List ℕ
writes_text y = flat_map (λ i. write_line y (i + 1)) (range_with_len 0 (data_units y))

-- a read of a unit that is missing
unfoldable pub degraded_line : Shape → List ℕ
degraded_line y =
    if y.checks == 0 then [] else line (codes "degraded reads " ∷ decimal (y.width - 1) ∷ codes "\n" ∷ [])

-- ## All of it

-- the layout of a level, by its letter
unfoldable pub layout_text : ℕ → Shape → List ℕ
layout_text level y =
    head_line level y ++ (stripes_text y ++ (columns_text y ++ (loads_text y ++ (writes_text y ++ degraded_line y))))
