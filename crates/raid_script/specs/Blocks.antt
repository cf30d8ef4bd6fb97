-- The lines of the blocks that a read replied.
use Rattle.std.specs.Prelude.{ℕ, ◌+◌, List, [], ◌∷◌, ◌++◌, codes, decimal}
use Rattle.hex.specs.Hex.{encode_lower}
use Rattle.put_line.specs.Line.{line}
use Rattle.raid_script.specs.Repetition.{shortest}
use Rattle.raid_script.specs.Runs.{SectorRun, runs}

-- the lines of runs, block FIRST COUNT HEX, of which the first begins at this block and each other
-- one behind the one before it
abbrev pub run_lines : ℕ → List SectorRun → List ℕ
run_lines first [] = []
run_lines first (run ∷ others) =
    line (codes "block " ∷ decimal first ∷ codes " " ∷ decimal run.count ∷ codes " "
    ∷ encode_lower (shortest run.sector) ∷ codes "\n" ∷ [])
    ++ run_lines (first + run.count) others

-- the lines of sectors, the first of which is this block's
abbrev pub blocks_text : ℕ → List (List ℕ) → List ℕ
blocks_text first sectors = run_lines first (runs sectors)
