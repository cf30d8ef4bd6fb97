-- Runs of equal sectors.
use Rattle.std.specs.Prelude.{◌≡◌, ◌≢◌, ℕ, ◌+◌, ◌<◌, List, [], ◌∷◌, All, replicate, flat_map, bytes_eq, if◌then◌else◌}

-- so many sectors of these bytes
pub record SectorRun : Type 0 where
  pub sector : List ℕ
  pub count : ℕ

-- the maximal runs of equal sectors that follow one another
abbrev pub runs : List (List ℕ) → List SectorRun
runs [] = []
runs (sector ∷ sectors) = elim (runs sectors) [
  | [] ↦ record { sector = sector; count = 1 } ∷ []
  | first ∷ others ↦ if bytes_eq sector first.sector
      then record { sector = sector; count = first.count + 1 } ∷ others
      else record { sector = sector; count = 1 } ∷ first ∷ others
]

-- the run doesn't go on in the first of these
abbrev pub EndsBefore : SectorRun → List SectorRun → Type 0
EndsBefore run [] = Unit {0}
EndsBefore run (next ∷ others) = run.sector ≢ next.sector

-- no run goes on in the next one
abbrev pub AreApart : List SectorRun → Type 0
AreApart [] = Unit {0}
AreApart (run ∷ others) = EndsBefore run others × AreApart others

-- These are the maximal runs of the sectors: one behind the other they are the sectors, each has
-- a sector, and none goes on in the next one.
pub record AreRuns (sectors : List (List ℕ)) (all : List SectorRun) : Type 0 where
  pub whole : flat_map (λ run. replicate run.count run.sector) all ≡ sectors
  pub some : All (λ run. 0 < run.count) all
  pub apart : AreApart all
