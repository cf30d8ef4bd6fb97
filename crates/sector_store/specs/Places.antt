-- The places of sectors among those that are kept.
use Rattle.std.specs.Prelude.{◌≡◌, ◌≢◌, ◌<◌, ◌≤◌, ◌+◌, ◌*◌, ◌⊎◌, ℕ, List, [], length, slice_index, slice_index_or}

-- the bytes that are kept at a place
abbrev pub kept_at : List (List ℕ) → ℕ → List ℕ
kept_at kept p = slice_index_or kept p []

-- each of them has those of one sector
abbrev pub AreWhole : List (List ℕ) → Type 0
AreWhole kept = (p : ℕ) → p < length kept → length (kept_at kept p) ≡ 512

-- Each of so many sectors has a place. One behind the first places, of which there are as many as sectors and one more, is that sector's alone, by its number; and there is room for each of these.
pub record AreKept (kept : List (List ℕ)) (places : List ℕ) (capacity : ℕ) : Type 0 where
  pub most : length places ≤ 262144
  pub some : 0 < length kept
  pub few : length kept ≤ 2 * length places + 1
  pub whole : AreWhole kept
  pub there : (i : ℕ) → i < length places → slice_index places i < length kept
  pub own : (i : ℕ) → i < length places → (slice_index places i ≤ length places) ⊎ (slice_index places i ≡ length places + 1 + i)
  pub room : 2 * length places + 1 ≤ capacity

-- the bytes of a sector are kept at this place, and all others as they were
pub record Keeps (old : List (List ℕ)) (sector : List ℕ) (new : List (List ℕ)) (place : ℕ) : Type 0 where
  pub whole : AreWhole new
  pub longer : length old ≤ length new
  pub there : place < length new
  pub bytes : kept_at new place ≡ sector
  pub rest : (p : ℕ) → p < length old → p ≢ place → kept_at new p ≡ kept_at old p

-- The bytes of sector `at` of so many are kept: at one of the first places, or at its own behind them. What is kept at any other but that is as it was.
pub record KeepsApart (count at : ℕ) (old : List (List ℕ)) (sector : List ℕ) (new : List (List ℕ)) (place : ℕ) : Type 0 where
  pub whole : AreWhole new
  pub longer : length old ≤ length new
  pub there : place < length new
  pub bytes : kept_at new place ≡ sector
  pub rest : (p : ℕ) → p < length old → p ≢ count + 1 + at → kept_at new p ≡ kept_at old p
  pub own : (place ≤ count) ⊎ (place ≡ count + 1 + at)
