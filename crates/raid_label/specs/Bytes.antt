-- What a label is in the bytes of sector 0.
use Rattle.std.specs.Prelude.{◌≡◌, ◌⊎◌, ℕ, ◌^◌, ◌<◌, ◌≤◌, ◌==◌, ◌&&◌, ◌||◌, not, Bool, List, [], ◌∷◌, ◌++◌, flat_map, take, drop, length, replicate, codes, Option, Some, None, if◌then◌else◌, nat_le, slice_index}
use Rattle.std.specs.List.{list_all}
use Rattle.std.specs.Str.{bytes_eq}
use Rattle.std.specs.Int.{w32, from_le_bytes, to_le_bytes}
use Rattle.raid_label.specs.declared.label.Label.{Label}

-- the 512 bytes of a label: the eight with which each begins, its numbers, a byte for each seat,
-- the two numbers of the column that is filling, zeros; a number takes four bytes, the lowest first
unfoldable pub bytes_of : Label → List ℕ
bytes_of l =
    codes "RFLABEL1"
    ++ (flat_map (to_le_bytes w32) (l.version ∷ l.serial ∷ l.counter ∷ l.column ∷ l.columns ∷ l.unit ∷ l.rows
    ∷ l.level ∷ l.clean ∷ l.b ∷ l.k ∷ l.r ∷ l.lambda ∷ [])
    ++ (l.seats ++ (flat_map (to_le_bytes w32) (l.filling ∷ l.done ∷ []) ++ replicate 412 0)))

-- What a well-formed sector may hold: it is of version 1 or 2, the column that is filling, where one is named, is one of the columns, and where none is no stripe is done.
pub record IsHeld (l : Label) : Type 0 where
  pub version : (l.version ≡ 1) ⊎ (l.version ≡ 2)
  pub clean : l.clean ≤ 1
  pub filling : l.filling ≤ l.columns
  pub done : l.filling ≡ 0 → l.done ≡ 0
  pub first : l.version ≡ 1 → l.filling ≡ 0

-- the number that stands at a place
unfoldable pub word_at : List ℕ → ℕ → ℕ
word_at sector at = from_le_bytes w32 (take 4 (drop at sector))

-- what the fields of a label hold, whether the sector is well formed or not
unfoldable pub fields_of : List ℕ → Label
fields_of sector = record {
  version = word_at sector 8;
  serial = word_at sector 12;
  counter = word_at sector 16;
  column = word_at sector 20;
  columns = word_at sector 24;
  unit = word_at sector 28;
  rows = word_at sector 32;
  level = word_at sector 36;
  clean = word_at sector 40;
  b = word_at sector 44;
  k = word_at sector 48;
  r = word_at sector 52;
  lambda = word_at sector 56;
  seats = take 32 (drop 60 sector);
  filling = word_at sector 92;
  done = word_at sector 96;
}

-- the eight bytes are right
unfoldable pub has_magic : List ℕ → Bool
has_magic sector = bytes_eq (take 8 sector) (codes "RFLABEL1")

-- The eight bytes, a clean field of 0 or 1, and what stands behind the seats by the version are as
-- they are to be: in version 1 zeros; in version 2 the two numbers, which name a column that there
-- is, or none, of which no stripe is done then, and zeros behind them.
unfoldable pub is_well_formed : List ℕ → Bool
is_well_formed sector = (has_magic sector && nat_le (word_at sector 40) 1)
    && ((word_at sector 8 == 1 && list_all (λ b. b == 0) (drop 92 sector))
    || ((word_at sector 8 == 2 && (nat_le (word_at sector 92) (word_at sector 24)
    && (not (word_at sector 92 == 0) || word_at sector 96 == 0)))
    && list_all (λ b. b == 0) (drop 100 sector)))

-- the label that a sector holds, if it is well formed
unfoldable pub label_in : List ℕ → Option Label
label_in sector = if is_well_formed sector then Some (fields_of sector) else None

-- the version that is found where the eight bytes are right, else 1
unfoldable pub version_in : List ℕ → ℕ
version_in sector = if has_magic sector then word_at sector 8 else 1

-- 512 bytes
pub record IsSector (sector : List ℕ) : Type 0 where
  pub long : length sector ≡ 512
  pub bytes : (i : ℕ) → slice_index sector i < 256

-- numbers of 32 bits, and 32 seats of a byte
pub record IsInRange (l : Label) : Type 0 where
  pub version : l.version < 2 ^ 32
  pub serial : l.serial < 2 ^ 32
  pub counter : l.counter < 2 ^ 32
  pub column : l.column < 2 ^ 32
  pub columns : l.columns < 2 ^ 32
  pub unit : l.unit < 2 ^ 32
  pub rows : l.rows < 2 ^ 32
  pub level : l.level < 2 ^ 32
  pub clean : l.clean < 2 ^ 32
  pub b : l.b < 2 ^ 32
  pub k : l.k < 2 ^ 32
  pub r : l.r < 2 ^ 32
  pub lambda : l.lambda < 2 ^ 32
  pub seats : length l.seats ≡ 32
  pub filling : l.filling < 2 ^ 32
  pub done : l.done < 2 ^ 32
