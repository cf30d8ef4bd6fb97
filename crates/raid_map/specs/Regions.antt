-- The regions of a parity map, and the bytes in which it stands in sector 1 of a device.
use Rattle.std.specs.Prelude.{◌≡◌, ℕ, ◌+◌, ◌-◌, ◌*◌, ◌/◌, ◌%◌, ◌^◌, ◌<◌, ◌≤◌, ◌==◌, ◌&&◌, ◌||◌, Bool, false, List, length, codes, nat_lt, slice_index, slice_index_or, if◌then◌else◌}

-- how many stripes a region has, where there are so many stripes: a map has 3,968 bits
abbrev pub region_stripes : ℕ → ℕ
region_stripes stripes = (stripes + 3967) / 3968

-- the region in which a stripe lies: a map has 3,968 bits
abbrev pub region_of : ℕ → ℕ → ℕ
region_of stripes s = s / ((stripes + 3967) / 3968)

-- how many regions there are, where there is a stripe
abbrev pub regions_in : ℕ → ℕ
regions_in stripes = region_of stripes (stripes - 1) + 1

-- the number in the four bytes from this one on, the lowest first
abbrev pub number_at : (ℕ → ℕ) → ℕ → ℕ
number_at bytes at = bytes at + 256 * bytes (at + 1) + 65536 * bytes (at + 2) + 16777216 * bytes (at + 3)

-- the bit of region r
abbrev pub bit_at : (ℕ → ℕ) → ℕ → Bool
bit_at bytes r = ((bytes (16 + r / 8) / 2 ^ (r % 8)) % 2) == 1

-- the eight bytes with which a map begins
abbrev pub HasMagic : (ℕ → ℕ) → Type 0
HasMagic bytes = (k : ℕ) → k < 8 → bytes k ≡ slice_index (codes "RFPMAP01") k

-- The bytes are a well-formed map of the array of this serial and so many stripes, which marks these regions: eight bytes of magic, the serial, how many stripes a region has, and a bit for each region. The bits past the last region are 0.
pub record IsMap (serial stripes : ℕ) (marks : ℕ → Bool) (bytes : ℕ → ℕ) : Type 0 where
  pub magic : (k : ℕ) → k < 8 → bytes k ≡ slice_index (codes "RFPMAP01") k
  pub serial_is : number_at bytes 8 ≡ serial
  pub region_is : number_at bytes 12 ≡ (stripes + 3967) / 3968
  pub bits : (r : ℕ) → r < 3968
      → (((bytes (16 + r / 8) / 2 ^ (r % 8)) % 2) == 1) ≡ (nat_lt r (regions_in stripes) && marks r)

-- no region from this one on is marked
abbrev pub NonePast : ℕ → (ℕ → ℕ) → Type 0
NonePast from bytes = (r : ℕ) → from ≤ r → r < 3968 → bit_at bytes r ≡ false

-- ## A map as contracts see it

-- Of how many stripes and which array it is, and whether each of its regions is marked.
pub record Marks : Type 0 where
  pub stripes : ℕ
  pub serial : ℕ
  pub marks : List Bool

-- region r is marked
abbrev pub is_marked : List Bool → ℕ → Bool
is_marked marks r = slice_index_or marks r false

-- the bytes are this map
abbrev pub IsBytesOf : Marks → List ℕ → Type 0
IsBytesOf m sector = IsMap m.serial m.stripes (is_marked m.marks) (slice_index sector)

-- the bytes are some map of the array
abbrev pub IsMapOf : Marks → List ℕ → Type 0
IsMapOf m sector = (marks : ℕ → Bool) × IsMap m.serial m.stripes marks (slice_index sector)

-- the map, which has a mark for each region, with the regions that the sector marks
pub record Adds (old new : Marks) (sector : List ℕ) : Type 0 where
  pub some : 1 ≤ old.stripes
  pub whole : length old.marks ≡ regions_in old.stripes
  pub stripes : new.stripes ≡ old.stripes
  pub serial : new.serial ≡ old.serial
  pub count : length new.marks ≡ length old.marks
  pub marks : (r : ℕ) → r < length old.marks → is_marked new.marks r ≡ (is_marked old.marks r || bit_at (slice_index sector) r)

-- 1 where the region is marked
abbrev pub one_if : Bool → ℕ
one_if b = if b then 1 else 0

-- the eight marks from mark r on, as a byte
abbrev pub packed : List Bool → ℕ → ℕ
packed marks r = one_if (is_marked marks r) + 2 * one_if (is_marked marks (r + 1)) + 4 * one_if (is_marked marks (r + 2)) + 8 * one_if (is_marked marks (r + 3))
    + 16 * one_if (is_marked marks (r + 4)) + 32 * one_if (is_marked marks (r + 5)) + 64 * one_if (is_marked marks (r + 6)) + 128 * one_if (is_marked marks (r + 7))

-- byte i of a number in four bytes
abbrev pub number_byte : ℕ → ℕ → ℕ
number_byte n i = if i == 0 then n % 256 else if i == 1 then n / 256 % 256 else if i == 2 then n / 65536 % 256 else n / 16777216 % 256

-- byte k of the map
abbrev pub byte_of : Marks → ℕ → ℕ
byte_of m k =
    if nat_lt k 8 then slice_index (codes "RFPMAP01") k
    else if nat_lt k 12 then number_byte m.serial (k - 8)
    else if nat_lt k 16 then number_byte (region_stripes m.stripes) (k - 12)
    else packed m.marks (8 * (k - 16))
