-- What the maps of the devices in use say of an image.
use Rattle.std.specs.Prelude.{◌≡◌, ◌≢◌, ℕ, ◌<◌, List, Bool, true}
use Rattle.lay_core.specs.Layout.{Shape}
use Rattle.lay_core.specs.Sums.{xor_below}
use Rattle.eng_cols.specs.Cols.{ColumnState, HasDevice}
use Rattle.eng_cols.specs.Seats.{is_available}
use Rattle.eng_cols.specs.Contents.{Contents, byte_of}
use Rattle.raid_map.specs.Regions.{IsMap}

-- a well-formed map of a device in use marks the region
pub record UnionMarks (y : Shape) (serial : ℕ) (cols : List ColumnState) (image : Contents) (r : ℕ) : Type 0 where
  pub column : ℕ
  pub device : ℕ
  pub used : HasDevice cols column device
  pub marks : ℕ → Bool
  pub map : IsMap serial y.stripes marks (image device 1)
  pub marked : marks r ≡ true

-- a device in use has a well-formed map
pub record HasMap (y : Shape) (serial : ℕ) (cols : List ColumnState) (image : Contents) : Type 0 where
  pub column : ℕ
  pub device : ℕ
  pub used : HasDevice cols column device
  pub marks : ℕ → Bool
  pub map : IsMap serial y.stripes marks (image device 1)

-- no unit of the stripe is missing, and their sum isn't zero
pub record IsUnsound (y : Shape) (cols : List ColumnState) (image : Contents) (s : ℕ) : Type 0 where
  pub stripe : s < y.stripes
  pub checked : y.checks ≡ 1
  pub complete : (i : ℕ) → i < y.width → is_available y cols s i ≡ true
  pub offset : ℕ
  pub byte : ℕ
  pub within : offset < y.unit_sectors
  pub of_sector : byte < 512
  pub differs : xor_below (λ i. byte_of y image cols s i offset byte) y.width ≢ 0
