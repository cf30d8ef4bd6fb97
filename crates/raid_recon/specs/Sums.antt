-- The sums of a stripe's units, as the devices hold them.
use Rattle.std.specs.Prelude.{◌≡◌, ◌≢◌, ℕ, ◌+◌, ◌<◌, List, slice_index}
use Rattle.lay_core.specs.Sums.{xor_below}
use Rattle.lay_core.specs.Layout.{Shape, data_units}
use Rattle.eng_cols.specs.Cols.{ColumnState}
use Rattle.eng_cols.specs.Contents.{Contents, byte_of}

-- byte j of the exclusive-or of what stands in some bytes from the first n places on
abbrev pub places_sum : List ℕ → List ℕ → ℕ → ℕ → ℕ
places_sum bytes places n j = xor_below (λ i. slice_index bytes (slice_index places i + j)) n

-- byte k at offset o of the exclusive-or of the stripe's first n units
abbrev pub sum_of : Shape → Contents → List ColumnState → ℕ → ℕ → ℕ → ℕ → ℕ
sum_of y contents cols s n o k = xor_below (λ i. byte_of y contents cols s i o k) n

-- all units of the stripe sum to zero
abbrev pub IsZero : Shape → Contents → List ColumnState → ℕ → Type 0
IsZero y contents cols s = (o k : ℕ) → o < y.unit_sectors → k < 512 → xor_below (λ i. byte_of y contents cols s i o k) y.width ≡ 0

-- they don't
pub record IsNotZero (y : Shape) (contents : Contents) (cols : List ColumnState) (s : ℕ) : Type 0 where
  pub offset : ℕ
  pub byte : ℕ
  pub within : offset < y.unit_sectors
  pub of_sector : byte < 512
  pub differs : xor_below (λ i. byte_of y contents cols s i offset byte) y.width ≢ 0

-- the check unit holds the exclusive-or of the data units
abbrev pub HoldsSum : Shape → Contents → List ColumnState → ℕ → Type 0
HoldsSum y contents cols s = (o k : ℕ) → o < y.unit_sectors → k < 512 → byte_of y contents cols s (data_units y) o k ≡ xor_below (λ i. byte_of y contents cols s i o k) (data_units y)
