-- What stays as it is while a stripe's check unit is written.
use Rattle.std.proofs.Common.{◌≡◌, ℕ, suc, ◌<◌, List, Option, Some, None, refl, sym, ap, ◌∙◌, arith}
use Rattle.std.specs.Prelude.{slice_index}
use Rattle.blk_disk.specs.declared.disk.Disk.{Ghosts}
use Rattle.blk_disk.specs.Devices.{Changes, contents_of}
use Rattle.blk_disk.proofs.DeviceLaws.{changes_sector}
use Rattle.lay_core.specs.Layout.{Shape, IsLayout, data_units}
use Rattle.eng_cols.specs.declared.spot.Spot.{Spot}
use Rattle.eng_cols.specs.Cols.{ColumnState, InOrder}
use Rattle.eng_cols.specs.Seats.{seat, spot}
use Rattle.eng_cols.specs.Contents.{Contents, byte_of, sector_at}
use Rattle.eng_cols.proofs.Spots.{sectors-one-unit}
use Rattle.eng_cols.proofs.Sums.{below_same}
use Rattle.raid_recon.specs.Array.{IsCheckSector}
use Rattle.raid_recon.specs.Sums.{sum_of}
use Rattle.raid_recon.proofs.Places.{spot-seat, spot-some}
use Rattle.eng_cols.proofs.Words.{byte_if}

-- the check unit is the last
pub last-unit : (y : Shape) → IsLayout y → y.checks ≡ 1 → y.width ≡ suc (data_units y)
last-unit y layout one = omega (arith, one, layout.checks_below)

-- a sector that a check unit has is of that unit alone
pub check-alone : (y : Shape) (cols : List ColumnState) → IsLayout y → InOrder cols → y.checks ≡ 1 → (s t i o : ℕ) (at : Spot) → s < y.stripes → t < y.stripes → i < y.width → o < y.unit_sectors
    → seat y cols t i ≡ Some at → IsCheckSector y cols s at.device (sector_at y at o) → (t ≡ s) × (i ≡ data_units y)
check-alone y cols layout order one s t i o at sw tw iw ou is h =
    let check : data_units y < y.width = omega (arith, last-unit y layout one) in
    let same = sectors-one-unit y cols layout order t s i (data_units y) o h.offset at h.at tw sw iw check ou h.within is h.stands h.device h.sector in
    (same.0, same.1)

byte_if-same : (y : Shape) (a b : Contents) (o k : ℕ) (q : Option Spot) → ((at : Spot) → q ≡ Some at → b at.device (sector_at y at o) k ≡ a at.device (sector_at y at o) k) → byte_if y b q o k ≡ byte_if y a q o k
byte_if-same y a b o k None h = refl
byte_if-same y a b o k (Some at) h = h at refl

-- the bytes of a unit of which no sector may have changed
pub byte-same : {D : Type 0} (g : Ghosts D) (may : ℕ → ℕ → Type 0) (old new : List (Option D)) (y : Shape) (cols : List ColumnState) (s i o k : ℕ) → Changes g may old new → g.tells
    → ((at : Spot) → seat y cols s i ≡ Some at → may at.device (sector_at y at o) → ⊥) → byte_of y (contents_of g new) cols s i o k ≡ byte_of y (contents_of g old) cols s i o k
byte-same g may old new y cols s i o k h told away =
    byte_if-same y (contents_of g old) (contents_of g new) o k (spot y cols s i)
    (λ at is. ap (λ (l : List ℕ). slice_index l k) (changes_sector g may old new at.device (sector_at y at o) h told (away at (sym (spot-seat y cols s i (spot-some y cols s i at is)) ∙ is))))

-- the sum of the first n units, where none of them may have changed
pub sum-same : {D : Type 0} (g : Ghosts D) (may : ℕ → ℕ → Type 0) (old new : List (Option D)) (y : Shape) (cols : List ColumnState) (s n o k : ℕ) → Changes g may old new → g.tells
    → ((i : ℕ) (at : Spot) → i < n → seat y cols s i ≡ Some at → may at.device (sector_at y at o) → ⊥) → sum_of y (contents_of g new) cols s n o k ≡ sum_of y (contents_of g old) cols s n o k
sum-same g may old new y cols s n o k h told away =
    below_same (λ i. byte_of y (contents_of g new) cols s i o k) (λ i. byte_of y (contents_of g old) cols s i o k) n
    (λ i iw. byte-same g may old new y cols s i o k h told (λ at. away i at iw))
