-- Bytes of buffers and of sectors, and sums of them.
use Rattle.std.proofs.Common.{◌≡◌, ◌≢◌, ℕ, zero, suc, ◌+◌, ◌*◌, ◌<◌, List, true, replicate, Some, refl, sym, ap, ◌∙◌}
use Rattle.std.specs.Prelude.{bit_xor, slice_index}
use Rattle.std.specs.Int.Bits.{xor_self, xor_zero_r}
use Rattle.std.proofs.lemmas.Nat.{xor_comm}
use Rattle.std.proofs.lemmas.List.{get_or-take, get_or-drop}
use Rattle.blk_disk.specs.Disk.{sector_at}
use Rattle.lay_core.specs.Sums.{xor_below}
use Rattle.lay_core.specs.Layout.{Shape}
use Rattle.eng_cols.specs.declared.spot.Spot.{Spot}
use Rattle.eng_cols.specs.Cols.{ColumnState}
use Rattle.eng_cols.specs.Seats.{is_available, seat}
use Rattle.eng_cols.specs.Contents.{Contents, byte_of}
use Rattle.eng_cols.specs.Contents as contents
use Rattle.eng_cols.proofs.Sums.{below_more, xor_none}
use Rattle.raid_recon.specs.Sums.{sum_of, IsZero, IsNotZero}
use Rattle.raid_recon.specs.Units.{IsSum}
use Rattle.raid_recon.proofs.Places.{spot-seat}
use Rattle.eng_cols.proofs.Words.{byte_if}

pub byte-sector_at : (bytes : List ℕ) (j k : ℕ) → k < 512 → slice_index (sector_at bytes j) k ≡ slice_index bytes (512 * j + k)
unfolding sector_at
byte-sector_at bytes j k h = get_or-take 512 _ k 0 h ∙ get_or-drop (512 * j) bytes k 0

pub all-zero : (n j : ℕ) → slice_index (replicate n 0) j ≡ 0
all-zero zero j = refl
all-zero (suc n) zero = refl
all-zero (suc n) (suc j) = all-zero n j

-- an available unit's bytes are those at its seat
pub byte-seat : (y : Shape) (c : Contents) (cols : List ColumnState) (s i o k : ℕ) (at : Spot) → is_available y cols s i ≡ true → seat y cols s i ≡ Some at → byte_of y c cols s i o k ≡ c at.device (contents.sector_at y at o) k
byte-seat y c cols s i o k at h is = ap (λ q. byte_if y c q o k) (spot-seat y cols s i h ∙ is)

-- the sum of one unit
pub sum-one : (y : Shape) (c : Contents) (cols : List ColumnState) (s : ℕ) (bytes : List ℕ) → ((o k : ℕ) → o < y.unit_sectors → k < 512 → slice_index bytes (512 * o + k) ≡ byte_of y c cols s 0 o k) → IsSum y c cols s 1 bytes
unfolding xor_below
sum-one y c cols s bytes holds o k ou ku = holds o k ou ku ∙ sym (below_more (λ i. byte_of y c cols s i o k) 0 ∙ xor_zero_r (byte_of y c cols s 0 o k))

-- the sum of no unit, and of one more
pub sum-none : (y : Shape) (c : Contents) (cols : List ColumnState) (s n : ℕ) (bytes : List ℕ) → bytes ≡ replicate n 0 → IsSum y c cols s 0 bytes
unfolding xor_below
sum-none y c cols s n bytes is o k ou ku = ap (λ (l : List ℕ). slice_index l (512 * o + k)) is ∙ all-zero n (512 * o + k)

pub sum-more : (y : Shape) (c : Contents) (cols : List ColumnState) (s n m : ℕ) (sum unit after : List ℕ) → m ≡ suc n → IsSum y c cols s n sum
    → ((o k : ℕ) → o < y.unit_sectors → k < 512 → slice_index unit (512 * o + k) ≡ byte_of y c cols s n o k)
    → ((j : ℕ) → slice_index after j ≡ bit_xor (slice_index sum j) (slice_index unit j)) → IsSum y c cols s m after
sum-more y c cols s n m sum unit after next is holds added o k ou ku =
    let j : ℕ = 512 * o + k in
    added j ∙ ap (λ x. bit_xor x (slice_index unit j)) (is o k ou ku) ∙ ap (bit_xor (sum_of y c cols s n o k)) (holds o k ou ku)
    ∙ xor_comm (sum_of y c cols s n o k) (byte_of y c cols s n o k) ∙ sym (below_more (λ i. byte_of y c cols s i o k) n) ∙ ap (λ x. sum_of y c cols s x o k) (sym next)

-- all units sum to zero where the last holds the sum of the others
module _ (y : Shape) (c : Contents) (cols : List ColumnState) (s n : ℕ) (last : y.width ≡ suc n) where
  whole : (o k : ℕ) → sum_of y c cols s y.width o k ≡ bit_xor (byte_of y c cols s n o k) (sum_of y c cols s n o k)
  whole o k = ap (λ x. sum_of y c cols s x o k) last ∙ below_more (λ i. byte_of y c cols s i o k) n

  pub zero-from : ((o k : ℕ) → o < y.unit_sectors → k < 512 → byte_of y c cols s n o k ≡ sum_of y c cols s n o k) → IsZero y c cols s
  zero-from h o k ou ku = whole o k ∙ ap (λ x. bit_xor x (sum_of y c cols s n o k)) (h o k ou ku) ∙ xor_self (sum_of y c cols s n o k)

  pub not-zero : (o k : ℕ) → o < y.unit_sectors → k < 512 → byte_of y c cols s n o k ≢ sum_of y c cols s n o k → IsNotZero y c cols s
  not-zero o k ou ku apart = record { offset = o; byte = k; within = ou; of_sector = ku; differs = λ e. apart (xor_none _ _ (sym (whole o k) ∙ e)) }
