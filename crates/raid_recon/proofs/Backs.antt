-- Columns of which some died: no unit comes back, none moves, and no device is new.
use Rattle.std.proofs.Common.{◌≡◌, ◌<◌, ℕ, List, [], ◌∷◌, length, true, false, Option, Some, None, refl, sym, ap, ◌∙◌, subst}
use Rattle.lay_core.specs.Layout.{Shape, data_units}
use Rattle.eng_cols.specs.declared.column.Column.{Column}
use Rattle.eng_cols.specs.declared.spot.Spot.{Spot}
use Rattle.eng_cols.specs.Cols.{ColumnState, HasDevice, InOrder}
use Rattle.eng_cols.specs.Changes.{killed}
use Rattle.eng_cols.specs.Seats.{is_available, seat, spot}
use Rattle.eng_cols.specs.Contents.{Contents, byte_of}
use Rattle.eng_cols.proofs.Spots.{available-seat, seat-device}
use Rattle.eng_cols.proofs.Sums.{below_same}
use Rattle.eng_cols.proofs.Killing.{available-back, seat-back, device-back, order-kept}
use Rattle.eng_cols.specs.Stripes.{spreads, states_of}
use Rattle.raid_recon.specs.Array.{IsCheckSector}
use Rattle.raid_recon.specs.Sums.{sum_of}
use Rattle.raid_recon.specs.Turns.{Turn, Left, Unread, Sound, Unsound, Written, Unwritten, dead_at, failed_at, columns_after}
use Rattle.raid_recon.specs.Log.{columns_in}
use Rattle.raid_recon.proofs.Places.{spot-seat, device-unspread, states-killed}
use Rattle.eng_cols.proofs.Words.{byte_if}

-- what the one columns have, the others had
pub record Back (y : Shape) (new old : List ColumnState) : Type 0 where
  pub seats : (s i : ℕ) (at : Spot) → seat y new s i ≡ Some at → seat y old s i ≡ Some at
  pub available : (s i : ℕ) → is_available y new s i ≡ true → is_available y old s i ≡ true
  pub devices : (c d : ℕ) → HasDevice new c d → HasDevice old c d
  pub order : InOrder old → InOrder new

pub back-refl : (y : Shape) (cols : List ColumnState) → Back y cols cols
back-refl y cols = record { seats = λ s i at h. h; available = λ s i h. h; devices = λ c d h. h; order = λ h. h }

pub back-then : (y : Shape) (a b c : List ColumnState) → Back y a b → Back y b c → Back y a c
back-then y a b c one two = record {
  seats = λ s i at h. two.seats s i at (one.seats s i at h);
  available = λ s i h. two.available s i (one.available s i h);
  devices = λ k d h. two.devices k d (one.devices k d h);
  order = λ h. one.order (two.order h);
}

pub back-killed : (y : Shape) (cols : List ColumnState) (k : ℕ) → Back y (killed cols k) cols
back-killed y cols k = record {
  seats = λ s i at h. seat-back y cols k s i at h;
  available = λ s i h. available-back y cols k s i h;
  devices = λ c d h. device-back cols k c d h;
  order = λ h. order-kept cols k h;
}

pub back-dead : (y : Shape) (columns : List Column) → InOrder (states_of y columns) → (q : Option Spot) → ((at : Spot) → q ≡ Some at → spreads columns at.column ≡ false) → Back y (states_of y (dead_at columns q)) (states_of y columns)
back-dead y columns order None unspread = back-refl y (states_of y columns)
back-dead y columns order (Some at) unspread = subst (λ cols. Back y cols (states_of y columns)) (sym (states-killed y columns at.column order (unspread at refl))) (back-killed y (states_of y columns) at.column)

-- a column that has a seat isn't spread
pub seat-unspread : (y : Shape) (columns : List Column) (s i : ℕ) (at : Spot) → seat y (states_of y columns) s i ≡ Some at → spreads columns at.column ≡ false
seat-unspread y columns s i at is = device-unspread y columns at.column at.device (seat-device y (states_of y columns) s i at is)

-- so one whose device failed in a turn
pub failed-unspread : (y : Shape) (columns : List Column) (s : ℕ) (t : Turn) (at : Spot) → failed_at y (states_of y columns) s t ≡ Some at → spreads columns at.column ≡ false
failed-unspread y columns s Left at is = let z : None ≡ Some at = is in absurd (let u : ⊥ = cc in u)
failed-unspread y columns s (Unread i) at is = seat-unspread y columns s i at is
failed-unspread y columns s Sound at is = let z : None ≡ Some at = is in absurd (let u : ⊥ = cc in u)
failed-unspread y columns s Unsound at is = let z : None ≡ Some at = is in absurd (let u : ⊥ = cc in u)
failed-unspread y columns s Written at is = let z : None ≡ Some at = is in absurd (let u : ⊥ = cc in u)
failed-unspread y columns s Unwritten at is = seat-unspread y columns s (data_units y) at is

pub back-turn : (y : Shape) (columns : List Column) → InOrder (states_of y columns) → (s : ℕ) (t : Turn) → Back y (states_of y (columns_after y columns s t)) (states_of y columns)
back-turn y columns order s t = back-dead y columns order (failed_at y (states_of y columns) s t) (failed-unspread y columns s t)

pub back-in : (y : Shape) (columns : List Column) → InOrder (states_of y columns) → (ts : List Turn) → Back y (states_of y (columns_in y columns ts)) (states_of y columns)
back-in y columns order [] = back-refl y (states_of y columns)
back-in y columns order (t ∷ ts) =
    let was = back-in y columns order ts in
    back-then y _ _ _ (back-turn y (columns_in y columns ts) (was.order order) (length ts) t) was

-- an available unit stands where it stood
pub spot-back : (y : Shape) (new old : List ColumnState) (s i : ℕ) → Back y new old → is_available y new s i ≡ true → spot y new s i ≡ spot y old s i
spot-back y new old s i b h =
    let at = available-seat y new s i h in
    spot-seat y new s i h ∙ at.1 ∙ sym (b.seats s i at.0 at.1) ∙ sym (spot-seat y old s i (b.available s i h))

pub byte-back : (y : Shape) (c : Contents) (new old : List ColumnState) (s i o k : ℕ) → Back y new old → is_available y new s i ≡ true → byte_of y c new s i o k ≡ byte_of y c old s i o k
byte-back y c new old s i o k b h = ap (λ q. byte_if y c q o k) (spot-back y new old s i b h)

pub sum-back : (y : Shape) (c : Contents) (new old : List ColumnState) (s n o k : ℕ) → Back y new old → ((i : ℕ) → i < n → is_available y new s i ≡ true) → sum_of y c new s n o k ≡ sum_of y c old s n o k
sum-back y c new old s n o k b all = below_same (λ i. byte_of y c new s i o k) (λ i. byte_of y c old s i o k) n (λ i iw. byte-back y c new old s i o k b (all i iw))

pub check-back : (y : Shape) (new old : List ColumnState) (s d n : ℕ) → Back y new old → IsCheckSector y new s d n → IsCheckSector y old s d n
check-back y new old s d n b h = record { at = h.at; offset = h.offset; stands = b.seats s (data_units y) h.at h.stands; device = h.device; within = h.within; sector = h.sector }
