-- Cover pieces: the ranges between neighbouring cuts of a stripe. At all offsets of one the same is left, returned and due.
use Rattle.std.specs.Prelude.{◌≡◌, ℕ, ◌+◌, ◌*◌, ◌<◌, ◌≤◌, ◌↔◌, ◌==◌, ◌&&◌, ◌||◌, if◌then◌else◌, List, Bool, true, false, Result, Ok, Err, slice_index_or}
use Rattle.std.specs.List.{list_any}
use Rattle.lay_core.specs.declared.place.Part.{Part}
use Rattle.graph_mean.specs.declared.graph.Buf.{Buf}
use Rattle.graph_mean.specs.declared.refusal.Refusal.{Refusal}
use Rattle.graph_mean.specs.declared.refusal.Refusal.TheVariants.{Large, Index, Order, Commits, Ends, Assigned, Unordered, LateRead, EarlyWrite, Missing, Twice, Mixed, WrongValue, WrongReturn}
use Rattle.graph_mean.specs.Graph.{View}
use Rattle.graph_mean.specs.Task.{Aim, due}
use Rattle.graph_mean.specs.Refusals.{Leaves, Returns}
use Rattle.graph_mean.specs.Fewest.{sum_below, one_if}

-- an end of a range of this stripe is at offset o of stripe s
abbrev pub range_cuts : ℕ → ℕ → ℕ → ℕ → ℕ → Bool
range_cuts stripe from count s o = (stripe == s) && ((from == o) || (from + count == o))

-- an end of the buffer is
abbrev pub buf_cuts : ℕ → ℕ → Buf → Bool
buf_cuts s o buf = range_cuts buf.stripe buf.from buf.count s o

-- an end of the part is
abbrev pub part_cuts : ℕ → ℕ → Part → Bool
part_cuts s o part = range_cuts part.stripe part.from part.count s o

-- offset o of stripe s is a cut: it is 0, or an end of a buffer or of a touched part of the stripe (the unit's end is one too, where no piece begins)
abbrev pub is_cut : View → Aim → ℕ → ℕ → Bool
is_cut g t s o = (o == 0) || (list_any (buf_cuts s o) g.bufs || list_any (part_cuts s o) t.parts)

-- the number of cover pieces of all stripes: of the offsets within the unit at which one begins
abbrev pub pieces_of : View → Aim → ℕ
pieces_of g t = sum_below (λ s. sum_below (λ o. one_if (is_cut g t s o)) t.unit_sectors) t.stripes

-- the refusal came when contents were looked at
abbrev pub is_of_contents : Refusal → Bool
is_of_contents Large = false
is_of_contents (Index what place) = false
is_of_contents (Order node) = false
is_of_contents (Commits count) = false
is_of_contents (Ends count node) = false
is_of_contents (Assigned buffer times) = false
is_of_contents (Unordered node buffer) = false
is_of_contents (LateRead node) = false
is_of_contents (EarlyWrite node) = false
is_of_contents (Missing node) = false
is_of_contents (Twice first second) = false
is_of_contents (Mixed what place) = false
is_of_contents (WrongValue stripe unit offset) = true
is_of_contents (WrongReturn block) = true

-- the number of pieces that were looked at, by the answer: all of them, or none
abbrev pub pieces_after : {A : Type 0} → View → Aim → Result A Refusal → ℕ
pieces_after g t (Ok a) = pieces_of g t
pieces_after g t (Err r) = if is_of_contents r then pieces_of g t else 0

-- no cut of stripe s comes after offset o up to offset p
abbrev pub IsOnePiece : View → Aim → ℕ → ℕ → ℕ → Type 0
IsOnePiece g t s o p = (o ≤ p) × ((q : ℕ) → o < q → q ≤ p → is_cut g t s q ≡ false)

-- offsets o and p of stripe s have the same sums and the same due values
pub record IsAlike (g : View) (t : Aim) (s o p : ℕ) : Type 0 where
  pub left : (i m : ℕ) → Leaves g s i o m ↔ Leaves g s i p m
  pub returned : (i k : ℕ) → Returns g k s i o ↔ Returns g k s i p
  pub due : (i : ℕ) → due t s i o ≡ due t s i p

-- the place of offset o of stripe s in a table of 16 stripes of 128 offsets
abbrev pub cut_place : ℕ → ℕ → ℕ
cut_place s o = s * 128 + o

-- the table says which offsets are an end of a buffer or of a part
abbrev pub IsCutTable : View → Aim → List Bool → Type 0
IsCutTable g t cuts = (s o : ℕ) → s < t.stripes → o < 128 → slice_index_or cuts (cut_place s o) false ≡ (list_any (buf_cuts s o) g.bufs || list_any (part_cuts s o) t.parts)

-- by the table a piece begins there
abbrev pub is_noted : List Bool → ℕ → ℕ → Bool
is_noted cuts s o = (o == 0) || slice_index_or cuts (cut_place s o) false

-- the pieces by the table
abbrev pub noted_of : List Bool → ℕ → ℕ → ℕ
noted_of cuts s n = sum_below (λ o. one_if (is_noted cuts s o)) n

abbrev pub noted_pieces : Aim → List Bool → ℕ
noted_pieces t cuts = sum_below (λ s. noted_of cuts s t.unit_sectors) t.stripes

-- what holds of a sector where no piece begins holds of the sector before it
abbrev pub IsSteady : List Bool → (ℕ → ℕ → ℕ → Type 0) → Type 0
IsSteady cuts P = (s i o : ℕ) → is_noted cuts s (o + 1) ≡ false → P s i (o + 1) → P s i o
