-- How blocks that follow are added to the stripes and parts of those before them.
use Rattle.std.specs.Prelude.{◌≡◌, ◌<◌, ◌≤◌, ℕ, suc, ◌+◌, ◌-◌, ◌*◌, ◌&&◌, ◌==◌, if◌then◌else◌, Bool, List, [], ◌∷◌, ◌++◌, length, take, nat_lt, nat_le, slice_index_or, Option, Some, None, All, Contains}
use Rattle.blk_plain.specs.declared.op.Span.{Span}
use Rattle.lay_core.specs.declared.place.Part.{Part}
use Rattle.lay_core.specs.Layout.{Shape, data_units, stripe_of, unit_of, offset_of}
use Rattle.lay_core.specs.Touched.{Touched, IsSplit}

-- the blocks below this one that pass
abbrev pub before : (ℕ → Bool) → ℕ → ℕ → Bool
before test at b = test b && nat_lt b at

-- the number is the last of the list
abbrev pub ends_with : List ℕ → ℕ → Bool
ends_with xs s = nat_lt 0 (length xs) && (slice_index_or xs (length xs - 1) 0 == s)

-- the list with this number at its end
abbrev pub with_stripe : List ℕ → ℕ → List ℕ
with_stripe xs s = if ends_with xs s then xs else xs ++ s ∷ []

-- the one part ends where the other begins
abbrev pub meets : Part → Part → Bool
meets a b = (a.stripe == b.stripe) && ((a.unit == b.unit) && (a.from + a.count == b.from))

-- the last part meets this one
abbrev pub last_meets : List Part → Part → Bool
last_meets xs p = nat_lt 0 (length xs) && meets (slice_index_or xs (length xs - 1) p) p

-- the part with so many sectors more
abbrev pub longer : Part → ℕ → Part
longer a n = record a { count = a.count + n }

-- the parts with this one at their end, which goes on with the last where that meets it
abbrev pub with_part : List Part → Part → List Part
with_part xs p = if last_meets xs p then take (length xs - 1) xs ++ longer (slice_index_or xs (length xs - 1) p) p.count ∷ [] else xs ++ p ∷ []

-- blocks of one data unit, in the stripe at a position
abbrev pub part_of : Shape → ℕ → ℕ → ℕ → Part
part_of y p low high = record { stripe = p; unit = unit_of y low; from = offset_of y low; count = high - low }

-- stripes and parts with the blocks from low to high - 1 added, of one data unit
abbrev pub added : Shape → Touched → ℕ → ℕ → Touched
added y map low high = record {
  stripes = with_stripe map.stripes (stripe_of y low);
  parts = with_part map.parts (part_of y (length (with_stripe map.stripes (stripe_of y low)) - 1) low high);
}

-- what stands past the last part
abbrev pub no_part : Part
no_part = record { stripe = 0; unit = 0; from = 0; count = 0 }

-- the data units up to the last part, counted through the stripes of the map
abbrev pub reach : Shape → List Part → ℕ
reach y parts = (slice_index_or parts (length parts - 1) no_part).stripe * data_units y + (slice_index_or parts (length parts - 1) no_part).unit

-- of so many spans the blocks before this one are in the map: there is at most one part for each data unit, and one more for each span
pub record IsWalked (y : Shape) (test : ℕ → Bool) (map : Touched) (at spans : ℕ) : Type 0 where
  pub split : IsSplit y (before test at) map
  pub few : length map.stripes ≤ 16
  pub parts : length map.parts ≤ reach y map.parts + spans

-- Of the span that begins at this block, the one more than so many, the blocks before `at` are in the map.
pub record IsInSpan (y : Shape) (test : ℕ → Bool) (map : Touched) (first end at spans : ℕ) : Type 0 where
  pub split : IsSplit y (before test at) map
  pub few : length map.stripes ≤ 16
  pub least : first ≤ at
  pub most : at ≤ end
  pub none : at ≡ first → length map.parts ≤ reach y map.parts + spans
  pub some : first < at → (length map.parts ≤ reach y map.parts + (spans + 1)) × (0 < length map.parts)
  pub next : first < at → at < end → offset_of y at ≡ 0

-- how many spans begin before this block
unfoldable pub began : List Span → ℕ → ℕ
began [] at = 0
began (s ∷ ss) at = if nat_lt s.first at then suc (began ss at) else began ss at

-- the nearer of two spans that don't begin before this block
abbrev pub nearer_of : Option Span → Span → Option Span
nearer_of None s = Some s
nearer_of (Some n) s = if nat_le n.first s.first then Some n else Some s

abbrev pub nearer : ℕ → Option Span → Span → Option Span
nearer at n s = if nat_lt s.first at then n else nearer_of n s

-- it is the one of the spans that begins next, of those that don't begin before this block
abbrev pub IsNext : ℕ → List Span → Option Span → Type 0
IsNext at spans None = All (λ s. s.first < at) spans
IsNext at spans (Some n) = Contains spans n × (at ≤ n.first) × All (λ s. at ≤ s.first → n.first ≤ s.first) spans
