-- What an operation asks: its blocks, how it holds its stripes, and how many buffers it leases.
use Rattle.std.specs.Prelude.{ℕ, List, [], ◌∷◌, length, Bool, Option, Some, None, slice_index_or, ◌≤◌, ◌*◌, All}
use Rattle.lay_core.specs.Touched.{Touched, IsSplit, stripes_among}
use Rattle.graph_mean.specs.Graph.{Held, blank}
use Rattle.blk_plain.specs.declared.op.Op.{Op}
use Rattle.blk_plain.specs.declared.op.Op.TheVariants.{Write, Writes, Read, Rebuild, Sync}
use Rattle.blk_plain.specs.declared.op.Span.{Span}
use Rattle.blk_plain.specs.Plain.{AreSound, is_in, is_in_some, spans_of}
use Rattle.stripe_lock.specs.declared.mode.Mode.{Mode}
use Rattle.stripe_lock.specs.declared.mode.Mode.TheVariants.{Share, Exclude}
use Rattle.lay_core.specs.Layout.{Shape, data_units}
use Rattle.eng_world.specs.Planning.{IsOut, IsLong, span_count, lease_of}

-- what stands past the last graph of the file
abbrev pub no_graph : Held
no_graph = record { drawn = blank; node_room = 0; buf_room = 0; edge_room = 0 }

-- the whole span of a stripe
abbrev pub whole : Shape → ℕ → Span
whole y s = record { first = s * (data_units y * y.unit_sectors); count = data_units y * y.unit_sectors }

-- the blocks that it touches
abbrev pub blocks_by : Shape → Op → ℕ → Bool
blocks_by y (Write span pattern) = is_in span
blocks_by y (Writes patches) = is_in_some (spans_of patches)
blocks_by y (Read span) = is_in span
blocks_by y (Rebuild stripe) = is_in (whole y stripe)
blocks_by y (Sync stripe) = is_in (whole y stripe)

-- the spans of them
abbrev pub spans_by : Shape → Op → List Span
spans_by y (Write span pattern) = span ∷ []
spans_by y (Writes patches) = spans_of patches
spans_by y (Read span) = span ∷ []
spans_by y (Rebuild stripe) = whole y stripe ∷ []
spans_by y (Sync stripe) = whole y stripe ∷ []

-- how many stripes have one of them
abbrev pub stripes_by : Shape → Op → ℕ
stripes_by y op = stripes_among y (blocks_by y op)

-- what is so of it wherever it is asked: its spans have blocks, and those of one write share none
abbrev pub HasBlocks : Op → Type 0
HasBlocks (Write span pattern) = 1 ≤ span.count
HasBlocks (Writes patches) = AreSound patches × All (λ s. 1 ≤ s.count) (spans_of patches)
HasBlocks (Read span) = 1 ≤ span.count
HasBlocks (Rebuild stripe) = Unit {0}
HasBlocks (Sync stripe) = Unit {0}

-- it touches some blocks, all in range, of few stripes
pub record IsInside (y : Shape) (op : Op) : Type 0 where
  pub asked : HasBlocks op
  pub inside : IsOut y op → ⊥
  pub short : IsLong y op → ⊥

-- The map has the stripes and parts that it touches: at most 16 stripes, and one part at most for each of their units, and one more for each of its spans.
pub record IsOpSplit (y : Shape) (op : Op) (map : Touched) : Type 0 where
  pub split : IsSplit y (blocks_by y op) map
  pub stripes_few : length map.stripes ≤ 16
  pub parts_few : length map.parts ≤ 520

-- how it holds its stripes
abbrev pub mode_by : Op → Mode
mode_by (Write span pattern) = Exclude
mode_by (Writes patches) = Exclude
mode_by (Read span) = Share
mode_by (Rebuild stripe) = Exclude
mode_by (Sync stripe) = Exclude

-- how many buffers are leased for an operation of so many stripes and spans
abbrev pub lease_by : Shape → List Held → ℕ → ℕ → Option ℕ → ℕ
lease_by y graphs stripes spans None = lease_of y stripes spans
lease_by y graphs stripes spans (Some n) = length (slice_index_or graphs n no_graph).drawn.bufs

abbrev pub lease_for : Shape → List Held → Op → Option ℕ → ℕ
lease_for y graphs op file = lease_by y graphs (stripes_by y op) (span_count op) file
