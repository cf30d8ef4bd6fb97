-- How many buffers an item can lease, and all items of a client.
use Rattle.std.specs.Prelude.{◌≤◌, ◌+◌, ◌-◌, ◌*◌, ◌/◌, ◌%◌, ℕ, zero, suc, List, length, Option, Some, None, if◌then◌else◌, nat_lt, min, max, sum_by, slice_get, slice_index_or}
use Rattle.blk_plain.specs.declared.op.Op.{Op}
use Rattle.blk_plain.specs.declared.op.Op.TheVariants.{Write, Writes, Read, Rebuild, Sync}
use Rattle.blk_plain.specs.declared.op.Patches.{Patches}
use Rattle.blk_plain.specs.declared.op.Span.{Span}
use Rattle.blk_plain.specs.Plain.{spans_of}
use Rattle.lay_core.specs.Layout.{Shape, data_units}
use Rattle.graph_mean.specs.Graph.{Held}
use Rattle.eng_world.specs.Planning.{lease_of}
use Rattle.eng_world.specs.declared.item.Item.{Item}
use Rattle.eng_world.specs.declared.item.Item.TheVariants as item
use Rattle.eng_plan.specs.Asked.{no_graph, IsInside, lease_for}

-- the blocks of a stripe
abbrev pub stripe_blocks : Shape → ℕ
stripe_blocks y = data_units y * y.unit_sectors

-- the stripes of a span, and at most 16: no operation over more is served
abbrev pub most_of_span : Shape → Span → ℕ
most_of_span y span = min ((span.first % stripe_blocks y + span.count + stripe_blocks y - 1) / stripe_blocks y) 16

-- those of several spans, each by itself, and at most 16; of more than 8 spans no operation is served
abbrev pub most_of_spans : Shape → Patches → ℕ
most_of_spans y patches = if nat_lt 8 patches.used then 16 else min (sum_by (most_of_span y) (spans_of patches)) 16

-- those of an operation
abbrev pub most_stripes : Shape → Op → ℕ
most_stripes y (Write span pattern) = most_of_span y span
most_stripes y (Writes patches) = most_of_spans y patches
most_stripes y (Read span) = most_of_span y span
most_stripes y (Rebuild stripe) = 1
most_stripes y (Sync stripe) = 1

-- its spans, of which there are 8 at most
abbrev pub most_spans : Op → ℕ
most_spans (Write span pattern) = 1
most_spans (Writes patches) = min patches.used 8
most_spans (Read span) = 1
most_spans (Rebuild stripe) = 1
most_spans (Sync stripe) = 1

-- the buffers that an operation leases, if it is served: as many as the library's graph may have, or as the one of the file has
abbrev pub most_leased : Shape → List Held → Op → Option ℕ → ℕ
most_leased y graphs op None = lease_of y (most_stripes y op) (most_spans op)
most_leased y graphs op (Some n) = length (slice_index_or graphs n no_graph).drawn.bufs

-- those of an item, if there is one
abbrev pub item_leases : Shape → List Held → Option Item → ℕ
item_leases y graphs None = 0
item_leases y graphs (Some (item.Run op file)) = most_leased y graphs op file
item_leases y graphs (Some (item.Fail column)) = 0

-- the greatest of the first n numbers
unfoldable pub greatest : (ℕ → ℕ) → ℕ → ℕ
greatest f zero = 0
greatest f (suc n) = max (greatest f n) (f n)

-- the most buffers that one of the items leases: a client leases for one at a time
abbrev pub row_leases : Shape → List Held → List Item → ℕ
row_leases y graphs items = greatest (λ k. item_leases y graphs (slice_get items k)) (length items)

-- and those that the rebuild of a stripe does
abbrev pub own_leases : Shape → ℕ
own_leases y = lease_of y 1 1

-- the item leases no more than so many, if it is served
abbrev pub LeasesAtMost : Shape → List Held → ℕ → Item → Type 0
LeasesAtMost y graphs most (item.Run op file) = IsInside y op → lease_for y graphs op file ≤ most
LeasesAtMost y graphs most (item.Fail column) = Unit {0}
