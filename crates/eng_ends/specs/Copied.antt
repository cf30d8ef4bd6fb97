-- What the returns of a read hand out.
use Rattle.std.specs.Prelude.{◌≡◌, ◌<◌, ◌≤◌, ◌+◌, ◌-◌, ◌&&◌, ◌==◌, ℕ, List, [], ◌∷◌, length, Bool, Option, Some, if◌then◌else◌, nat_le, nat_lt, slice_get, slice_index, slice_index_or}
use Rattle.blk_plain.specs.declared.op.Span.{Span}
use Rattle.blk_plain.specs.declared.op.Op.TheVariants as op
use Rattle.blk_disk.specs.Disk.{sector_at}
use Rattle.lay_core.specs.Layout.{Shape, block_of}
use Rattle.lay_core.specs.Layout as layout
use Rattle.graph_mean.specs.declared.graph.Ret.{Ret}
use Rattle.graph_mean.specs.Graph.{View, buf_at, ret_at}
use Rattle.graph_mean.specs.Steps.{Covers, stripe_of}
use Rattle.eng_world.specs.declared.item.Item.TheVariants as item
use Rattle.eng_clients.specs.Desk.{Desk, desk_at, item_at}
use Rattle.eng_log.specs.Handed.{Handout, region_at}

-- Each item of these clients has a region, and that of a read is as long as its span.
pub record AreLaid (h : Handout) (desks : List Desk) : Type 0 where
  pub clients : length desks ≤ length h.regions
  pub items : (c : ℕ) → c < length desks → length (desk_at desks c).items ≤ length (slice_index_or h.regions c [])
  pub reads : (c i : ℕ) (span : Span) (file : Option ℕ) → slice_get (desk_at desks c).items i ≡ Some (item.Run (op.Read span) file) → (region_at h c i).count ≡ span.count

-- client c serves a read of this span
abbrev pub Reads : List Desk → ℕ → Span → Type 0
Reads desks c span = (file : Option ℕ) × (item_at (desk_at desks c) ≡ Some (item.Run (op.Read span) file))

-- the block that offset o of a return is the reply for
abbrev pub block_at : Shape → Desk → Ret → ℕ → ℕ
block_at y d r o = block_of y (slice_index d.map.stripes (stripe_of d.run.graph r.buf)) r.unit o

-- the sector of a region that it goes to
abbrev pub sector_for : Shape → Desk → Span → ℕ → Ret → ℕ → ℕ
sector_for y d span first r o = first + (block_at y d r o - span.first)

-- ## Copies, of buffers with these bytes to sectors with these numbers

module _ (g : View) (place : Ret → ℕ → ℕ) (bytes : ℕ → List ℕ) where
  -- a return is copied, and all else is as it was
  pub record CopiesOne (r : Ret) (old new : List ℕ) : Type 0 where
    pub long : length new ≡ length old
    pub here : (o : ℕ) → Covers g r.buf o → sector_at new (place r o) ≡ sector_at (bytes r.buf) (o - (buf_at g r.buf).from)
    pub rest : (s : ℕ) → ((o : ℕ) → Covers g r.buf o → s ≡ place r o → ⊥) → sector_at new s ≡ sector_at old s

  -- the first n are
  pub record Copies (n : ℕ) (old new : List ℕ) : Type 0 where
    pub long : length new ≡ length old
    pub here : (k o : ℕ) → k < n → Covers g (ret_at g k).buf o → sector_at new (place (ret_at g k) o) ≡ sector_at (bytes (ret_at g k).buf) (o - (buf_at g (ret_at g k).buf).from)
    pub rest : (s : ℕ) → ((k o : ℕ) → k < n → Covers g (ret_at g k).buf o → s ≡ place (ret_at g k) o → ⊥) → sector_at new s ≡ sector_at old s

-- ## What the world is handed

-- the return is the reply for this block
abbrev pub hits : Shape → Desk → Ret → ℕ → Bool
hits y d r block =
    (slice_index d.map.stripes (stripe_of d.run.graph r.buf) == layout.stripe_of y block)
    && ((r.unit == layout.unit_of y block)
    && (nat_le (buf_at d.run.graph r.buf).from (layout.offset_of y block) && nat_lt (layout.offset_of y block) ((buf_at d.run.graph r.buf).from + (buf_at d.run.graph r.buf).count)))

-- byte k of the block: that of the first return that is the reply for it, or this
unfoldable pub picked : Shape → Desk → (ℕ → ℕ → ℕ → ℕ) → List Ret → ℕ → ℕ → ℕ → ℕ
picked y d buf [] block k byte = byte
picked y d buf (r ∷ rets) block k byte = if hits y d r block then buf r.buf (layout.offset_of y block) k else picked y d buf rets block k byte
