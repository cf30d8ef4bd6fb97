-- How items are kept: a pattern longer than a byte and a write of several spans as the place where it stands.
use Rattle.std.specs.Prelude.{◌≡◌, ◌<◌, ◌≤◌, ℕ, List, ◌∷◌, length, replicate, Option, Some, None, slice_get}
use Rattle.std.proofs.Common.{arith, refl}
use Rattle.blk_plain.specs.declared.op.Op.TheVariants as op
use Rattle.blk_plain.specs.declared.op.Patch.{Patch}
use Rattle.blk_plain.specs.declared.op.Patches.{Patches}
use Rattle.blk_plain.specs.declared.op.Pattern.{Pattern}
use Rattle.blk_plain.specs.declared.op.Span.{Span}
use Rattle.eng_world.specs.declared.item.Item.{Item}
use Rattle.eng_world.specs.declared.item.Item.TheVariants as item
use Rattle.item_list.specs.declared.slot.Slot.{Slot}
use Rattle.item_list.specs.declared.slot.Slot.TheVariants as slot

pub some : 0 < 1
some = omega arith

pub few : 1 ≤ 32
few = omega arith

-- the pattern of a byte
abbrev pub one_byte : ℕ → Pattern
one_byte byte = record {
  len = 1;
  bytes = byte ∷ replicate 31 0;
  some = some;
  few = few;
  whole = refl;
  rest = refl;
}

-- the write of this patch; without any it is no item that a list has
abbrev pub written : Option Patch → Option ℕ → Item
written None graph = item.Fail 0
written (Some patch) graph = item.Run (op.Write patch.span patch.pattern) graph

-- the write of these patches; without any it is no item that a list has
abbrev pub patched : Option Patches → Option ℕ → Item
patched None graph = item.Fail 0
patched (Some patches) graph = item.Run (op.Writes patches) graph

-- the item that a slot stands for, where these are the patches of all writes of a longer pattern, and those of all writes
-- of several spans
abbrev pub item_of : List Patch → List Patches → Slot → Item
item_of longer writes (slot.Fill first count byte graph) = item.Run (op.Write (record { first = first; count = count }) (one_byte byte)) graph
item_of longer writes (slot.Write at graph) = written (slice_get longer at) graph
item_of longer writes (slot.Writes at graph) = patched (slice_get writes at) graph
item_of longer writes (slot.Read first count graph) = item.Run (op.Read (record { first = first; count = count })) graph
item_of longer writes (slot.Rebuild stripe graph) = item.Run (op.Rebuild stripe) graph
item_of longer writes (slot.Sync stripe graph) = item.Run (op.Sync stripe) graph
item_of longer writes (slot.Fail column) = item.Fail column

-- the span that it reads
abbrev pub slot_read : Slot → Option Span
slot_read (slot.Fill first count byte graph) = None
slot_read (slot.Write at graph) = None
slot_read (slot.Writes at graph) = None
slot_read (slot.Read first count graph) = Some (record { first = first; count = count })
slot_read (slot.Rebuild stripe graph) = None
slot_read (slot.Sync stripe graph) = None
slot_read (slot.Fail column) = None

-- its patches are among so many
abbrev pub IsWithin : ℕ → ℕ → Slot → Type 0
IsWithin long count (slot.Fill first blocks byte graph) = Unit
IsWithin long count (slot.Write at graph) = at < long
IsWithin long count (slot.Writes at graph) = at < count
IsWithin long count (slot.Read first blocks graph) = Unit
IsWithin long count (slot.Rebuild stripe graph) = Unit
IsWithin long count (slot.Sync stripe graph) = Unit
IsWithin long count (slot.Fail column) = Unit

-- what was kept is kept, at its place
pub record KeepsAll {A : Type 0} (old new : List A) : Type 0 where
  pub longer : length old ≤ length new
  pub same : (at : ℕ) → at < length old → slice_get new at ≡ slice_get old at
