-- The sectors that reads hand out.
use Rattle.std.specs.Prelude.{◌≡◌, ◌<◌, ◌≤◌, ◌+◌, ◌*◌, ℕ, List, [], length, Bool, true, false, Some, get_or, slice_get, slice_index_or}
use Rattle.blk_disk.specs.Disk.{sector_at}
use Rattle.eng_world.specs.declared.item.Reply.{Reply}
use Rattle.eng_world.specs.declared.item.Reply.TheVariants as reply
use Rattle.eng_world.specs.World.{Client}
use Rattle.eng_rest.specs.Left.{below}
use Rattle.eng_log.specs.declared.region.Region.{Region}

-- their bytes, and for each client and item the region of its sectors
pub record Handout : Type 0 where
  pub bytes : List ℕ
  pub regions : List (List Region)

-- what stands at an item that isn't there
abbrev pub no_region : Region
no_region = record { first = 0; count = 0 }

abbrev pub region_at : Handout → ℕ → ℕ → Region
region_at h c i = slice_index_or (slice_index_or h.regions c []) i no_region

-- how many sectors the regions of client c's items have, and how many those of all clients
abbrev pub client_sectors : Handout → ℕ → ℕ
client_sectors h c = below (λ i. (region_at h c i).count) (length (slice_index_or h.regions c []))

abbrev pub all_sectors : Handout → ℕ
all_sectors h = below (client_sectors h) (length h.regions)

-- each region lies among the bytes, no two have a sector in common, and there are no bytes but theirs
pub record AreRegions (h : Handout) : Type 0 where
  pub within : (c i : ℕ) → 512 * ((region_at h c i).first + (region_at h c i).count) ≤ length h.bytes
  pub all : length h.bytes ≡ 512 * all_sectors h
  pub apart : (c i k j a b : ℕ) → a < (region_at h c i).count → b < (region_at h k j).count → (region_at h c i).first + a ≡ (region_at h k j).first + b → (c ≡ k) × (i ≡ j)

-- byte k of block b of what item i of client c hands out
abbrev pub handed_byte : Handout → ℕ → ℕ → ℕ → ℕ → ℕ
handed_byte h c i b k = get_or (sector_at h.bytes ((region_at h c i).first + b)) k 0

-- a reply that hands out data
abbrev pub is_data : Reply → Bool
is_data reply.Data = true
is_data reply.Done = false
is_data reply.Okay = false
is_data (reply.Undone device) = false
is_data reply.Range = false
is_data reply.Long = false
is_data (reply.Refused cause) = false
is_data reply.Lost = false

-- What the regions of the clients' items hold: where the reply is Data what it hands out, said where devices tell what they hold; and zeros where it's another one, or none yet.
pub record Hands (tells : Type 0) (h : Handout) (clients : ℕ → Client) : Type 0 where
  pub read : tells → (c i b k : ℕ) → slice_get (clients c).replies i ≡ Some reply.Data → b < (region_at h c i).count → k < 512 → (clients c).handed i b k ≡ handed_byte h c i b k
  pub zeros : (c i b k : ℕ) → (slice_get (clients c).replies i ≡ Some reply.Data → ⊥) → b < (region_at h c i).count → k < 512 → handed_byte h c i b k ≡ 0
