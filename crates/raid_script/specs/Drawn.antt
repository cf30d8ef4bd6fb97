-- Scripts that are drawn from a number: each client has as many writes and reads as the others, all in a share of the blocks that is its own.
use Rattle.std.specs.Prelude.{◌≡◌, ℕ, ◌+◌, ◌-◌, ◌*◌, ◌/◌, ◌%◌, ◌<◌, ◌≤◌, List, [], ◌∷◌, true, Some, None, if◌then◌else◌, nat_eq, length, map, min, slice_get, All}
use Rattle.std.specs.List.{range_with_len}
use Rattle.blk_plain.specs.declared.op.Op.{Op}
use Rattle.eng_world.specs.declared.item.Item.{Item}
use Rattle.eng_world.specs.declared.item.Item.TheVariants.{Run}
use Rattle.eng_world.specs.Planning.{touches}
use Rattle.rand_core.specs.Pcg32Seed.{pcg32_seed}
use Rattle.rand_pcg.specs.Lcg.{advance}
use Rattle.rand_pcg.specs.Pcg.{multiplier_64, pcg32, pcg32_of_seed}
use Rattle.raid_script.specs.Asked.{Asked, Writes, WritesAll, Reads, Syncs, Fails, Other, seen}

-- the n-th word of a seed, from 0
unfoldable pub word_at : (seed n : ℕ) → ℕ
word_at seed n = (pcg32 (advance 64 multiplier_64 n (pcg32_of_seed (pcg32_seed 16 seed)))).0

-- The item that the n-th word and the two behind it make, in the share of so many blocks that is
-- this client's: a read where the first word is a multiple of 3, and else a write of one byte.
unfoldable pub item_at : (seed client wide n : ℕ) → Asked
item_at seed client wide n =
    let word = word_at seed n in
    let count = 1 + word_at seed (n + 1) % min 8 wide in
    let first = client * wide + word / 4 % (wide - count + 1) in
    if nat_eq (word % 3) 0 then Reads first count None
    else Writes first count (word_at seed (n + 2) % 256 ∷ []) None

-- the script of a seed: client after client, each in a share of so many blocks, and item after item,
-- three words each
unfoldable pub drawn : (seed clients ops blocks : ℕ) → List (List Asked)
drawn seed clients ops blocks =
    let wide = blocks / min clients blocks in
    map (λ client. map (λ i. item_at seed client wide (3 * (client * ops + i)))
    (range_with_len 0 ops)) (range_with_len 0 (min clients blocks))

-- ---- shares

-- 1 to 8 blocks, all of them in the client's share, which ends within the blocks
pub record IsOwnSpan (wide blocks client first count : ℕ) : Type 0 where
  pub some : 0 < count
  pub few : count ≤ 8
  pub begins : client * wide ≤ first
  pub ends : first + count ≤ (client + 1) * wide
  pub within : (client + 1) * wide ≤ blocks
  pub own : (b : ℕ) → first ≤ b → b < first + count → b / wide ≡ client

-- a write or a read, by the library's graph, of such blocks
abbrev pub IsOwn : (wide blocks client : ℕ) → Asked → Type 0
IsOwn wide blocks client (Writes first count bytes graph) = IsOwnSpan wide blocks client first count × (length bytes ≡ 1) × (graph ≡ None)
IsOwn wide blocks client (WritesAll patches graph) = ⊥
IsOwn wide blocks client (Reads first count graph) = IsOwnSpan wide blocks client first count × (graph ≡ None)
IsOwn wide blocks client (Syncs stripe) = ⊥
IsOwn wide blocks client (Fails column) = ⊥
IsOwn wide blocks client Other = ⊥

-- There are so many clients, and each has so many items, which touch no block but its own.
pub record AreApart (taken ops wide blocks : ℕ) (clients : List (List Asked)) : Type 0 where
  pub all : length clients ≡ taken
  pub count : (c : ℕ) (items : List Asked) → slice_get clients c ≡ Some items → length items ≡ ops
  pub own : (c : ℕ) (items : List Asked) → slice_get clients c ≡ Some items → All (IsOwn wide blocks c) items

-- an operation by the library's graph that touches no block but this client's
pub record IsOwnItem (wide blocks client : ℕ) (item : Item) : Type 0 where
  pub op : Op
  pub is : item ≡ Run op None
  pub own : (b : ℕ) → touches op b ≡ true → b / wide ≡ client
  pub within : (b : ℕ) → touches op b ≡ true → b < blocks

-- an item that asks for blocks of its client alone is such an operation
abbrev pub OwnItemsTouchTheirShare : Type 0
OwnItemsTouchTheirShare = (wide blocks client : ℕ) (item : Item) → IsOwn wide blocks client (seen item) → IsOwnItem wide blocks client item
