-- The words and items of a script that is drawn, from a generator as it stands; Drawn says them
-- by their number.
use Rattle.std.specs.Prelude.{ℕ, ◌+◌, ◌-◌, ◌*◌, ◌/◌, ◌%◌, List, [], ◌∷◌, None, if◌then◌else◌, nat_eq, map, min}
use Rattle.std.specs.List.{range_with_len}
use Rattle.rand_core.specs.Pcg32Seed.{pcg32_seed}
use Rattle.rand_pcg.specs.Lcg.{Lcg, advance}
use Rattle.rand_pcg.specs.Pcg.{multiplier_64, pcg32, pcg32_of_seed}
use Rattle.raid_script.specs.Asked.{Asked, Writes, Reads}

-- ---- words: the generator is PCG-XSH-RR 64/32

-- the generator that a number makes
unfoldable pub seeded : ℕ → Lcg
seeded seed = pcg32_of_seed (pcg32_seed 16 seed)

-- the generator after n words
unfoldable pub after : ℕ → Lcg → Lcg
after n g = advance 64 multiplier_64 n g

-- the word that a generator gives next
unfoldable pub first_word : Lcg → ℕ
first_word g = (pcg32 g).0

-- the n-th word that it gives, from 0
abbrev pub word_of : ℕ → Lcg → ℕ
word_of n g = first_word (after n g)

-- ---- items

-- the item that three words make, in the share of so many blocks that is this client's: a read where the first word is a multiple of 3, and else a write of one byte
unfoldable pub item_by : (client wide a p q : ℕ) → Asked
item_by client wide a p q =
    let count = 1 + p % min 8 wide in
    let first = client * wide + a / 4 % (wide - count + 1) in
    if nat_eq (a % 3) 0 then Reads first count None else Writes first count (q % 256 ∷ []) None

-- as many clients as there are blocks, at most so many
abbrev pub taken : (clients blocks : ℕ) → ℕ
taken clients blocks = min clients blocks

-- the item that the next three words make
unfoldable pub item_from : (client wide : ℕ) → Lcg → Asked
item_from client wide g = item_by client wide (word_of 0 g) (word_of 1 g) (word_of 2 g)

-- the items of a client, so many, each from the words behind those of the item before
unfoldable pub row_from : (client wide ops : ℕ) → Lcg → List Asked
row_from client wide ops g = map (λ i. item_from client wide (after (3 * i) g)) (range_with_len 0 ops)

-- the items of the first so many clients, each from the words behind those of the client before
unfoldable pub rows_from : (clients wide ops : ℕ) → Lcg → List (List Asked)
rows_from clients wide ops g = map (λ c. row_from c wide ops (after (3 * (c * ops)) g)) (range_with_len 0 clients)
