-- What the reads of a service are replied, by the plain machine over a disk of zeros.
use Rattle.std.specs.Prelude.{◌≡◌, ◌≢◌, ℕ, ◌<◌, List, [], length, map, replicate, take, drop, slice_index_or, fold, slice_get}
use Rattle.blk_plain.specs.declared.op.Op.{Op}
use Rattle.blk_plain.specs.declared.op.Op.TheVariants.{Write, Writes, Read, Rebuild, Sync}
use Rattle.blk_plain.specs.Plain.{zero_sector, after}
use Rattle.sim_queue.specs.declared.request.Request.{Request}
use Rattle.sim_queue.specs.declared.request.Served.{Served}
use Rattle.sim_queue.specs.Service.{request_at, IsTransfer}
use Rattle.std.specs.Option.{option_map_or}

-- the sectors that an operation is replied, from the blocks as they stand
abbrev pub read_from : Op → List (List ℕ) → List (List ℕ)
read_from (Write span pattern) blocks = []
read_from (Read span) blocks = take span.count (drop span.first blocks)
read_from (Writes patches) blocks = []
read_from (Rebuild stripe) blocks = []
read_from (Sync stripe) blocks = []

-- the service at a place
unfoldable pub service_at : List Served → ℕ → Served
service_at services place = slice_index_or services place (record { request = 0; start = 0; end = 0 })

-- the reply of the request that is served at a place, from the blocks there: a disk of zeros after the operations that are served before it
unfoldable pub reply_at : ℕ → List Request → List Served → ℕ → List (List ℕ)
reply_at sectors requests services place =
    read_from (request_at requests (service_at services place).request).op
    (fold (λ (now : List (List ℕ)) i. option_map_or (λ (op : Op). after op now) (slice_get (map (λ r. r.op) requests) i) now) (replicate sectors zero_sector) (take place (map (λ s. s.request) services)))

-- these are the replies: each request that is served has that of its place
abbrev pub AreReplies : ℕ → List Request → List Served → List (List (List ℕ)) → Type 0
AreReplies sectors requests services replies = (place : ℕ) → place < length services → slice_index_or replies (service_at services place).request [] ≡ reply_at sectors requests services place

-- all are reads and writes within so many sectors
abbrev pub AreWithin : ℕ → List Request → Type 0
AreWithin sectors requests = (j : ℕ) → j < length requests → IsTransfer sectors (request_at requests j).op

-- no request is served twice
abbrev pub AreApart : List Served → Type 0
AreApart services = (i j : ℕ) (d : Served) → i < j → j < length services → (slice_index_or services i d).request ≢ (slice_index_or services j d).request

-- each is one of so many requests
abbrev pub AreKnown : ℕ → List Served → Type 0
AreKnown count services = (place : ℕ) → place < length services → (service_at services place).request < count
