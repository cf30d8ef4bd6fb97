-- What it means that clients that work beside one another do as if they came one after another.
use Rattle.std.specs.Prelude.{◌≡◌, ◌<◌, ◌+◌, ℕ, List, [], ◌∷◌, ◌++◌, length, Option, Some, None, map, flat_map, take, slice_get, slice_index_or, sum_by}
use Rattle.std.specs.List.{range_with_len}
use Rattle.blk_plain.specs.declared.op.Op.{Op}
use Rattle.blk_plain.specs.declared.op.Op.TheVariants.{Write, Writes, Read, Rebuild, Sync}
use Rattle.blk_plain.specs.declared.op.Span.{Span}
use Rattle.blk_disk.specs.declared.disk.Disk.{Ghosts}
use Rattle.blk_disk.specs.Devices.{contents_of}
use Rattle.lay_core.specs.Layout.{Blocks}
use Rattle.eng_cols.specs.Contents.{Agrees, AnyStripe}
use Rattle.eng_world.specs.declared.item.Reply.{Reply}
use Rattle.eng_world.specs.declared.item.Reply.TheVariants.{Done, Data}
use Rattle.eng_world.specs.Plain.{apply, replay}
use Rattle.eng_cols.specs.Stripes.{states_of}
use Rattle.raid_script.specs.Asked.{Asked}
use Rattle.raid_script.specs.Steps.{seen_op, op_sectors, op_writes, sweep_line, written_line}
use Rattle.raid_script.specs.Replies.{replies_at}
use Rattle.raid_script.specs.Summary.{summary_text}
use Rattle.top_run.specs.Work.{Work, Service}
use Rattle.top_run.specs.Ran.{WasInSync, told_byte}

-- ## One after another

-- what the operation asks, by the library's graph
abbrev pub asks : Op → Asked
asks op = seen_op op None

-- what clients ask, client after client, each one's in its order
abbrev pub one_after_another : List (List Asked) → List Asked
one_after_another clients = flat_map (λ items. items) clients

-- where client c's item i stands among them
abbrev pub place_of : List (List Asked) → ℕ → ℕ → ℕ
place_of clients c i = length (one_after_another (take c clients)) + i

-- client c's item i is this operation
abbrev pub HasOp : List (List Asked) → List Op → ℕ → ℕ → Op → Type 0
HasOp clients turn c i op = (i < length (slice_index_or clients c [])) × (slice_get turn (place_of clients c i) ≡ Some op)

-- ## The plain machine

-- what it replies
abbrev pub plain_reply : Op → Reply
plain_reply (Write span pattern) = Done
plain_reply (Writes patches) = Done
plain_reply (Read span) = Data
plain_reply (Rebuild stripe) = Done
plain_reply (Sync stripe) = Done

-- the sum of a block's bytes
unfoldable pub block_sum : Blocks → ℕ → ℕ
block_sum blocks b = sum_by (λ k. blocks b k) (range_with_len 0 512)

-- of those that it replies to an operation: those of a read's blocks
abbrev pub reply_sum : Blocks → Op → ℕ
reply_sum blocks (Write span pattern) = 0
reply_sum blocks (Writes patches) = 0
reply_sum blocks (Read span) = sum_by (λ j. block_sum blocks (span.first + j)) (range_with_len 0 span.count)
reply_sum blocks (Rebuild stripe) = 0
reply_sum blocks (Sync stripe) = 0

-- and to all operations, one after another
abbrev pub replies_sum : Blocks → List Op → ℕ
replies_sum blocks [] = 0
replies_sum blocks (op ∷ ops) = reply_sum blocks op + replies_sum (apply blocks op) ops

-- both lines of a summary, of so many clients and these operations
abbrev pub turn_text : ℕ → List Op → ℕ → List ℕ
turn_text clients turn sum = sweep_line clients (length turn) ++ written_line (sum_by op_writes turn) (sum_by op_sectors turn) sum

-- ## The law

module _ {D : Type 0} (g : Ghosts D) (a : Work) (taken : List (Option D)) (s : Service) (back : List (Option D)) where
  -- The run did what the plain machine does over these blocks, where the clients' operations come one after another, client after client:
  -- asked: they are what is asked;
  -- replied: each is replied what the machine replies;
  -- counts: what sums it up are how many clients and operations there are, how many blocks these write and read, and a sum.
  -- Where the array was in sync and devices tell what they hold:
  -- left: the units that are left on them encode the blocks that the machine leaves;
  -- read: each byte that is told of a read is what the blocks held behind the operations before it;
  -- summary: and the sum is that of all bytes that the machine replies.
  pub record SweptInTurn (blocks : Blocks) : Type 0 where
    pub turn : List Op
    pub asked : map asks turn ≡ one_after_another a.clients
    pub replied : (c i : ℕ) (op : Op) → HasOp a.clients turn c i op → slice_get (replies_at s.replies c) i ≡ Some (plain_reply op)
    pub left : g.tells → WasInSync g a taken → Agrees a.layout (contents_of g back) (states_of a.layout s.ending.columns) (replay blocks turn) AnyStripe
    pub read : g.tells → WasInSync g a taken → (c i : ℕ) (span : Span) → HasOp a.clients turn c i (Read span) → (j k : ℕ) → j < span.count → k < 512
        → told_byte s c i j k ≡ replay blocks (take (place_of a.clients c i) turn) (span.first + j) k
    pub counts : (sum : ℕ) × (summary_text s.clients s.replies s.sectors ≡ turn_text (length a.clients) turn sum)
    pub summary : g.tells → WasInSync g a taken → summary_text s.clients s.replies s.sectors ≡ turn_text (length a.clients) turn (replies_sum blocks turn)
