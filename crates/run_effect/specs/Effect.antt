-- What a run comes to, in the words of what is asked, of what is told and of what devices hold: no event, no graph, no label.
use Rattle.std.specs.Prelude.{◌≡◌, ◌≢◌, ◌<◌, ◌≤◌, ◌+◌, ◌*◌, ℕ, List, [], ◌∷◌, ◌++◌, Option, Some, None, Vec, length, map, take, drop, option_to_list, slice_get, slice_index, slice_index_or}
use Rattle.std.specs.declared.alloc.Global.{Global}
use Rattle.blk_plain.specs.declared.op.Op.{Op}
use Rattle.blk_plain.specs.declared.op.Op.TheVariants.{Read}
use Rattle.blk_plain.specs.declared.op.OpId.{OpId}
use Rattle.blk_plain.specs.declared.op.Span.{Span}
use Rattle.blk_disk.specs.declared.disk.Disk.{Ghosts}
use Rattle.blk_disk.specs.Devices.{contents_of}
use Rattle.lay_core.specs.Layout.{Blocks, Shape, blocks_in}
use Rattle.eng_cols.specs.declared.column.Column.{Column}
use Rattle.eng_cols.specs.declared.spot.Loss.{Loss}
use Rattle.eng_cols.specs.Contents.{Agrees, AnyStripe, InSync, decode}
use Rattle.eng_cols.specs.Stripes.{states_of}
use Rattle.eng_world.specs.declared.item.Reply.{Reply}
use Rattle.eng_world.specs.declared.item.Reply.TheVariants.{Data}
use Rattle.eng_world.specs.Legal.{HasCommitted, HasNotCommitted}
use Rattle.eng_world.specs.Plain.{replay}
use Rattle.eng_world.specs.World.{op_of}
use Rattle.item_list.specs.ItemList.{ItemList}
use Rattle.raid_script.specs.Asked.{Asked, seen}
use Rattle.raid_script.specs.Replies.{item_bytes, item_sectors, items_at, no_item, replies_at, sectors_before}

-- ## What goes in, and what comes out

-- the layout, the columns as the array is opened, and what each client asks for
pub record Request : Type 0 where
  pub layout : Shape
  pub columns : List Column
  pub clients : List (List Asked)

-- of each client its items and their replies; the bytes of what is read; the history; the columns in the end, and by what the array is lost, if it is
pub record Answer : Type 0 where
  pub clients : List ItemList
  pub replies : List (Vec Reply Global)
  pub sectors : List ℕ
  pub history : List OpId
  pub columns : List Column
  pub lost : Option Loss

-- ## By name

-- the operation of this name, if it is one of a client's
abbrev pub op_named : Answer → OpId → Option Op
op_named s id = op_of (slice_get (items_at s.clients id.client) id.index)

-- its reply
abbrev pub reply_to : Answer → OpId → Option Reply
reply_to s id = slice_get (replies_at s.replies id.client) id.index

-- the clients' operations that stand in a history, in its order; the array's own, which change no block, are left out
abbrev pub ops_named : Answer → List OpId → List Op
ops_named s [] = []
ops_named s (id ∷ history) = option_to_list (op_named s id) ++ ops_named s history

-- byte k of block b of what an operation is handed
abbrev pub byte_read : Answer → OpId → ℕ → ℕ → ℕ
byte_read s id b k = slice_index (item_bytes (items_at s.clients id.client) (drop (512 * sectors_before s.clients id.client) s.sectors) id.index (item_sectors (slice_index_or (items_at s.clients id.client) id.index no_item))) (512 * b + k)

-- ## What it comes to

module _ {D : Type 0} (g : Ghosts D) (a : Request) (taken back : List (Option D)) (s : Answer) where
  -- the blocks that the devices hold as they are taken
  abbrev pub held : Blocks
  held = decode a.layout (contents_of g taken) (states_of a.layout a.columns)

  -- the check units of each stripe that lacks no unit fit its data then
  abbrev pub WasFit : Type 0
  WasFit = InSync a.layout (contents_of g taken) (states_of a.layout a.columns)

  -- Each operation takes its whole effect once, at one place of one history that keeps each client's order, or none; each read tells what the plain list of blocks holds at its place; and what devices hold in the end encodes the list after that history.
  pub record TakesEffect : Type 0 where
    pub asked : map (λ items. map seen items.items) s.clients ≡ a.clients
    pub answered : (c : ℕ) → length (replies_at s.replies c) ≡ length (items_at s.clients c)
    pub own : (n : ℕ) (id : OpId) → slice_get s.history n ≡ Some id → id.client ≢ 16 → (op : Op) × (op_named s id ≡ Some op)
    pub once : (m n : ℕ) (id : OpId) → slice_get s.history m ≡ Some id → slice_get s.history n ≡ Some id → m ≡ n
    pub ordered : (m n : ℕ) (x y : OpId) → slice_get s.history m ≡ Some x → slice_get s.history n ≡ Some y → x.client ≡ y.client → x.index < y.index → m < n
    pub done : (id : OpId) (r : Reply) → reply_to s id ≡ Some r → HasCommitted r → (n : ℕ) × (slice_get s.history n ≡ Some id)
    pub undone : (id : OpId) (r : Reply) (n : ℕ) → reply_to s id ≡ Some r → HasNotCommitted r → slice_get s.history n ≡ Some id → ⊥
    pub read : g.tells → WasFit → (id : OpId) (span : Span) (n j k : ℕ) → reply_to s id ≡ Some Data → op_named s id ≡ Some (Read span) → slice_get s.history n ≡ Some id
        → j < span.count → span.first + j < blocks_in a.layout → k < 512
        → byte_read s id j k ≡ replay held (ops_named s (take n s.history)) (span.first + j) k
    pub left : g.tells → WasFit → s.lost ≡ None → Agrees a.layout (contents_of g back) (states_of a.layout s.columns) (replay held (ops_named s s.history)) AnyStripe
