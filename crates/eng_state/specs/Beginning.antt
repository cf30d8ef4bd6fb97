-- The beginning of a client's item.
use Rattle.std.specs.Prelude.{◌≡◌, ◌<◌, ◌≤◌, ◌⊎◌, ℕ, Some, None, slice_get, slice_set}
use Rattle.blk_plain.specs.declared.op.Op.{Op}
use Rattle.lay_core.specs.Layout.{Shape}
use Rattle.lay_core.specs.declared.layout.Layout.{Ghosts as LayoutGhosts}
use Rattle.eng_cols.specs.Cols.{Dead}
use Rattle.eng_world.specs.declared.item.Item.{Item}
use Rattle.eng_world.specs.declared.item.Item.TheVariants as item
use Rattle.eng_world.specs.declared.item.Reply.{Reply}
use Rattle.eng_world.specs.declared.item.Reply.TheVariants as reply
use Rattle.eng_world.specs.Planning.{IsOut, IsLong}
use Rattle.eng_plan.specs.Asked.{HasBlocks}
use Rattle.eng_clients.specs.declared.stage.Stage.TheVariants.{Nothing}
use Rattle.eng_state.specs.declared.array.Array.{Array}
use Rattle.eng_clients.specs.Desk.{desk_at, item_at, with_reply, with_waiting}
use Rattle.eng_state.specs.Failing.{FailedBy}

-- the item may be asked: a span isn't empty, spans of one write share no block, and the column that is to fail is one of the array's
abbrev pub IsAsked : Shape → Item → Type 0
IsAsked y (item.Run op graph) = HasBlocks op
IsAsked y (item.Fail column) = column < y.columns

-- each item of every client may be asked
abbrev pub AllAsked : {L D : Type 0} → LayoutGhosts L → Array L D → Type 0
AllAsked lay core = (c n : ℕ) (i : Item) → slice_get (desk_at core.clients c).items n ≡ Some i → IsAsked (lay.shape core.layout) i

-- the client has no operation, and an item left
pub record CanBegin {L D : Type 0} (core : Array L D) (c : ℕ) : Type 0 where
  pub not_lost : core.lost ≡ None
  pub nothing : (desk_at core.clients c).stage ≡ Nothing
  pub item : Item
  pub next : item_at (desk_at core.clients c) ≡ Some item

-- the operation is refused by this reply as it begins: it is out of range, or else over too many stripes
abbrev pub IsRefusal : Shape → Op → Reply → Type 0
IsRefusal y op r = ((r ≡ reply.Range) × IsOut y op) ⊎ ((r ≡ reply.Long) × (IsOut y op → ⊥) × IsLong y op)

-- it is not
abbrev pub IsFine : Shape → Op → Type 0
IsFine y op = (IsOut y op → ⊥) × (IsLong y op → ⊥)

-- what becomes of a core whose client c waits now, or is replied
abbrev pub waiting : {L D : Type 0} → Array L D → ℕ → Array L D
waiting core c = record core { clients = slice_set core.clients c (with_waiting (desk_at core.clients c)) }

abbrev pub replied : {L D : Type 0} → Array L D → ℕ → Reply → Array L D
replied core c r = record core { clients = slice_set core.clients c (with_reply (desk_at core.clients c) r) }

module _ {L D : Type 0} (lay : LayoutGhosts L) where
  -- what becomes of a core as the item begins, before that is traced
  abbrev pub BegunAs : Item → Array L D → ℕ → Array L D → Type 0
  BegunAs (item.Run op graph) old c new =
      (IsFine (lay.shape old.layout) op × (new ≡ waiting old c))
      ⊎ ((r : Reply) × IsRefusal (lay.shape old.layout) op r × (new ≡ replied old c r))
  BegunAs (item.Fail column) old c new =
      ((slice_get old.cols.states column ≡ Some Dead) × (new ≡ replied old c reply.Okay))
      ⊎ ((slice_get old.cols.states column ≡ Some Dead → ⊥) × FailedBy lay (replied old c reply.Okay) column new)
