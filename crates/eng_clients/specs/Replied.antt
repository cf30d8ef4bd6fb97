-- What clients were replied.
use Rattle.std.specs.Prelude.{◌≡◌, ◌<◌, ◌-◌, ◌++◌, ℕ, List, [], length, Option, Some, None, Vec, slice_get, replicate}
use Rattle.std.specs.declared.alloc.Global.{Global}
use Rattle.eng_cols.specs.declared.spot.Loss.{Loss}
use Rattle.eng_world.specs.declared.item.Item.{Item}
use Rattle.eng_world.specs.declared.item.Reply.{Reply}
use Rattle.eng_world.specs.declared.item.Reply.TheVariants as reply
use Rattle.item_list.specs.ItemList.{ItemList}
use Rattle.eng_clients.specs.Desk.{Desk, desk_at}
use Rattle.eng_log.specs.Given.{items_at}

-- once the array is lost each item without a reply is replied lost
abbrev pub told_of : Option Loss → List Item → List Reply → List Reply
told_of None items replies = replies
told_of (Some loss) items replies = replies ++ replicate (length items - length replies) reply.Lost

-- what a client was replied: those replies aren't written down at its desk, which still knows the place of what runs
abbrev pub replies_of : Option Loss → Desk → List Reply
replies_of lost d = told_of lost d.items d.replies

abbrev pub replies_in : Option (Vec Reply Global) → List Reply
replies_in None = []
replies_in (Some replies) = replies.items

-- the replies of the client of this number, none past the last
abbrev pub replies_at : List (Vec Reply Global) → ℕ → List Reply
replies_at clients c = replies_in (slice_get clients c)

-- the first so many clients, with their items, and their replies once the array is lost by this, if it is
pub record AreClosed (lost : Option Loss) (desks : List Desk) (count : ℕ) (items : List ItemList) (replies : List (Vec Reply Global)) : Type 0 where
  pub items_count : length items ≡ count
  pub replies_count : length replies ≡ count
  pub items_each : (c : ℕ) → c < count → items_at items c ≡ (desk_at desks c).items
  pub replies_each : (c : ℕ) → c < count → replies_at replies c ≡ replies_of lost (desk_at desks c)
