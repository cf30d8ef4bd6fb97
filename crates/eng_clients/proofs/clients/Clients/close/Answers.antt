use Rattle.std.proofs.Common.{List, [], ◌∷◌, ◌++◌, length, sym, subst, arith}
use Rattle.std.specs.Prelude.{Vec}
use Rattle.std.specs.declared.alloc.Global.{Global}
use Rattle.eng_world.specs.declared.item.Reply.{Reply}
use Rattle.item_list.specs.ItemList.{ItemList}
use Rattle.eng_clients.specs.Desk.{Desk}
use Rattle.eng_clients.proofs.Closing.{closed-more}
use Rattle.eng_clients.proofs.clients.Clients.close.Goals as goal
use Rattle.eng_clients.specs.Replied.{AreClosed}

pub loop-client-preserved : goal.loop-client-preserved
loop-client-preserved c =
    let desks : List Desk = c.loop-client.yielded ++ c.in-Some.client ∷ [] in
    let a = c.loop-client.invariant.room.0 in
    let b = c.loop-client.invariant.room.1 in
    let e = c.push_reserved.ensures.capacity in
    let f = c.push_reserved-in-loop-client.ensures.capacity in
    record {
      closed =
          subst (λ (l : List ItemList). AreClosed c.args.lost desks (length desks) l c.push_reserved-in-loop-client.new.self.items) (sym c.push_reserved.ensures.items)
          (subst (λ (l : List (Vec Reply Global)). AreClosed c.args.lost desks (length desks) (c.loop-client.items.items ++ c.close-closed.result.0 ∷ []) l) (sym c.push_reserved-in-loop-client.ensures.items)
          (closed-more c.args.lost c.loop-client.yielded c.in-Some.client c.loop-client.items.items c.loop-client.replies.items c.close-closed.result.0 c.close-closed.result.1 c.loop-client.invariant.closed c.close-closed.ensures.items c.close-closed.ensures.replies));
      room = (omega (arith, a, e), omega (arith, b, f));
    }
