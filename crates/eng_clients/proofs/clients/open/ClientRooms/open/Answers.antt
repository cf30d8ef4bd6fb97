use Rattle.std.proofs.Common.{◌≡◌, ◌+◌, ◌<◌, ◌∙◌, ℕ, List, Option, Some, None, get_or, length, ap, sym, subst, arith}
use Rattle.std.proofs.lemmas.List.{length_push}
use Rattle.eng_log.specs.Given.{items_at}
use Rattle.eng_clients.proofs.Giving.{more-rooms}
use Rattle.eng_clients.proofs.clients.open.ClientRooms.open.Goals as goal

pub loop-client-preserved : goal.loop-client-preserved
loop-client-preserved c =
    let inv = c.loop-client.invariant in
    record {
      count = ap length c.push_reserved.ensures.items ∙ (length_push c.loop-client.rooms.items _ ∙ ap (λ (m : ℕ). m + 1) inv.count);
      room = let e = c.push_reserved.ensures.capacity in let r = inv.room in omega (arith, e, r);
      each = subst (λ (l : List (Option ℕ)). (k : ℕ) → k < c.loop-client.client + 1 → get_or l k None ≡ Some (length (items_at c.args.clients.now k))) (sym c.push_reserved.ensures.items)
          (more-rooms c.loop-client.rooms.items (λ k. length (items_at c.args.clients.now k)) c.loop-client.client _ inv.count inv.each (c.in_ok-open.ensures ∙ c.count_of-count.ensures));
    }
