use Rattle.std.proofs.Common.{◌≡◌, ◌+◌, ◌<◌, ◌∙◌, ℕ, List, Option, None, get_or, length, ap, sym, subst, refl, arith}
use Rattle.std.proofs.lemmas.List.{length_push, length-set, get_or-set_other}
use Rattle.item_list.specs.ItemList.{ItemList}
use Rattle.eng_clients.specs.Desk.{Desk, desk_at}
use Rattle.eng_log.specs.Given.{items_at}
use Rattle.std.specs.Int.{bit_at}
use Rattle.eng_clients.specs.Busy.{IsQuiet}
use Rattle.eng_clients.proofs.Keeping.{quiet-more}
use Rattle.eng_clients.proofs.MoreDesks.{more-each}
use Rattle.eng_clients.proofs.Giving.{back}
use Rattle.eng_clients.proofs.clients.open.ClientRooms.bring.Goals as goal
use Rattle.eng_clients.specs.Fresh.{new_desk}

pub loop-number-init : goal.loop-number-init
loop-number-init c = record {
  count = ap length c.self.invariant.0;
  room = c.self.invariant.1;
  each = λ k lt. absurd (omega (arith, lt));
  quiet = λ k free. subst (λ (l : List Desk). IsQuiet (desk_at l k)) (sym c.self.invariant.0) (record { nothing = refl; replied = refl });
  given = λ k le. refl;
  rooms = λ k le. ap (λ (l : List (Option ℕ)). get_or l k None) c.self.view_is;
  many = ap length c.self.view_is ∙ c.requires.count;
}

pub bring_one-client-requires : goal.bring_one-client-requires
bring_one-client-requires c =
    let n = c.loop-number.number in
    let same : items_at c.deref_mut-in-loop-number.result.now n ≡ items_at c.args.given.items n =
    ap (λ (l : List ItemList). items_at l n) c.deref_mut-in-loop-number.ensures.value ∙ c.loop-number.invariant.given n (omega arith) in (
      length (items_at c.args.given.items n),
      ap (λ (l : List (Option ℕ)). get_or l n None) c.deref_mut.ensures.value ∙ (c.loop-number.invariant.rooms n (omega arith) ∙ c.requires.each n (let t = c.loop-number-test.true in omega (arith, t))),
      omega (arith, ap length same),
    )

pub loop-number-preserved : goal.loop-number-preserved
loop-number-preserved c =
    let n = c.loop-number.number in
    let inv = c.loop-number.invariant in
    let same : items_at c.deref_mut-in-loop-number.result.now n ≡ items_at c.args.given.items n =
    ap (λ (l : List ItemList). items_at l n) c.deref_mut-in-loop-number.ensures.value ∙ inv.given n (omega arith) in
    let new = c.bring_one-client.ensures in
    let given-long : length c.bring_one-client.new.given ≡ c.loop-number.given.len = let a = c.bring_one-client.auto.given in let v = ap length c.deref_mut-in-loop-number.ensures.value in let k = c.loop-number.given.ok.0 in omega (arith, a, v, k) in
    let rooms-long : length c.bring_one-client.new.rooms ≡ c.loop-number.rooms.len = let a = c.bring_one-client.auto.rooms in let v = ap length c.deref_mut.ensures.value in let k = c.loop-number.rooms.ok.0 in omega (arith, a, v, k) in
    let given-back = back c.loop-number.given.len c.bring_one-client.new.given c.loop-number.given.items given-long in
    let rooms-back = back c.loop-number.rooms.len c.bring_one-client.new.rooms c.loop-number.rooms.items rooms-long in
    record {
      count = ap length c.push_reserved.ensures.items ∙ (length_push c.loop-number.list.items _ ∙ ap (λ (m : ℕ). m + 1) inv.count);
      room = let e = c.push_reserved.ensures.capacity in let r = inv.room in omega (arith, e, r);
      each = subst (λ (l : List Desk). (k : ℕ) → k < n + 1 → desk_at l k ≡ new_desk (items_at c.args.given.items k)) (sym c.push_reserved.ensures.items)
          (more-each c.loop-number.list.items (items_at c.args.given.items) n _ inv.count inv.each (new.client ∙ ap new_desk same));
      quiet = subst (λ (l : List Desk). (k : ℕ) → bit_at c.with_client-busy.result k ≡ 0 → IsQuiet (desk_at l k)) (sym c.push_reserved.ensures.items)
          (quiet-more c.loop-number.list.items _ c.loop-number.busy c.with_client-busy.result n inv.count inv.quiet c.with_client-busy.ensures.others
          (λ free. record { nothing = ap (λ (d : Desk). d.stage) new.client; replied = c.with_client-busy.ensures.own free }));
      given = λ k le. ap (λ (l : List ItemList). items_at l k) given-back
          ∙ (new.others k (λ e. omega (arith, e, le))
          ∙ (ap (λ (l : List ItemList). items_at l k) c.deref_mut-in-loop-number.ensures.value ∙ inv.given k (omega (arith, le))));
      rooms = λ k le. ap (λ (l : List (Option ℕ)). get_or l k None) rooms-back
          ∙ (ap (λ (l : List (Option ℕ)). get_or l k None) new.rooms
          ∙ (get_or-set_other c.deref_mut.result.now n k None None (λ e. omega (arith, e, le))
          ∙ (ap (λ (l : List (Option ℕ)). get_or l k None) c.deref_mut.ensures.value ∙ inv.rooms k (omega (arith, le)))));
      many = ap length rooms-back ∙ (ap length new.rooms ∙ (length-set c.deref_mut.result.now n None ∙ (ap length c.deref_mut.ensures.value ∙ inv.many)));
    }
