use Rattle.std.proofs.Common.{◌≡◌, ◌≤◌, ◌+◌, ℕ, length, sym, subst, ap, ◌∙◌, arith}
use Rattle.eng_log.specs.Given.{items_at}
use Rattle.eng_log.specs.Laid.{row_sectors, IsRow, AreRows}
use Rattle.eng_log.proofs.Laying.{below-none, no-rows, rows-more, below-one, below-within}
use Rattle.eng_log.proofs.handed.open.lay_rows.Goals as goal

pub loop-client-init : goal.loop-client-init
loop-client-init c = record {
  rows = subst (AreRows c.args.clients.now 0) (sym c.in_ok-rows.ensures.items) (no-rows c.args.clients.now);
  next = sym (below-none (row_sectors c.args.clients.now));
  room = let e = c.in_ok-rows.ensures.capacity in omega (arith, e);
}

pub lay_row-requires : goal.lay_row-requires
lay_row-requires c =
    let w = below-within (row_sectors c.args.clients.now) c.loop-client.client 16 (let t = c.loop-client-test.true in omega (arith, t)) in
    let n = c.loop-client.invariant.next in
    let r = c.requires in
    omega (arith, w, n, r)

pub loop-client-preserved : goal.loop-client-preserved
loop-client-preserved c = record {
  rows = subst (AreRows c.args.clients.now (c.loop-client.client + 1)) (sym c.push_reserved.ensures.items)
      (rows-more c.args.clients.now c.loop-client.client c.loop-client.rows.items c.in_ok-laid.laid.0 c.loop-client.invariant.rows
      (subst (λ (n : ℕ). IsRow (items_at c.args.clients.now c.loop-client.client) n (length (items_at c.args.clients.now c.loop-client.client)) c.in_ok-laid.laid.0) c.loop-client.invariant.next c.in_ok-laid.ensures.row));
  next = c.in_ok-laid.ensures.next
      ∙ (ap (λ (n : ℕ). n + row_sectors c.args.clients.now c.loop-client.client) c.loop-client.invariant.next ∙ sym (below-one (row_sectors c.args.clients.now) c.loop-client.client));
  room = let e = c.push_reserved.ensures.capacity in let r = c.loop-client.invariant.room in omega (arith, e, r);
}
