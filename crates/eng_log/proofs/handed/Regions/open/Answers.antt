use Rattle.std.proofs.Common.{◌+◌, ℕ, length, sym, subst, ap, ◌∙◌, arith}
use Rattle.eng_rest.specs.Left.{below}
use Rattle.eng_log.specs.Laid.{sectors_at, IsRow}
use Rattle.eng_log.proofs.Laying.{none-yet, row-more, below-none, below-one, below-within}
use Rattle.eng_log.proofs.handed.Regions.open.Goals as goal

pub loop-i-init : goal.loop-i-init
loop-i-init c = record {
  row = subst (IsRow c.args.items.now.items c.args.first 0) (sym c.in_ok-list.ensures.items) (none-yet c.args.items.now.items c.args.first);
  next = let e = below-none (sectors_at c.args.items.now.items) in omega (arith, e);
  room = let e = c.in_ok-list.ensures.capacity in omega (arith, e, c.len.ensures);
}

pub overflow_add-next : goal.overflow_add-next
overflow_add-next c =
    let n = c.sectors_at-count.ensures in
    let w = below-within (sectors_at c.args.items.now.items) c.loop-i.i (length c.args.items.now.items) (omega (arith, c.loop-i-test.true, c.len-i-end.ensures)) in
    let i = c.loop-i.invariant.next in
    let r = c.requires in
    omega (arith, n, w, i, r)

pub loop-i-preserved : goal.loop-i-preserved
loop-i-preserved c =
    let n = c.sectors_at-count.ensures in
    record {
      row = subst (IsRow c.args.items.now.items c.args.first (c.loop-i.i + 1)) (sym c.push_reserved.ensures.items)
          (row-more c.args.items.now.items c.args.first c.loop-i.i c.loop-i.list.items (record { first = c.loop-i.next; count = c.sectors_at-count.result }) c.loop-i.invariant.row
          (ap (λ (f : ℕ). record { first = f; count = c.sectors_at-count.result }) c.loop-i.invariant.next
          ∙ ap (λ (k : ℕ). record { first = c.args.first + below (sectors_at c.args.items.now.items) c.loop-i.i; count = k }) n));
      next = let i = c.loop-i.invariant.next in let o = below-one (sectors_at c.args.items.now.items) c.loop-i.i in omega (arith, n, i, o);
      room = let e = c.push_reserved.ensures.capacity in let r = c.loop-i.invariant.room in omega (arith, e, r);
    }
