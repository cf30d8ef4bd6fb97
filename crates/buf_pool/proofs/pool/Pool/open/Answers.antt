use Rattle.std.proofs.Common.{◌<◌, ◌+◌, ◌++◌, [], ◌∷◌, ℕ, List, map, arith, sym, ap, ◌∙◌, subst}
use Rattle.buf_pool.specs.Pool.{seen, SeatView}
use Rattle.buf_pool.proofs.Opening.{Opened, opened_push, seats_push, fresh_seat}
use Rattle.buf_pool.proofs.pool.Pool.open.Goals as goal

pub loop-k-preserved : goal.loop-k-preserved
loop-k-preserved c =
    let o = c.loop-k.invariant in let few : c.loop-k.k < 2048 = let h = c.loop-k-test.true in let r = c.requires.count in omega arith in
    let zeros : _ = c.in_ok-open.ensures in (
      subst (λ (s : List SeatView). Opened c.args.bytes c.push_reserved.new.self.items s (c.loop-k.k + 1)) (sym (ap (map seen) c.push_reserved-in-loop-k.ensures.items ∙ seats_push c.loop-k.seats.items _ c.args.bytes c.loop-k.k c.of.result c.of.ensures zeros))
          (subst (λ (f : List ℕ). Opened c.args.bytes f (map seen c.loop-k.seats.items ++ fresh_seat c.args.bytes c.loop-k.k ∷ []) (c.loop-k.k + 1)) (sym c.push_reserved.ensures.items) (opened_push c.args.bytes _ _ c.loop-k.k few o.0)),
      let a = o.1 in let b = c.push_reserved.ensures.capacity in omega arith,
      let a = o.2 in let b = c.push_reserved-in-loop-k.ensures.capacity in omega arith,
    )
