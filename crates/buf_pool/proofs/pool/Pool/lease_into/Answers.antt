use Rattle.std.proofs.Common.{◌≡◌, ◌-◌, ◌≤◌, List, ℕ, length, drop, arith, sym, ap, ◌∙◌}
use Rattle.std.proofs.lemmas.List.{length-drop, take_all}
use Rattle.buf_pool.specs.Pool.{PoolView}
use Rattle.buf_pool.proofs.Leasing.{more}
use Rattle.buf_pool.proofs.pool.Pool.lease_into.Goals as goal

pub loop-i-preserved : goal.loop-i-preserved
loop-i-preserved c =
    let e = c.claim.ensures in let old = c.args.self.now in let l = c.fill.new.self in
    let few : c.args.n ≤ length old.free = let f = c.free.ensures.free in let t = c.if-n-free.false in omega arith in
    let free : c.as_slice.result.now ≡ old.free = c.as_slice.ensures.value ∙ ap (λ (q : PoolView). q.free) c.self.view_is in
    let all : c.len.result ≡ length old.free = let n = c.len.ensures in let v = ap (λ (q : PoolView). length q.free) c.self.view_is in omega arith in
    let cut : l ≡ drop (length old.free - c.args.n) old.free = c.fill.ensures ∙ (take_all (length c.as_slice.result.now - (c.len.result - c.args.n)) (drop (c.len.result - c.args.n) c.as_slice.result.now) (omega (arith, length-drop (c.len.result - c.args.n) c.as_slice.result.now)) ∙ ap (λ (x : List ℕ). drop (c.len.result - c.args.n) x) free ∙ ap (λ (x : ℕ). drop (x - c.args.n) old.free) all) in
    let many : length l ≡ c.args.n = ap length cut ∙ (length-drop (length old.free - c.args.n) old.free ∙ omega (arith, few)) in
    let h = c.loop-i-test.true in let g = c.loop-i.auto.i-end in
    more old c.loop-i.self c.claim.new.self c.first-first.result c.loop-i.i _ (c.args.n - 1 - c.loop-i.i) l
    (omega (arith, many, h, g)) (cut ∙ ap (λ (n : ℕ). drop (length old.free - n) old.free) (sym many)) (omega (arith, many, few)) e.unit e.free e.seats e.inside e.was_free.0 e.was_free.1 e.home c.loop-i.invariant
