use Rattle.std.proofs.Common.{◌-◌, ℕ, List, length, ap, subst, arith}
use Rattle.std.specs.Prelude.{replicate}
use Rattle.std.proofs.lemmas.List.{length-append, length-replicate}
use Rattle.buf_pool.specs.Pool.{PoolView, StandsApart}
use Rattle.buf_pool.proofs.reserve.Reserve.lease_into.Goals as goal

pub unreachable-requires : goal.unreachable-requires
unreachable-requires c =
    let p = c.self.inside.pool in
    let lack : List ℕ = replicate (2048 - length p.seats) 2048 in
    let there = c.requires in
    let frees = ap (λ (q : PoolView). length q.free) c.self.view_is in
    let seats = ap (λ (q : PoolView). length q.seats) c.self.view_is in
    let all = length-append p.free lack in
    let lacks = length-replicate {A = ℕ} (2048 - length p.seats) 2048 in
    let free = c.free.ensures.free in
    let most = c.free.ensures.most in
    let over = c.if-n-free.true in
    omega (arith, there, frees, seats, all, lacks, free, most, over)

pub returns-clause-apart : goal.returns-clause-apart
returns-clause-apart c = subst (λ (q : PoolView). StandsApart q c.lease_into.new.lease c.lease_into.new.self) c.self.view_is c.in-Ok.ensures.apart
