use Rattle.std.proofs.Common.{◌≡◌, ℕ, length, map, sym, ap, ◌∙◌, subst, arith, ◌<◌, get_or}
use Rattle.std.proofs.lemmas.List.{length-set, length-map}
use Rattle.buf_pool.specs.Pool.{seen, seat_at, taken, IsLease, KeepsLeases, PoolView, SeatView, leased}
use Rattle.buf_pool.proofs.Keeps.{kept, left, left_long, seen_at, taken_keeps}
use Rattle.buf_pool.proofs.pool.Pool.take.Goals as goal

pub invariant_of-self : goal.invariant_of-self
invariant_of-self c =
    let items = c.self.inside.seats.items in let k : ℕ = get_or c.args.lease.now c.args.i 0 in let read : c.seat.result ≡ k = c.seat.ensures in
    let mine = subst (λ (q : PoolView). IsLease q c.args.lease.now) (sym c.self.view_is) c.requires.lease c.args.i c.requires.i in
    let m = length-map items seen in let inside : c.seat.result < length items = omega (arith, mine.0, read, m) in
    let owner : leased c.index_mut-seat.result.now.owner.value ≡ 1 = ap (λ (v : SeatView). leased v.owner) (sym (seen_at items c.seat.result c.index_mut-seat.result.now inside c.index_mut-seat.ensures.value)) ∙ (ap (λ (i : ℕ). leased (seat_at (map seen items) i).owner) read ∙ ap leased mine.1) in
    let long = length-set items c.seat.result (record { owner = c.index_mut-seat.result.now.owner; place = c.replace.new.dest }) in let cap = c.self.invariant.1 in
    (kept _ _ items c.seat.result c.index_mut-seat.result.now _ inside c.index_mut-seat.ensures.value owner owner (left_long _ _ items c.seat.result c.index_mut-seat.result.now inside c.index_mut-seat.ensures.value c.self.invariant.0 _ c.of-copied.result c.in-Home.bytes c.in-Home.is c.replace.ensures.after c.of-copied.ensures) c.self.invariant.0, omega arith)

pub returns-clause-left : goal.returns-clause-left
returns-clause-left c =
    let items = c.self.inside.seats.items in let k : ℕ = get_or c.args.lease.now c.args.i 0 in let read : c.seat.result ≡ k = c.seat.ensures in
    let mine = subst (λ (q : PoolView). IsLease q c.args.lease.now) (sym c.self.view_is) c.requires.lease c.args.i c.requires.i in
    let m = length-map items seen in let inside : c.seat.result < length items = omega (arith, mine.0, read, m) in
    left _ _ items c.seat.result c.index_mut-seat.result.now inside c.index_mut-seat.ensures.value _ c.of-copied.result c.in-Home.bytes c.in-Home.is c.replace.ensures.after c.of-copied.ensures
    ∙ (ap (λ (i : ℕ). taken (record { unit = c.self.inside.unit; free = c.self.inside.free.items; seats = map seen items }) i) read ∙ ap (λ (q : PoolView). taken q k) c.self.view_is)

pub returns-clause-leases : goal.returns-clause-leases
returns-clause-leases c = subst (λ (q : PoolView). KeepsLeases c.args.self.now q) (sym (returns-clause-left c)) (taken_keeps c.args.self.now (get_or c.args.lease.now c.args.i 0))
