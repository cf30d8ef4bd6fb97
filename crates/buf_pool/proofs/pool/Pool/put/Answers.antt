use Rattle.std.proofs.Common.{◌≡◌, ℕ, length, map, sym, ap, ◌∙◌, subst, arith, ◌<◌, get_or}
use Rattle.std.proofs.lemmas.List.{length-set, length-map}
use Rattle.buf_pool.specs.Pool.{seen, seat_at, put, IsLease, KeepsLeases, PoolView, SeatView, leased}
use Rattle.buf_pool.proofs.Keeps.{kept, back, seen_at, put_keeps}
use Rattle.buf_pool.proofs.pool.Pool.put.Goals as goal

pub invariant_of-self : goal.invariant_of-self
invariant_of-self c =
    let items = c.self.inside.seats.items in let k : ℕ = get_or c.args.lease.now c.args.i 0 in let read : c.seat.result ≡ k = c.seat.ensures in
    let mine = subst (λ (q : PoolView). IsLease q c.args.lease.now) (sym c.self.view_is) c.requires.lease c.args.i c.requires.i in
    let m = length-map items seen in let inside : c.seat.result < length items = omega (arith, mine.0, read, m) in
    let owner : leased c.index_mut.result.now.owner.value ≡ 1 = ap (λ (v : SeatView). leased v.owner) (sym (seen_at items c.seat.result c.index_mut.result.now inside c.index_mut.ensures.value)) ∙ (ap (λ (i : ℕ). leased (seat_at (map seen items) i).owner) read ∙ ap leased mine.1) in
    let long = length-set items c.seat.result (record c.index_mut.result.now { place = Rattle.buf_pool.specs.declared.seat.Place.TheVariants.Home c.of.result }) in let cap = c.self.invariant.1 in
    (kept _ _ items c.seat.result c.index_mut.result.now _ inside c.index_mut.ensures.value owner owner (ap length (c.of.ensures ∙ c.buffer.view_is) ∙ c.requires.long ∙ sym (ap (λ (q : PoolView). q.unit) c.self.view_is)) c.self.invariant.0, omega arith)

pub returns-clause-back : goal.returns-clause-back
returns-clause-back c =
    let items = c.self.inside.seats.items in let k : ℕ = get_or c.args.lease.now c.args.i 0 in let read : c.seat.result ≡ k = c.seat.ensures in
    let mine = subst (λ (q : PoolView). IsLease q c.args.lease.now) (sym c.self.view_is) c.requires.lease c.args.i c.requires.i in
    let m = length-map items seen in let inside : c.seat.result < length items = omega (arith, mine.0, read, m) in
    back _ _ items c.seat.result c.index_mut.result.now inside c.index_mut.ensures.value c.of.result
    ∙ (ap (λ (i : ℕ). put (record { unit = c.self.inside.unit; free = c.self.inside.free.items; seats = map seen items }) i c.of.result) read
    ∙ (ap (λ (q : PoolView). put q k c.of.result) c.self.view_is ∙ ap (put c.args.self.now k) (c.of.ensures ∙ c.buffer.view_is)))

pub returns-clause-leases : goal.returns-clause-leases
returns-clause-leases c = subst (λ (q : PoolView). KeepsLeases c.args.self.now q) (sym (returns-clause-back c)) (put_keeps c.args.self.now (get_or c.args.lease.now c.args.i 0) c.args.buffer)
