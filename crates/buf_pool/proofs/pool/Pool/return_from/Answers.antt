use Rattle.std.proofs.Common.{◌≡◌, ◌+◌, ◌++◌, List, ℕ, length, map, take, drop, arith, sym, ap, ◌∙◌, subst, refl}
use Rattle.std.proofs.lemmas.List.{length-set, length-map, take_all, take-append-le}
use Rattle.buf_pool.specs.declared.seat.Seat.{Seat}
use Rattle.buf_pool.specs.declared.seat.Owner.TheVariants.{Free}
use Rattle.buf_pool.specs.Pool.{PoolView, SeatView, seen, seat_at, release}
use Rattle.buf_pool.proofs.Leasing.{Empties, empties, empties_more, emptied_pool, emptied, returned, keeps_others}
use Rattle.buf_pool.proofs.pool.Pool.return_from.Goals as goal

pub loop-i-init : goal.loop-i-init
loop-i-init c = (
  subst (λ (q : PoolView). Empties q c.args.lease.now (map seen c.self.inside.seats.items) 0) c.self.view_is
      (empties (record { unit = c.self.inside.unit; free = c.self.inside.free.items; seats = map seen c.self.inside.seats.items }) c.args.lease.now c.self.invariant.0),
  ap (λ (q : PoolView). q.unit) c.self.view_is,
  ap (λ (q : PoolView). q.free) c.self.view_is,
  let v = ap (λ (q : PoolView). length q.seats) c.self.view_is in let m = length-map c.self.inside.seats.items seen in let n = c.self.inside.seats.ok.0 in let cap = c.self.invariant.1 in omega arith,
)

pub overflow_add-at : goal.overflow_add-at
overflow_add-at c =
    let e = c.loop-i.invariant.0 in let w = e.pool.whole in let r = e.pool.room in let f = e.frees.free in
    let n = c.len-at.ensures in let v = ap (λ (q : PoolView). length q.free) c.self.view_is in omega arith

pub loop-i-preserved : goal.loop-i-preserved
loop-i-preserved c =
    let items = c.loop-i.self-inside.seats.items in let new = c.release.new.seats in let k : ℕ = c.seat.result in let at : ℕ = c.len-at.result + c.loop-i.i in
    let given : c.as_mut_slice.result.now ≡ items = c.as_mut_slice.ensures.value in
    let seats : map seen new ≡ release at k (map seen items) = c.release.ensures ∙ ap (λ (x : List Seat). release at k (map seen x)) given in
    let long : length new ≡ length items =
    let a = ap length seats in let b = length-map new seen in let d = length-map items seen in let e = length-set (map seen items) k (record (seat_at (map seen items) k) { owner = Free at }) in omega arith in
    let room : c.loop-i.self-inside.seats.len ≡ length items = c.loop-i.self-inside.seats.ok.0 in
    let same : take c.loop-i.self-inside.seats.len (new ++ drop (length new) items) ≡ new =
    take-append-le c.loop-i.self-inside.seats.len new (drop (length new) items) (omega (arith, long, room)) ∙ take_all c.loop-i.self-inside.seats.len new (omega (arith, long, room)) in (
      subst (λ (s : List SeatView). Empties c.args.self.now c.args.lease.now s (c.loop-i.i + 1)) (sym (ap (map seen) same))
          (empties_more c.args.self.now c.args.lease.now (map seen items) (map seen new) c.loop-i.i k at (let h = c.loop-i-test.true in let n = c.count-i-end.ensures in omega arith) c.seat.ensures c.requires.lease c.requires.home
          (let n = c.len-at.ensures in let v = ap (λ (q : PoolView). length q.free) c.self.view_is in omega arith) seats c.loop-i.invariant.0),
      c.loop-i.invariant.1,
      c.loop-i.invariant.2,
      c.loop-i.invariant.3,
    )

pub put_back-requires : goal.put_back-requires
put_back-requires c =
    let e = c.loop-i.invariant.0 in let w = e.pool.whole in let f = e.frees.free in let s = e.frees.seats in
    let cap = c.loop-i.invariant.3 in let k = ap length c.loop-i.invariant.2 in let o = c.loop-i.self-inside.free.ok.0 in let g = ap length c.seats.ensures in
    let h = c.loop-i-test.false in let i = c.loop-i.auto.i-end in let n = c.count-i-end.ensures in omega arith

pub invariant_of-self : goal.invariant_of-self
invariant_of-self c =
    let S = map seen c.loop-i.self-inside.seats.items in let l = c.args.lease.now in let old = c.args.self.now in
    let make : ℕ → List ℕ → PoolView = λ u f. record { unit = u; free = f; seats = S } in
    let free : c.put_back.new.free.items ≡ old.free ++ l = c.put_back.ensures.items ∙ (ap (λ (x : List ℕ). x ++ c.seats.result.now) c.loop-i.invariant.2 ∙ ap (λ (x : List ℕ). old.free ++ x) c.seats.ensures) in
    let is = ap (λ (u : ℕ). make u (old.free ++ l)) (sym c.loop-i.invariant.1) ∙ ap (make c.loop-i.self-inside.unit) (sym free) in
    let all : c.loop-i.i ≡ length l = let h = c.loop-i-test.false in let g = c.loop-i.auto.i-end in let n = c.count-i-end.ensures in omega arith in (
      emptied_pool old _ l S c.loop-i.i all c.loop-i.invariant.0 is,
      let a = c.loop-i.invariant.0.frees.seats in let b = length-map c.loop-i.self-inside.seats.items seen in let cap = c.loop-i.invariant.3 in let more = c.put_back.ensures.room in
          let m = c.loop-i.self-inside.seats.ok.0 in omega arith,
    )

pub returns-clause-freed : goal.returns-clause-freed
returns-clause-freed c =
    let S = map seen c.loop-i.self-inside.seats.items in let l = c.args.lease.now in let old = c.args.self.now in
    let make : ℕ → List ℕ → PoolView = λ u f. record { unit = u; free = f; seats = S } in
    let free : c.put_back.new.free.items ≡ old.free ++ l = c.put_back.ensures.items ∙ (ap (λ (x : List ℕ). x ++ c.seats.result.now) c.loop-i.invariant.2 ∙ ap (λ (x : List ℕ). old.free ++ x) c.seats.ensures) in
    let is = ap (λ (u : ℕ). make u (old.free ++ l)) (sym c.loop-i.invariant.1) ∙ ap (make c.loop-i.self-inside.unit) (sym free) in
    let all : c.loop-i.i ≡ length l = let h = c.loop-i-test.false in let g = c.loop-i.auto.i-end in let n = c.count-i-end.ensures in omega arith in
    returned old _ l (length l) refl c.requires.home (emptied old _ l S c.loop-i.i all c.loop-i.invariant.0 is)

pub returns-clause-others : goal.returns-clause-others
returns-clause-others c = keeps_others c.args.self.now _ c.args.lease.now (returns-clause-freed c)
