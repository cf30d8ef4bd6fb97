use Rattle.std.proofs.Common.{◌≡◌, ◌<◌, ℕ, List, [], take, get_or, true, subst, sym, arith}
use Rattle.std.proofs.lemmas.List.{take_more}
use Rattle.std.proofs.lemmas.Bool.{eqb-true}
use Rattle.std.proofs.lemmas.Map.Views.{Contains-from_any}
use Rattle.eng_job.specs.declared.job.Source.{Source}
use Rattle.eng_clients.specs.Gathered.{has, Gathered}
use Rattle.eng_clients.proofs.Gathering.{gathered-more, room-more, has-take, nothing-gathered, lease-left}
use Rattle.eng_clients.proofs.client.Client.gather_all.Goals as goal

pub loop-i-init : goal.loop-i-init
loop-i-init c = (subst (λ (l : List Source). Gathered c.args.pool.now c.args.self.now.lease [] c.args.pool.now l) (sym c.requires.empty) (nothing-gathered c.args.pool.now c.args.self.now.lease), c.requires.room)

pub gather_one-requires-clause-lease : goal.gather_one-requires-clause-lease
gather_one-requires-clause-lease c = lease-left c.args.pool.now c.loop-i.pool _ c.args.self.now.lease c.loop-i.invariant.0.pool c.requires.lease

each : (c : goal.After-gather_one-arg-in-loop-i-1) (a : ℕ) → has (take c.loop-i.i c.args.named.now) a ≡ true → a < c.requires.named.bufs
each c a h =
    let n = c.requires.named in
    let k = Contains-from_any eqb-true a c.args.named.now (has-take c.args.named.now c.loop-i.i a h) in
    subst (λ (x : ℕ). x < n.bufs) k.2 (n.below k.0 a k.1)

pub gather_one-requires-clause-room : goal.gather_one-requires-clause-room
gather_one-requires-clause-room c = λ home.
    let b = get_or c.args.named.now c.loop-i.i 0 in
    let n = c.requires.named in
    let below = n.below c.loop-i.i 0 c.loop-i-test.true in
    let most = n.leased in
    let room = room-more c.args.pool.now c.args.self.now.lease (take c.loop-i.i c.args.named.now) c.loop-i.pool c.loop-i.sources.items b c.requires.lease (omega (arith, below, most)) (λ a h. let lt = each c a h in omega (arith, lt, most))
    (c.requires.home c.loop-i.i 0 c.loop-i-test.true) c.loop-i.invariant.0 n.bufs n.few below (each c) home in
    let cap = c.loop-i.invariant.1 in
    omega (arith, room, cap)

pub loop-i-preserved : goal.loop-i-preserved
loop-i-preserved c =
    let b = get_or c.args.named.now c.loop-i.i 0 in
    let n = c.requires.named in
    let below = n.below c.loop-i.i 0 c.loop-i-test.true in
    let most = n.leased in
    let cap = c.loop-i.invariant.1 in let room = c.gather_one.ensures.room in (
      subst (λ (l : List ℕ). Gathered c.args.pool.now c.args.self.now.lease l c.gather_one.new.pool c.gather_one.new.sources.items) (sym (take_more c.args.named.now c.loop-i.i 0 c.loop-i-test.true))
          (gathered-more c.args.pool.now c.args.self.now.lease (take c.loop-i.i c.args.named.now) c.loop-i.pool c.loop-i.sources.items b c.requires.lease (omega (arith, below, most))
          (λ a h. let k = Contains-from_any eqb-true a c.args.named.now (has-take c.args.named.now c.loop-i.i a h) in let lt : a < n.bufs = subst (λ (x : ℕ). x < n.bufs) k.2 (n.below k.0 a k.1) in omega (arith, lt, most))
          (c.requires.home c.loop-i.i 0 c.loop-i-test.true) c.loop-i.invariant.0 c.gather_one.new.pool c.gather_one.new.sources.items c.gather_one.ensures.one),
      omega (arith, cap, room),
    )
