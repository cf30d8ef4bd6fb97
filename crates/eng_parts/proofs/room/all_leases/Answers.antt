use Rattle.std.proofs.Common.{◌≡◌, ◌∙◌, ◌+◌, ℕ, arith}
use Rattle.eng_rest.specs.Left.{below}
use Rattle.eng_log.specs.Given.{items_at}
use Rattle.eng_log.proofs.Laying.{below-none, below-one}
use Rattle.eng_plan.specs.Pooled.{row_leases, own_leases}
use Rattle.eng_parts.proofs.room.all_leases.Goals as goal

pub loop-client-init : goal.loop-client-init
loop-client-init g c =
    let y = g.L.Layout.shape c.args.layout.now in
    let f : ℕ → ℕ = λ k. row_leases y c.args.graphs.now (items_at c.args.clients.now k) in
    let all : c.from-all.result ≡ own_leases y = c.from-all.ensures ∙ c.own_leases.ensures in
    let none : below f 0 ≡ 0 = below-none f in
    let same = c.from-all.ensures in
    let few = c.own_leases.type_inv in
    (omega (arith, all, none), omega (arith, same, few))

pub loop-client-preserved : goal.loop-client-preserved
loop-client-preserved g c =
    let y = g.L.Layout.shape c.args.layout.now in
    let f : ℕ → ℕ = λ k. row_leases y c.args.graphs.now (items_at c.args.clients.now k) in
    let row : c.from-all-in-loop-client.result ≡ f c.loop-client.client = c.from-all-in-loop-client.ensures ∙ c.row_of.ensures in
    let one : below f (c.loop-client.client + 1) ≡ below f c.loop-client.client + f c.loop-client.client = below-one f c.loop-client.client in
    let so = c.loop-client.invariant.0 in
    let bound = c.loop-client.invariant.1 in
    let same = c.from-all-in-loop-client.ensures in
    let few = c.row_of.type_inv in
    (omega (arith, row, one, so), omega (arith, bound, same, few))
