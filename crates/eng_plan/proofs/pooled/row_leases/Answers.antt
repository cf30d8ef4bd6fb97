use Rattle.std.proofs.Common.{◌≡◌, ℕ, sym, ap, ◌∙◌, slice_get}
use Rattle.std.specs.Prelude.{max}
use Rattle.std.proofs.lemmas.Option.{get_or_from_slice_get, slice_get_within}
use Rattle.eng_plan.specs.Pooled.{item_leases, greatest}
use Rattle.eng_plan.proofs.Pooling.{greatest-none, greatest-one, item-read, max-is}
use Rattle.eng_plan.proofs.pooled.row_leases.Goals as goal

pub loop-i-init : goal.loop-i-init
loop-i-init g c = greatest-none (λ k. item_leases (g.L.Layout.shape c.args.layout.now) c.args.graphs.now (slice_get c.args.items.now.items k))

pub loop-i-preserved : goal.loop-i-preserved
loop-i-preserved g c =
    let y = g.L.Layout.shape c.args.layout.now in
    let f : ℕ → ℕ = λ k. item_leases y c.args.graphs.now (slice_get c.args.items.now.items k) in
    let one : c.item_leases.result ≡ f c.loop-i.i = item-read y c.args.graphs.now c.args.items.now.items c.loop-i.i c.copy_to.new.item c.item_leases.result (slice_get_within c.args.items.now.items c.loop-i.i c.copy_to.new.item c.copy_to.ensures) (sym (get_or_from_slice_get c.args.items.now.items c.loop-i.i c.copy_to.new.item c.copy_to.new.item c.copy_to.ensures)) c.item_leases.ensures in
    let all : c.loop-i.most ≡ greatest f c.loop-i.i = c.loop-i.invariant in
    let most : c.max-most.result ≡ max c.loop-i.most c.item_leases.result = c.max-most.ensures ∙ max-is c.loop-i.most c.item_leases.result in
    most
    ∙ (ap (λ (m : ℕ). max m c.item_leases.result) all
    ∙ (ap (λ (n : ℕ). max (greatest f c.loop-i.i) n) one
    ∙ sym (greatest-one f c.loop-i.i)))
