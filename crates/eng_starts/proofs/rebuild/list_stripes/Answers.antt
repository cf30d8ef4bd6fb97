use Rattle.std.proofs.Common.{◌≡◌, ◌+◌, ℕ, refl, sym, subst, ap, ◌∙◌, length, arith}
use Rattle.eng_starts.specs.Rebuilding.{AreRebuildsBelow}
use Rattle.eng_starts.proofs.ListingAll.{rebuilds-none}
use Rattle.eng_starts.proofs.rebuild.list_stripes.Goals as goal

pub loop-stripe-init : goal.loop-stripe-init
loop-stripe-init g c = record {
  listed = rebuilds-none (g.L.Layout.shape c.args.layout.now) c.args.cols.now.states c.args.column c.args.count c.args.rebuilds.now.items c.requires.none;
  count = let none = ap length c.requires.none in omega (arith, none);
  room = refl;
}

pub loop-stripe-preserved : goal.loop-stripe-preserved
loop-stripe-preserved g c = record {
  listed = subst (λ (n : ℕ). AreRebuildsBelow (g.L.Layout.shape c.args.layout.now) c.args.cols.now.states c.args.column n (c.loop-stripe.stripe + 1) c.list_stripe-left.new.rebuilds.items) c.loop-stripe.invariant.count c.list_stripe-left.ensures.listed;
  count = c.list_stripe-left.ensures.count ∙ c.loop-stripe.invariant.count;
  room = c.list_stripe-left.ensures.room ∙ c.loop-stripe.invariant.room;
}
