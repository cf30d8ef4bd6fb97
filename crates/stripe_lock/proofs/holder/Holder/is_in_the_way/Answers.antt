use Rattle.std.proofs.Common.{◌≡◌, ◌↔◌, IsTrue, Bool, true, false, not, ◌==◌, refl, sym, subst}
use denote.Enum.Bare.{sameb}
use Rattle.stripe_lock.specs.contracts.mode.Mode.{the_type}
use Rattle.stripe_lock.specs.declared.mode.Mode.{Mode}
use Rattle.stripe_lock.specs.declared.mode.Mode.TheVariants.{Share, Exclude}
use Rattle.stripe_lock.specs.declared.holder.Holder.{Holder}
use Rattle.stripe_lock.specs.Holder.{IsInTheWay}
use Rattle.stripe_lock.proofs.Holders.{way_of_sharers}
use Rattle.stripe_lock.proofs.holder.Holder.is_in_the_way.Goals as goal

is_exclude : (mode : Mode) (test : Bool) → test ≡ sameb the_type mode Exclude → test ≡ true → mode ≡ Exclude
is_exclude Exclude test is yes' = refl
is_exclude Share test is yes' = let no' : sameb the_type Share Exclude ≡ false = refl in absurd cc

pub returns-then-eq : goal.returns-then-eq
returns-then-eq c =
    subst (λ (h : Holder). IsTrue (not (c.without.result == 0)) ↔ IsInTheWay h c.args.owner c.args.mode) (sym c.in-Sharers.is)
    (way_of_sharers c.in-Sharers.owners c.args.owner c.without.result c.args.mode (is_exclude c.args.mode c.eq.result c.eq.ensures c.if-eq.true) c.without.ensures.set c.without.ensures.own)
