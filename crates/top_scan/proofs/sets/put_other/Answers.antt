use Rattle.std.proofs.Common.{ℕ, List, is_ok, option_copied, sym, subst}
use Rattle.std.proofs.lemmas.List.{get_or_default}
use Rattle.raid_assemble.specs.declared.sets.Standing.TheVariants.{Bare}
use Rattle.raid_bay.specs.Sink.{Puts}
use Rattle.top_scan.proofs.Here.{other_is}
use Rattle.top_scan.proofs.sets.put_other.Goals as goal

pub returns-clause-output : goal.returns-clause-output
returns-clause-output g c = λ told.
    let is = other_is c.args.names.now c.args.places.now c.args.set c.args.place _ (option_copied c.other_front.result) c.name_at.result.now
    (get_or_default c.args.places.now c.args.place Bare _ c.requires.within) c.other_front.ensures c.name_at.ensures in
    subst (λ (t : List ℕ). Puts (is_ok c.put_if.result) (g.K.Sink.output c.args.out.now) t (g.K.Sink.output c.put_if.new.out)) (sym is) (c.put_if.ensures.output told)
