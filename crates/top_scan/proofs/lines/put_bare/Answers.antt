use Rattle.std.proofs.Common.{ℕ, ◌<◌, List, length, is_ok, option_copied, sym, subst, arith}
use Rattle.std.proofs.lemmas.List.{get_or_default}
use Rattle.raid_assemble.specs.declared.sets.Standing.TheVariants.{Bare}
use Rattle.raid_bay.specs.Sink.{Puts}
use Rattle.top_open.specs.declared.fronts.Front.TheVariants.{Away}
use Rattle.top_scan.proofs.Here.{bare_is}
use Rattle.top_scan.proofs.lines.put_bare.Goals as goal

pub returns-clause-output : goal.returns-clause-output
returns-clause-output g c = λ told.
    let inside : c.args.place < length c.args.fronts.now = omega (arith, c.requires.fronts, c.requires.within) in
    let is = bare_is c.args.names.now c.args.places.now c.args.fronts.now c.args.place _ _
    (option_copied c.bare_front.result) c.name_at.result.now
    (get_or_default c.args.places.now c.args.place Bare _ c.requires.within)
    (get_or_default c.args.fronts.now c.args.place Away _ inside) c.bare_front.ensures c.name_at.ensures in
    subst (λ (t : List ℕ). Puts (is_ok c.put_if.result) (g.K.Sink.output c.args.out.now) t (g.K.Sink.output c.put_if.new.out)) (sym is) (c.put_if.ensures.output told)
