use Rattle.std.proofs.Common.{◌≤◌, sym, subst}
use Rattle.raid_conf.specs.Layouts.{shape_lawful}
use Rattle.raid_top.proofs.showing.empty_map.Goals as goal

pub open-requires-clause-some : goal.open-requires-clause-some
open-requires-clause-some c = subst (λ n. 1 ≤ n) (sym c.stripes.ensures) (shape_lawful c.in-Ok.layout).stripes_least
