use Rattle.std.proofs.Common.{arith}
use Rattle.std.specs.Str.{bytes_eq}
use Rattle.std.proofs.lemmas.List.Folds.{list_any-append}
use Rattle.raid_conf.specs.Steps.{has_name}
use Rattle.raid_conf.proofs.name_lines.has_either.Goals as goal

pub returns-then-has : goal.returns-then-has
unfolding has_name
returns-then-has c = grind (arith, list_any-append (λ n. bytes_eq n c.args.name.now) c.args.before.now c.args.names.now, c.has.ensures, c.if-has.true)

pub returns-else-has : goal.returns-else-has
unfolding has_name
returns-else-has c = grind (arith, list_any-append (λ n. bytes_eq n c.args.name.now) c.args.before.now c.args.names.now, c.has.ensures, c.if-has.false, c.has-else-has.ensures)
