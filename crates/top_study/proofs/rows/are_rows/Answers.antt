use Rattle.std.proofs.Common.{◌<◌, ℕ, sym, subst}
use Rattle.raid_conf.proofs.TableLaws.{table-rows-least}
use Rattle.top_study.proofs.rows.are_rows.Goals as goal

pub nonzero_div-rows : goal.nonzero_div-rows
nonzero_div-rows c = subst (λ (n : ℕ). 0 < n) (sym c.table_rows-step.ensures) (table-rows-least c.args.conf.now c.requires)

pub nonzero_rem-rows : goal.nonzero_rem-rows
nonzero_rem-rows c = subst (λ (n : ℕ). 0 < n) (sym c.table_rows-step.ensures) (table-rows-least c.args.conf.now c.requires)
