-- The tables of a configuration.
use Rattle.std.specs.Prelude.{◌<◌, ◌≤◌, ◌^◌}
use Rattle.std.proofs.Common.{arith}
use Rattle.std.proofs.Math.Nat.{mul-pos}
use Rattle.lay_core.specs.Layout.{IsLayout, Shape, blocks_in}
use Rattle.lay_core.proofs.Numbering.{blocks_in-most}
use Rattle.raid_conf.specs.declared.conf.Conf.{Conf}
use Rattle.raid_conf.specs.Form.{IsConf}
use Rattle.raid_conf.specs.Layouts.{table_stripes}
use Rattle.raid_conf.proofs.TableLaws.{table-rows-least, table-rows-most, table-stripes-most}
use Rattle.top_open.specs.Plan.{IsPlan}
use Rattle.top_duty.specs.Opening.{plan_of}

-- they have a row at least, no more rows than stripes, and no more stripes than an array may have
pub plan_is : (conf : Conf) → IsConf conf → IsPlan (plan_of conf)
plan_is conf is = record {
  unit = omega (arith, is.unit_least);
  unit_most = is.unit_most;
  step = table-rows-least conf is;
  step_most = table-rows-most conf is;
  spares = is.spares_most;
}

pub stripes-most : (conf : Conf) → IsConf conf → table_stripes conf ≤ 1048576
stripes-most conf is = omega (arith, table-stripes-most conf is)

-- a layout has a block at least, and at most 2 ^ 32
pub some_blocks : (y : Shape) → IsLayout y → 0 < blocks_in y
some_blocks y law = mul-pos (mul-pos (omega (arith, law.stripes_least)) (omega (arith, law.checks_below))) (omega (arith, law.unit_least))

pub few_blocks : (y : Shape) → IsLayout y → blocks_in y ≤ 2 ^ 32
few_blocks y law = blocks_in-most y law
