use Rattle.std.proofs.Common.{◌∙◌, refl, sym, ◌-◌, arith}
use Rattle.text_steps.specs.Steps.{rest_of}
use Rattle.raid_conf.proofs.Turns.{name_on, name_stop, names_done}
use Rattle.raid_conf.proofs.name_lines.read_names.Goals as goal

pub returns-in-Err : goal.returns-in-Err
returns-in-Err c = rw c.loop-i.invariant.told at (name_stop c.args.role c.args.count c.loop-i.i c.args.before.now c.loop-i.names (rest_of c.loop-i.lines) c.in-Err.fault c.loop-i-test.true c.in-Err.ensures.value)

pub loop-i-preserved : goal.loop-i-preserved
loop-i-preserved c = record {
  count = rw (c.in-Ok.ensures.count, c.loop-i.invariant.count) refl;
  told = sym (name_on c.args.role c.args.count c.loop-i.i c.args.before.now c.loop-i.names (rest_of c.loop-i.lines) c.push_name.new.names (rest_of c.push_name.new.lines) c.loop-i-test.true c.in-Ok.ensures.value) ∙ c.loop-i.invariant.told;
}

pub returns : goal.returns
returns c = sym c.loop-i.invariant.told ∙ names_done c.args.role (c.args.count - c.loop-i.i) c.args.before.now c.loop-i.names (rest_of c.loop-i.lines) (omega arith)
