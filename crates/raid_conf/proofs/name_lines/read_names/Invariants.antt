use Rattle.std.proofs.Common.{◌≡◌, ◌-◌, [], length}
use Rattle.raid_conf.specs.Format.{names_in, with_name}
use Rattle.text_steps.specs.Steps.{rest_of}
use Rattle.raid_conf.proofs.name_lines.read_names.Given as goal

abbrev pub invariant-loop-i : goal.invariant-loop-i
invariant-loop-i l = record {
  count : length l.names ≡ l.i;
  told : names_in l.role (l.count - l.i) l.before l.names (rest_of l.lines) ≡ names_in l.role l.count l.before [] (rest_of l.fn.lines);
}
