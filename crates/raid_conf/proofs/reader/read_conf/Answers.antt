use Rattle.std.proofs.Common.{◌≡◌, refl, subst, sym}
use Rattle.raid_conf.specs.Steps.{conf_in, disks_in, tail_in}
use Rattle.text_steps.specs.Steps.{rest_of, whole}
use Rattle.raid_conf.specs.Answers.{GivesConf}
use Rattle.raid_conf.proofs.Same.{conf_same}
use Rattle.raid_conf.proofs.FormConf.{limits}
use Rattle.raid_conf.proofs.reader.read_conf.Goals as goal

pub returns-clause-value : goal.returns-clause-value
unfolding conf_in disks_in tail_in rest_of
returns-clause-value c =
    let same : rest_of c.new-lines.result ≡ whole c.args.text.now = rw (c.new-lines.ensures.left, c.new-lines.ensures.count) refl in
    let read : GivesConf c.read_lines.result (conf_in (whole c.args.text.now)) = rw same at c.read_lines.ensures in
    subst (λ r. GivesConf c.read_lines.result r) (sym (conf_same c.args.text.now)) read

pub returns-clause-conf : goal.returns-clause-conf
returns-clause-conf c = limits c.args.text.now c.read_lines.result (returns-clause-value c)
