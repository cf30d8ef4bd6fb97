use Rattle.std.proofs.Common.{sym}
use Rattle.raid_text.specs.Text.{is_sound}
use Rattle.raid_text.proofs.Again.{whole_body}
use Rattle.raid_text.proofs.PlainLines.{plain_line, plain_up_to}
use Rattle.raid_text.proofs.cuts.cut_plain.Goals as goal

pub returns-clause-lines : goal.returns-clause-lines
returns-clause-lines c =
    let text = c.args.text.now in
    plain_line text c.args.end (plain_up_to text c.args.end c.requires.first) c.requires.there c.requires.ends

pub returns-clause-body : goal.returns-clause-body
returns-clause-body c =
    let text = c.args.text.now in
    sym (whole_body _ (plain_up_to text c.args.end c.requires.first))

pub returns-clause-sound : goal.returns-clause-sound
unfolding is_sound
returns-clause-sound c = sym (plain_up_to c.args.text.now c.args.end c.requires.first)
