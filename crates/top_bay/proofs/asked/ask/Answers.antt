use Rattle.std.proofs.Common.{subst}
use Rattle.blk_disk.specs.Disk.{Rose}
use Rattle.top_fetch.specs.Answers.{RefusedAs}
use Rattle.top_bay.specs.Asked.{names_for}
use Rattle.top_bay.specs.Views.{asked_seen}
use Rattle.top_words.specs.Views.{command_seen}
use Rattle.top_bay.proofs.Asking.{devices_in-same, refused_devices}
use Rattle.top_bay.proofs.Lending.{lent-same}
use Rattle.top_bay.proofs.asked.ask.Goals as goal

pub returns-clause-answer : goal.returns-clause-answer
returns-clause-answer g c = λ told.
    let B = g.B.Bay in
    let s = c.in-Err-take_all.status in
    refused_devices
    (record { tells = B.tells; rose = Rose (B.faults c.args.bay.now) (B.faults c.take_all.new.bay); texts = B.text_of c.args.bay.now; home = B.home c.args.bay.now; after = B.home c.take_all.new.bay })
    (command_seen c.args.command) (asked_seen c.in-Ok.asked) s (c.in-Ok.ensures.answer told)
    (subst (λ w. RefusedAs s w) (devices_in-same (B.home c.args.bay.now) (B.home c.read_texts.new.bay) (names_for (asked_seen c.in-Ok.asked)) (c.in-Ok.ensures.read.homes told)) (c.in-Err-take_all.ensures.answer told))

pub returns-in-Ok-take_all-clause-lent : goal.returns-in-Ok-take_all-clause-lent
returns-in-Ok-take_all-clause-lent g c = λ told.
    let B = g.B.Bay in
    lent-same (B.home c.args.bay.now) (B.home c.read_texts.new.bay) (B.home c.take_all.new.bay) (names_for (asked_seen c.in-Ok.asked)) c.in-Ok-take_all.devices.items
    (c.in-Ok.ensures.read.homes told) (c.in-Ok-take_all.ensures.lent told)
