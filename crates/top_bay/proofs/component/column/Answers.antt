use Rattle.std.proofs.Common.{sym, take}
use Rattle.std.proofs.lemmas.List.{take_at}
use Rattle.top_bay.specs.Asked.{names_of}
use Rattle.top_bay.proofs.Places.{known_among, opens_among}
use Rattle.top_bay.proofs.component.column.Goals as goal

pub returns-clause-answer : goal.returns-clause-answer
returns-clause-answer c =
    let conf = c.args.conf.now in
    opens_among c.place.result (take c.len.result (names_of conf)) conf.disks c.args.name.now (take_at conf.disks conf.spare_names c.len.result (sym c.len.ensures.count)) c.place.ensures.answer

pub returns-clause-known : goal.returns-clause-known
returns-clause-known c =
    let conf = c.args.conf.now in
    known_among c.place.result conf.disks conf.columns c.args.name.now c.requires.disk_count
    (opens_among c.place.result (take c.len.result (names_of conf)) conf.disks c.args.name.now (take_at conf.disks conf.spare_names c.len.result (sym c.len.ensures.count)) c.place.ensures.answer)
