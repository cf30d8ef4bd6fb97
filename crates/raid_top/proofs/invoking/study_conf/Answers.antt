use Rattle.std.proofs.Common.{Err, ap, subst, sym}
use Rattle.blk_disk.specs.Disk.{Rose}
use Rattle.top_fetch.specs.Told.{Told}
use Rattle.top_words.specs.Judged.{OnConf}
use Rattle.raid_top.specs.Refused.{IsRefusedOf}
use Rattle.raid_top.proofs.Following.{study_refused}
use Rattle.raid_top.proofs.invoking.study_conf.Goals as goal

pub returns-in-Ok-clause-followed : goal.returns-in-Ok-clause-followed
returns-in-Ok-clause-followed g c = (c.in-Ok.ensures.answer, c.study_in.ensures.read.homes)

pub returns-in-Err-clause-refused : goal.returns-in-Err-clause-refused
returns-in-Err-clause-refused g c =
    let B = g.B.Bay in
    let D = g.B.D.Disk in
    let home = B.home c.args.bay.now in
    let told : Told _ = record { tells = B.tells; rose = Rose (B.faults c.args.bay.now) (B.faults c.study_in.new.bay); texts = B.text_of c.args.bay.now; home = home; after = B.home c.study_in.new.bay } in
    let e = c.in-Err.ensures in
    subst (λ r. IsRefusedOf D told (OnConf c.args.conf.now c.args.study) r) (sym c.only.ensures)
    (study_refused D told c.args.conf.now c.args.study c.in-Err.status e.kind (λ is. e.cause (ap (λ s. Err s) is)) e.answer
    c.study_in.ensures.read.homes)
