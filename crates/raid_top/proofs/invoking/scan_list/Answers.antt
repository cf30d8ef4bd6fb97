use Rattle.std.proofs.Common.{Err, ap, subst, sym}
use Rattle.blk_disk.specs.Disk.{Rose}
use Rattle.top_fetch.specs.Told.{Told}
use Rattle.top_words.specs.Judged.{Scan}
use Rattle.raid_top.specs.Refused.{IsRefusedOf}
use Rattle.raid_top.proofs.Following.{scan_follows, scan_refused}
use Rattle.raid_top.proofs.invoking.scan_list.Goals as goal

pub returns-in-Ok-clause-followed : goal.returns-in-Ok-clause-followed
returns-in-Ok-clause-followed g c =
    let B = g.B.Bay in
    let told : Told _ = record { tells = B.tells; rose = Rose (B.faults c.args.bay.now) (B.faults c.scan.new.bay); texts = B.text_of c.args.bay.now; home = B.home c.args.bay.now; after = B.home c.scan.new.bay } in
    let e = c.in-Ok.ensures in
    scan_follows g.B.D.Disk told c.args.list.now c.in-Ok.scanned e.answer e.looked e.complete

pub returns-in-Err-clause-refused : goal.returns-in-Err-clause-refused
returns-in-Err-clause-refused g c =
    let B = g.B.Bay in
    let told : Told _ = record { tells = B.tells; rose = Rose (B.faults c.args.bay.now) (B.faults c.scan.new.bay); texts = B.text_of c.args.bay.now; home = B.home c.args.bay.now; after = B.home c.scan.new.bay } in
    let e = c.in-Err.ensures in
    subst (λ r. IsRefusedOf g.B.D.Disk told (Scan c.args.list.now) r) (sym c.only.ensures)
    (scan_refused g.B.D.Disk told c.args.list.now c.in-Err.status e.kind (λ is. e.cause (ap (λ s. Err s) is)) e.answer e.part c.scan.ensures.stays)
