use Rattle.std.proofs.Common.{Err, ap, subst, sym}
use Rattle.blk_disk.specs.Disk.{Rose}
use Rattle.top_fetch.specs.Told.{Told}
use Rattle.top_words.specs.Judged.{Simulate}
use Rattle.raid_top.specs.Refused.{IsRefusedOf}
use Rattle.raid_top.proofs.Following.{simulation_follows, simulation_refused}
use Rattle.raid_top.proofs.invoking.simulate_in.Goals as goal

pub returns-in-Ok-clause-followed : goal.returns-in-Ok-clause-followed
returns-in-Ok-clause-followed g c =
    let B = g.B.Bay in
    let told : Told _ = record { tells = B.tells; rose = Rose (B.faults c.args.bay.now) (B.faults c.simulate.new.bay); texts = B.text_of c.args.bay.now; home = B.home c.args.bay.now; after = B.home c.simulate.new.bay } in
    let e = c.in-Ok.ensures in
    simulation_follows g.B.D.Disk told c.args.requests.now c.args.order c.in-Ok.simulated e.answer e.simulated c.simulate.ensures.read.homes

pub returns-in-Err-clause-refused : goal.returns-in-Err-clause-refused
returns-in-Err-clause-refused g c =
    let B = g.B.Bay in
    let D = g.B.D.Disk in
    let home = B.home c.args.bay.now in
    let told : Told _ = record { tells = B.tells; rose = Rose (B.faults c.args.bay.now) (B.faults c.simulate.new.bay); texts = B.text_of c.args.bay.now; home = home; after = B.home c.simulate.new.bay } in
    let e = c.in-Err.ensures in
    subst (λ r. IsRefusedOf D told (Simulate c.args.requests.now c.args.order) r) (sym c.only.ensures)
    (simulation_refused D told c.args.requests.now c.args.order c.in-Err.status e.kind (λ is. e.cause (ap (λ s. Err s) is)) e.answer
    c.simulate.ensures.read.homes)
