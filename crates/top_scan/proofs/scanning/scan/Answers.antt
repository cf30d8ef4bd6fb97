use Rattle.std.proofs.Common.{inl, inr}
use Rattle.top_scan.proofs.LooksInTurn.{looked_same}
use Rattle.top_scan.proofs.Refusals.{refused_in}
use Rattle.top_scan.proofs.scanning.scan.Goals as goal

pub returns-in-Err-look_at_all-clause-answer : goal.returns-in-Err-look_at_all-clause-answer
returns-in-Err-look_at_all-clause-answer g c = λ told.
    let B = g.B.Bay in
    refused_in c.in-Err-look_at_all.status (B.text_of c.args.bay.now) (B.home c.args.bay.now) (B.home c.open_list.new.bay) c.args.list.now c.in-Ok.names.items
    (c.in-Ok.ensures.answer told) (c.in-Ok.ensures.read.homes told) (rw c.deref.ensures.value at (c.in-Err-look_at_all.ensures.answer told))

pub returns-in-Ok-group_fronts-clause-looked : goal.returns-in-Ok-group_fronts-clause-looked
returns-in-Ok-group_fronts-clause-looked g c =
    let B = g.B.Bay in
    looked_same g.B.D.Disk B.tells c.in-Ok.names.items (B.home c.args.bay.now) (B.home c.open_list.new.bay) (B.home c.look_at_all.new.bay) c.in-Ok-look_at_all.fronts.items
    c.in-Ok.ensures.read.homes (rw c.deref.ensures.value at c.in-Ok-look_at_all.ensures.looked)

pub returns-in-Err-clause-part : goal.returns-in-Err-clause-part
returns-in-Err-clause-part g c = λ told. inl (c.in-Err.ensures.read.homes told)

pub returns-in-Err-look_at_all-clause-part : goal.returns-in-Err-look_at_all-clause-part
returns-in-Err-look_at_all-clause-part g c = λ told.
    let B = g.B.Bay in
    let names = c.in-Ok.names.items in
    let some = rw c.deref.ensures.value at c.in-Err-look_at_all.ensures.part in
    let looked = looked_same g.B.D.Disk B.tells names (B.home c.args.bay.now) (B.home c.open_list.new.bay) (B.home c.look_at_all.new.bay) some.0 c.in-Ok.ensures.read.homes some.1 in
    inr (names, c.in-Ok.ensures.answer told, some.0, looked)

pub returns-in-Err-group_fronts-clause-part : goal.returns-in-Err-group_fronts-clause-part
returns-in-Err-group_fronts-clause-part g c = λ told.
    let B = g.B.Bay in
    let names = c.in-Ok.names.items in
    let fronts = c.in-Ok-look_at_all.fronts.items in
    let looked = looked_same g.B.D.Disk B.tells names (B.home c.args.bay.now) (B.home c.open_list.new.bay) (B.home c.look_at_all.new.bay) fronts c.in-Ok.ensures.read.homes (rw c.deref.ensures.value at c.in-Ok-look_at_all.ensures.looked) in
    inr (names, c.in-Ok.ensures.answer told, fronts, looked)
