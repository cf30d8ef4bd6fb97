use Rattle.std.specs.Prelude.{◌≡◌, ◌++◌, length, take, drop, Err}
use Rattle.std.proofs.Common.{◌∙◌, ap, arith, sym, subst}
use Rattle.blk_disk.specs.Disk.{Rose}
use Rattle.blk_disk.specs.Devices.{AreNamed, Changes}
use Rattle.top_bay.specs.Asked.{names_for}
use Rattle.top_bay.specs.Lent.{AreBack, AreOut}
use Rattle.top_fetch.specs.Told.{Told}
use Rattle.top_bay.specs.Views.{asked_seen}
use Rattle.top_bay.proofs.Homes.{home_again, lent_are_named}
use Rattle.top_status.specs.Refusals.{Refused}
use Rattle.top_words.specs.Views.{action_seen, command_seen}
use Rattle.top_duty.specs.Opening.{sizes_of}
use Rattle.top_duty.specs.Steps.{reads_fronts}
use Rattle.top_duty.specs.Taken.{DevicesAreTaken, Reads, RefusedFor, RefusedOver}
use Rattle.top_duty.specs.Views.{IsDutyOver, IsFitFor}
use Rattle.top_duty.proofs.Returning.{back_named, home_stays, others_home, out_still, written_back}
use Rattle.top_duty.proofs.Sized.{asked_same, is_wanted, refused_asking, refused_judging}
use Rattle.top_duty.proofs.admitting.admit.Goals as goal

pub returns-in-Err-clause-refused : goal.returns-in-Err-clause-refused
returns-in-Err-clause-refused g c = λ told.
    let B = g.B.Bay in
    let b : Told _ = record { tells = B.tells; rose = Rose (B.faults c.args.bay.now) (B.faults c.ask.new.bay); texts = B.text_of c.args.bay.now; home = B.home c.args.bay.now; after = B.home c.ask.new.bay } in
    subst (λ (r : Refused). RefusedFor g.B.D.Disk b (command_seen c.args.command) r) (sym c.only.ensures)
    (refused_asking g.B.D.Disk b (command_seen c.args.command) c.in-Err.status (λ n. c.in-Err.ensures.same told n) (λ e. c.in-Err.ensures.cause (ap (λ s. Err s) e)) (c.in-Err.ensures.answer told))

pub returns-in-Ok-judge-clause-admitted : goal.returns-in-Ok-judge-clause-admitted
returns-in-Ok-judge-clause-admitted g c =
    let size = g.B.D.Disk.size in
    let k = asked_seen c.in-Ok.taken.asked in
    let ds = c.in-Ok.taken.devices.items in
    let now = c.judge.new.devices in
    let j = c.in-Ok-judge.field-0 in
    let e = c.in-Ok-judge.ensures in
    let stays : Changes g.B.D.Disk (λ _ _. ⊥) ds now = subst (λ l. Changes g.B.D.Disk (λ _ _. ⊥) l now) c.as_mut_slice.ensures.value c.judge.ensures.stays in
    let long : length ds ≡ c.in-Ok.taken.devices.len = omega (arith, c.in-Ok.taken.devices.ok.0) in
    let whole : take c.in-Ok.taken.devices.len (now ++ drop (length now) ds) ≡ now = written_back c.in-Ok.taken.devices.len now ds long (omega (arith, long, stays.count)) in
    record {
      within = c.in-Ok.ensures.within;
      sizes = e.sizes ∙ ap (λ l. sizes_of size l) (sym whole);
      duty = subst (λ l. IsDutyOver k (sizes_of size l) j.fronts.items j.duty) (sym whole) e.duty;
      fit = subst (λ l. IsFitFor g.B.D.Disk k l j.duty) (sym whole) e.fit;
    }

pub returns-in-Ok-judge-clause-wanted : goal.returns-in-Ok-judge-clause-wanted
returns-in-Ok-judge-clause-wanted g c = λ told.
    let B = g.B.Bay in
    let k = asked_seen c.in-Ok.taken.asked in
    let names = names_for k in
    let ds = c.in-Ok.taken.devices.items in
    let now = c.judge.new.devices in
    let stays : Changes g.B.D.Disk (λ _ _. ⊥) ds now = subst (λ l. Changes g.B.D.Disk (λ _ _. ⊥) l now) c.as_mut_slice.ensures.value c.judge.ensures.stays in
    let many : length ds ≡ length names = omega (arith, c.in-Ok.ensures.many, c.in-Ok.taken.devices.ok.0) in
    let named = lent_are_named (B.home c.args.bay.now) (B.home c.ask.new.bay) names ds many (c.in-Ok.ensures.lent told) in
    let b : Told _ = record { tells = B.tells; rose = Rose (B.faults c.args.bay.now) (B.faults c.ask.new.bay); texts = B.text_of c.args.bay.now; home = B.home c.args.bay.now; after = B.home c.ask.new.bay } in
    is_wanted g.B.D.Disk b (command_seen c.args.command) k ds now c.in-Ok-judge.field-0.fronts.items c.in-Ok-judge.field-0.duty (c.in-Ok.ensures.answer told) named stays c.in-Ok-judge.ensures.duty

pub returns-in-Ok-judge-clause-taken : goal.returns-in-Ok-judge-clause-taken
returns-in-Ok-judge-clause-taken g c =
    let B = g.B.Bay in
    let k = asked_seen c.in-Ok.taken.asked in
    let names = names_for k in
    let ds = c.in-Ok.taken.devices.items in
    let now = c.judge.new.devices in
    let stays : Changes g.B.D.Disk (λ _ _. ⊥) ds now = subst (λ l. Changes g.B.D.Disk (λ _ _. ⊥) l now) c.as_mut_slice.ensures.value c.judge.ensures.stays in
    let long : length ds ≡ c.in-Ok.taken.devices.len = omega (arith, c.in-Ok.taken.devices.ok.0) in
    let whole : take c.in-Ok.taken.devices.len (now ++ drop (length now) ds) ≡ now = written_back c.in-Ok.taken.devices.len now ds long (omega (arith, long, stays.count)) in
    let many : length ds ≡ length names = omega (arith, c.in-Ok.ensures.many, c.in-Ok.taken.devices.ok.0) in
    let b : Told _ = record { tells = B.tells; rose = Rose (B.faults c.args.bay.now) (B.faults c.ask.new.bay); texts = B.text_of c.args.bay.now; home = B.home c.args.bay.now; after = B.home c.ask.new.bay } in
    subst (λ l. DevicesAreTaken g.B.D.Disk b k l c.in-Ok-judge.field-0.fronts.items) (sym whole) (record {
      taken = ds;
      named = λ told. lent_are_named (B.home c.args.bay.now) (B.home c.ask.new.bay) names ds many (c.in-Ok.ensures.lent told);
      others = λ told n apart. (c.in-Ok.ensures.lent told).others n apart;
      read = subst (λ l. Reads g.B.D.Disk (reads_fronts (action_seen c.in-Ok.taken.asked.command.action)) l now c.in-Ok-judge.field-0.fronts.items) c.as_mut_slice.ensures.value c.in-Ok-judge.ensures.read;
    })

pub returns-in-Ok-judge-clause-out : goal.returns-in-Ok-judge-clause-out
returns-in-Ok-judge-clause-out g c =
    let B = g.B.Bay in
    let k = asked_seen c.in-Ok.taken.asked in
    let names = names_for k in
    let ds = c.in-Ok.taken.devices.items in
    let now = c.judge.new.devices in
    let stays : Changes g.B.D.Disk (λ _ _. ⊥) ds now = subst (λ l. Changes g.B.D.Disk (λ _ _. ⊥) l now) c.as_mut_slice.ensures.value c.judge.ensures.stays in
    let long : length ds ≡ c.in-Ok.taken.devices.len = omega (arith, c.in-Ok.taken.devices.ok.0) in
    let whole : take c.in-Ok.taken.devices.len (now ++ drop (length now) ds) ≡ now = written_back c.in-Ok.taken.devices.len now ds long (omega (arith, long, stays.count)) in
    let out : AreOut (B.is_out c.ask.new.bay) names now = out_still g.B.D.Disk (λ _ _. ⊥) (B.is_out c.ask.new.bay) names ds now stays c.in-Ok.ensures.out in
    (c.in-Ok.ensures.many, subst (λ l. AreOut (B.is_out c.ask.new.bay) names l) (sym whole) out)

pub put_all-requires-clause-out : goal.put_all-requires-clause-out
put_all-requires-clause-out g c =
    let B = g.B.Bay in
    let k = asked_seen c.in-Ok.taken.asked in
    let names = names_for k in
    let ds = c.in-Ok.taken.devices.items in
    let now = c.judge.new.devices in
    let stays : Changes g.B.D.Disk (λ _ _. ⊥) ds now = subst (λ l. Changes g.B.D.Disk (λ _ _. ⊥) l now) c.as_mut_slice.ensures.value c.judge.ensures.stays in
    let long : length ds ≡ c.in-Ok.taken.devices.len = omega (arith, c.in-Ok.taken.devices.ok.0) in
    let whole : take c.in-Ok.taken.devices.len (now ++ drop (length now) ds) ≡ now = written_back c.in-Ok.taken.devices.len now ds long (omega (arith, long, stays.count)) in
    let out : AreOut (B.is_out c.ask.new.bay) names now = out_still g.B.D.Disk (λ _ _. ⊥) (B.is_out c.ask.new.bay) names ds now stays c.in-Ok.ensures.out in
    subst (λ l. AreOut (B.is_out c.ask.new.bay) names l) (sym whole) out

pub returns-clause-refused : goal.returns-clause-refused
returns-clause-refused g c = λ told.
    let B = g.B.Bay in
    let k = asked_seen c.in-Ok.taken.asked in
    let names = names_for k in
    let ds = c.in-Ok.taken.devices.items in
    let now = c.judge.new.devices in
    let stays : Changes g.B.D.Disk (λ _ _. ⊥) ds now = subst (λ l. Changes g.B.D.Disk (λ _ _. ⊥) l now) c.as_mut_slice.ensures.value c.judge.ensures.stays in
    let long : length ds ≡ c.in-Ok.taken.devices.len = omega (arith, c.in-Ok.taken.devices.ok.0) in
    let whole : take c.in-Ok.taken.devices.len (now ++ drop (length now) ds) ≡ now = written_back c.in-Ok.taken.devices.len now ds long (omega (arith, long, stays.count)) in
    let many : length ds ≡ length names = omega (arith, c.in-Ok.ensures.many, c.in-Ok.taken.devices.ok.0) in
    let named = lent_are_named (B.home c.args.bay.now) (B.home c.ask.new.bay) names ds many (c.in-Ok.ensures.lent told) in
    let b : Told _ = record { tells = B.tells; rose = Rose (B.faults c.args.bay.now) (B.faults c.put_all.new.bay); texts = B.text_of c.args.bay.now; home = B.home c.args.bay.now; after = B.home c.put_all.new.bay } in
    let out : AreOut (B.is_out c.ask.new.bay) names now = out_still g.B.D.Disk (λ _ _. ⊥) (B.is_out c.ask.new.bay) names ds now stays c.in-Ok.ensures.out in
    let back : AreBack (B.home c.ask.new.bay) (B.home c.put_all.new.bay) names now = subst (λ l. AreBack (B.home c.ask.new.bay) (B.home c.put_all.new.bay) names l) whole (c.put_all.ensures.back told) in
    let after : AreNamed (B.home c.put_all.new.bay) names now = back_named g.B.D.Disk (B.home c.args.bay.now) (B.home c.ask.new.bay) (B.home c.put_all.new.bay) (B.is_out c.ask.new.bay) names ds now stays out back (omega (arith, many, stays.count)) in
    let asked = asked_same B.tells b.rose (Rose (B.faults c.args.bay.now) (B.faults c.ask.new.bay)) b.texts b.home b.after (B.home c.ask.new.bay) (command_seen c.args.command) ∙ c.in-Ok.ensures.answer told in
    refused_judging g.B.D.Disk b (command_seen c.args.command) k ds now c.in-Err-judge.refusal asked named after
    (others_home (B.home c.args.bay.now) (B.home c.ask.new.bay) (B.home c.put_all.new.bay) names ds now stays.count (c.in-Ok.ensures.lent told).others back)
    (λ same. home_again (B.home c.args.bay.now) (B.home c.ask.new.bay) (B.home c.put_all.new.bay) (B.is_out c.ask.new.bay) names ds (c.in-Ok.ensures.lent told) c.in-Ok.ensures.out
    (subst (λ l. AreBack (B.home c.ask.new.bay) (B.home c.put_all.new.bay) names l) same back)) stays
    (subst (λ l. RefusedOver g.B.D.Disk k l now c.in-Err-judge.refusal) c.as_mut_slice.ensures.value c.in-Err-judge.ensures.refused)

pub returns-clause-same : goal.returns-clause-same
returns-clause-same g c = λ told n.
    let B = g.B.Bay in
    let k = asked_seen c.in-Ok.taken.asked in
    let names = names_for k in
    let ds = c.in-Ok.taken.devices.items in
    let now = c.judge.new.devices in
    let stays : Changes g.B.D.Disk (λ _ _. ⊥) ds now = subst (λ l. Changes g.B.D.Disk (λ _ _. ⊥) l now) c.as_mut_slice.ensures.value c.judge.ensures.stays in
    let long : length ds ≡ c.in-Ok.taken.devices.len = omega (arith, c.in-Ok.taken.devices.ok.0) in
    let whole : take c.in-Ok.taken.devices.len (now ++ drop (length now) ds) ≡ now = written_back c.in-Ok.taken.devices.len now ds long (omega (arith, long, stays.count)) in
    let out : AreOut (B.is_out c.ask.new.bay) names now = out_still g.B.D.Disk (λ _ _. ⊥) (B.is_out c.ask.new.bay) names ds now stays c.in-Ok.ensures.out in
    let back : AreBack (B.home c.ask.new.bay) (B.home c.put_all.new.bay) names now = subst (λ l. AreBack (B.home c.ask.new.bay) (B.home c.put_all.new.bay) names l) whole (c.put_all.ensures.back told) in
    home_stays g.B.D.Disk (B.home c.args.bay.now) (B.home c.ask.new.bay) (B.home c.put_all.new.bay) (B.is_out c.ask.new.bay) names ds now stays out back (c.in-Ok.ensures.lent told) n
