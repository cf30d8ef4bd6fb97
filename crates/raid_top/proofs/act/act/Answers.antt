use Rattle.std.proofs.Common.{arith, ◌≡◌, ap, subst, length}
use Rattle.std.specs.Prelude.{Ok}
use Rattle.std.proofs.lemmas.Result.{IfOk-weaker}
use Rattle.blk_disk.specs.Disk.{Rose}
use Rattle.top_bay.specs.Asked.{names_for}
use Rattle.top_fetch.specs.Told.{Told}
use Rattle.top_bay.specs.Views.{asked_seen}
use Rattle.top_duty.specs.Duty.{IsWanted}
use Rattle.top_duty.specs.Opening.{sizes_of}
use Rattle.top_duty.specs.Steps.{reads_fronts}
use Rattle.top_duty.specs.Views.{duty_seen}
use Rattle.top_duty.proofs.Wanting.{duty_wanted}
use Rattle.top_words.specs.Views.{action_seen, command_seen}
use Rattle.raid_top.specs.Views.{outcome_seen}
use Rattle.raid_top.proofs.Acting.{acted_of, asked_of_seen, refused_of}
use Rattle.raid_top.proofs.Keeping.{both_err}
use Rattle.raid_top.proofs.Ordered.{duty_ordered}
use Rattle.raid_top.proofs.Reading.{fronts_count}
use Rattle.raid_top.proofs.Refusals.{refused_by}
use Rattle.raid_top.proofs.Wanted.{duty_same}
use Rattle.raid_top.proofs.act.act.Goals as goal

pub end-requires-clause-admitted : goal.end-requires-clause-admitted
end-requires-clause-admitted g c κs w = c.in-Ok.ensures.admitted

pub end-requires-clause-fronts : goal.end-requires-clause-fronts
end-requires-clause-fronts g c κs w =
    let a = c.in-Ok.admitted in
    let k = asked_seen a.asked in
    let t = c.in-Ok.ensures.taken in
    fronts_count g.B.D.Disk t.taken a.devices.items a.devices.items a.fronts.items (reads_fronts k.command.action) t.read

pub returns-in-Ok-clause-acted : goal.returns-in-Ok-clause-acted
returns-in-Ok-clause-acted g c =
    let B = g.B.Bay in
    let a = c.in-Ok.admitted in
    let k = asked_seen a.asked in
    let e = c.in-Ok.ensures in
    let texts = B.text_of c.args.bay.now in
    let home = B.home c.args.bay.now in
    let mid = B.home c.admit.new.bay in
    let after = B.home c.end.new.bay in
    let first : Type 0 = Rose (B.faults c.args.bay.now) (B.faults c.admit.new.bay) in
    let rose : Type 0 = Rose (B.faults c.args.bay.now) (B.faults c.end.new.bay) in
    let told : Told _ = record { tells = B.tells; rose = rose; texts = texts; home = home; after = after } in
    let many : length a.devices.items ≡ length (names_for k) = omega (arith, e.out.0, a.devices.ok.0) in
    IfOk-weaker c.end.result _ _ (λ x done.
    acted_of g.B.D.Disk told (command_seen c.args.command) mid first k (duty_seen k a.duty) a.fronts.items a.devices.items (asked_of_seen k a.duty) (ap command_seen e.command)
    (λ t. subst (λ w. IsWanted w (Ok (duty_seen k a.duty))) (duty_same g.B.D.Disk.size B.tells first rose texts home mid after (command_seen c.args.command) a.fronts.items) (e.wanted t))
    e.taken (outcome_seen (action_seen x.action) x.conf x.came)
    (duty_wanted k (sizes_of g.B.D.Disk.size a.devices.items) a.fronts.items a.duty e.admitted.duty)
    (duty_ordered g.B.D.Disk k a.devices.items e.admitted.within.conf (sizes_of g.B.D.Disk.size a.devices.items) a.fronts.items a.duty e.admitted.duty e.admitted.fit) many done) c.end.ensures.done

pub returns-in-Err-clause-refused : goal.returns-in-Err-clause-refused
returns-in-Err-clause-refused g c =
    let B = g.B.Bay in
    let e = c.in-Err.ensures in
    let told : Told _ = record { tells = B.tells; rose = Rose (B.faults c.args.bay.now) (B.faults c.admit.new.bay); texts = B.text_of c.args.bay.now; home = B.home c.args.bay.now; after = B.home c.admit.new.bay } in
    record {
      kind = e.kind;
      told = λ topic. topic;
      cause = λ t. refused_by g.B.D.Disk told (command_seen c.args.command) c.in-Err.refusal (e.refused t);
      same = e.same;
    }

pub returns-in-Ok-clause-refused : goal.returns-in-Ok-clause-refused
returns-in-Ok-clause-refused g c =
    let B = g.B.Bay in
    let a = c.in-Ok.admitted in
    let k = asked_seen a.asked in
    let e = c.in-Ok.ensures in
    let texts = B.text_of c.args.bay.now in
    let home = B.home c.args.bay.now in
    let mid = B.home c.admit.new.bay in
    let after = B.home c.end.new.bay in
    let first : Type 0 = Rose (B.faults c.args.bay.now) (B.faults c.admit.new.bay) in
    let rose : Type 0 = Rose (B.faults c.args.bay.now) (B.faults c.end.new.bay) in
    let told : Told _ = record { tells = B.tells; rose = rose; texts = texts; home = home; after = after } in
    let many : length a.devices.items ≡ length (names_for k) = omega (arith, e.out.0, a.devices.ok.0) in
    both_err c.end.result c.end.ensures.memory c.end.ensures.same (λ r memory back.
    refused_of g.B.D.Disk told (command_seen c.args.command) mid first k (duty_seen k a.duty) a.fronts.items a.devices.items (asked_of_seen k a.duty) (ap command_seen e.command)
    (λ t. subst (λ w. IsWanted w (Ok (duty_seen k a.duty))) (duty_same g.B.D.Disk.size B.tells first rose texts home mid after (command_seen c.args.command) a.fronts.items) (e.wanted t))
    e.taken r (B.is_out c.admit.new.bay) many e.out.1 memory back)
