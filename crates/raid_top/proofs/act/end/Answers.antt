use Rattle.std.proofs.Common.{arith, ◌≡◌, ap, sym, subst, ◌∙◌, length}
use Rattle.std.specs.Prelude.{IfOk}
use Rattle.top_bay.specs.Asked.{names_by, names_for}
use Rattle.top_bay.specs.Lent.{AreBack, AreOut}
use Rattle.top_bay.specs.Views.{asked_seen}
use Rattle.top_duty.specs.Views.{duty_seen}
use Rattle.top_words.specs.Views.{action_seen}
use Rattle.raid_top.specs.Does.{Does}
use Rattle.raid_top.specs.Views.{outcome_seen}
use Rattle.raid_top.proofs.Backs.{out_still}
use Rattle.raid_top.proofs.Frames.{AnySector, Moves}
use Rattle.raid_top.proofs.Keeping.{came_moves}
use Rattle.raid_top.proofs.act.end.Goals as goal

pub put_all-requires-clause-many : goal.put_all-requires-clause-many
put_all-requires-clause-many g c =
    let a = c.args.admitted in
    let k = asked_seen a.asked in
    let r = c.perform-conf.result in
    let back = r.served.devices in
    let same : names_by r.conf (action_seen r.action) ≡ names_for k = ap (λ x. names_by x (action_seen r.action)) c.perform-conf.ensures.conf ∙ ap (λ x. names_by k.conf (action_seen x)) c.perform-conf.ensures.action in
    let moves : Moves g.B.D.Disk a.devices.items back.items = came_moves g.B.D.Disk (duty_seen k a.duty) a.fronts.items a.devices back (λ x. outcome_seen (action_seen r.action) r.conf x) r.served.came c.perform-conf.ensures.does c.perform-conf.ensures.same in
    omega (arith, moves.count, c.requires.many, ap length same, back.ok.0)

pub put_all-requires-clause-out : goal.put_all-requires-clause-out
put_all-requires-clause-out g c =
    let a = c.args.admitted in
    let k = asked_seen a.asked in
    let r = c.perform-conf.result in
    let back = r.served.devices in
    let same : names_by r.conf (action_seen r.action) ≡ names_for k = ap (λ x. names_by x (action_seen r.action)) c.perform-conf.ensures.conf ∙ ap (λ x. names_by k.conf (action_seen x)) c.perform-conf.ensures.action in
    let moves : Moves g.B.D.Disk a.devices.items back.items = came_moves g.B.D.Disk (duty_seen k a.duty) a.fronts.items a.devices back (λ x. outcome_seen (action_seen r.action) r.conf x) r.served.came c.perform-conf.ensures.does c.perform-conf.ensures.same in
    subst (λ names. AreOut (g.B.Bay.is_out c.args.bay.now) names back.items) (sym same)
    (out_still g.B.D.Disk AnySector (g.B.Bay.is_out c.args.bay.now) (names_for k) a.devices.items back.items moves c.requires.out)

pub returns-in-Ok-clause-done : goal.returns-in-Ok-clause-done
returns-in-Ok-clause-done g c =
    let a = c.args.admitted in
    let k = asked_seen a.asked in
    let r = c.perform-conf.result in
    let back = r.served.devices in
    let same : names_by r.conf (action_seen r.action) ≡ names_for k = ap (λ x. names_by x (action_seen r.action)) c.perform-conf.ensures.conf ∙ ap (λ x. names_by k.conf (action_seen x)) c.perform-conf.ensures.action in
    let moves : Moves g.B.D.Disk a.devices.items back.items = came_moves g.B.D.Disk (duty_seen k a.duty) a.fronts.items a.devices back (λ x. outcome_seen (action_seen r.action) r.conf x) r.served.came c.perform-conf.ensures.does c.perform-conf.ensures.same in
    let out = out_still g.B.D.Disk AnySector (g.B.Bay.is_out c.args.bay.now) (names_for k) a.devices.items back.items moves c.requires.out in
    record {
      back = back.items;
      count = moves.count;
      there = out.there;
      does = subst (λ x. IfOk x (λ came. Does g.B.D.Disk (duty_seen k a.duty) a.fronts.items a.devices.items back.items (outcome_seen (action_seen r.action) r.conf came))) c.in-Ok.is c.perform-conf.ensures.does;
      put = λ t. subst (λ names. AreBack (g.B.Bay.home c.args.bay.now) (g.B.Bay.home c.put_all.new.bay) names back.items) same (c.put_all.ensures.back t);
    }
