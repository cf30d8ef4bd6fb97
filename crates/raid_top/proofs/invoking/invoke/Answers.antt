use Rattle.std.proofs.Common.{ap, refl, subst, sym}
use Rattle.std.proofs.lemmas.Result.{IfErr-weaker, IfOk-weaker}
use Rattle.std.specs.Prelude.{Err}
use Rattle.blk_disk.specs.Disk.{Rose}
use Rattle.top_fetch.specs.Told.{Told}
use Rattle.top_status.specs.Refusals.{Refused}
use Rattle.top_words.specs.Views.{invocation_seen}
use Rattle.raid_top.specs.Refused.{CallIsRefused}
use Rattle.raid_top.proofs.Refusing.{call_refused, words_refused}
use Rattle.raid_top.proofs.invoking.invoke.Goals as goal

pub returns-in-Ok-clause-followed : goal.returns-in-Ok-clause-followed
returns-in-Ok-clause-followed g c = IfOk-weaker c.follow.result _ _ (λ f follows. record { invocation = invocation_seen c.in-Ok.invocation; words_are = c.in-Ok.ensures.invocation; follows = follows }) c.follow.ensures.followed

pub returns-in-Ok-clause-refused : goal.returns-in-Ok-clause-refused
returns-in-Ok-clause-refused g c =
    let B = g.B.Bay in
    let told : Told _ = record { tells = B.tells; rose = Rose (B.faults c.args.bay.now) (B.faults c.follow.new.bay); texts = B.text_of c.args.bay.now; home = B.home c.args.bay.now; after = B.home c.follow.new.bay } in
    IfErr-weaker c.follow.result _ _ (λ r refused. call_refused g.B.D.Disk told _ (invocation_seen c.in-Ok.invocation) r c.in-Ok.ensures.invocation refused) c.follow.ensures.refused

pub returns-in-Err-clause-refused : goal.returns-in-Err-clause-refused
returns-in-Err-clause-refused g c =
    let B = g.B.Bay in
    let told : Told _ = record { tells = B.tells; rose = Rose (B.faults c.args.bay.now) (B.faults c.args.bay.now); texts = B.text_of c.args.bay.now; home = B.home c.args.bay.now; after = B.home c.args.bay.now } in
    let e = c.in-Err.ensures in
    subst (λ (r : Refused). CallIsRefused g.B.D.Disk told c.args.words.now r) (sym c.refuse.ensures)
    (words_refused g.B.D.Disk told c.args.words.now c.in-Err.fault (λ i is. e.usage i (ap (λ f. Err f) is)) e.told (λ n. refl))
