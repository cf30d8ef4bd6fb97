use Rattle.std.proofs.Common.{◌≡◌, ◌∙◌, Bool, true, false, sym, subst}
use Rattle.std.specs.Prelude.{if◌then◌else◌}
use Rattle.blk_plain.specs.declared.op.Outcome.{Outcome}
use Rattle.eng_world.specs.declared.item.Traced.TheVariants as event
use Rattle.eng_clients.specs.Desk.{desk_at, spot_at}
use Rattle.eng_state.specs.EndsNode.{EndsNode}
use Rattle.eng_state.specs.Homes.{device_in}
use Rattle.eng_state.specs.Moves.{id_of}
use Rattle.eng_state.specs.Out.{CameBack}
use Rattle.eng_fails.specs.Returned.{ends_bad, failed_at}
use Rattle.eng_fails.proofs.ReturningBad.{job-bad}
use Rattle.eng_events.proofs.GoingHome.{is-good}
use Rattle.eng_events.proofs.home.goes_home.Goals as goal

pub good_returns-requires-clause-back : goal.good_returns-requires-clause-back
good_returns-requires-clause-back g c =
    let e : ends_bad c.args.array.now c.args.job c.args.outcome ≡ false = sym c.comes_back_bad.ensures ∙ c.if-comes_back_bad.false in
    subst (λ (o : Outcome). CameBack g.D.Disk g.L.Layout c.args.array.now c.args.job o) (is-good c.args.outcome c.args.job.work (failed_at c.args.array.now.devices (spot_at (desk_at c.args.array.now.clients c.args.job.client) c.args.job.node)) e) c.requires.back

pub bad_returns-requires-clause-back : goal.bad_returns-requires-clause-back
bad_returns-requires-clause-back g c = job-bad c.args.array.now c.args.job g.L.Layout g.D.Disk c.args.outcome c.requires.back (sym c.comes_back_bad.ensures ∙ c.if-comes_back_bad.true)

pub returns-then-comes_back_bad-clause-home : goal.returns-then-comes_back_bad-clause-home
returns-then-comes_back_bad-clause-home g c =
    let e : ends_bad c.args.array.now c.args.job c.args.outcome ≡ true = sym c.comes_back_bad.ensures ∙ c.if-comes_back_bad.true in
    let id = id_of c.args.array.now.clients c.args.job.client in
    subst (λ (b : Bool). EndsNode g.L.Layout g.D.Disk c.args.array.now c.args.job.client c.args.job.node (if b then event.Bad id c.args.job.node else event.Good id c.args.job.node) (device_in c.args.job.work) c.bad_returns.new.array) (sym e) c.bad_returns.ensures.home

pub returns-else-comes_back_bad-clause-home : goal.returns-else-comes_back_bad-clause-home
returns-else-comes_back_bad-clause-home g c =
    let e : ends_bad c.args.array.now c.args.job c.args.outcome ≡ false = sym c.comes_back_bad.ensures ∙ c.if-comes_back_bad.false in
    let id = id_of c.args.array.now.clients c.args.job.client in
    subst (λ (b : Bool). EndsNode g.L.Layout g.D.Disk c.args.array.now c.args.job.client c.args.job.node (if b then event.Bad id c.args.job.node else event.Good id c.args.job.node) (device_in c.args.job.work) c.good_returns.new.array) (sym e) c.good_returns.ensures.home
