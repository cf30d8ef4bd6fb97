use Rattle.std.proofs.Common.{sym, ◌∙◌, ap, subst}
use Rattle.std.specs.Prelude.{◌&&◌, is_some, not, option_map}
use Rattle.eng_cols.specs.Cols.{IsFor}
use Rattle.top_acts.specs.Mapped.{unmarked}
use Rattle.top_run.specs.Works.{service_seen}
use Rattle.top_labelled.specs.Between.{HasEnded}
use Rattle.top_labelled.proofs.Steps.{clear-as, may-close, within-closed}
use Rattle.top_labelled.proofs.running.served.Goals as goal

pub ended-requires-clause-closed : goal.ended-requires-clause-closed
ended-requires-clause-closed g c = may-close g.L.Layout g.D.Disk c.args.started c.args.room c.serve_in-closed.result c.requires.can c.serve_in-closed.ensures

pub ended-requires-clause-within : goal.ended-requires-clause-within
ended-requires-clause-within g c = within-closed g.L.Layout g.D.Disk c.args.started c.args.room c.serve_in-closed.result c.requires.can c.serve_in-closed.ensures

pub ended-requires-clause-judge : goal.ended-requires-clause-judge
ended-requires-clause-judge g c = subst (λ z. IsFor (g.L.Layout.shape z) c.args.started.judge) (sym c.serve_in-closed.ensures.tells.layout) c.requires.can.judge

pub returns : goal.returns
returns g c =
    let closed = c.serve_in-closed.result in
    let started = c.args.started in
    let clear = ap (option_map (λ m. m.now)) c.then_some-clear.ensures
    ∙ clear-as _ (started.clears && not (is_some closed.lost)) (unmarked started.maps.marks.stripes started.maps.marks.serial) _ (λ m. m.now) c.clears_behind.ensures c.clear.ensures in
    record {
      closed = closed;
      served = c.serve_in-closed.ensures;
      ended = subst (λ o. HasEnded g.L.Layout g.D.Disk closed started.label o started.asked started.device (service_seen c.ended.result.0) c.ended.result.1.items) clear c.ended.ensures;
    }
