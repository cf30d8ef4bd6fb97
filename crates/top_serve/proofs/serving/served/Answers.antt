use Rattle.eng_array.proofs.Chains.{goes-same}
use Rattle.eng_crew.specs.Laws.{later_later}
use Rattle.top_serve.proofs.All.{is-served}
use Rattle.top_serve.proofs.MayBegin.{column-on}
use Rattle.top_serve.proofs.serving.served.Goals as goal

pub closed-requires-clause-column : goal.closed-requires-clause-column
closed-requires-clause-column g c =
    let after = later_later g.L.Layout g.D.Disk c.begun-begun.result.array c.worked-left.result.array c.at_rest-rested.result.array c.worked-left.ensures.after c.at_rest-rested.ensures.after in
    column-on g.L.Layout g.D.Disk c.begun-begun.result.array c.at_rest-rested.result.array (goes-same g.L.Layout g.D.Disk c.begun-begun.result.array c.at_rest-rested.result.array after.events after.goes).shape c.args.start c.begun-begun.ensures.column

pub returns : goal.returns
returns g c = λ setup given may opened worlds long.
    is-served g.L.Layout g.D.Disk setup c.args.start c.args.core.array c.at_rest-rested.result.array c.closed.result (record {
      given = given;
      may = may;
      opened = opened;
      worlds = worlds;
      begun = c.begun-begun.result.array;
      begins = c.begun-begun.ensures.begun;
      after = later_later g.L.Layout g.D.Disk c.begun-begun.result.array c.worked-left.result.array c.at_rest-rested.result.array c.worked-left.ensures.after c.at_rest-rested.ensures.after;
      steady = c.at_rest-rested.ensures.steady;
      home = c.at_rest-rested.ensures.home;
      rest = c.at_rest-rested.ensures.rest;
      closes = c.closed.ensures.closed;
      regions = c.closed.ensures.regions;
      long = long;
      far = c.a_rebuild_goes_so_far.ensures;
    })
