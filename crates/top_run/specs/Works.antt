-- What a setup asks, and what is told of what is handed back.
use Rattle.std.specs.Prelude.{Option, map}
use Rattle.lay_core.specs.declared.layout.Layout.{Ghosts as LayoutGhosts}
use Rattle.eng_parts.specs.declared.setup.Setup.{Setup}
use Rattle.eng_parts.specs.declared.setup.Closed.{Closed}
use Rattle.eng_array.specs.declared.start.Start.{Start}
use Rattle.raid_script.specs.Asked.{seen}
use Rattle.top_run.specs.declared.service.Line.{Line}
use Rattle.top_run.specs.declared.service.Service.{Service as Printed}
use Rattle.top_run.specs.Work.{Work, Ending, Service}

module _ {L D : Type 0} where
  -- what the setup asks of the array, beside this rebuild, if there is one
  abbrev pub work_of : LayoutGhosts L → Setup L D → Option Start → Work
  work_of lay setup start = record {
    layout = lay.shape setup.layout;
    columns = setup.columns.items;
    clients = map (λ items. map seen items.items) setup.clients.items;
    graphs = map (λ g. g.drawn) setup.graphs.items;
    trace = setup.trace;
    start = start;
  }

  -- what is told of what was served, where it ended so and this became of a rebuild
  abbrev pub service_of : Closed L D → Option Line → Ending → Service
  service_of closed line ending = record {
    clients = closed.clients.items;
    replies = closed.replies.items;
    sectors = closed.sectors;
    history = closed.history.items;
    trace = closed.trace.items;
    line = line;
    ending = ending;
  }

-- what is printed, as it is spoken of
abbrev pub service_seen : Printed → Service
service_seen s = record {
  clients = s.clients.items;
  replies = s.replies.items;
  sectors = s.sectors;
  history = s.history.items;
  trace = s.trace.items;
  line = s.line;
  ending = record { columns = s.columns.items; lost = s.lost };
}
