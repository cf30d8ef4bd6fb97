-- What is asked of an array that was admitted.
use Rattle.std.specs.Prelude.{◌++◌, false, map}
use Rattle.std.specs.Option.{option_map_or}
use Rattle.top_run.specs.Work.{Work}
use Rattle.top_words.specs.Asked.{profile_of}
use Rattle.top_duty.specs.Duty.{Admitted, layout_of}

-- its layout, columns and clients, the graphs of the file and those that are joined, whether a trace is kept, and how a column is rebuilt, if one is
abbrev pub work_of : Admitted → Work
work_of a = record {
  layout = layout_of a;
  columns = a.opened.columns;
  clients = a.clients;
  graphs = map (λ n. n.graph) a.asked.book ++ a.joined;
  trace = option_map_or (λ beside. beside.trace) (profile_of a.asked.command.action).beside false;
  start = a.start;
}
