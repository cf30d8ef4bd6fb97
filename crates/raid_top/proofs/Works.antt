-- What was handed to the core is what was admitted.
use Rattle.std.specs.Prelude.{◌≡◌, Bool, List, Option, map}
use Rattle.std.proofs.Common.{ap, ◌∙◌}
use Rattle.lay_core.specs.Layout.{Shape}
use Rattle.lay_core.specs.declared.layout.Layout.{Ghosts as LayoutGhosts}
use Rattle.graph_mean.specs.Graph.{View}
use Rattle.eng_array.specs.declared.start.Start.{Start}
use Rattle.eng_cols.specs.declared.column.Column.{Column}
use Rattle.eng_parts.specs.declared.setup.Setup.{Setup}
use Rattle.raid_script.specs.Asked.{Asked as Item, seen}
use Rattle.top_run.specs.Work.{Work}
use Rattle.top_run.specs.Works as run
use Rattle.top_duty.specs.Duty.{Admitted, layout_of}
use Rattle.top_duty.specs.Steps.{columns_of, graphs_of, traces}
use Rattle.raid_top.specs.Works.{work_of}

abbrev made : Shape → List Column → List (List Item) → List View → Bool → Option Start → Work
made layout columns clients graphs trace start = record { layout = layout; columns = columns; clients = clients; graphs = graphs; trace = trace; start = start }

same_made : (y z : Shape) (cols columns : List Column) (rows clients : List (List Item)) (book graphs : List View) (t u : Bool) (s v : Option Start)
    → y ≡ z → cols ≡ columns → rows ≡ clients → book ≡ graphs → t ≡ u → s ≡ v → made y cols rows book t s ≡ made z columns clients graphs u v
same_made y z cols columns rows clients book graphs t u s v one two three four five six =
    ap (λ (x : Shape). made x cols rows book t s) one
    ∙ (ap (λ (x : List Column). made z x rows book t s) two
    ∙ (ap (λ (x : List (List Item)). made z columns x book t s) three
    ∙ (ap (λ (x : List View). made z columns clients x t s) four
    ∙ (ap (λ (x : Bool). made z columns clients graphs x s) five
    ∙ ap (λ (x : Option Start). made z columns clients graphs u x) six))))

module _ {L D : Type 0} (lay : LayoutGhosts L) (setup : Setup L D) (start : Option Start) (a : Admitted) where
  pub work_same : lay.shape setup.layout ≡ layout_of a → setup.columns.items ≡ columns_of a → map (λ items. map seen items.items) setup.clients.items ≡ a.clients
      → map (λ g. g.drawn) setup.graphs.items ≡ graphs_of a → setup.trace ≡ traces a.asked.command.action → start ≡ a.start
      → run.work_of lay setup start ≡ work_of a
  work_same layout columns clients graphs trace starts =
      same_made (lay.shape setup.layout) (layout_of a) setup.columns.items (columns_of a) (map (λ items. map seen items.items) setup.clients.items) a.clients
      (map (λ g. g.drawn) setup.graphs.items) (graphs_of a) setup.trace (traces a.asked.command.action) start a.start layout columns clients graphs trace starts
