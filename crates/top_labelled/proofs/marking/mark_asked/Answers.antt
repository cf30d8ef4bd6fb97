use Rattle.raid_map.specs.Asking.{file_of}
use Rattle.top_labelled.proofs.Marks.{marks-asked}
use Rattle.top_labelled.proofs.marking.mark_asked.Goals as goal

pub returns-clause-marked : goal.returns-clause-marked
returns-clause-marked g c = λ keeps.
    marks-asked (g.L.Layout.shape c.args.layout.now) (file_of c.args.graphs.now) c.args.clients.now c.args.columns.now c.args.start c.args.maps.now.union c.args.maps.now.marks c.add.new.map c.mark_script.new.map c.mark_rebuild.new.map
    c.add.ensures c.mark_script.ensures c.mark_rebuild.ensures
