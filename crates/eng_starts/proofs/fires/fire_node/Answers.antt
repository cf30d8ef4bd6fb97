use Rattle.std.proofs.Common.{sym, subst, Option}
use Rattle.graph_mean.specs.Graph.{kind_at, vertex_at}
use Rattle.eng_cols.specs.declared.spot.Spot.{Spot}
use Rattle.eng_state.specs.declared.array.Array.{Array}
use Rattle.eng_clients.specs.Desk.{Desk, desk_at}
use Rattle.eng_state.specs.Can.{place_now}
use Rattle.eng_state.specs.Out.{IsWork}
use Rattle.eng_starts.proofs.fires.fire_node.Goals as goal

pub returns-clause-work : goal.returns-clause-work
returns-clause-work g c =
    let core : Array g.row.L.Denot g.row.D.Denot = c.args.array.now in
    let d : Desk = desk_at core.clients c.args.client in
    let y = g.L.Layout.shape core.layout in
    let named = (vertex_at d.run.graph c.args.node).sources in
    let kind = kind_at d.run.graph c.args.node in
    let at : Option Spot = place_now g.L.Layout core c.args.client c.args.node in
    subst (λ (s : Array g.row.L.Denot g.row.D.Denot). IsWork g.D.Disk y s.devices s.pool d.run.graph d.lease at kind named c.pack-work.result.work c.pack-work.result.sources.items) (sym c.note.ensures)
    (subst (λ (s : Array g.row.L.Denot g.row.D.Denot). IsWork g.D.Disk y s.devices s.pool d.run.graph d.lease at kind named c.pack-work.result.work c.pack-work.result.sources.items) (sym c.mark_out.ensures)
    (subst (λ (o : Option Spot). IsWork g.D.Disk y c.pack-work.new.array.devices c.pack-work.new.array.pool d.run.graph d.lease o kind named c.pack-work.result.work c.pack-work.result.sources.items) c.requires.at c.pack-work.ensures.work))
