use Rattle.std.proofs.Common.{sym, subst, ◌∙◌, ap}
use Rattle.blk_plain.specs.declared.op.OpId.{OpId}
use Rattle.eng_world.specs.declared.item.Traced.TheVariants as event
use Rattle.eng_state.specs.declared.array.Array.{Array}
use Rattle.eng_clients.specs.Desk.{desk_at, Desk}
use Rattle.eng_log.specs.Log.{noted}
use Rattle.eng_state.specs.Moves.{id_of}
use Rattle.eng_clients.specs.Rebuilt.{CountsRebuilt}
use Rattle.eng_ends.proofs.EndingRebuild.{rebuild-follows, rebuild-sound, rebuild-trace, rebuild-stays}
use Rattle.blk_plain.specs.declared.op.Outcome.TheVariants.{Good}
use Rattle.eng_world.specs.declared.item.Reply.TheVariants as reply
use Rattle.std.proofs.Common.{List}
use Rattle.eng_state.specs.Sound.{IsOutOf}
use Rattle.eng_state.proofs.GoingOn.{goes-terminated, goes-further, goes-stripe, stripe-clients}
use Rattle.eng_parts.specs.Shelf.{Shelved}
use Rattle.eng_state.proofs.SlotsHome.{stripe-slots}
use Rattle.eng_ends.proofs.GoodHome.{home-noted}
use Rattle.std.proofs.Common.{None}
use Rattle.eng_ends.proofs.rebuilt.end_rebuild.Goals as goal

pub returns-clause-trace : goal.returns-clause-trace
returns-clause-trace g c =
    let old : Array g.row.L.Denot g.row.D.Denot = c.args.array.now in
    let end : Array g.row.L.Denot g.row.D.Denot = c.terminate.new.array in
    let was = noted old.log (event.Good (id_of old.clients c.args.client) c.args.node) in
    subst (λ (s : Array g.row.L.Denot g.row.D.Denot). CountsRebuilt (g.L.Layout.shape old.layout) old.cols.states (desk_at old.clients c.args.client) was s.log) (sym c.note.ensures)
    (subst (λ (id : OpId). CountsRebuilt (g.L.Layout.shape old.layout) old.cols.states (desk_at old.clients c.args.client) was (noted end.log (event.Good id c.args.node))) (sym c.id-id.ensures)
    (rebuild-trace g.L.Layout g.D.Disk old c.end_stripe.new.array end c.args.client c.args.node c.requires.out c.requires.end c.end_stripe.ensures.ends c.end_stripe.ensures.sound c.terminate.ensures))

pub returns-clause-home : goal.returns-clause-home
returns-clause-home g c =
    let old : Array g.row.L.Denot g.row.D.Denot = c.args.array.now in
    let mid : Array g.row.L.Denot g.row.D.Denot = c.end_stripe.new.array in
    let end : Array g.row.L.Denot g.row.D.Denot = c.terminate.new.array in
    let y = g.L.Layout.shape old.layout in
    let s = c.end_stripe.ensures in
    let t = c.terminate.ensures in
    let out = subst (λ (l : List Desk). IsOutOf (desk_at l c.args.client) c.args.node) (sym (stripe-clients y old mid c.args.client s.ends)) c.requires.out in
    home-noted g.L.Layout g.D.Disk old end c.note.new.self c.args.client c.args.node c.id-id.result None c.note.ensures c.id-id.ensures
    (rebuild-follows g.L.Layout g.D.Disk old mid end c.args.client c.args.node c.requires.out c.requires.end s.ends s.sound t c.requires.not_lost c.requires.rebuild)
    (rebuild-sound g.L.Layout g.D.Disk old mid end c.args.client c.args.node c.requires.out c.requires.end s.ends s.sound t)
    (goes-further old mid end (goes-stripe y old mid c.args.client s.ends) (goes-terminated g.L.Layout g.D.Disk mid end c.args.client c.args.node s.sound out Good reply.Done t.clients t.layout t.graphs t.spare t.pool.seats))
    (ap (λ (s : Shelved g.row.D.Denot). s.slots) t.devices ∙ stripe-slots old mid y c.args.client s.ends)
    (rebuild-stays g.L.Layout g.D.Disk old mid end c.args.client c.args.node c.requires.out c.requires.end s.ends s.sound t)
