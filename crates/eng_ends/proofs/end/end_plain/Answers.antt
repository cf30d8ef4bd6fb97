use Rattle.std.proofs.Common.{◌∙◌, ap}
use Rattle.blk_plain.specs.declared.op.OpId.{OpId}
use Rattle.eng_world.specs.declared.item.Traced.TheVariants as event
use Rattle.eng_state.specs.declared.array.Array.{Array}
use Rattle.eng_log.specs.Log.{Logged, noted}
use Rattle.eng_state.specs.Moves.{id_of}
use Rattle.eng_ends.proofs.EndingPlain.{end-follows, plain-sound}
use Rattle.blk_plain.specs.declared.op.Outcome.TheVariants.{Good}
use Rattle.eng_world.specs.declared.item.Reply.TheVariants as reply
use Rattle.eng_state.proofs.GoingOn.{goes-terminated}
use Rattle.eng_ends.proofs.Over.{over-stays}
use Rattle.eng_parts.specs.Shelf.{Shelved}
use Rattle.eng_ends.proofs.GoodHome.{home-noted}
use Rattle.std.proofs.Common.{None}
use Rattle.eng_ends.proofs.end.end_plain.Goals as goal

pub returns-clause-trace : goal.returns-clause-trace
returns-clause-trace g c =
    ap (λ (s : Array g.row.L.Denot g.row.D.Denot). s.log) c.note.ensures
    ∙ (ap (λ (id : OpId). noted c.terminate.new.array.log (event.Good id c.args.node)) c.id-id.ensures ∙ ap (λ (l : Logged). noted l (event.Good (id_of c.args.array.now.clients c.args.client) c.args.node)) c.terminate.ensures.log)

pub returns-clause-home : goal.returns-clause-home
returns-clause-home g c =
    let old : Array g.row.L.Denot g.row.D.Denot = c.args.array.now in
    let end : Array g.row.L.Denot g.row.D.Denot = c.terminate.new.array in
    let t = c.terminate.ensures in
    home-noted g.L.Layout g.D.Disk old end c.note.new.self c.args.client c.args.node c.id-id.result None c.note.ensures c.id-id.ensures
    (end-follows g.L.Layout g.D.Disk old end c.args.client c.args.node c.requires.sound c.requires.not_lost c.requires.out c.requires.end c.requires.plain t)
    (plain-sound g.L.Layout g.D.Disk old end c.args.client c.args.node c.requires.sound c.requires.not_lost c.requires.out c.requires.end c.requires.plain t)
    (goes-terminated g.L.Layout g.D.Disk old end c.args.client c.args.node c.requires.sound c.requires.out Good reply.Done t.clients t.layout t.graphs t.spare t.pool.seats)
    (ap (λ (s : Shelved g.row.D.Denot). s.slots) t.devices)
    (over-stays g.L.Layout g.D.Disk old end c.args.client c.args.node reply.Done c.requires.sound c.requires.out c.requires.end t end.log)
