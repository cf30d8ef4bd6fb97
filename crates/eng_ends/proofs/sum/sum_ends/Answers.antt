use Rattle.std.proofs.Common.{◌∙◌, get_or, sym, subst, ap}
use Rattle.blk_plain.specs.declared.op.OpId.{OpId}
use Rattle.eng_world.specs.declared.item.Traced.TheVariants as event
use Rattle.eng_state.specs.declared.array.Array.{Array}
use Rattle.eng_log.specs.Log.{Logged, noted}
use Rattle.eng_clients.specs.Desk.{desk_at}
use Rattle.eng_state.specs.Moves.{id_of}
use Rattle.eng_state.specs.Room.{HasRoom}
use Rattle.eng_ends.proofs.EndingSum.{sum-follows, sum-sound, sum-stays}
use Rattle.blk_plain.specs.declared.op.Outcome.TheVariants.{Good}
use Rattle.eng_state.proofs.GoingOn.{goes-ended, put-seats}
use Rattle.eng_parts.specs.Shelf.{Shelved}
use Rattle.eng_ends.proofs.GoodHome.{home-noted}
use Rattle.std.proofs.Common.{None}
use Rattle.eng_ends.proofs.sum.sum_ends.Goals as goal

pub returns-clause-trace : goal.returns-clause-trace
returns-clause-trace g c =
    ap (λ (s : Array g.row.L.Denot g.row.D.Denot). s.log) c.note.ensures
    ∙ (ap (λ (id : OpId). noted c.sum_home.new.array.log (event.Good id c.args.node)) c.id-id.ensures
    ∙ ap (λ (l : Logged). noted l (event.Good (id_of c.args.array.now.clients c.args.client) c.args.node)) (c.sum_home.ensures c.requires.back).log)

pub note-requires : goal.note-requires
note-requires g c = subst HasRoom (sym (c.sum_home.ensures c.requires.back).log) c.requires.place

pub returns-clause-home : goal.returns-clause-home
returns-clause-home g c =
    let old : Array g.row.L.Denot g.row.D.Denot = c.args.array.now in
    let mid : Array g.row.L.Denot g.row.D.Denot = c.sum_home.new.array in
    let from = c.args.sources.items in
    let r = c.requires.back in
    let h = c.sum_home.ensures r in
    home-noted g.L.Layout g.D.Disk old mid c.note.new.self c.args.client c.args.node c.id-id.result None c.note.ensures c.id-id.ensures
    (sum-follows g.L.Layout g.D.Disk old mid c.args.client c.args.node c.args.target from c.args.count c.requires.sound r h)
    (sum-sound g.L.Layout g.D.Disk old mid c.args.client c.args.node c.args.target from c.args.count c.requires.sound r h)
    (goes-ended g.L.Layout g.D.Disk old mid c.args.client c.args.node c.requires.sound r.out Good h.clients h.layout h.graphs h.spare (put-seats h.mid mid.pool (get_or (desk_at old.clients c.args.client).lease r.to 0) c.args.target h.pool ∙ h.sources.seats))
    (ap (λ (s : Shelved g.row.D.Denot). s.slots) h.devices)
    (sum-stays g.L.Layout g.D.Disk old mid c.args.client c.args.node c.args.target from c.args.count c.requires.sound r h)
