use Rattle.std.proofs.Common.{◌∙◌, sym, subst, ap}
use Rattle.blk_plain.specs.declared.op.OpId.{OpId}
use Rattle.eng_world.specs.declared.item.Traced.TheVariants as event
use Rattle.eng_state.specs.declared.array.Array.{Array}
use Rattle.eng_log.specs.Log.{Logged, noted, entered}
use Rattle.eng_state.specs.Moves.{id_of}
use Rattle.eng_ends.proofs.Committing.{commit-follows, commit-sound, commit-stays}
use Rattle.blk_plain.specs.declared.op.Outcome.TheVariants.{Good}
use Rattle.eng_state.proofs.GoingOn.{goes-logged, goes-ended, same-seats}
use Rattle.eng_parts.specs.Shelf.{Shelved}
use Rattle.eng_state.specs.EndsNode.{EndsNode}
use Rattle.std.proofs.Common.{None, refl}
use Rattle.eng_state.proofs.Ending.{ends-good}
use Rattle.eng_ends.proofs.commit.commit_ends.Goals as goal

pub returns-clause-trace : goal.returns-clause-trace
returns-clause-trace g c =
    let e : OpId → Logged → Logged = λ id l. noted (entered l id) (event.Good id c.args.node) in
    ap (λ (s : Array g.row.L.Denot g.row.D.Denot). s.log) c.note.ensures
    ∙ (ap (λ (s : Array g.row.L.Denot g.row.D.Denot). noted s.log (event.Good c.id-id.result c.args.node)) c.enter.ensures
    ∙ (ap (λ (id : OpId). e id c.plain_home.new.self.log) c.id-id.ensures ∙ ap (e (id_of c.args.array.now.clients c.args.client)) c.plain_home.ensures.log))

pub returns-clause-home : goal.returns-clause-home
returns-clause-home g c =
    let old : Array g.row.L.Denot g.row.D.Denot = c.args.array.now in
    let mid : Array g.row.L.Denot g.row.D.Denot = c.plain_home.new.self in
    let id = id_of old.clients c.args.client in
    let e = event.Good id c.args.node in
    let h = c.plain_home.ensures in
    subst (λ (s : Array g.row.L.Denot g.row.D.Denot). EndsNode g.L.Layout g.D.Disk old c.args.client c.args.node e None s) (sym c.note.ensures)
    (subst (λ (s : Array g.row.L.Denot g.row.D.Denot). EndsNode g.L.Layout g.D.Disk old c.args.client c.args.node e None (record s { log = noted s.log (event.Good c.id-id.result c.args.node) })) (sym c.enter.ensures)
    (subst (λ (i : OpId). EndsNode g.L.Layout g.D.Disk old c.args.client c.args.node e None (record mid { log = noted (entered mid.log i) (event.Good i c.args.node) })) (sym c.id-id.ensures) (record {
      step = commit-follows g.L.Layout g.D.Disk old mid c.args.client c.args.node c.requires.sound c.requires.not_lost c.requires.out c.requires.commit h;
      sound = commit-sound g.L.Layout g.D.Disk old mid c.args.client c.args.node c.requires.sound c.requires.not_lost c.requires.out c.requires.commit h;
      goes = goes-logged old mid (record mid { log = noted (entered mid.log id) e }) (noted (entered mid.log id) e) refl (goes-ended g.L.Layout g.D.Disk old mid c.args.client c.args.node c.requires.sound c.requires.out Good h.clients h.layout h.graphs h.spare (same-seats h.pool));
      devices = ap (λ (s : Shelved g.row.D.Denot). s.slots) h.devices;
      stays = commit-stays g.L.Layout g.D.Disk old mid c.args.client c.args.node c.requires.sound c.requires.not_lost c.requires.out c.requires.commit h;
    })))

pub plain_home-requires-clause-can : goal.plain_home-requires-clause-can
plain_home-requires-clause-can g c = ends-good g.L.Layout g.D.Disk c.args.array.now c.args.client c.args.node c.requires.sound c.requires.out
