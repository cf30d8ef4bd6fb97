use Rattle.std.proofs.Common.{sym, subst}
use Rattle.blk_plain.specs.declared.op.OpId.{OpId}
use Rattle.eng_world.specs.declared.item.Traced.TheVariants as event
use Rattle.eng_state.specs.declared.array.Array.{Array}
use Rattle.std.specs.Prelude.{slice_set}
use Rattle.eng_clients.specs.Desk.{desk_at, with_skipped}
use Rattle.eng_log.specs.Log.{noted}
use Rattle.eng_state.specs.Moves.{id_of}
use Rattle.eng_state.specs.Sound.{IsSound}
use Rattle.eng_state.specs.Steps.{Follows}
use Rattle.eng_starts.proofs.Skipping.{skip-follows, skip-sound}
use Rattle.eng_state.specs.Out.{IsOut}
use Rattle.eng_starts.proofs.EventsStay.{skip-stays}
use Rattle.eng_starts.proofs.skips.skip.Goals as goal

pub returns-clause-step : goal.returns-clause-step
returns-clause-step g c =
    let old : Array g.row.L.Denot g.row.D.Denot = c.args.array.now in
    let e = event.Skip (id_of old.clients c.args.client) c.args.node in
    subst (λ (s : Array g.row.L.Denot g.row.D.Denot). Follows g.L.Layout g.D.Disk old e s) (sym c.note.ensures)
    (subst (λ (s : Array g.row.L.Denot g.row.D.Denot). Follows g.L.Layout g.D.Disk old e (record s { log = noted s.log (event.Skip c.id-id.result c.args.node) })) (sym c.mark_skipped.ensures)
    (subst (λ (id : OpId). Follows g.L.Layout g.D.Disk old e (record old { clients = slice_set old.clients c.args.client (with_skipped (desk_at old.clients c.args.client) c.args.node); log = noted old.log (event.Skip id c.args.node) })) (sym c.id-id.ensures)
    (skip-follows g.L.Layout g.D.Disk old c.args.client c.args.node c.requires.sound c.requires.can)))

pub returns-clause-sound : goal.returns-clause-sound
returns-clause-sound g c =
    let old : Array g.row.L.Denot g.row.D.Denot = c.args.array.now in
    subst (λ (s : Array g.row.L.Denot g.row.D.Denot). IsSound g.L.Layout g.D.Disk s) (sym c.note.ensures)
    (subst (λ (s : Array g.row.L.Denot g.row.D.Denot). IsSound g.L.Layout g.D.Disk (record s { log = noted s.log (event.Skip c.id-id.result c.args.node) })) (sym c.mark_skipped.ensures)
    (subst (λ (id : OpId). IsSound g.L.Layout g.D.Disk (record old { clients = slice_set old.clients c.args.client (with_skipped (desk_at old.clients c.args.client) c.args.node); log = noted old.log (event.Skip id c.args.node) })) (sym c.id-id.ensures)
    (skip-sound g.L.Layout g.D.Disk old c.args.client c.args.node c.requires.sound c.requires.can)))

pub returns-clause-stays : goal.returns-clause-stays
returns-clause-stays g c = λ job out. subst (λ (s : Array g.row.L.Denot g.row.D.Denot). IsOut g.D.Disk g.L.Layout s job) (sym c.note.ensures) (subst (λ (s : Array g.row.L.Denot g.row.D.Denot). IsOut g.D.Disk g.L.Layout s job) (sym c.mark_skipped.ensures) (skip-stays g.L.Layout g.D.Disk c.args.array.now c.args.client c.args.node c.requires.sound c.requires.can job out))
