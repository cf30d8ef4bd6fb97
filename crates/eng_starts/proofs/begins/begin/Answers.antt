use Rattle.std.proofs.Common.{sym, subst, ap, ◌∙◌}
use Rattle.blk_plain.specs.declared.op.OpId.{OpId}
use Rattle.eng_world.specs.declared.item.Traced.TheVariants as event
use Rattle.eng_state.specs.declared.array.Array.{Array}
use Rattle.eng_log.specs.Log.{noted}
use Rattle.eng_state.specs.Sound.{IsSound}
use Rattle.eng_state.specs.Steps.{Follows}
use Rattle.eng_state.specs.Moves.{id_of}
use Rattle.eng_starts.proofs.Beginning.{begin-follows, begin-sound}
use Rattle.eng_state.specs.Out.{IsOut}
use Rattle.eng_starts.proofs.EventsStay.{begin-stays}
use Rattle.eng_starts.proofs.begins.begin.Goals as goal

pub returns-clause-step : goal.returns-clause-step
returns-clause-step g c =
    let old : Array g.row.L.Denot g.row.D.Denot = c.args.array.now in
    let mid : Array g.row.L.Denot g.row.D.Denot = c.begin_item.new.array in
    let b = c.begin_item.ensures in
    subst (Follows g.L.Layout g.D.Disk old (event.Begin (id_of old.clients c.args.client))) (sym c.note.ensures)
    (subst (λ (id : OpId). Follows g.L.Layout g.D.Disk old (event.Begin (id_of old.clients c.args.client)) (record mid { log = noted mid.log (event.Begin id) })) (sym c.id-id.ensures)
    (begin-follows g.L.Layout g.D.Disk old c.args.client c.requires.sound c.requires.can mid b.0 b.1 b.2))

pub returns-clause-sound : goal.returns-clause-sound
returns-clause-sound g c =
    let old : Array g.row.L.Denot g.row.D.Denot = c.args.array.now in
    let mid : Array g.row.L.Denot g.row.D.Denot = c.begin_item.new.array in
    let b = c.begin_item.ensures in
    subst (IsSound g.L.Layout g.D.Disk) (sym c.note.ensures)
    (subst (λ (id : OpId). IsSound g.L.Layout g.D.Disk (record mid { log = noted mid.log (event.Begin id) })) (sym c.id-id.ensures)
    (begin-sound g.L.Layout g.D.Disk old c.args.client c.requires.sound c.requires.can mid b.0 b.1 b.2))

pub returns-clause-begun : goal.returns-clause-begun
returns-clause-begun g c =
    let mid : Array g.row.L.Denot g.row.D.Denot = c.begin_item.new.array in
    let b = c.begin_item.ensures in
    (b.0, mid, b.1, b.2, c.note.ensures ∙ ap (λ (id : OpId). record mid { log = noted mid.log (event.Begin id) }) c.id-id.ensures)

pub returns-clause-stays : goal.returns-clause-stays
returns-clause-stays g c = λ job out. let b = c.begin_item.ensures in subst (λ (s : Array g.row.L.Denot g.row.D.Denot). IsOut g.D.Disk g.L.Layout s job) (sym c.note.ensures) (begin-stays g.L.Layout g.D.Disk c.args.array.now c.args.client c.requires.sound c.requires.can b.0 c.begin_item.new.array b.2 job out)
