use Rattle.std.proofs.Common.{◌≡◌, subst}
use Rattle.blk_plain.specs.declared.op.OpId.{OpId}
use Rattle.eng_world.specs.declared.item.Traced.TheVariants as event
use Rattle.eng_state.specs.declared.array.Array.{Array}
use Rattle.eng_log.specs.Log.{noted}
use Rattle.eng_state.specs.Moves.{id_of}
use Rattle.eng_starts.proofs.Anew.{anew-can, anew-there, anew-buffers, replaced-of}
use Rattle.eng_starts.proofs.backs.plan_anew.Goals as goal

pub start-requires-clause-can : goal.start-requires-clause-can
start-requires-clause-can g c = anew-can g.L.Layout g.D.Disk c.args.array.now c.plan.new.array c.args.client c.args.op.now c.requires.sound c.requires.stands c.requires.can c.requires.serves c.plan.ensures.planned c.in-Ok.ensures.passes

pub fill_buffers-requires-clause-there : goal.fill_buffers-requires-clause-there
fill_buffers-requires-clause-there g c = anew-there g.L.Layout g.D.Disk c.args.array.now c.plan.new.array c.args.client c.args.op.now c.requires.sound c.requires.stands c.requires.can c.requires.serves c.plan.ensures.planned c.in-Ok.ensures.passes c.start.new.array c.start.ensures

pub fill_buffers-requires-clause-buffers : goal.fill_buffers-requires-clause-buffers
fill_buffers-requires-clause-buffers g c = anew-buffers g.L.Layout g.D.Disk c.args.array.now c.plan.new.array c.args.client c.args.op.now c.requires.sound c.requires.stands c.requires.can c.requires.serves c.plan.ensures.planned c.in-Ok.ensures.passes c.start.new.array c.start.ensures

pub returns : goal.returns
returns g c =
    let old : Array g.row.L.Denot g.row.D.Denot = c.args.array.now in
    let s4 : Array g.row.L.Denot g.row.D.Denot = c.fill_buffers.new.array in
    let e = subst (λ (i : OpId). c.note.new.self ≡ record s4 { log = noted s4.log (event.Back i) }) c.id-id.ensures c.note.ensures in
    replaced-of g.L.Layout g.D.Disk old c.plan.new.array c.args.client c.args.op.now c.requires.sound c.requires.stands c.requires.can c.requires.serves c.plan.ensures.planned c.in-Ok.ensures.passes c.start.new.array c.start.ensures s4 c.note.new.self (event.Back (id_of old.clients c.args.client)) c.fill_buffers.ensures.filled c.fill_buffers.ensures.rest e
