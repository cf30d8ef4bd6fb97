use Rattle.std.proofs.Common.{◌≡◌, subst, sym, inl, inr}
use Rattle.buf_pool.specs.Reserve.{AreThere}
use Rattle.eng_world.specs.declared.item.Item.TheVariants as item
use Rattle.eng_world.specs.declared.item.Traced.TheVariants as event
use Rattle.eng_world.specs.declared.item.Reply.TheVariants as reply
use Rattle.blk_plain.specs.declared.op.OpId.{OpId}
use Rattle.eng_state.specs.declared.array.Array.{Array}
use Rattle.eng_clients.specs.Desk.{desk_at, with_reply}
use Rattle.std.specs.Prelude.{slice_set}
use Rattle.eng_log.specs.Log.{noted}
use Rattle.eng_plan.specs.Asked.{lease_for}
use Rattle.eng_state.specs.Moves.{id_of}
use Rattle.eng_state.proofs.Asking.{waits-below}
use Rattle.eng_state.proofs.Served.{item-below}
use Rattle.eng_starts.proofs.Turning.{no-conflict, taken-of, refused-of, unreplied}
use Rattle.eng_starts.proofs.takes.take_op.Goals as goal

pub take_planned-requires-clause-is_free : goal.take_planned-requires-clause-is_free
take_planned-requires-clause-is_free g c =
    let old : Array g.row.L.Denot g.row.D.Denot = c.args.array.now in
    no-conflict g.L.Layout old c.plan.new.array c.args.client c.args.op.now c.args.file (waits-below g.L.Layout g.D.Disk old c.args.client c.requires.sound c.requires.can) c.plan.ensures.planned c.requires.sound.layout c.requires.can c.requires.serves

pub take_planned-requires-clause-buffers : goal.take_planned-requires-clause-buffers
take_planned-requires-clause-buffers g c =
    subst (λ (s : Array g.row.L.Denot g.row.D.Denot). AreThere s.pool (lease_for (g.L.Layout.shape s.layout) s.graphs.items c.args.op.now c.args.file)) (sym c.plan.ensures.planned.now)
    (c.requires.there c.args.op.now c.args.file c.requires.serves.item)

pub refuse-requires-clause-item : goal.refuse-requires-clause-item
refuse-requires-clause-item g c =
    let old : Array g.row.L.Denot g.row.D.Denot = c.args.array.now in
    unreplied g.L.Layout old c.plan.new.array c.args.client c.args.op.now c.args.file (waits-below g.L.Layout g.D.Disk old c.args.client c.requires.sound c.requires.can) c.plan.ensures.planned (item-below (desk_at old.clients c.args.client) (item.Run c.args.op.now c.args.file) c.requires.serves.item)

pub returns-in-Ok : goal.returns-in-Ok
returns-in-Ok g c =
    let old : Array g.row.L.Denot g.row.D.Denot = c.args.array.now in
    let e = subst (λ (i : OpId). c.take_planned.new.array ≡ record c.take_planned.ensures.0 { log = noted c.take_planned.ensures.0.log (event.Take i) }) c.id-id.ensures c.take_planned.ensures.2 in
    record {
      op = c.args.op.now;
      file = c.args.file;
      serves = c.requires.serves;
      became = inl (taken-of g.L.Layout old c.plan.new.array c.args.client c.args.op.now c.args.file (waits-below g.L.Layout g.D.Disk old c.args.client c.requires.sound c.requires.can) c.plan.ensures.planned c.take_planned.ensures.0 c.take_planned.new.array (event.Take (id_of old.clients c.args.client)) c.in-Ok.ensures.passes c.take_planned.ensures.1 e);
    }

pub returns-in-Err : goal.returns-in-Err
returns-in-Err g c =
    let old : Array g.row.L.Denot g.row.D.Denot = c.args.array.now in
    let mid : Array g.row.L.Denot g.row.D.Denot = c.plan.new.array in
    let e = subst (λ (i : OpId). c.refuse.new.array ≡ record mid { clients = slice_set mid.clients c.args.client (with_reply (desk_at mid.clients c.args.client) (reply.Refused c.in-Err.cause)); log = noted mid.log (event.Take i) }) c.id-id.ensures c.refuse.ensures in
    record {
      op = c.args.op.now;
      file = c.args.file;
      serves = c.requires.serves;
      became = inr (c.in-Err.cause, refused-of g.L.Layout old mid c.args.client c.args.op.now c.args.file (waits-below g.L.Layout g.D.Disk old c.args.client c.requires.sound c.requires.can) c.plan.ensures.planned c.refuse.new.array (event.Take (id_of old.clients c.args.client)) c.in-Err.cause (reply.Refused c.in-Err.cause) c.in-Err.ensures.refused e);
    }
