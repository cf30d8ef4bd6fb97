use Rattle.std.proofs.Common.{◌≡◌, ◌∙◌, ℕ, sym, subst, ap, arith, Some}
use Rattle.blk_plain.specs.declared.op.OpId.{OpId}
use Rattle.blk_plain.specs.declared.op.Outcome.TheVariants.{Good}
use Rattle.eng_cols.specs.declared.spot.Spot.{Spot}
use Rattle.eng_world.specs.declared.item.Traced.TheVariants as event
use Rattle.eng_state.specs.declared.array.Array.{Array}
use Rattle.eng_log.specs.Log.{Logged, noted}
use Rattle.eng_state.specs.Moves.{CameHome, id_of}
use Rattle.eng_state.proofs.Running.{runs_below}
use Rattle.eng_ends.proofs.EndingRead.{read-follows, read-sound, read-stays, buf-below}
use Rattle.eng_state.proofs.GoingOn.{goes-ended, came-seats}
use Rattle.eng_parts.specs.Shelf.{Shelved}
use Rattle.eng_state.proofs.SlotsHome.{came-slots}
use Rattle.eng_state.proofs.Ending.{ends-good}
use Rattle.eng_ends.proofs.GoodHome.{home-noted}
use Rattle.graph_mean.specs.Steps.{IsCall}
use Rattle.eng_ends.proofs.finish.read_ends.Goals as goal

came : (g : _) (c : goal.After-note g) → CameHome c.args.array.now c.args.client c.args.node c.requires.back.back.buf c.requires.back.back.at c.args.coming.disk c.args.coming.buffer Good c.call_home.new.self
came g c =
    let r = c.requires.back.back in
    let old : Array g.row.L.Denot g.row.D.Denot = c.args.array.now in
    let mid : Array g.row.L.Denot g.row.D.Denot = c.call_home.new.self in
    let at_eq : Some c.in-Some.at ≡ Some r.at = sym c.in-Some.is ∙ (c.spot.ensures ∙ r.spot) in
    let at_is : c.in-Some.at ≡ r.at = cc in
    subst (λ (b : ℕ). CameHome old c.args.client c.args.node b r.at c.args.coming.disk c.args.coming.buffer Good mid) (c.call_buf-buf.ensures.read r.unit r.buf r.kind)
    (subst (λ (at : Spot). CameHome old c.args.client c.args.node c.call_buf-buf.result at c.args.coming.disk c.args.coming.buffer Good mid) at_is c.call_home.ensures)

pub call_home-requires-clause-lease : goal.call_home-requires-clause-lease
call_home-requires-clause-lease g c =
    let well = c.requires.sound.well in let runs = c.requires.back.back.out.runs in
    ((well.each c.args.client (runs_below _ _ _ _ c.args.client well runs)).runs runs).lease

pub call_home-requires-clause-buf : goal.call_home-requires-clause-buf
call_home-requires-clause-buf g c =
    let well = c.requires.sound.well in let r = c.requires.back.back in let runs = r.out.runs in
    let w = (well.each c.args.client (runs_below _ _ _ _ c.args.client well runs)).runs runs in
    let is = c.call_buf-buf.ensures.read r.unit r.buf r.kind in
    let lt = buf-below g.L.Layout g.D.Disk c.args.array.now c.args.client c.args.node c.args.coming.disk c.requires.back.first c.requires.back.count c.args.coming.buffer c.requires.sound r in
    omega (arith, is, lt)

pub call_home-requires-clause-long : goal.call_home-requires-clause-long
call_home-requires-clause-long g c = let r = c.requires.back.back in (r.reads.there r.are_out.room).long ∙ r.are_out.long

pub call_home-requires-clause-can : goal.call_home-requires-clause-can
call_home-requires-clause-can g c = ends-good g.L.Layout g.D.Disk c.args.array.now c.args.client c.args.node c.requires.sound c.requires.back.back.out

pub returns-clause-trace : goal.returns-clause-trace
returns-clause-trace g c =
    ap (λ (s : Array g.row.L.Denot g.row.D.Denot). s.log) c.note.ensures
    ∙ (ap (λ (id : OpId). noted c.call_home.new.self.log (event.Good id c.args.node)) c.id-id.ensures ∙ ap (λ (l : Logged). noted l (event.Good (id_of c.args.array.now.clients c.args.client) c.args.node)) (came g c).log)

pub call_buf-buf-requires-clause-call : goal.call_buf-buf-requires-clause-call
call_buf-buf-requires-clause-call g c = subst IsCall (sym c.requires.back.back.kind) tt

pub returns-clause-home : goal.returns-clause-home
returns-clause-home g c =
    let old : Array g.row.L.Denot g.row.D.Denot = c.args.array.now in
    let mid : Array g.row.L.Denot g.row.D.Denot = c.call_home.new.self in
    let coming = c.args.coming in
    let r = c.requires.back in
    let h = came g c in
    home-noted g.L.Layout g.D.Disk old mid c.note.new.self c.args.client c.args.node c.id-id.result (Some coming.disk) c.note.ensures c.id-id.ensures
    (read-follows g.L.Layout g.D.Disk old mid c.args.client c.args.node coming.disk r.first r.count coming.buffer c.requires.sound r.back h)
    (read-sound g.L.Layout g.D.Disk old mid c.args.client c.args.node coming.disk r.first r.count coming.buffer c.requires.sound r.back h)
    (goes-ended g.L.Layout g.D.Disk old mid c.args.client c.args.node c.requires.sound r.back.out Good h.clients h.layout h.graphs h.spare (came-seats h))
    (came-slots old.devices mid.devices coming.disk r.back.at _ (ap (λ (s : Shelved g.row.D.Denot). s.slots) h.devices) r.back.spot)
    (read-stays g.L.Layout g.D.Disk old mid c.args.client c.args.node coming.disk r.first r.count coming.buffer c.requires.sound r.back h)
