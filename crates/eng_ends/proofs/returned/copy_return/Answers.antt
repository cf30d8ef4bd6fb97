use Rattle.std.proofs.Common.{◌∙◌, ℕ, ap, arith}
use Rattle.graph_mean.specs.declared.graph.Buf.{Buf}
use Rattle.graph_mean.specs.declared.graph.Ret.{Ret}
use Rattle.graph_mean.specs.Graph.{buf_at}
use Rattle.eng_log.specs.declared.region.Region.{Region}
use Rattle.eng_state.specs.declared.array.Array.{Array}
use Rattle.eng_clients.specs.Desk.{desk_at}
use Rattle.eng_log.specs.Handed.{region_at}
use Rattle.eng_ends.proofs.Copying.{has-region, block-in, block-is, in-lease, in-unit, in-bytes, one-copied}
use Rattle.eng_ends.proofs.returned.copy_return.Goals as goal

pub region-region-requires-clause-item : goal.region-region-requires-clause-item
region-region-requires-clause-item g c =
    let h = has-region g.L.Layout g.D.Disk c.args.array.now c.args.client c.args.span c.requires.sound c.requires.runs c.requires.reads c.requires.laid c.args.number c.requires.number in
    omega (arith, h, c.served.ensures)

pub overflow_sub-first : goal.overflow_sub-first
overflow_sub-first g c =
    let h = (block-in g.L.Layout g.D.Disk c.args.array.now c.args.client c.args.span c.requires.sound c.requires.runs c.requires.reads c.requires.laid c.args.number c.requires.number).0 in
    let e = block-is g.L.Layout g.D.Disk c.args.array.now c.args.client c.args.span c.requires.sound c.requires.runs c.requires.reads c.requires.laid c.args.number c.requires.number c.ret-ret.result c.buf-range.result c.stripe-stripe.result c.block_number-block.result c.ret-ret.ensures c.buf-range.ensures c.stripe-stripe.ensures c.block_number-block.ensures in
    omega (arith, h, e)

pub copy_front-requires-clause-buf : goal.copy_front-requires-clause-buf
copy_front-requires-clause-buf g c =
    let h = in-lease g.L.Layout g.D.Disk c.args.array.now c.args.client c.args.span c.requires.sound c.requires.runs c.requires.reads c.requires.laid c.args.number c.requires.number in
    omega (arith, h, ap (λ (r : Ret). r.buf) c.ret-ret.ensures)

pub copy_front-requires-clause-count : goal.copy_front-requires-clause-count
copy_front-requires-clause-count g c =
    let d = desk_at c.args.array.now.clients c.args.client in
    let h = in-unit g.L.Layout g.D.Disk c.args.array.now c.args.client c.args.span c.requires.sound c.requires.runs c.requires.reads c.requires.laid c.args.number c.requires.number in
    omega (arith, h, ap (λ (b : Buf). b.count) (c.buf-range.ensures ∙ ap (λ (r : Ret). buf_at d.run.graph r.buf) c.ret-ret.ensures))

pub copy_front-requires-clause-fits : goal.copy_front-requires-clause-fits
copy_front-requires-clause-fits g c =
    let d = desk_at c.args.array.now.clients c.args.client in
    let h = in-bytes g.L.Layout g.D.Disk c.args.array.now c.args.client c.args.span c.requires.sound c.requires.runs c.requires.reads c.requires.laid c.args.number c.requires.number c.stands.ensures in
    let e = block-is g.L.Layout g.D.Disk c.args.array.now c.args.client c.args.span c.requires.sound c.requires.runs c.requires.reads c.requires.laid c.args.number c.requires.number c.ret-ret.result c.buf-range.result c.stripe-stripe.result c.block_number-block.result c.ret-ret.ensures c.buf-range.ensures c.stripe-stripe.ensures c.block_number-block.ensures in
    let first = ap (λ (r : Region). r.first) c.region-region.ensures ∙ ap (λ (i : ℕ). (region_at c.args.array.now.log.handed c.args.client i).first) c.served.ensures in
    omega (arith, h, e, first, ap (λ (b : Buf). b.count) (c.buf-range.ensures ∙ ap (λ (r : Ret). buf_at d.run.graph r.buf) c.ret-ret.ensures))

pub returns-clause-copied : goal.returns-clause-copied
returns-clause-copied g c =
    let d = desk_at c.args.array.now.clients c.args.client in
    let e = block-is g.L.Layout g.D.Disk c.args.array.now c.args.client c.args.span c.requires.sound c.requires.runs c.requires.reads c.requires.laid c.args.number c.requires.number c.ret-ret.result c.buf-range.result c.stripe-stripe.result c.block_number-block.result c.ret-ret.ensures c.buf-range.ensures c.stripe-stripe.ensures c.block_number-block.ensures in
    let first = ap (λ (r : Region). r.first) c.region-region.ensures ∙ ap (λ (i : ℕ). (region_at c.args.array.now.log.handed c.args.client i).first) c.served.ensures in
    one-copied g.L.Layout g.D.Disk c.args.array.now c.args.client c.args.span c.requires.sound c.requires.runs c.requires.reads c.requires.laid c.args.number c.requires.number c.copy_front.new.array c.region-region.result.first c.block_number-block.result c.buf-range.result.count c.ret-ret.result.buf
    (ap (λ (b : Buf). b.count) (c.buf-range.ensures ∙ ap (λ (r : Ret). buf_at d.run.graph r.buf) c.ret-ret.ensures)) (ap (λ (r : Ret). r.buf) c.ret-ret.ensures) first e
    (ap (λ (s : Array g.row.L.Denot g.row.D.Denot). s.log.handed.bytes) c.copy_front.ensures.now) c.copy_front.ensures.long c.stands.ensures
