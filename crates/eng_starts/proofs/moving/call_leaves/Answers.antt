use Rattle.std.proofs.Common.{◌<◌, length, subst, sym, arith}
use Rattle.buf_pool.specs.Pool.{IsLease}
use Rattle.eng_state.specs.declared.array.Array.{Array}
use Rattle.eng_clients.specs.Desk.{desk_at}
use Rattle.eng_state.proofs.Running.{runs_below}
use Rattle.eng_starts.proofs.moving.call_leaves.Goals as goal

pub buffer_leaves-buffer-requires-clause-lease : goal.buffer_leaves-buffer-requires-clause-lease
buffer_leaves-buffer-requires-clause-lease g c =
    let well = c.requires.sound.well in
    let w = (well.each c.args.client (runs_below _ _ _ _ c.args.client well c.requires.runs)).runs c.requires.runs in
    subst (λ (s : Array g.row.L.Denot g.row.D.Denot). IsLease s.pool (desk_at s.clients c.args.client).lease) (sym c.device_leaves-disk.ensures.now) w.lease

pub buffer_leaves-buffer-requires-clause-buf : goal.buffer_leaves-buffer-requires-clause-buf
buffer_leaves-buffer-requires-clause-buf g c =
    let well = c.requires.sound.well in
    let w = (well.each c.args.client (runs_below _ _ _ _ c.args.client well c.requires.runs)).runs c.requires.runs in
    let bufs = w.bufs in let below = c.requires.buf in
    subst (λ (s : Array g.row.L.Denot g.row.D.Denot). c.args.buf < length (desk_at s.clients c.args.client).lease) (sym c.device_leaves-disk.ensures.now) (omega (arith, bufs, below))
