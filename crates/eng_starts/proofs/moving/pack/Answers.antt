use Rattle.std.proofs.Common.{ℕ, subst, sym, ap, ◌∙◌, refl, arith, get_or, ◌≡◌, Some}
use Rattle.graph_mean.specs.declared.graph.Node.{Node}
use Rattle.graph_mean.specs.declared.graph.Node.TheVariants.{Rd, Wr}
use Rattle.buf_pool.specs.Pool.{taken}
use Rattle.eng_world.specs.Nodes.{place_of}
use Rattle.eng_parts.specs.Shelf.{left}
use Rattle.graph_mean.specs.Graph.{kind_at, vertex_at}
use Rattle.eng_job.specs.declared.job.Work.TheVariants.{Read, Write}
use Rattle.eng_state.specs.declared.array.Array.{Array}
use Rattle.eng_clients.specs.Desk.{Desk, desk_at, plan_of}
use Rattle.eng_state.specs.Out.{IsWork}
use Rattle.eng_state.specs.Moves.{IsTaken}
use Rattle.eng_state.proofs.Running.{runs_below, read_buf, read_unit, write_buf, write_unit}
use Rattle.eng_state.proofs.Placing.{read-seat, write-seat}
use Rattle.eng_state.proofs.Leaving.{call-out, takes-read, takes-write, read-takes, write-takes}
use Rattle.eng_clients.proofs.Pools.{one-left}
use Rattle.eng_starts.proofs.moving.pack.Goals as goal
use Rattle.eng_clients.specs.Seats.{BuffersLeft}

pub call_leaves-disk-requires-clause-buf : goal.call_leaves-disk-requires-clause-buf
call_leaves-disk-requires-clause-buf g c =
    let sound = c.requires.sound in let runs = c.requires.can.runs in
    let w = (sound.well.each c.args.client (runs_below _ _ _ _ c.args.client sound.well runs)).runs runs in
    (read_buf _ _ _ _ w c.args.node c.in-Rd.unit c.in-Rd.buf c.requires.can.ready.below (sym c.node.ensures ∙ c.in-Rd.is)).below

pub call_leaves-disk-requires-in-Wr-clause-buf : goal.call_leaves-disk-requires-in-Wr-clause-buf
call_leaves-disk-requires-in-Wr-clause-buf g c =
    let sound = c.requires.sound in let runs = c.requires.can.runs in
    let w = (sound.well.each c.args.client (runs_below _ _ _ _ c.args.client sound.well runs)).runs runs in
    (write_buf _ _ _ _ w c.args.node c.in-Wr.unit c.in-Wr.buf c.requires.can.ready.below (sym c.node.ensures ∙ c.in-Wr.is)).below

pub returns-in-Some-clause-work : goal.returns-in-Some-clause-work
returns-in-Some-clause-work g c =
    let sound = c.requires.sound in let runs = c.requires.can.runs in
    let core : Array g.row.L.Denot g.row.D.Denot = c.args.array.now in
    let d : Desk = desk_at core.clients c.args.client in
    let w = (sound.well.each c.args.client (runs_below _ _ _ _ c.args.client sound.well runs)).runs runs in
    let i = c.in-Rd.unit in let b = c.in-Rd.buf in let below = c.requires.can.ready.below in
    let kind : kind_at d.run.graph c.args.node ≡ Rd i b = sym c.node.ensures ∙ c.in-Rd.is in
    let buf = read_buf _ _ _ _ w c.args.node i b below kind in
    let y = g.L.Layout.shape core.layout in
    let place : place_of y core.cols.states (plan_of d) (Rd i b) ≡ Some c.in-Some.at = ap (place_of y core.cols.states (plan_of d)) (sym kind) ∙ (sym c.requires.at ∙ c.in-Some.is) in
    let at = c.in-Some.at in
    let x = c.call_leaves-disk.result.disk in let bytes = c.call_leaves-disk.result.buffer in let e = c.call_leaves-disk.ensures in
    let out = call-out g.D.Disk y sound.layout core.graphs.items core.pool d w core.cols core.devices sound.seated sound.unit i b at x bytes c.call_leaves-disk.result.first c.call_leaves-disk.result.count
    buf (read_unit _ _ _ _ w c.args.node i b below kind) (read-seat y core.cols.states (plan_of d) i b at place) e.was e.bytes e.long e.first e.count in
    let named = (vertex_at d.run.graph c.args.node).sources in
    let work = Read x c.call_leaves-disk.result.first bytes c.call_leaves-disk.result.count in
    subst (λ (s : Array g.row.L.Denot g.row.D.Denot). IsWork g.D.Disk y s.devices s.pool d.run.graph d.lease c.args.at (kind_at d.run.graph c.args.node) named work c.list_leaves.result.items) (sym c.list_leaves.ensures.now)
    (subst (λ (s : Array g.row.L.Denot g.row.D.Denot). IsWork g.D.Disk y s.devices s.pool d.run.graph d.lease c.args.at (kind_at d.run.graph c.args.node) named work c.list_leaves.result.items) (sym e.now)
    (subst (λ (k : Node). IsWork g.D.Disk y (left core.devices at.device x) (taken core.pool (get_or d.lease b 0)) d.run.graph d.lease c.args.at k named work c.list_leaves.result.items) (sym kind)
    (at, c.in-Some.is, x, c.call_leaves-disk.result.first, bytes, c.call_leaves-disk.result.count, refl, out, c.list_leaves.ensures.empty)))

pub returns-in-Some-clause-pool : goal.returns-in-Some-clause-pool
returns-in-Some-clause-pool g c =
    let sound = c.requires.sound in let runs = c.requires.can.runs in
    let core : Array g.row.L.Denot g.row.D.Denot = c.args.array.now in
    let d : Desk = desk_at core.clients c.args.client in
    let w = (sound.well.each c.args.client (runs_below _ _ _ _ c.args.client sound.well runs)).runs runs in
    let i = c.in-Rd.unit in let b = c.in-Rd.buf in let below = c.requires.can.ready.below in
    let kind : kind_at d.run.graph c.args.node ≡ Rd i b = sym c.node.ensures ∙ c.in-Rd.is in
    let buf = read_buf _ _ _ _ w c.args.node i b below kind in
    let bufs = w.bufs in let inside = (w.lease b (let h = buf.below in omega (arith, bufs, h))).0 in
    subst (λ (s : Array g.row.L.Denot g.row.D.Denot). BuffersLeft core.pool (IsTaken d c.args.node) s.pool) (sym c.list_leaves.ensures.now)
    (subst (λ (s : Array g.row.L.Denot g.row.D.Denot). BuffersLeft core.pool (IsTaken d c.args.node) s.pool) (sym c.call_leaves-disk.ensures.now)
    (one-left core.pool (get_or d.lease b 0) inside (IsTaken d c.args.node) (b, read-takes d.run.graph c.args.node i b kind, refl)
    (λ j h. sym h.2 ∙ ap (λ (a : ℕ). get_or d.lease a 0) (takes-read d.run.graph c.args.node i b h.0 kind h.1))))

pub returns-in-Some-at-clause-work : goal.returns-in-Some-at-clause-work
returns-in-Some-at-clause-work g c =
    let sound = c.requires.sound in let runs = c.requires.can.runs in
    let core : Array g.row.L.Denot g.row.D.Denot = c.args.array.now in
    let d : Desk = desk_at core.clients c.args.client in
    let w = (sound.well.each c.args.client (runs_below _ _ _ _ c.args.client sound.well runs)).runs runs in
    let i = c.in-Wr.unit in let b = c.in-Wr.buf in let below = c.requires.can.ready.below in
    let kind : kind_at d.run.graph c.args.node ≡ Wr i b = sym c.node.ensures ∙ c.in-Wr.is in
    let buf = write_buf _ _ _ _ w c.args.node i b below kind in
    let y = g.L.Layout.shape core.layout in
    let place : place_of y core.cols.states (plan_of d) (Wr i b) ≡ Some c.in-Some-at.at = ap (place_of y core.cols.states (plan_of d)) (sym kind) ∙ (sym c.requires.at ∙ c.in-Some-at.is) in
    let at = c.in-Some-at.at in
    let x = c.call_leaves-disk-in-Wr.result.disk in let bytes = c.call_leaves-disk-in-Wr.result.buffer in let e = c.call_leaves-disk-in-Wr.ensures in
    let out = call-out g.D.Disk y sound.layout core.graphs.items core.pool d w core.cols core.devices sound.seated sound.unit i b at x bytes c.call_leaves-disk-in-Wr.result.first c.call_leaves-disk-in-Wr.result.count
    buf (write_unit _ _ _ _ w c.args.node i b below kind) (write-seat y core.cols.states (plan_of d) i b at place) e.was e.bytes e.long e.first e.count in
    let named = (vertex_at d.run.graph c.args.node).sources in
    let work = Write x c.call_leaves-disk-in-Wr.result.first bytes c.call_leaves-disk-in-Wr.result.count in
    subst (λ (s : Array g.row.L.Denot g.row.D.Denot). IsWork g.D.Disk y s.devices s.pool d.run.graph d.lease c.args.at (kind_at d.run.graph c.args.node) named work c.list_leaves-in-Wr.result.items) (sym c.list_leaves-in-Wr.ensures.now)
    (subst (λ (s : Array g.row.L.Denot g.row.D.Denot). IsWork g.D.Disk y s.devices s.pool d.run.graph d.lease c.args.at (kind_at d.run.graph c.args.node) named work c.list_leaves-in-Wr.result.items) (sym e.now)
    (subst (λ (k : Node). IsWork g.D.Disk y (left core.devices at.device x) (taken core.pool (get_or d.lease b 0)) d.run.graph d.lease c.args.at k named work c.list_leaves-in-Wr.result.items) (sym kind)
    (at, c.in-Some-at.is, x, c.call_leaves-disk-in-Wr.result.first, bytes, c.call_leaves-disk-in-Wr.result.count, refl, out, c.list_leaves-in-Wr.ensures.empty)))

pub returns-in-Some-at-clause-pool : goal.returns-in-Some-at-clause-pool
returns-in-Some-at-clause-pool g c =
    let sound = c.requires.sound in let runs = c.requires.can.runs in
    let core : Array g.row.L.Denot g.row.D.Denot = c.args.array.now in
    let d : Desk = desk_at core.clients c.args.client in
    let w = (sound.well.each c.args.client (runs_below _ _ _ _ c.args.client sound.well runs)).runs runs in
    let i = c.in-Wr.unit in let b = c.in-Wr.buf in let below = c.requires.can.ready.below in
    let kind : kind_at d.run.graph c.args.node ≡ Wr i b = sym c.node.ensures ∙ c.in-Wr.is in
    let buf = write_buf _ _ _ _ w c.args.node i b below kind in
    let bufs = w.bufs in let inside = (w.lease b (let h = buf.below in omega (arith, bufs, h))).0 in
    subst (λ (s : Array g.row.L.Denot g.row.D.Denot). BuffersLeft core.pool (IsTaken d c.args.node) s.pool) (sym c.list_leaves-in-Wr.ensures.now)
    (subst (λ (s : Array g.row.L.Denot g.row.D.Denot). BuffersLeft core.pool (IsTaken d c.args.node) s.pool) (sym c.call_leaves-disk-in-Wr.ensures.now)
    (one-left core.pool (get_or d.lease b 0) inside (IsTaken d c.args.node) (b, write-takes d.run.graph c.args.node i b kind, refl)
    (λ j h. sym h.2 ∙ ap (λ (a : ℕ). get_or d.lease a 0) (takes-write d.run.graph c.args.node i b h.0 kind h.1))))
