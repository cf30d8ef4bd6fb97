use Rattle.std.proofs.Common.{◌≡◌, ◌≤◌, ◌*◌, ℕ, List, length, sym, ap, subst, ◌∙◌, arith}
use Rattle.buf_pool.specs.Pool as held
use Rattle.buf_pool.specs.Reserve.{AreThere}
use Rattle.stripe_lock.specs.Table as table
use Rattle.stripe_lock.specs.declared.mode.Mode.{Mode}
use Rattle.eng_one.specs.Counts.{CanStart}
use Rattle.graph_mean.specs.Graph.{Held}
use Rattle.graph_lib.proofs.SpanRanges.{spans-few}
use Rattle.eng_plan.proofs.Maps.{op-count}
use Rattle.eng_world.specs.Planning.{span_count}
use Rattle.eng_state.specs.declared.array.Array.{Array}
use Rattle.eng_clients.specs.Desk.{Desk, desk_at, graph_of}
use Rattle.eng_log.specs.Filled.{HasBuffers, Filled}
use Rattle.eng_plan.specs.Asked.{lease_by, lease_for, mode_by}
use Rattle.eng_state.proofs.Settling as settling
use Rattle.eng_starts.proofs.takes.settle.Goals as goal

pub lock-requires-clause-few : goal.lock-requires-clause-few
lock-requires-clause-few g c =
    let old = c.args.array.now in
    settling.planned-few (g.L.Layout.shape old.layout) (g.met.L.Layout.is_layout old.layout) old.graphs.items old.cols.states c.args.op.now c.args.file (desk_at old.clients c.args.client) c.requires.inside c.requires.planned c.requires.runs

pub size-count-requires-clause-few : goal.size-count-requires-clause-few
size-count-requires-clause-few g c =
    let old : Array g.row.L.Denot g.row.D.Denot = c.args.array.now in
    let few = settling.planned-few (g.L.Layout.shape old.layout) (g.met.L.Layout.is_layout old.layout) old.graphs.items old.cols.states c.args.op.now c.args.file (desk_at old.clients c.args.client) c.requires.inside c.requires.planned c.requires.runs in
    let same : c.lock.new.array.clients ≡ old.clients = ap (λ (s : Array g.row.L.Denot g.row.D.Denot). s.clients) c.lock.ensures.rest in
    subst (λ (l : List Desk). length (desk_at l c.args.client).map.stripes ≤ 16) (sym same) few

pub start-requires-clause-can : goal.start-requires-clause-can
start-requires-clause-can g c =
    let old : Array g.row.L.Denot g.row.D.Denot = c.args.array.now in
    let s2 : Array g.row.L.Denot g.row.D.Denot = c.lend.new.array in
    let can = settling.planned-can (g.L.Layout.shape old.layout) (g.met.L.Layout.is_layout old.layout) old.graphs.items old.cols.states c.args.op.now c.args.file (desk_at old.clients c.args.client) c.requires.inside c.requires.planned c.requires.runs in
    let desk = settling.desk-2 old c.lock.new.array s2 c.args.client c.requires.client c.lock.ensures.rest c.lend.ensures.now in
    let graphs = settling.graphs-2 old c.lock.new.array s2 c.args.client c.requires.client c.lock.ensures.rest c.lend.ensures.now in
    subst (λ (e : Desk). CanStart (graph_of s2.graphs.items e)) (sym desk)
    (subst (λ (gs : List Held). CanStart (graph_of gs (desk_at old.clients c.args.client))) (sym graphs) can)

pub fill_buffers-requires-clause-buffers : goal.fill_buffers-requires-clause-buffers
fill_buffers-requires-clause-buffers g c =
    let old : Array g.row.L.Denot g.row.D.Denot = c.args.array.now in
    let s1 : Array g.row.L.Denot g.row.D.Denot = c.lock.new.array in
    let s2 : Array g.row.L.Denot g.row.D.Denot = c.lend.new.array in
    let s3 : Array g.row.L.Denot g.row.D.Denot = c.start.new.array in
    let y = g.L.Layout.shape old.layout in
    let law = g.met.L.Layout.is_layout old.layout in
    let d = desk_at old.clients c.args.client in
    let l = (desk_at s2.clients c.args.client).lease in
    let desk = settling.desk-3 old s1 s2 c.args.client c.requires.client c.lock.ensures.rest c.lend.ensures.now s3 c.start.ensures in
    let graphs = settling.graphs-3 old s1 s2 c.args.client c.requires.client c.lock.ensures.rest c.lend.ensures.now s3 c.start.ensures in
    let pool = settling.pool-3 old s1 s2 c.args.client c.requires.client c.lock.ensures.rest c.lend.ensures.now s3 c.start.ensures in
    let pool-1 = settling.pool-1 old s1 s2 c.args.client c.requires.client c.lock.ensures.rest c.lend.ensures.now in
    let bufs = settling.planned-bufs y law old.graphs.items old.cols.states c.args.op.now c.args.file d c.requires.inside c.requires.planned c.requires.runs spans-few in
    let long = settling.planned-long y law old.graphs.items old.cols.states c.args.op.now c.args.file d c.requires.inside c.requires.planned c.requires.runs in
    let count : c.size-count.result ≡ lease_for y old.graphs.items c.args.op.now c.args.file =
    c.size-count.ensures
    ∙ (ap (λ (s : Array g.row.L.Denot g.row.D.Denot). lease_by (g.L.Layout.shape s.layout) s.graphs.items (length (desk_at s.clients c.args.client).map.stripes) (span_count c.args.op.now) c.args.file) c.lock.ensures.rest
    ∙ ap (λ (n : ℕ). lease_by y old.graphs.items n (span_count c.args.op.now) c.args.file) (op-count y (g.met.L.Layout.is_layout old.layout) c.args.op.now d.map c.requires.planned.split)) in
    let unit : s2.pool.unit ≡ 512 * y.unit_sectors = c.lend.ensures.leased.unit ∙ (ap (λ (p : held.PoolView). p.unit) pool-1 ∙ c.requires.unit) in
    let here : HasBuffers (graph_of old.graphs.items d) s2.pool l = record {
      lease = c.lend.ensures.leased.is_lease;
      home = c.lend.ensures.leased.all_home;
      count = let k = c.lend.ensures.leased.count in omega (arith, bufs, k, count);
      long = λ b below. let h = long b below in omega (arith, h, unit);
    } in
    subst (λ (e : Desk). HasBuffers (graph_of s3.graphs.items e) s3.pool e.lease) (sym desk)
    (subst (λ (gs : List Held). HasBuffers (graph_of gs d) s3.pool l) (sym graphs)
    (subst (λ (p : held.PoolView). HasBuffers (graph_of old.graphs.items d) p l) (sym pool) here))

pub returns : goal.returns
returns g c =
    let old : Array g.row.L.Denot g.row.D.Denot = c.args.array.now in
    let s1 : Array g.row.L.Denot g.row.D.Denot = c.lock.new.array in
    let s2 : Array g.row.L.Denot g.row.D.Denot = c.lend.new.array in
    let s3 : Array g.row.L.Denot g.row.D.Denot = c.start.new.array in
    let s4 : Array g.row.L.Denot g.row.D.Denot = c.fill_buffers.new.array in
    let y = g.L.Layout.shape old.layout in
    let d = desk_at old.clients c.args.client in
    let l = (desk_at s2.clients c.args.client).lease in
    let desk = settling.desk-3 old s1 s2 c.args.client c.requires.client c.lock.ensures.rest c.lend.ensures.now s3 c.start.ensures in
    let graphs = settling.graphs-3 old s1 s2 c.args.client c.requires.client c.lock.ensures.rest c.lend.ensures.now s3 c.start.ensures in
    let pool = settling.pool-3 old s1 s2 c.args.client c.requires.client c.lock.ensures.rest c.lend.ensures.now s3 c.start.ensures in
    let pool-1 = settling.pool-1 old s1 s2 c.args.client c.requires.client c.lock.ensures.rest c.lend.ensures.now in
    let count : c.size-count.result ≡ lease_for y old.graphs.items c.args.op.now c.args.file =
    c.size-count.ensures
    ∙ (ap (λ (s : Array g.row.L.Denot g.row.D.Denot). lease_by (g.L.Layout.shape s.layout) s.graphs.items (length (desk_at s.clients c.args.client).map.stripes) (span_count c.args.op.now) c.args.file) c.lock.ensures.rest
    ∙ ap (λ (n : ℕ). lease_by y old.graphs.items n (span_count c.args.op.now) c.args.file) (op-count y (g.met.L.Layout.is_layout old.layout) c.args.op.now d.map c.requires.planned.split)) in
    let layout : s3.layout ≡ old.layout = ap (λ (a : Array g.row.L.Denot g.row.D.Denot). a.layout) c.start.ensures ∙ (ap (λ (a : Array g.row.L.Denot g.row.D.Denot). a.layout) c.lend.ensures.now ∙ ap (λ (a : Array g.row.L.Denot g.row.D.Denot). a.layout) c.lock.ensures.rest) in
    let locks = settling.locks-4 old s1 s2 c.args.client c.requires.client c.lock.ensures.rest c.lend.ensures.now s3 c.start.ensures s4 c.fill_buffers.ensures.rest in
    record {
      lease = l;
      mid = s2.pool;
      locks = subst (λ (t : table.Table). table.Acquires old.locks c.args.client d.map.stripes (mode_by c.args.op.now) t) (sym locks) (subst (λ (m : Mode). table.Acquires old.locks c.args.client d.map.stripes m s1.locks) c.mode_by.ensures c.lock.ensures.taken);
      leases = subst (λ (n : ℕ). held.Leases old.pool n l s2.pool) count (subst (λ (p : held.PoolView). held.Leases p c.size-count.result l s2.pool) pool-1 c.lend.ensures.leased);
      apart = subst (λ (p : held.PoolView). held.StandsApart p l s2.pool) pool-1 c.lend.ensures.apart;
      filled =
          subst (λ (p : held.PoolView). Filled y d.map.stripes (graph_of old.graphs.items d) c.args.op.now l p s4.pool) pool
          (subst (λ (gs : List Held). Filled y d.map.stripes (graph_of gs d) c.args.op.now l s3.pool s4.pool) graphs
          (subst (λ (e : Desk). Filled y e.map.stripes (graph_of s3.graphs.items e) c.args.op.now e.lease s3.pool s4.pool) desk
          (subst (λ (t : g.row.L.Denot). Filled (g.L.Layout.shape t) (desk_at s3.clients c.args.client).map.stripes (graph_of s3.graphs.items (desk_at s3.clients c.args.client)) c.args.op.now (desk_at s3.clients c.args.client).lease s3.pool s4.pool) layout c.fill_buffers.ensures.filled)));
      now = settling.now-4 old s1 s2 c.args.client c.requires.client c.lock.ensures.rest c.lend.ensures.now s3 c.start.ensures s4 c.fill_buffers.ensures.rest;
    }

pub lend-requires-clause-there : goal.lend-requires-clause-there
lend-requires-clause-there g c =
    let old : Array g.row.L.Denot g.row.D.Denot = c.args.array.now in
    let y = g.L.Layout.shape old.layout in
    let d = desk_at old.clients c.args.client in
    let count : c.size-count.result ≡ lease_for y old.graphs.items c.args.op.now c.args.file =
    c.size-count.ensures
    ∙ (ap (λ (s : Array g.row.L.Denot g.row.D.Denot). lease_by (g.L.Layout.shape s.layout) s.graphs.items (length (desk_at s.clients c.args.client).map.stripes) (span_count c.args.op.now) c.args.file) c.lock.ensures.rest
    ∙ ap (λ (n : ℕ). lease_by y old.graphs.items n (span_count c.args.op.now) c.args.file) (op-count y (g.met.L.Layout.is_layout old.layout) c.args.op.now d.map c.requires.planned.split)) in
    subst (λ (p : held.PoolView). AreThere p c.size-count.result) (sym (ap (λ (s : Array g.row.L.Denot g.row.D.Denot). s.pool) c.lock.ensures.rest))
    (subst (λ (n : ℕ). AreThere old.pool n) (sym count) c.requires.buffers)
