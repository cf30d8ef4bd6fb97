use Rattle.std.proofs.Common.{◌≡◌, ◌+◌, ◌-◌, ◌∙◌, ap, ℕ, arith}
use Rattle.lay_core.specs.Layout.{block_of}
use Rattle.graph_mean.specs.Graph.{buf_at}
use Rattle.graph_mean.specs.Steps.{stripe_of}
use Rattle.blk_plain.specs.Plain.{used_of, patched_sector, zero_sector}
use Rattle.eng_log.specs.Filled.{sector_for}
use Rattle.std.specs.Prelude.{slice_index}
use Rattle.eng_log.proofs.Filling.{filled-none, filled-more, buffers-filled, covers-below}
use Rattle.eng_log.proofs.patched.fill_patches.Goals as goal

pub loop-b-init : goal.loop-b-init
loop-b-init g c = filled-none c.args.graph.now.drawn c.args.lease.now (sector_for (g.L.Layout.shape c.args.layout.now) c.args.stripes.now c.args.graph.now.drawn (used_of c.args.patches.now)) c.args.pool.now

pub fill_one-requires-clause-buffers : goal.fill_one-requires-clause-buffers
fill_one-requires-clause-buffers g c = buffers-filled c.args.graph.now.drawn c.args.lease.now c.args.pool.now c.loop-b.pool c.loop-b.invariant.fills c.requires.buffers

pub loop-b-preserved : goal.loop-b-preserved
loop-b-preserved g c = filled-more c.args.graph.now.drawn c.args.lease.now (sector_for (g.L.Layout.shape c.args.layout.now) c.args.stripes.now c.args.graph.now.drawn (used_of c.args.patches.now)) c.args.pool.now c.loop-b.pool c.fill_one.new.pool c.loop-b.b (omega arith) c.loop-b.invariant c.fill_one.ensures.filled c.fill_one.ensures.old c.fill_one.ensures.others c.fill_one.ensures.fills

pub returns-clause-filled : goal.returns-clause-filled
returns-clause-filled g c = λ b u o new co.
    let y = g.L.Layout.shape c.args.layout.now in
    let s = slice_index c.args.stripes.now (stripe_of c.args.graph.now.drawn b) in
    let f = (buf_at c.args.graph.now.drawn b).from in
    let low = co.0 in
    let high = co.1 in
    let same : block_of y s u f + (o - f) ≡ block_of y s u o = omega (arith, low) in
    c.loop-b.invariant.filled b u (o - f) (let h = covers-below c.args.graph.now.drawn b o co in omega arith) new (omega (arith, low, high))
    ∙ ap (λ (n : ℕ). patched_sector (used_of c.args.patches.now) n zero_sector) same
