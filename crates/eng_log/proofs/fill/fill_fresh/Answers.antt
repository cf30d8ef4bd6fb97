use Rattle.std.proofs.Common.{◌≡◌, ◌∙◌, ap, sym, ℕ, List, Some, None, get_or}
use Rattle.std.specs.Prelude.{slice_index}
use Rattle.blk_plain.specs.declared.op.Op.{Op}
use Rattle.blk_plain.specs.Plain.{used_of}
use Rattle.lay_core.specs.Layout.{block_of}
use Rattle.graph_mean.specs.Graph.{buf_at}
use Rattle.graph_mean.specs.Steps.{stripe_of}
use Rattle.eng_world.specs.Planning.{fresh}
use Rattle.eng_log.proofs.Filling.{covers-below}
use Rattle.eng_log.proofs.Patching.{patched-zero}
use Rattle.eng_log.proofs.Seating.{fills-refl}
use Rattle.eng_log.proofs.fill.fill_fresh.Goals as goal

pub returns-in-Writes : goal.returns-in-Writes
returns-in-Writes g c = record {
  alone = c.fill_patches.ensures.fills;
  fresh_is = λ b u o k new co l.
      let n = block_of (g.L.Layout.shape c.args.layout.now) (slice_index c.args.stripes.now (stripe_of c.args.graph.now.drawn b)) u o in
      ap (λ (s : List ℕ). get_or s k 0) (c.fill_patches.ensures.filled b u o new co) ∙ (patched-zero (used_of c.in-Writes.patches) n k l ∙ ap (λ (a : Op). fresh a n k) (sym c.in-Writes.is));
}

pub returns-in-Write : goal.returns-in-Write
returns-in-Write g c = record {
  alone = c.fill_new.ensures.fills;
  fresh_is = λ b u o k new co l.
      let n = block_of (g.L.Layout.shape c.args.layout.now) (slice_index c.args.stripes.now (stripe_of c.args.graph.now.drawn b)) u o in
      c.fill_new.ensures.filled b u o n k new co l;
}

-- no buffer is of new data
pub returns-then-not-has_new : goal.returns-then-not-has_new
returns-then-not-has_new g c = record {
  alone = fills-refl c.args.pool.now c.args.lease.now;
  fresh_is = λ b u o k new co l.
      let none : (buf_at c.args.graph.now.drawn b).new_of ≡ None = c.has_new.ensures c.if-not-has_new.true b (covers-below c.args.graph.now.drawn b o co) in
      absurd (let z : Some u ≡ None = sym new ∙ none in let e : ⊥ = cc in e);
}
