use Rattle.std.proofs.Common.{◌↔◌, subst, sym}
use Rattle.std.specs.Prelude.{IsTrue}
use Rattle.blk_plain.specs.declared.op.Op.{Op}
use Rattle.eng_state.specs.Doing.{AreFree}
use Rattle.eng_choice.proofs.takable.are_free.Goals as goal

pub returns-in-Write : goal.returns-in-Write
returns-in-Write g c = subst (λ (o : Op). IsTrue c.is_span_free.result ↔ AreFree g.L.Layout c.args.array.now c.args.client o) (sym c.in-Write.is) c.is_span_free.ensures

pub returns-in-Writes : goal.returns-in-Writes
returns-in-Writes g c = subst (λ (o : Op). IsTrue c.are_spans_free.result ↔ AreFree g.L.Layout c.args.array.now c.args.client o) (sym c.in-Writes.is) c.are_spans_free.ensures

pub returns-in-Read : goal.returns-in-Read
returns-in-Read g c = subst (λ (o : Op). IsTrue c.is_span_free-in-Read.result ↔ AreFree g.L.Layout c.args.array.now c.args.client o) (sym c.in-Read.is) c.is_span_free-in-Read.ensures

pub returns-in-Rebuild : goal.returns-in-Rebuild
returns-in-Rebuild g c = subst (λ (o : Op). IsTrue c.is_stripe_free.result ↔ AreFree g.L.Layout c.args.array.now c.args.client o) (sym c.in-Rebuild.is) c.is_stripe_free.ensures

pub returns-in-Sync : goal.returns-in-Sync
returns-in-Sync g c = subst (λ (o : Op). IsTrue c.is_stripe_free-in-Sync.result ↔ AreFree g.L.Layout c.args.array.now c.args.client o) (sym c.in-Sync.is) c.is_stripe_free-in-Sync.ensures
