use Rattle.std.proofs.Common.{ℕ, ◌<◌, get_or}
use Rattle.blk_plain.specs.declared.op.Span.{Span}
use Rattle.blk_plain.specs.Plain.{is_in, spans_of}
use Rattle.stripe_lock.specs.declared.mode.Mode.TheVariants.{Exclude}
use Rattle.lay_core.specs.Touched.{HasBlock}
use Rattle.eng_choice.specs.Free.{AreFreeOf}
use Rattle.eng_choice.proofs.takable.are_spans_free.Given as goal

-- each of the spans so far is free
abbrev pub invariant-loop-i : goal.invariant-loop-i
invariant-loop-i g l = (k : ℕ) (e : Span) → k < l.i → AreFreeOf l.array.locks l.client Exclude (HasBlock (g.L.Layout.shape l.array.layout) (is_in (get_or (spans_of l.patches) k e)))
