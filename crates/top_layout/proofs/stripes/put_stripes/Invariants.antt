use Rattle.std.proofs.Common.{◌≤◌, List, ℕ, Bool}
use Rattle.raid_bay.specs.Sink.{Puts}
use Rattle.top_layout.specs.Lines.{stripe_text, stripes_text}
use Rattle.top_layout.proofs.LinesFrom.{lines_from}
use Rattle.top_layout.proofs.stripes.put_stripes.Given as goal

-- whatever comes of those that are left comes of all of them
abbrev pub invariant-loop-stripe : goal.invariant-loop-stripe
invariant-loop-stripe g l = record {
  rest : g.K.Sink.tells → (b : Bool) (new : List ℕ)
      → Puts b (g.K.Sink.output l.out) (lines_from (stripe_text (g.L.Layout.shape l.layout)) l.stripe ((g.L.Layout.shape l.layout).stripes)) new
      → Puts b (g.K.Sink.output l.fn.out) (stripes_text (g.L.Layout.shape l.layout)) new;
  later : g.K.Sink.faults l.fn.out ≤ g.K.Sink.faults l.out;
}
