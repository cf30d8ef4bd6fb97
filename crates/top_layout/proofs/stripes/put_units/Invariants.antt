use Rattle.std.proofs.Common.{◌≤◌, List, ℕ, Bool}
use Rattle.raid_bay.specs.Sink.{Puts}
use Rattle.lay_core.specs.Layout.{block_of, data_units}
use Rattle.top_layout.specs.Lines.{data_line, units_text}
use Rattle.top_layout.proofs.LinesFrom.{lines_from}
use Rattle.top_layout.proofs.stripes.put_units.Given as goal

-- whatever comes of those that are left comes of all of them
abbrev pub invariant-loop-unit : goal.invariant-loop-unit
invariant-loop-unit g l = record {
  rest : g.K.Sink.tells → (b : Bool) (new : List ℕ)
      → Puts b (g.K.Sink.output l.out) (lines_from (λ (i : ℕ). data_line l.stripe i ((g.L.Layout.shape l.layout).place l.stripe i) (block_of (g.L.Layout.shape l.layout) l.stripe i 0)) l.unit (data_units (g.L.Layout.shape l.layout))) new
      → Puts b (g.K.Sink.output l.fn.out) (units_text (g.L.Layout.shape l.layout) l.stripe) new;
  later : g.K.Sink.faults l.fn.out ≤ g.K.Sink.faults l.out;
}
