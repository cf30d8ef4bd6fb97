use Rattle.std.proofs.Common.{◌≤◌, List, ℕ, Bool}
use Rattle.raid_bay.specs.Sink.{Puts}
use Rattle.std.specs.Prelude.{◌+◌}
use Rattle.lay_core.specs.Layout.{data_units}
use Rattle.top_layout.specs.Lines.{write_line, writes_text}
use Rattle.top_layout.proofs.LinesFrom.{lines_from}
use Rattle.top_layout.proofs.costs.put_writes.Given as goal

-- whatever comes of those that are left comes of all of them
abbrev pub invariant-loop-unit : goal.invariant-loop-unit
invariant-loop-unit g l = record {
  rest : g.K.Sink.tells → (b : Bool) (new : List ℕ)
      → Puts b (g.K.Sink.output l.out) (lines_from (λ (i : ℕ). write_line (g.L.Layout.shape l.layout) (i + 1)) l.unit (data_units (g.L.Layout.shape l.layout))) new
      → Puts b (g.K.Sink.output l.fn.out) (writes_text (g.L.Layout.shape l.layout)) new;
  later : g.K.Sink.faults l.fn.out ≤ g.K.Sink.faults l.out;
}
