use Rattle.std.proofs.Common.{◌≤◌, List, ℕ, Bool}
use Rattle.raid_bay.specs.Sink.{Puts}
use Rattle.top_layout.specs.Lines.{column_line, columns_text}
use Rattle.top_layout.proofs.LinesFrom.{lines_from}
use Rattle.top_layout.proofs.columns.put_columns.Given as goal

-- whatever comes of those that are left comes of all of them
abbrev pub invariant-loop-column : goal.invariant-loop-column
invariant-loop-column g l = record {
  rest : g.K.Sink.tells → (b : Bool) (new : List ℕ)
      → Puts b (g.K.Sink.output l.out) (lines_from (column_line (g.L.Layout.shape l.layout)) l.column ((g.L.Layout.shape l.layout).columns)) new
      → Puts b (g.K.Sink.output l.fn.out) (columns_text (g.L.Layout.shape l.layout)) new;
  later : g.K.Sink.faults l.fn.out ≤ g.K.Sink.faults l.out;
}
