use Rattle.std.proofs.Common.{◌≤◌, List, ℕ, Bool}
use Rattle.raid_bay.specs.Sink.{Puts}
use Rattle.std.specs.Prelude.{flat_map}
use Rattle.std.specs.List.{range_with_len}
use Rattle.top_layout.specs.Lines.{loads_of}
use Rattle.top_layout.proofs.LinesFrom.{lines_from}
use Rattle.top_layout.proofs.loads.put_all_loads.Given as goal

-- whatever comes of those that are left comes of all of them
abbrev pub invariant-loop-column : goal.invariant-loop-column
invariant-loop-column g l = record {
  rest : g.K.Sink.tells → (b : Bool) (new : List ℕ)
      → Puts b (g.K.Sink.output l.out) (lines_from (loads_of (g.L.Layout.shape l.layout)) l.column ((g.L.Layout.shape l.layout).columns)) new
      → Puts b (g.K.Sink.output l.fn.out) (flat_map (loads_of (g.L.Layout.shape l.layout)) (range_with_len 0 (g.L.Layout.shape l.layout).columns)) new;
  later : g.K.Sink.faults l.fn.out ≤ g.K.Sink.faults l.out;
}
