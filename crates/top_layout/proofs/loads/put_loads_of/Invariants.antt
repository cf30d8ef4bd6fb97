use Rattle.std.proofs.Common.{◌≤◌, List, ℕ, Bool}
use Rattle.raid_bay.specs.Sink.{Puts}
use Rattle.top_layout.specs.Lines.{load_text, loads_of}
use Rattle.top_layout.proofs.LinesFrom.{lines_from}
use Rattle.top_layout.proofs.loads.put_loads_of.Given as goal

-- whatever comes of those that are left comes of all of them
abbrev pub invariant-loop-other : goal.invariant-loop-other
invariant-loop-other g l = record {
  rest : g.K.Sink.tells → (b : Bool) (new : List ℕ)
      → Puts b (g.K.Sink.output l.out) (lines_from (load_text (g.L.Layout.shape l.layout) l.column) l.other ((g.L.Layout.shape l.layout).columns)) new
      → Puts b (g.K.Sink.output l.fn.out) (loads_of (g.L.Layout.shape l.layout) l.column) new;
  later : g.K.Sink.faults l.fn.out ≤ g.K.Sink.faults l.out;
}
