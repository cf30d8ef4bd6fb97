use Rattle.std.proofs.Common.{◌≡◌, ◌<◌, ℕ, length}
use Rattle.std.specs.Prelude.{slice_get}
use Rattle.eng_cols.specs.Changes.{killed}
use Rattle.eng_cols.specs.Cols.{IsFor}
use Rattle.eng_cols.specs.Stripes.{states_of}
use Rattle.top_close.specs.Closes.{FillingEnds}
use Rattle.top_acts.proofs.judging.lose_in.Given as goal

-- the columns so far are as they are kept
abbrev pub invariant-loop-c : goal.invariant-loop-c
invariant-loop-c g l = record {
  count : length l.columns ≡ length l.fn.columns;
  judge : IsFor (g.L.Layout.shape l.layout) l.judge;
  states : l.judge.states ≡ killed (states_of (g.L.Layout.shape l.layout) l.fn.columns) l.column;
  kept : (k : ℕ) → k < l.c → FillingEnds (g.L.Layout.shape l.layout) l.judge.states k (slice_get l.judge.states k) (slice_get l.columns k);
}
