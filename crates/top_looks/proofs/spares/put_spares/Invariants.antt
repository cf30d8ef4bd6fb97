use Rattle.std.proofs.Common.{◌≤◌, List, ℕ, Bool, length}
use Rattle.raid_bay.specs.Sink.{Puts}
use Rattle.top_open.specs.Opening.{opened_seen}
use Rattle.top_looks.specs.Show.{spare_text}
use Rattle.top_looks.specs.Steps.{spares_text}
use Rattle.top_looks.proofs.LinesFrom.{lines_from}
use Rattle.top_looks.proofs.spares.put_spares.Given as goal

-- whatever comes of the spares that are left comes of all of them
abbrev pub invariant-loop-j : goal.invariant-loop-j
invariant-loop-j g l = record {
  rest : g.K.Sink.tells → (b : Bool) (new : List ℕ) → Puts b (g.K.Sink.output l.out) (lines_from (spare_text l.conf (opened_seen l.opened) l.sizes l.fronts) l.j (length l.conf.spare_names)) new → Puts b (g.K.Sink.output l.fn.out) (spares_text l.conf (opened_seen l.opened) l.sizes l.fronts) new;
  later : g.K.Sink.faults l.fn.out ≤ g.K.Sink.faults l.out;
}
