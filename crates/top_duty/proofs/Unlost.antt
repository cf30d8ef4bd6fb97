-- Why nothing is done with an array that isn't lost is why nothing is done with it.
use Rattle.std.specs.Prelude.{◌≡◌, ◌&&◌, ℕ, true, List, Option, Some, None, is_none}
use Rattle.std.proofs.Common.{ap}
use Rattle.lay_core.specs.Layout.{Shape}
use Rattle.eng_array.specs.declared.start.Start.{Start}
use Rattle.eng_cols.specs.Cols.{ColumnState}
use Rattle.eng_cols.specs.Lost.{NotLost}
use Rattle.top_bay.specs.Asked.{Asked}
use Rattle.top_status.specs.declared.status.Status.{Status}
use Rattle.top_status.specs.declared.status.Status.TheVariants as status
use Rattle.top_words.specs.Asked.{profile_of}
use Rattle.top_words.specs.declared.profile.Rebuilding.{Rebuilding}
use Rattle.top_words.specs.declared.profile.Rebuilding.TheVariants as rebuilding
use Rattle.top_duty.specs.Duty.{short_status}
use Rattle.top_duty.specs.Start.{rebuilds}
use Rattle.top_duty.specs.Views.{RefusedIf, RefusedUnlost}

module _ (y : Shape) (k : Asked) (cols : List ColumnState) (other : Option ℕ) (count : ℕ) (start : Option Start) (kept : NotLost y cols) where
  pub unlost_refused : (s : Status) → RefusedUnlost y k other count start s → RefusedIf y k cols other count start s
  unlost_refused status.Memory h = tt
  unlost_refused status.NoSpare h = (kept, h)
  unlost_refused status.NoRebuild h = (kept, h)
  unlost_refused (status.Rebuilding c) h = (kept, h)
  unlost_refused (status.Script line code) h = (kept, h)
  unlost_refused (status.Lost first second stripe) h = absurd h
  unlost_refused status.Ok h = absurd h
  unlost_refused (status.Usage i) h = absurd h
  unlost_refused (status.Conf l c) h = absurd h
  unlost_refused (status.GraphText l c) h = absurd h
  unlost_refused status.BayFault h = absurd h
  unlost_refused (status.NoFile n) h = absurd h
  unlost_refused status.SinkFault h = absurd h
  unlost_refused (status.Label a b c d) h = absurd h
  unlost_refused (status.Small a b c) h = absurd h
  unlost_refused (status.NotInSync n) h = absurd h
  unlost_refused (status.LongText n) h = absurd h

-- a rebuild that can't begin or go on is refused so
pub short_refused : (y : Shape) (k : Asked) (other : Option ℕ) (count : ℕ) (start : Option Start) → other ≡ None → (rebuilds k.command.action && is_none start) ≡ true → (r : Option Rebuilding) → (profile_of k.command.action).rebuild ≡ r
    → RefusedUnlost y k other count start (short_status r)
short_refused y k other count start alone short None is = (alone, short, ap short_status is)
short_refused y k other count start alone short (Some rebuilding.Elsewhere) is = (alone, short, ap short_status is)
short_refused y k other count start alone short (Some rebuilding.InPlace) is = (alone, short, ap short_status is)
short_refused y k other count start alone short (Some rebuilding.Further) is = (alone, short, ap short_status is)
