use Rattle.std.proofs.Common.{◌≡◌, ◌<◌, ℕ, true}
use Rattle.eng_cols.specs.Seats.{is_available}
use Rattle.raid_recon.proofs.place.is_complete.Given as goal

-- none of the units so far is missing
abbrev pub invariant-loop-unit : goal.invariant-loop-unit
invariant-loop-unit g l = (h : ℕ) → h < l.unit → is_available (g.L.Layout.shape l.layout) l.cols.states l.stripe h ≡ true
