use Rattle.std.proofs.Common.{◌≡◌, ◌<◌, ◌≤◌, ℕ, Some, Ok, length, slice_get}
use Rattle.raid_text.specs.Text.{Text}
use Rattle.top_fetch.specs.Fetched.{there_is}
use Rattle.top_scan.specs.Looks.{AreLookedAt}
use Rattle.top_scan.proofs.looking.look_at_all.Given as goal

abbrev pub invariant-loop-place : goal.invariant-loop-place
invariant-loop-place g l =
    let B = g.B.Bay in
    record {
      count : length l.fronts.items ≡ l.place;
      looked : AreLookedAt g.B.D.Disk B.tells (B.home l.fn.bay) (B.home l.bay) l.names l.fronts.items;
      there : B.tells → (d : ℕ) (n : Text) → d < l.place → slice_get l.names d ≡ Some n → there_is (B.home l.fn.bay) n ≡ Ok tt;
      later : B.faults l.fn.bay ≤ B.faults l.bay;
    }
