use Rattle.std.proofs.Common.{◌≡◌, ◌≤◌, ◌<◌, ℕ, List, Some, true, length, vec_len, vec_capacity, slice_get}
use Rattle.top_words.specs.Views.{action_seen}
use Rattle.top_bay.specs.Asked.{names_by}
use Rattle.top_bay.specs.Steps.{is_at_home}
use Rattle.top_bay.specs.Lent.{AreOut, IsLent}
use Rattle.top_bay.proofs.devices.take_all.Given as goal

abbrev pub invariant-loop-k : goal.invariant-loop-k
invariant-loop-k g l =
    let B = g.B.Bay in
    let names = names_by l.fn.conf (action_seen l.fn.action) in
    record {
      count : l.count ≡ length names;
      many : vec_len l.devices ≡ l.k;
      room : length names ≤ vec_capacity l.devices;
      lent : B.tells → IsLent (B.home l.fn.bay) (B.home l.bay) names l.devices.items;
      out : AreOut (B.is_out l.bay) names l.devices.items;
      there : B.tells → (d : ℕ) (n : List ℕ) → d < l.k → slice_get names d ≡ Some n → is_at_home (B.home l.fn.bay) n ≡ true;
      later : B.faults l.fn.bay ≤ B.faults l.bay;
    }
