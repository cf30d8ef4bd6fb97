use Rattle.std.proofs.Common.{◌≡◌, ◌≤◌, ◌<◌, ℕ, List, [], Some, IsSome, take, vec_len, slice_get}
use Rattle.blk_disk.specs.Devices.{device_at}
use Rattle.top_words.specs.Views.{action_seen}
use Rattle.top_bay.specs.Asked.{names_by}
use Rattle.top_bay.specs.Lent.{IsMeant}
use Rattle.top_bay.proofs.devices.put_all.Given as goal

abbrev pub invariant-loop-device : goal.invariant-loop-device
invariant-loop-device g l =
    let B = g.B.Bay in
    let names = names_by l.fn.conf (action_seen l.fn.action) in
    let all = l.fn.devices.items in
    record {
      many : vec_len l.devices ≤ vec_len l.fn.devices;
      items : l.devices.items ≡ take (vec_len l.devices) all;
      out : (d : ℕ) (n : List ℕ) → d < vec_len l.devices → slice_get names d ≡ Some n → (n ≡ [] → ⊥) → B.is_out l.bay n;
      back : B.tells → (d : ℕ) (n : List ℕ) → vec_len l.devices ≤ d → d < vec_len l.fn.devices → IsSome (device_at all d) → slice_get names d ≡ Some n → B.home l.bay n ≡ device_at all d;
      others : B.tells → (n : List ℕ) → (IsMeant names (vec_len l.fn.devices) n → ⊥) → B.home l.bay n ≡ B.home l.fn.bay n;
      faults : B.faults l.bay ≡ B.faults l.fn.bay;
    }

abbrev pub decreases-loop-device : goal.decreases-loop-device
decreases-loop-device g l = vec_len l.devices
