-- Words that proofs go by, for what the specifications spell out.
use Rattle.std.specs.Prelude.{◌≡◌, List, [], Option, All, ℕ}
use Rattle.blk_disk.specs.declared.disk.Call.{Call}
use Rattle.top_close.specs.Calls.{MoreOn, IsSettle}
use Rattle.blk_disk.specs.Devices.{device_at}
use Rattle.eng_cols.specs.declared.column.Column.{Column}
use Rattle.eng_cols.specs.Cols.{HasDeviceOn}

-- none came
abbrev pub NoCalls : Option (List Call) → Option (List Call) → Type 0
NoCalls before now = MoreOn (λ more. more ≡ []) before now

-- those that came are settles alone
abbrev pub SettlesOn : Option (List Call) → Option (List Call) → Type 0
SettlesOn before now = MoreOn (All IsSettle) before now

-- a device that no column has is what it was
abbrev pub IsUncalled : {D : Type 0} → List Column → List (Option D) → List (Option D) → Type 0
IsUncalled columns old new = (d : ℕ) → ((c : ℕ) → HasDeviceOn columns c d → ⊥) → device_at new d ≡ device_at old d
