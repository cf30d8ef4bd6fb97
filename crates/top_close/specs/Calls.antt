-- Calls that came between two moments, and those by which a device is settled.
use Rattle.std.specs.Prelude.{◌≡◌, List, [], ◌∷◌, ◌++◌, Bool, true, Option, Some, None}
use Rattle.blk_disk.specs.declared.disk.Call.{Call}
use Rattle.blk_disk.specs.Disk.{call_of, ToldOn}

-- Where the calls are told now, they were told before, and this is so of those that came.
abbrev pub MoreOn : (List Call → Type 0) → Option (List Call) → Option (List Call) → Type 0
MoreOn P before now = ToldOn (λ (was : List Call) (is : List Call). (more : List Call) × (is ≡ was ++ more) × P more) before now

-- a call to settle, whether it went well or not
abbrev pub IsSettle : Call → Type 0
IsSettle call = (good : Bool) × (call ≡ call_of 2 0 0 good)

-- the last call was to settle, and went well, where the calls are told
abbrev pub EndsSettled : Option (List Call) → Type 0
EndsSettled None = Unit {0}
EndsSettled (Some calls) = (before : List Call) × (calls ≡ before ++ call_of 2 0 0 true ∷ [])
