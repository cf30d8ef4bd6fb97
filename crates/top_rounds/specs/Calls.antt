-- The calls by which a device gets its label.
use Rattle.std.specs.Prelude.{◌≡◌, ◌≤◌, ◌+◌, ◌==◌, ◌&&◌, ℕ, List, [], ◌∷◌, ◌++◌, All, Bool, true, false, Option, count_by}
use Rattle.blk_disk.specs.declared.disk.Call.{Call}
use Rattle.blk_disk.specs.Disk.{call_of}
use Rattle.top_close.specs.Calls.{MoreOn}

-- a write of sector 0 alone, whether it went well or not
abbrev pub IsLabelWrite : Call → Type 0
IsLabelWrite call = (good : Bool) × (call ≡ call_of 1 0 512 good)

-- those that came are such writes alone
abbrev pub WritesOn : Option (List Call) → Option (List Call) → Type 0
WritesOn before now = MoreOn (All IsLabelWrite) before now

-- such a write that went well
abbrev pub IsLabelled : Call → Type 0
IsLabelled call = call ≡ call_of 1 0 512 true

-- each of those that came is one
abbrev pub WritesWell : Option (List Call) → Option (List Call) → Type 0
WritesWell before now = MoreOn (All IsLabelled) before now

-- such writes, and behind them one more, which went so
abbrev pub EndsBy : Bool → List Call → Type 0
EndsBy good calls = (front : List Call) × (calls ≡ front ++ call_of 1 0 512 good ∷ []) × All IsLabelled front

abbrev pub WritesTo : Bool → Option (List Call) → Option (List Call) → Type 0
WritesTo good before now = MoreOn (EndsBy good) before now

-- of a device that stays in use each write went well; of another the last failed
abbrev pub WritesUntil : Bool → Option (List Call) → Option (List Call) → Type 0
WritesUntil true before now = WritesWell before now
WritesUntil false before now = WritesTo false before now

-- ## How many there are

-- how many of the calls write a label: each begins at sector 0, whether it went well or not
unfoldable pub label_writes : List Call → ℕ
label_writes calls = count_by (λ call. (call.kind == 1) && (call.first == 0)) calls

-- Of those that came no more write a label than a counter rose by, from the one number to the other.
abbrev pub WritesWithin : (from to : ℕ) → Option (List Call) → Option (List Call) → Type 0
WritesWithin from to before now = MoreOn (λ more. from + label_writes more ≤ to) before now

-- one of those that came writes a label
abbrev pub WritesSome : Option (List Call) → Option (List Call) → Type 0
WritesSome before now = MoreOn (λ more. 1 ≤ label_writes more) before now
