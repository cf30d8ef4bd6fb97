-- Words that proofs go by, for what the specifications spell out.
use Rattle.std.specs.Prelude.{ℕ, ◌/◌, ◌%◌, ◌^◌, ◌==◌, Bool, ◌≡◌, ◌⊎◌, List, [], ◌++◌, Option}
use Rattle.blk_disk.specs.declared.disk.Call.{Call}
use Rattle.blk_disk.specs.Disk.{ToldOn}
use Rattle.raid_map.specs.Marking.{MarkCalls}

-- bit i of a byte
abbrev pub bit_of : ℕ → ℕ → Bool
bit_of byte i = ((byte / 2 ^ i) % 2) == 1

-- where the calls are told now, they were told before; and those that came are of a mark, or there are none
abbrev pub MarksAtMost : Option (List Call) → Option (List Call) → Type 0
MarksAtMost before now = ToldOn (λ (was : List Call) (is : List Call). (more : List Call) × ((more ≡ []) ⊎ ((good : Bool) × MarkCalls good more)) × (is ≡ was ++ more)) before now
