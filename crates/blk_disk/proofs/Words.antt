-- Words that proofs go by, for what the specifications spell out.
use Rattle.std.specs.Prelude.{◌≡◌, List, ◌++◌, Option}
use Rattle.blk_disk.specs.Disk.{ToldOn}
use Rattle.blk_disk.specs.declared.disk.Call.{Call}

-- the calls, where they are told now, were told before and have others behind them
abbrev pub TellsOn : Option (List Call) → Option (List Call) → Type 0
TellsOn before now = ToldOn (λ (was : List Call) (is : List Call). (more : List Call) × (is ≡ was ++ more)) before now
