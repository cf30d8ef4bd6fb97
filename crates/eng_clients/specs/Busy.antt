-- Which clients have nothing to do.
use Rattle.std.specs.Prelude.{◌≡◌, ◌≤◌, ℕ, List, length}
use Rattle.std.specs.Int.{bit_at}
use Rattle.eng_clients.specs.declared.stage.Stage.TheVariants.{Nothing}
use Rattle.eng_clients.specs.Desk.{Desk, desk_at}

-- it has no operation, and each of its items has a reply
pub record IsQuiet (d : Desk) : Type 0 where
  pub nothing : d.stage ≡ Nothing
  pub replied : length d.replies ≡ length d.items

-- there are at most 17 clients, and each for which no bit is set is quiet
pub record AreKept (desks : List Desk) (busy : ℕ) : Type 0 where
  pub few : length desks ≤ 17
  pub quiet : (k : ℕ) → bit_at busy k ≡ 0 → IsQuiet (desk_at desks k)
