-- Which sectors of a component, of those that stand before its rows, may be written.
use Rattle.std.specs.Prelude.{◌≡◌, ◌⊎◌, ℕ, Bool, true, false}

-- the label's; and where a parity map is kept, the map's
abbrev pub IsReserved : (mapped : Bool) → ℕ → Type 0
IsReserved false n = n ≡ 0
IsReserved true n = (n ≡ 0) ⊎ (n ≡ 1)
