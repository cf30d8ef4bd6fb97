-- The first number that passes.
use Rattle.std.specs.Prelude.{ℕ, zero, suc, Bool, Option, Some, None, if◌then◌else◌}
use Rattle.std.specs.Option.{option_or}

-- the first of so many numbers that passes
unfoldable pub first_of : (ℕ → Bool) → ℕ → Option ℕ
first_of p zero = None
first_of p (suc n) = option_or (first_of p n) (if p n then Some n else None)
