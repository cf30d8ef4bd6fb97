-- What a page has taken, and what its sink has of that.
use Rattle.std.specs.Prelude.{◌≡◌, ◌≤◌, ℕ, List, ◌++◌, length, take, Option, Some, None}
use Rattle.std.specs.declared.snapshot.Snapshot.{Snapshot}

module _ {K : Type 0} (output : K → List ℕ) where
  -- what the sink has, and behind it what waits; where the sink has failed, this is as it was before that
  abbrev pub whole : K → List ℕ → Option (Snapshot K) → List ℕ
  whole now waiting None = output now ++ waiting
  whole now waiting (Some before) = output before.value ++ waiting

-- no less than what there was in the beginning, and a front of all that was to be there
pub record IsFront (start whole now : List ℕ) : Type 0 where
  pub grown : length start ≤ length now
  pub front : take (length now) whole ≡ now
