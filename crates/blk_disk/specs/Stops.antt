-- What a stop of the power may leave of a device: of each sector its settled content, or that of a write since.
use Rattle.std.specs.Prelude.{◌≡◌, ℕ, zero, suc, ◌+◌, ◌/◌, ◌<◌, ◌≤◌, ◌⊎◌, List, [], ◌∷◌, ◌++◌, length, Bool, true, false, Option, Some, None, Contains}
use Rattle.blk_disk.specs.declared.disk.Logged.{Logged}
use Rattle.blk_disk.specs.Disk.{sector_at}

-- The sectors as they were settled last, and those written since, in their order.
pub record Left : Type 0 where
  pub settled : ℕ → List ℕ
  pub logged : List Logged

-- after a stop the sector may hold these bytes
abbrev pub MayHold : Left → ℕ → List ℕ → Type 0
MayHold left n bytes = (bytes ≡ left.settled n) ⊎ Contains left.logged (record { sector = n; bytes = bytes })

-- what a write of these bytes from this sector on logs: its first sectors, so many
unfoldable pub written : ℕ → List ℕ → ℕ → List Logged
written first from zero = []
written first from (suc n) = written first from n ++ record { sector = first + n; bytes = sector_at from n } ∷ []

-- Where it is told now, it was told before, and is the same.
abbrev pub LeftStays : Option Left → Option Left → Type 0
LeftStays before None = Unit {0}
LeftStays None (Some now) = ⊥
LeftStays (Some before) (Some now) = now ≡ before

-- What a write logs: its sectors, where it was good; and any sectors within its range, where it failed.
pub record Logs (first : ℕ) (from : List ℕ) (good : Bool) (before now : Left) : Type 0 where
  pub settled : now.settled ≡ before.settled
  pub more : List Logged
  pub logged : now.logged ≡ before.logged ++ more
  pub all : good ≡ true → more ≡ written first from (length from / 512)
  pub within : (entry : Logged) → Contains more entry → (first ≤ entry.sector) × (entry.sector < first + length from / 512)

abbrev pub LeftLogs : Option Left → Option Left → ℕ → List ℕ → Bool → Type 0
LeftLogs before None first from good = Unit {0}
LeftLogs None (Some now) first from good = ⊥
LeftLogs (Some before) (Some now) first from good = Logs first from good before now

-- What a settle leaves: the sectors as they are and nothing else, where it was good; else what there was.
abbrev pub LeftSettles : Option Left → Option Left → (ℕ → List ℕ) → Bool → Type 0
LeftSettles before None sectors good = Unit {0}
LeftSettles None (Some now) sectors good = ⊥
LeftSettles (Some before) (Some now) sectors true = (now.settled ≡ sectors) × (now.logged ≡ [])
LeftSettles (Some before) (Some now) sectors false = now ≡ before
