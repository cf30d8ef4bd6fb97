-- What a stop of the power may leave of the devices.
use Rattle.std.specs.Prelude.{◌≡◌, ℕ, ◌<◌, ◌⊎◌, List, Contains}
use Rattle.eng_cols.specs.Contents.{Contents}

-- A sector that was written, and its bytes.
pub record Logged : Type 0 where
  pub sector : ℕ
  pub bytes : ℕ → ℕ

-- A device, byte k of sector n: what it holds now, what it held as it was last settled, and the sectors that were written since, the newest first.
pub record Stored : Type 0 where
  pub now : ℕ → ℕ → ℕ
  pub settled : ℕ → ℕ → ℕ
  pub logged : List Logged

-- two sectors hold the same 512 bytes
abbrev pub SameSector : (ℕ → ℕ) → (ℕ → ℕ) → Type 0
SameSector a b = (k : ℕ) → k < 512 → a k ≡ b k

-- this was written to the sector since the last settle
pub record WasLogged (x : Stored) (n : ℕ) (bytes : ℕ → ℕ) : Type 0 where
  pub entry : Logged
  pub has : Contains x.logged entry
  pub sector : entry.sector ≡ n
  pub same : SameSector bytes entry.bytes

-- after a stop the sector may hold this: its settled content, or that of one of its logged writes
abbrev pub MayHold : Stored → ℕ → (ℕ → ℕ) → Type 0
MayHold x n bytes = SameSector bytes (x.settled n) ⊎ WasLogged x n bytes

-- the devices may hold this after a stop, each sector for itself
abbrev pub IsImage : (ℕ → Stored) → Contents → Type 0
IsImage stored image = (d n : ℕ) → MayHold (stored d) n (image d n)
