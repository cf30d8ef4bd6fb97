-- What is told of a bay.
use Rattle.std.specs.Prelude.{◌≡◌, ◌≤◌, ℕ, Option}
use Rattle.raid_text.specs.Text.{Text}

-- The bay of a call of the program: whether it tells what it has, whether its count of faults rose
-- in this call, its texts, and the devices that are at home as the call begins and as it ends.
pub record Told (D : Type 0) : Type 1 where
  pub tells : Type 0
  pub rose : Type 0
  pub texts : Text → Option Text
  pub home : Text → Option D
  pub after : Text → Option D

-- Texts were read of it, and nothing else: the devices at home and the texts are what they were,
-- and the count of faults didn't fall.
pub record IsRead {D : Type 0} (tells : Type 0) (old_text new_text : Text → Option Text)
    (home after : Text → Option D) (old_faults new_faults : ℕ) : Type 0 where
  pub texts : tells → (n : Text) → new_text n ≡ old_text n
  pub homes : tells → (n : Text) → after n ≡ home n
  pub later : old_faults ≤ new_faults
