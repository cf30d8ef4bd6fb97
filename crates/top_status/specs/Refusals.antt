-- Commands that are refused.
use Rattle.std.specs.Prelude.{ℕ, List, [], ◌++◌, length, Option, Some, None, Result, Ok, Err, if◌then◌else◌, nat_lt}
use Rattle.top_status.specs.declared.status.Status.{Status}
use Rattle.top_status.specs.declared.status.Status.TheVariants as status
use Rattle.top_status.specs.Dead.{dead_text}
use Rattle.top_status.specs.Status.{status_text}

-- How a command is refused: its status, and the columns that are printed dead before that.
pub record Refused : Type 0 where
  pub status : Status
  pub dead : List ℕ

-- no column is printed dead
abbrev pub only : Status → Refused
only status = record { status = status; dead = [] }

-- what is printed of it
abbrev pub refusal_text : Refused → List ℕ
refusal_text r = dead_text r.dead ++ status_text r.status

-- what a value leads to, or the refusal in its place
infixl 10 ◌then◌
abbrev pub ◌then◌ : {A B : Type 0} → Result A Refused → (A → Result B Refused) → Result B Refused
(Ok x) then f = f x
(Err r) then f = Err r

-- the value, or else this refusal
abbrev pub or_refusal : {A : Type 0} → Option A → Status → Result A Refused
or_refusal (Some x) status = Ok x
or_refusal None status = Err (only status)

-- the text of a name
unfoldable pub text_in : (List ℕ → Option (List ℕ)) → List ℕ → Result (List ℕ) Refused
text_in texts name =
    or_refusal (texts name) (status.NoFile name) then λ text.
    if nat_lt 16777216 (length text) then Err (only (status.LongText name)) else Ok text
