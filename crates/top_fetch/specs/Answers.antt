-- What is answered, beside what is wanted. Want of memory is free, and so is a fault of the bay, of
-- which each call says by itself that the bay's count rose.
use Rattle.std.specs.Prelude.{◌≡◌, Result, Ok, Err}
use Rattle.top_status.specs.declared.status.Status.{Status}
use Rattle.top_status.specs.declared.status.Status.TheVariants as status
use Rattle.top_status.specs.Refusals.{Refused, only}

-- The status is that of the refusal that is wanted. A fault of the bay or want of memory may come
-- in its place.
abbrev pub RefusedAs : {A : Type 0} → Status → Result A Refused → Type 0
RefusedAs status.BayFault wanted = Unit {0}
RefusedAs status.Memory wanted = Unit {0}
RefusedAs s wanted = wanted ≡ Err (only s)

-- the value that is wanted, seen by a view, or the refusal
abbrev pub AnswersAs : {X A : Type 0} → (X → A) → Result X Status → Result A Refused → Type 0
AnswersAs view (Ok x) wanted = wanted ≡ Ok (view x)
AnswersAs view (Err s) wanted = RefusedAs s wanted

-- this refusal, or want of memory
abbrev pub IsOrMemory : Status → Status → Type 0
IsOrMemory wanted status.Memory = Unit {0}
IsOrMemory wanted s = s ≡ wanted

-- a status of words that are no command
abbrev pub IsUsage : Status → Type 0
IsUsage (status.Usage case) = Unit {0}
IsUsage status.Memory = Unit {0}
IsUsage _ = ⊥

-- a status by which a command is refused before an array is opened
abbrev pub IsEarly : Status → Type 0
IsEarly (status.Usage case) = Unit {0}
IsEarly (status.Conf line code) = Unit {0}
IsEarly (status.Script line code) = Unit {0}
IsEarly (status.GraphText line code) = Unit {0}
IsEarly status.BayFault = Unit {0}
IsEarly (status.NoFile name) = Unit {0}
IsEarly (status.LongText name) = Unit {0}
IsEarly status.Memory = Unit {0}
IsEarly _ = ⊥
