-- What the readers answer. Want of memory is free.
use Rattle.std.specs.Prelude.{◌≡◌, Bool, false, Result, Ok, Err}
use Rattle.lay_design.specs.declared.fault.DesignFault.{DesignFault}
use Rattle.lay_design.specs.declared.fault.DesignFault.TheVariants as design
use Rattle.raid_conf.specs.declared.conf.Conf.{Conf}
use Rattle.text_steps.specs.declared.at.At.{At as Refused}
use Rattle.raid_conf.specs.declared.fault.ConfFault.{ConfFault}
use Rattle.raid_conf.specs.declared.fault.ConfFault.TheVariants as fault

-- the refusal of a text
abbrev pub GivesFault : {A : Type 0} → ConfFault → Result A Refused → Type 0
GivesFault (fault.At n code) read = read ≡ Err (record { line = n; code = code })
GivesFault fault.Memory read = Unit {0}

-- what a step gave that takes memory, seen by a view, or its refusal
abbrev pub GivesIfRoom : {X A : Type 0} → (X → A) → Result X ConfFault → Result A Refused → Type 0
GivesIfRoom view (Ok x) read = read ≡ Ok (view x)
GivesIfRoom view (Err fault) read = GivesFault fault read

-- what a judgement is. Want of memory is free
abbrev pub Judges : Result Bool ConfFault → Bool → Type 0
Judges (Ok b) test = test ≡ b
Judges (Err (fault.At n code)) test = ⊥
Judges (Err fault.Memory) test = Unit {0}

-- what a design's fault says of the judgement
abbrev pub AnswersFault : DesignFault → Result Bool ConfFault → Type 0
AnswersFault design.Memory result = result ≡ Err fault.Memory
AnswersFault _ result = result ≡ Ok false

-- what a text says, or its first line that is refused and why
abbrev pub GivesConf : Result Conf ConfFault → Result Conf Refused → Type 0
GivesConf result read = GivesIfRoom (λ conf. conf) result read
