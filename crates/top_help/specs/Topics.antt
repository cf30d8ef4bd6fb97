-- The program's own texts.
use Rattle.std.specs.Prelude.{ℕ, ◌-◌, ◌==◌, ◌&&◌, Bool, true, List, [], ◌∷◌, IsTrue, if◌then◌else◌, nat_lt}
use Rattle.top_help.specs.declared.TheConstants.{HELP, VERSION}
use Rattle.top_words.specs.declared.invocation.Topic.{Topic}
use Rattle.top_words.specs.declared.invocation.Topic.TheVariants.{Help, Version}

-- the text of a topic
unfoldable pub topic_text : Topic → List ℕ
topic_text Help = HELP.now
topic_text Version = VERSION.now

-- no line has more than 80 bytes, of which so many may still come on the first
unfoldable pub lines_fit : ℕ → List ℕ → Bool
lines_fit left [] = true
lines_fit left (b ∷ text) =
    if b == 10 then lines_fit 80 text else (nat_lt 0 left && lines_fit (left - 1) text)

abbrev pub IsNarrow : List ℕ → Type 0
IsNarrow text = IsTrue (lines_fit 80 text)
