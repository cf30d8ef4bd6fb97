-- Options that there aren't.
use Rattle.std.specs.Prelude.{ℕ, ◌==◌, ◌&&◌, ◌||◌, Bool, false, not, List, [], ◌∷◌, Option, Some, None, codes, if◌then◌else◌}
use Rattle.std.specs.List.{before_first, list_any}
use Rattle.std.specs.Str.{bytes_eq}
use Rattle.raid_text.specs.Text.{Text}

-- the options behind two dashes: of runs, of loads that are drawn, of rebuilds in parts, and others; two dashes alone are none
unfoldable pub is_of_scripts : Text → Bool
is_of_scripts option = bytes_eq option (codes "--io") || (bytes_eq option (codes "--graphs")
    || (bytes_eq option (codes "--trace") || bytes_eq option (codes "--map")))

unfoldable pub is_of_sweeps : Text → Bool
is_of_sweeps option = bytes_eq option (codes "--sweep") || (bytes_eq option (codes "--clients")
    || bytes_eq option (codes "--ops"))

unfoldable pub is_of_rebuilds : Text → Bool
is_of_rebuilds option = bytes_eq option (codes "--resume") || bytes_eq option (codes "--limit")

unfoldable pub is_of_others : Text → Bool
is_of_others option = bytes_eq option (codes "--scan") || (bytes_eq option (codes "--sim")
    || (bytes_eq option (codes "--adopt") || (bytes_eq option (codes "--layout")
    || (bytes_eq option (codes "--rows") || bytes_eq option (codes "--")))))

-- the letters behind one
unfoldable pub is_letter : ℕ → Bool
is_letter letter = list_any (λ x. x == letter) (codes "wsmipPGfgIFR")

-- what stands behind an equals sign is the value of an option
abbrev pub option_of : Text → Text
option_of word = before_first (λ b. b == 61) word

-- of an option what stands behind its first dash
unfoldable pub is_unknown_behind_one : Text → Text → Bool
is_unknown_behind_one option [] = false
is_unknown_behind_one option (x ∷ rest) =
    if x == 45 then not (((is_of_scripts option || is_of_sweeps option) || is_of_rebuilds option) || is_of_others option)
    else not (is_letter x)

-- by its dash or dashes this is an option, and there is none such
unfoldable pub is_unknown : Text → Bool
is_unknown [] = false
is_unknown (x ∷ rest) = x == 45 && is_unknown_behind_one (x ∷ rest) rest

-- the first of these words that is one; behind two dashes alone there are no options
unfoldable pub unknown_in : List Text → Option Text
unknown_in [] = None
unknown_in (word ∷ words) =
    if bytes_eq word (codes "--") then None
    else (if is_unknown (option_of word) then Some word else unknown_in words)
