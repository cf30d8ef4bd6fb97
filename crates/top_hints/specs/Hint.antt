-- Which sentence stands on standard error for which status.
use Rattle.std.specs.Prelude.{ℕ, Bool, List, [], ◌∷◌, Option, Some, None, codes, decimal, if◌then◌else◌, nat_eq}
use Rattle.raid_text.specs.Text.{Text}
use Rattle.top_status.specs.declared.status.Status.{Status}
use Rattle.top_status.specs.declared.status.Status.TheVariants as status
use Rattle.top_words.specs.Misuse.{Misuse, Component, misuse_of}
use Rattle.top_hints.specs.Advice.{Advice, command_of, doubt_advice, lost_advice}
use Rattle.top_hints.specs.Line.{shown, hint_line}
use Rattle.top_hints.specs.Tables.{conf_words, script_words, graph_words}
use Rattle.top_hints.specs.Words.{texts_of, usage_hint}

-- what could not be had or written to, and what the system said
pub record Trouble : Type 0 where
  pub name : Text
  pub cause : Text

-- a line of a text that isn't in its form
unfoldable pub line_hint : Text → ℕ → List ℕ → List ℕ
line_hint name number words = hint_line (shown name ∷ codes ", line " ∷ decimal number ∷ codes ": " ∷ words ∷ [])

-- a script, or its trace, which has no line
unfoldable pub script_hint : Text → ℕ → ℕ → List ℕ
script_hint name number code =
    if nat_eq code 8
    then hint_line (shown name ∷ codes ": the trace might have more than 1048576 events: fewer items, or no --trace" ∷ [])
    else line_hint name number (script_words code)

-- something of a name
abbrev pub name_hint : Text → List ℕ → List ℕ
name_hint name words = hint_line (shown name ∷ codes ": " ∷ words ∷ [])

-- there is nothing of that name
abbrev pub missing_hint : Text → List ℕ
missing_hint name = name_hint name (codes "no such file; names are relative to the working directory, not to CONF")

-- there is no spare to rebuild onto
unfoldable pub no_spare_hint : List ℕ
no_spare_hint = hint_line (codes "no free spare (each is used, failed or small: see -s); -f fails the column alone, -R rebuilds it on its own disk" ∷ [])

-- no column is being rebuilt that could be gone on with
unfoldable pub no_rebuild_hint : List ℕ
no_rebuild_hint = hint_line (codes "no column is being rebuilt (see -s): there is nothing to resume; -F or -R begins a rebuild" ∷ [])

-- another column is being rebuilt
unfoldable pub rebuilding_hint : (column : ℕ) → List ℕ
rebuilding_hint column = hint_line (codes "column " ∷ decimal column ∷ codes " is being rebuilt: --resume goes on with it, before another can be begun" ∷ [])

-- what is known of a trouble, or else these words
unfoldable pub trouble_hint : Option Trouble → List ℕ → List ℕ
trouble_hint (Some trouble) words = name_hint trouble.name (shown trouble.cause)
trouble_hint None words = hint_line (words ∷ [])

-- the array is lost; a call that fails a component is refused where it would be
abbrev pub is_lost : Option Misuse → List ℕ
is_lost (Some (Component option word among)) = codes "the array is lost, or would be without the component: stripe "
is_lost misuse = codes "the array is lost: stripe "

-- a stripe that lacks a unit, where there is no check unit
unfoldable pub unit_hint : Option Misuse → Advice → (column stripe : ℕ) → List ℕ
unit_hint misuse advice column stripe = hint_line (is_lost misuse ∷ decimal stripe ∷ codes " lacks the unit of column " ∷ decimal column ∷ advice.before ∷ shown advice.conf ∷ advice.behind ∷ codes "; see docs/ADMIN.md, 'A lost array'" ∷ [])

-- a stripe that lacks two
unfoldable pub units_hint : Option Misuse → Advice → (first second stripe : ℕ) → List ℕ
units_hint misuse advice first second stripe = hint_line (is_lost misuse ∷ decimal stripe ∷ codes " lacks the units of columns " ∷ decimal first ∷ codes " and " ∷ decimal second ∷ advice.before ∷ shown advice.conf ∷ advice.behind ∷ codes "; see docs/ADMIN.md, 'A lost array'" ∷ [])

-- of a stripe that lacks one the column stands there twice
unfoldable pub lost_hint : Option Misuse → Advice → (first second stripe : ℕ) → List ℕ
lost_hint misuse advice first second stripe =
    if nat_eq first second then unit_hint misuse advice first stripe else units_hint misuse advice first second stripe

-- what a label has that is compared
unfoldable pub label_words : ℕ → List ℕ
label_words code =
    if nat_eq code 2 then codes " has serial number "
    else (if nat_eq code 4 then codes " is of an array of another shape: it has "
    else codes " has version ")

-- a number of a label that isn't the one wanted
unfoldable pub compared_hint : ℕ → List ℕ → (found wanted : ℕ) → List ℕ
compared_hint column words found wanted = hint_line (codes "the label of column " ∷ decimal column ∷ words ∷ decimal found ∷ codes " where " ∷ decimal wanted ∷ codes " is wanted" ∷ [])

-- a label, by its code
unfoldable pub label_hint : (column code found wanted : ℕ) → List ℕ
label_hint column code found wanted =
    if nat_eq code 1 then hint_line (codes "column " ∷ decimal column ∷ codes " has no label: -I SERIAL writes the first ones of an array, -R COMP that of a new disk; where a rebuild was stopped as it wrote labels, -f COMP --adopt goes on without it" ∷ [])
    else (if nat_eq code 3 then hint_line (codes "the disk at column " ∷ decimal column ∷ codes " is that of column " ∷ decimal found ∷ [])
    else (if nat_eq code 6 then hint_line (codes "the newest label has counter " ∷ decimal found ∷ codes ", and labels are written up to " ∷ decimal wanted ∷ [])
    else compared_hint column (label_words code) found wanted))

-- so many stripes that aren't in sync
unfoldable pub out_of_sync_hint : ℕ → List ℕ
out_of_sync_hint count = hint_line (codes "stripes that aren't in sync: " ∷ decimal count ∷ codes "; -P rewrites their check units from the data" ∷ [])

-- a disk that is too small
unfoldable pub small_hint : (column has needs : ℕ) → List ℕ
small_hint column has needs = hint_line (codes "the disk of column " ∷ decimal column ∷ codes " has " ∷ decimal has ∷ codes " sectors, and " ∷ decimal needs ∷ codes " are needed" ∷ [])

-- the sentence for a status; none where all is well
abbrev pub hint_of : List Text → Status → Option Trouble → List ℕ
hint_of words status.Ok trouble = []
hint_of words (status.Usage case) trouble = usage_hint case (misuse_of words)
hint_of words (status.Conf line code) trouble = line_hint (texts_of words).conf line (conf_words code)
hint_of words (status.Script line code) trouble = script_hint (texts_of words).script line code
hint_of words (status.GraphText line code) trouble = line_hint (texts_of words).graphs line (graph_words code)
hint_of words status.BayFault trouble = trouble_hint trouble (codes "a file could not be read, opened or locked")
hint_of words (status.NoFile name) trouble = missing_hint name
hint_of words status.SinkFault trouble = trouble_hint trouble (codes "standard output failed")
hint_of words (status.Lost first second stripe) trouble = lost_hint (misuse_of words) (lost_advice (command_of words)) first second stripe
hint_of words (status.Label column code found wanted) trouble = label_hint column code found wanted
hint_of words (status.Small column has needs) trouble = small_hint column has needs
hint_of words (status.NotInSync count) trouble = out_of_sync_hint count
hint_of words status.NoSpare trouble = no_spare_hint
hint_of words status.NoRebuild trouble = no_rebuild_hint
hint_of words (status.Rebuilding column) trouble = rebuilding_hint column
hint_of words (status.LongText name) trouble = name_hint name (codes "longer than 16777216 bytes")
hint_of words status.Memory trouble = hint_line (codes "not enough memory; nothing was written" ∷ [])

-- a component of which a call failed, beside whatever the status says
unfoldable pub warning_of : Trouble → List ℕ
warning_of trouble = hint_line (codes "warning: " ∷ shown trouble.name ∷ codes " failed in this call: " ∷ shown trouble.cause ∷ [])

-- an array that isn't clean and lacks a column
unfoldable pub doubt_hint : Advice → List ℕ
doubt_hint advice = hint_line (codes "warning: the array wasn't closed in order, and lacks a column: in stripes that were being written, what is read in the place of its units may be wrong, also of blocks that nobody wrote" ∷ advice.before ∷ shown advice.conf ∷ advice.behind ∷ codes "; see docs/ADMIN.md, 'A lost array'" ∷ [])

-- the same of a call with these words; the newest label names a device for a column that is lacking, or for none
abbrev pub doubt_of : List Text → (named : Bool) → List ℕ
doubt_of words named = doubt_hint (doubt_advice named (command_of words))
