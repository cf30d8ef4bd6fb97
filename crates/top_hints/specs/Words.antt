-- What the words of a call name, and what is wrong with them.
use Rattle.std.specs.Prelude.{ℕ, List, [], ◌∷◌, ◌++◌, Option, Some, None, Result, Ok, Err, codes, decimal, if◌then◌else◌, nat_eq}
use Rattle.std.specs.Option.{option_map_or}
use Rattle.raid_text.specs.Text.{Text}
use Rattle.top_help.specs.declared.TheConstants.{HELP}
use Rattle.top_words.specs.Asked.{Beside, beside_of}
use Rattle.top_words.specs.Judged.{Invocation, Tell, OnArray, OnConf, Scan, Simulate, invocation_of}
use Rattle.top_words.specs.Misuse.{Misuse, Unknown, NoForm, NoAction, ManyActions, Apart, Number, Queue, Rows, Component}
use Rattle.top_hints.specs.Line.{shown, hint_line}

-- the names of the texts that a call reads; empty where it doesn't read one
pub record Texts : Type 0 where
  pub conf : Text
  pub script : Text
  pub graphs : Text

-- a text that stands in the place of CONF, and nothing beside it
abbrev pub only_conf : Text → Texts
only_conf name = record { conf = name; script = []; graphs = [] }

-- CONF, and what goes with a script where there is one
abbrev pub texts_with : Text → Option Beside → Texts
texts_with name None = only_conf name
texts_with name (Some beside) = record {
  conf = name;
  script = beside.script;
  graphs = option_map_or (λ graphs. graphs) beside.graphs [];
}

abbrev pub texts_by : Result Invocation ℕ → Texts
texts_by (Ok (Tell topic)) = only_conf []
texts_by (Ok (OnArray command)) = texts_with command.conf (beside_of command.action)
texts_by (Ok (Scan list)) = only_conf list
texts_by (Ok (Simulate requests order)) = only_conf requests
texts_by (Ok (OnConf conf study)) = only_conf conf
texts_by (Err case) = only_conf []

abbrev pub texts_of : List Text → Texts
texts_of words = texts_by (invocation_of words)

-- the word begins as an option that there isn't
unfoldable pub unknown_hint : Text → List ℕ
unknown_hint word = hint_line (shown word ∷ codes ": there is no such option" ∷ [])

-- the words are of no form otherwise
unfoldable pub unformed : List ℕ
unformed = hint_line (codes "the words can't be taken apart: an option twice or without its value, a word too many, one that isn't UTF-8, or no CONF" ∷ [])

-- the word behind an option isn't a number of that range
unfoldable pub number_hint : (option word : Text) (low high : ℕ) → List ℕ
number_hint option word low high = hint_line (option ∷ codes " " ∷ shown word ∷ codes ": not a number from " ∷ decimal low ∷ codes " to " ∷ decimal high ∷ [])

-- the word behind `--sim` is no queue
unfoldable pub queue_hint : Text → List ℕ
queue_hint word = hint_line (codes "--sim " ∷ shown word ∷ codes ": the queue is fifo, sstf or scan" ∷ [])

-- the layout can't have so many rows
unfoldable pub rows_hint : Text → List ℕ
rows_hint word = hint_line (codes "--rows " ∷ shown word ∷ codes ": the layout can't have so many rows: whole tables are wanted, of at most 1048576 stripes" ∷ [])

-- the word behind an option is no component that it may be
unfoldable pub component_hint : (option word among : Text) → List ℕ
component_hint option word among = hint_line (option ∷ codes " " ∷ shown word ∷ codes ": not a name of the configuration's " ∷ among ∷ [])

-- which word is wrong
unfoldable pub misuse_hint : Misuse → List ℕ
misuse_hint (Unknown word) = unknown_hint word
misuse_hint NoForm = unformed
misuse_hint NoAction = hint_line (codes "no action: one of --io, --sweep, --resume, --scan, --sim, --layout and the letters is wanted; see raidctl --help" ∷ [])
misuse_hint ManyActions = hint_line (codes "more than one action: only --io goes beside another: -F, -R or --resume" ∷ [])
misuse_hint (Apart option with) = hint_line (option ∷ codes " needs " ∷ with ∷ [])
misuse_hint (Number option word low high) = number_hint option word low high
misuse_hint (Queue word) = queue_hint word
misuse_hint (Rows word) = rows_hint word
misuse_hint (Component option word among) = component_hint option word among

-- the help stands behind words of no form, and nowhere else
abbrev pub helped : ℕ → List ℕ → List ℕ
helped case line = if nat_eq case 0 then line ++ HELP.now else line

-- what is wrong with words that are refused by this case
unfoldable pub usage_hint : ℕ → Option Misuse → List ℕ
usage_hint case misuse = helped case (option_map_or misuse_hint misuse unformed)
