-- What is wrong with words that are refused, as far as they tell it.
use Rattle.std.specs.Prelude.{ℕ, ◌==◌, ◌&&◌, not, List, [], ◌∷◌, Option, Some, None, codes, if◌then◌else◌, count_by, is_some}
use Rattle.std.specs.Option.{option_map_or, option_or}
use Rattle.clap.specs.Words.{Kinds}
use Rattle.raid_text.specs.Text.{Text}
use Rattle.top_words.specs.Asked.{has_one_action, number_within}
use Rattle.top_words.specs.Given.{Given, given_of}
use Rattle.top_words.specs.Judged.{queue_of}
use Rattle.top_words.specs.Steps.{has_adopt_apart, has_limit_apart, has_map_apart, has_rows_apart, has_sweep_alone, has_workers_apart, actions_of, refusals, rows_in}
use Rattle.top_words.specs.Unknown.{unknown_in}

pub data Misuse : Type 0 where
  -- they are of no form: one of them is an option that there isn't, or something else
  Unknown : (word : Text) → Misuse
  NoForm : Misuse
  -- not one action: none, or several
  NoAction : Misuse
  ManyActions : Misuse
  -- an option without what it goes with
  Apart : (option with : Text) → Misuse
  -- the word behind an option isn't a number of that range
  Number : (option word : Text) (low high : ℕ) → Misuse
  -- the word behind `--sim` is no queue
  Queue : (word : Text) → Misuse
  -- the number of rows of words that ask for a layout
  Rows : (word : Text) → Misuse
  -- the component behind an option that takes one of these, of words that are a command
  Component : (option word among : Text) → Misuse

-- not one action
unfoldable pub not_one : Given → Misuse
not_one g = if count_by (λ stands. stands) (actions_of g) == 0 then NoAction else ManyActions

-- an option that stands without what it goes with
abbrev pub lone : (option with : Text) → Option Misuse
lone option with = Some (Apart option with)

-- the first of these
unfoldable pub apart_in : Given → Option Misuse
apart_in g =
    if has_workers_apart g then lone (codes "-w") (codes "--io, --sweep, -F, -R or --resume")
    else (if is_some g.graphs && not (is_some g.io) then lone (codes "--graphs") (codes "--io")
    else (if g.trace && not (is_some g.io) then lone (codes "--trace") (codes "--io")
    else (if is_some g.clients && not (is_some g.sweep) then lone (codes "--clients") (codes "--sweep")
    else (if is_some g.ops && not (is_some g.sweep) then lone (codes "--ops") (codes "--sweep")
    else (if has_sweep_alone g then lone (codes "--sweep") (codes "--clients and --ops")
    else (if has_limit_apart g then lone (codes "--limit") (codes "-F, -R or --resume")
    else (if has_map_apart g then lone (codes "--map") (codes "--io, --sweep, -F, -R or --resume")
    else (if has_adopt_apart g then lone (codes "--adopt") (codes "-s, -p, -P, -f, -F or -R")
    else (if has_rows_apart g then lone (codes "--rows") (codes "--layout")
    else None)))))))))

-- the word behind an option, where it isn't a number of that range
unfoldable pub wrong : Text → Option Text → ℕ → ℕ → Option Misuse
wrong option None low high = None
wrong option (Some word) low high =
    option_map_or (λ n. None) (number_within low high word) (Some (Number option word low high))

-- the first of all that isn't one
unfoldable pub wrong_number : Given → Option Misuse
wrong_number g = option_or (option_or (option_or (option_or (option_or (option_or
    (wrong (codes "-w") g.workers 0 16)
    (wrong (codes "--sweep") g.sweep 0 4294967295))
    (wrong (codes "--clients") g.clients 1 16))
    (wrong (codes "--ops") g.ops 0 2048))
    (wrong (codes "-I") g.label 0 4294967295))
    (wrong (codes "--limit") g.limit 1 4294967295))
    (wrong (codes "--rows") g.rows 1 1048576)

-- the word behind `--sim`, where it is no queue
unfoldable pub wrong_queue : Option Text → Option Misuse
wrong_queue None = None
wrong_queue (Some word) = option_map_or (λ order. None) (queue_of word) (Some (Queue word))

-- a component that is one of the columns' disks
abbrev pub of_disks : (option comp : Text) → Option Misuse
of_disks option comp = Some (Component option comp (codes "disks"))

-- the component, or the number of rows
unfoldable pub component_in : Given → Option Misuse
component_in g = option_map_or (λ word. Some (Rows word)) g.rows (option_map_or (λ comp. of_disks (codes "-f") comp) g.fail
    (option_map_or (λ comp. of_disks (codes "-F") comp) g.rebuild
    (option_map_or (λ comp. of_disks (codes "-R") comp) g.in_place
    (option_map_or (λ comp. Some (Component (codes "-g") comp (codes "disks and spares"))) g.show_label None))))

-- what is given, in the order in which it is judged
unfoldable pub misused : Given → Option Misuse
misused g =
    if has_one_action g
    then option_or (option_or (option_or (apart_in g) (wrong_number g)) (wrong_queue g.sim)) (component_in g)
    else Some (not_one g)

-- which way words are of no form
unfoldable pub unformed : List Text → Misuse
unformed words = option_map_or (λ word. Unknown word) (unknown_in words) NoForm

abbrev pub misused_if_taken : Kinds → List Text → Given → Option Misuse
misused_if_taken [] words g = misused g
misused_if_taken (kind ∷ kinds) words g = Some (unformed words)

-- what is wrong with the words; where nothing is, the component that they name
unfoldable pub misuse_of : List Text → Option Misuse
misuse_of words = misused_if_taken (refusals words) words (given_of (rows_in words))
