-- What the functions that judge the words find one by one; `judged`, `is_apart`, `action_in` and
-- `invocation_in` say it in one.
use Rattle.std.specs.Prelude.{ℕ, ◌&&◌, ◌||◌, Bool, not, List, Option, Some, None, Result, is_some, option_and_then, [], ◌∷◌, false, codes}
use Rattle.std.specs.Option.{option_map_or}
use Rattle.raid_text.specs.Text.{Text, number_of}
use Rattle.top_words.specs.Asked.{Action, Label, action_in, number_within, rebuilds}
use Rattle.top_words.specs.Given.{Given, given_of}
use Rattle.top_words.specs.Judged.{Invocation, OnArray, OnConf, Simulate, judged_if_taken, name_in, queue_of}
use Rattle.top_words.specs.declared.study.Study.TheVariants as study
use Rattle.std.specs.List.{list_any}
use Rattle.std.specs.Str.{bytes_eq}
use Rattle.clap.specs.Words.{Kinds, Row, fault_of, matches_of, first_of}
use Rattle.top_words.specs.App.{raid_app}

-- a script is run; beside a rebuild it isn't an action of its own
abbrev pub runs_script : Given → Bool
runs_script g = is_some g.io && not (rebuilds g)

-- clients are served, or a column is rebuilt
abbrev pub serves : Given → Bool
serves g = (is_some g.io || is_some g.sweep) || rebuilds g

-- -w without a run
abbrev pub has_workers_apart : Given → Bool
has_workers_apart g = is_some g.workers && not (serves g)

-- --map without a run
abbrev pub has_map_apart : Given → Bool
has_map_apart g = g.map && not (serves g)

-- an action that may adopt devices: -s, -p, -P, -f, -F or -R
abbrev pub may_adopt : Given → Bool
may_adopt g = (((g.show || g.check) || g.rewrite) || is_some g.fail) || (is_some g.rebuild || is_some g.in_place)

-- --adopt without one of them
abbrev pub has_adopt_apart : Given → Bool
has_adopt_apart g = g.adopt && not (may_adopt g)

-- --graphs or --trace without a script
abbrev pub has_script_apart : Given → Bool
has_script_apart g = (is_some g.graphs || g.trace) && not (is_some g.io)

-- --clients or --ops without --sweep
abbrev pub has_sweep_apart : Given → Bool
has_sweep_apart g = (is_some g.clients || is_some g.ops) && not (is_some g.sweep)

-- --sweep without --clients or without --ops
abbrev pub has_sweep_alone : Given → Bool
has_sweep_alone g = is_some g.sweep && not (is_some g.clients && is_some g.ops)

-- --limit without a rebuild
abbrev pub has_limit_apart : Given → Bool
has_limit_apart g = is_some g.limit && not (rebuilds g)

-- --rows without --layout
abbrev pub has_rows_apart : Given → Bool
has_rows_apart g = is_some g.rows && not g.layout

-- how many workers there are to be
unfoldable pub workers_in : Option Text → Option ℕ
workers_in word = option_map_or (number_within 0 16) word (Some 4)

-- how many stripes are rebuilt at most; none is given
unfoldable pub limit_in : Option Text → Option (Option ℕ)
limit_in word = option_map_or
    (λ w. option_and_then (λ n. Some (Some n)) (number_within 1 4294967295 w)) word (Some None)

-- the labels' serial number
unfoldable pub label_in : Text → Option Action
label_in word = option_and_then (λ serial. Some (Label serial)) (number_of word)

-- requests to a simulated disk, served in this order
unfoldable pub simulation_in : Text → Text → Option Invocation
simulation_in name word = option_and_then (λ order. Some (Simulate name order)) (queue_of word)

-- over how many rows a layout is told; none is given
unfoldable pub rows_asked : Option Text → Option (Option ℕ)
rows_asked word = option_map_or
    (λ w. option_and_then (λ n. Some (Some n)) (number_within 1 1048576 w)) word (Some None)

-- the layout of a configuration over these rows
unfoldable pub study_in : Text → Option Text → Option Invocation
study_in name word = option_and_then (λ rows. Some (OnConf name (study.Layout rows))) (rows_asked word)

-- an action on the array of a configuration
unfoldable pub command_in : Given → Option Invocation
command_in g = option_and_then
    (λ action. Some (OnArray (record { conf = name_in g; action = action; adopt = g.adopt }))) (action_in g)

-- what it makes of words that it takes
unfoldable pub rows_in : List Text → List Row
rows_in words = matches_of raid_app words

-- for which the command refuses the words; none where it takes them
unfoldable pub refusals : List Text → Kinds
refusals words = fault_of raid_app words

-- what the words ask for that name none of the program's own texts, or the first case of Usage
unfoldable pub taken_as : List Text → Result Invocation ℕ
taken_as words = judged_if_taken (refusals words) (given_of (rows_in words))

-- which of the actions stand there; a script beside a rebuild isn't an action of its own
abbrev pub actions_of : Given → List Bool
actions_of g =
    (is_some g.io && not (rebuilds g)) ∷ is_some g.sweep
    ∷ g.show ∷ g.show_map ∷ g.init ∷ g.check ∷ g.rewrite ∷ g.print
    ∷ is_some g.fail ∷ is_some g.rebuild ∷ is_some g.in_place ∷ g.resume
    ∷ is_some g.label ∷ is_some g.show_label ∷ g.scan ∷ is_some g.sim ∷ g.layout ∷ []

-- this word stands there
abbrev pub has_word : Text → List Text → Bool
has_word word words = list_any (λ w. bytes_eq w word) words

-- the flag of that name stands there
abbrev pub has_flag : Text → List Row → Bool
has_flag id rows = option_map_or (λ value. bytes_eq value (codes "true")) (first_of id rows) false
