-- The arguments of the one command in groups, as the program adds them one at a time.
use Rattle.std.specs.Prelude.{ℕ, List, [], ◌∷◌, Some, None, true, codes}
use Rattle.clap.specs.Words.{App, Rule, new_app, new_rule, with_rule}
use Rattle.clap.specs.Simple.{on_top}
use Rattle.clap.specs.declared.builder.ArgAction.TheVariants.{Set, SetTrue}
use Rattle.raid_text.specs.Text.{Text}
use Rattle.top_words.specs.App.{argument}

-- the first word, which has to be there
abbrev pub conf_rule : Rule
conf_rule = record (new_rule (codes "conf")) { required = true; action = Some Set }

-- a letter alone
abbrev pub letter_rule : Text → ℕ → Rule
letter_rule id letter = argument id (Some letter) SetTrue

-- a letter with one value
abbrev pub valued_rule : Text → ℕ → Rule
valued_rule id letter = argument id (Some letter) Set

-- a word behind two dashes, and such a word with one value
abbrev pub flag_rule : Text → Rule
flag_rule id = argument id None SetTrue

abbrev pub option_rule : Text → Rule
option_rule id = argument id None Set

-- CONF --io SCRIPT --graphs FILE --trace -w N --map
abbrev pub script_rules : List Rule
script_rules = conf_rule ∷ option_rule (codes "io") ∷ option_rule (codes "graphs") ∷ flag_rule (codes "trace")
    ∷ valued_rule (codes "workers") 119 ∷ flag_rule (codes "map") ∷ []

-- --sweep SEED --clients C --ops N
abbrev pub sweep_rules : List Rule
sweep_rules = option_rule (codes "sweep") ∷ option_rule (codes "clients") ∷ option_rule (codes "ops") ∷ []

-- -s -m -i -p -P -G
abbrev pub letter_rules : List Rule
letter_rules = letter_rule (codes "show") 115 ∷ letter_rule (codes "show_map") 109 ∷ letter_rule (codes "init") 105
    ∷ letter_rule (codes "check") 112 ∷ letter_rule (codes "rewrite") 80 ∷ letter_rule (codes "print") 71 ∷ []

-- -f COMP -g COMP -I SERIAL
abbrev pub valued_rules : List Rule
valued_rules = valued_rule (codes "fail") 102 ∷ valued_rule (codes "show_label") 103 ∷ valued_rule (codes "label") 73 ∷ []

-- -F COMP -R COMP --resume --limit M
abbrev pub rebuild_rules : List Rule
rebuild_rules = valued_rule (codes "rebuild") 70 ∷ valued_rule (codes "in_place") 82 ∷ flag_rule (codes "resume") ∷ option_rule (codes "limit") ∷ []

-- --scan --sim QUEUE --adopt
abbrev pub other_rules : List Rule
other_rules = flag_rule (codes "scan") ∷ option_rule (codes "sim") ∷ flag_rule (codes "adopt") ∷ []

-- --layout --rows R
abbrev pub study_rules : List Rule
study_rules = flag_rule (codes "layout") ∷ option_rule (codes "rows") ∷ []

-- with these arguments behind those that are there
abbrev pub with_rules : App → List Rule → App
with_rules app [] = app
with_rules app (rule ∷ rules) = with_rules (with_rule app rule) rules

-- a command without arguments, which takes the words behind its own name, and has no help
abbrev pub plain_app : App
plain_app = on_top (λ s. record s { no_binary_name = true; disable_help_flag = true }) (new_app (codes "raidctl"))
