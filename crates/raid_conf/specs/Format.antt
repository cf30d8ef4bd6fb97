-- What the functions that read a configuration find, section by section; Texts says it in one.
use Rattle.std.specs.Prelude.{ℕ, zero, suc, List, [], ◌∷◌, ◌++◌, Option, Some, None, Result, Ok, Err, if◌then◌else◌, codes}
use Rattle.std.specs.Str.{bytes_eq}
use Rattle.raid_text.specs.Text.{Text}
use Rattle.text_steps.specs.declared.at.At.{At}
use Rattle.raid_conf.specs.declared.given.Given.{Given}
use Rattle.raid_conf.specs.declared.given.Given.TheVariants.{Listed}
use Rattle.raid_conf.specs.declared.role.Role.{Role}
use Rattle.raid_conf.specs.declared.role.Role.TheVariants.{Spare}
use Rattle.raid_conf.specs.Designs.{serves}
use Rattle.raid_conf.specs.Levels.{has_design}
use Rattle.raid_conf.specs.Sections.{array_of, complete_of, count_code, cyclic_of, layout_of, listed_of, name_of, pass_start, queue_begins, queue_of, spares_begin, tuple_of}
use Rattle.text_steps.specs.Steps.{◌>>=◌, at_line, Next, line_if_any, next_line, next_word, only_if, Rest}

-- the lines behind the one that begins this section; code 3 where none is left, this code where the next begins no section
unfoldable pub after_start : ℕ → Text → Rest → Result Rest At
after_start code name rest = do
  line ← next_line 3 rest
  start ← at_line line.at (pass_start code name line.words)
  Ok line.rest

-- the numbers of columns and spares, and the lines behind them
unfoldable pub array_in : Rest → Result (ℕ × ℕ × Rest) At
array_in rest = do
  start ← after_start 1 (codes "array") rest
  line ← next_line 1 start
  counts ← at_line line.at (array_of line.words)
  Ok (counts.0, counts.1, line.rest)

-- the name on the next line, behind these, and the lines behind it
unfoldable pub next_name : Role → List Text → Rest → Result (Text × Rest) At
next_name role names rest = do
  line ← next_line (count_code role) rest
  name ← at_line line.at (name_of role names line.words)
  Ok (name, line.rest)

-- these names and the one on the next line, which differs from them and from those before, and the lines behind it
unfoldable pub with_name : Role → List Text → List Text → Rest → Result (List Text × Rest) At
with_name role before names rest = next_name role (before ++ names) rest >>= λ name. Ok (names ++ name.0 ∷ [], name.1)

-- these names and n more, one a line, and the lines behind them
unfoldable pub names_in : Role → ℕ → List Text → List Text → Rest → Result (List Text × Rest) At
names_in role zero before names rest = Ok (names, rest)
names_in role (suc n) before names rest = with_name role before names rest >>= λ more. names_in role n before more.0 more.1

-- the same with the line that begins their section, which may be left out where there are none
unfoldable pub spares_in : ℕ → List Text → Rest → Result (List Text × Rest) At
spares_in spares disks rest = do
  line ← next_line 3 rest
  present ← at_line line.at (spares_begin spares line.words)
  if present then (do
    names ← names_in Spare spares disks [] line.rest
    layout ← after_start 6 (codes "layout") names.1
    Ok (names.0, layout))
      else Ok ([], line.rest)

-- the sectors of a unit, the level, and the lines behind them
unfoldable pub layout_in : ℕ → Rest → Result (ℕ × ℕ × Rest) At
layout_in columns rest = do
  line ← next_line 1 rest
  layout ← at_line line.at (layout_of columns line.words)
  Ok (layout.0, layout.1, line.rest)

-- these tuples and the one on the next line, and the lines behind it
unfoldable pub next_tuple : ℕ → List ℕ → Rest → Result (List ℕ × Rest) At
next_tuple k front rest = do
  line ← next_line 11 rest
  more ← at_line line.at (tuple_of k front line.words)
  Ok (more, line.rest)

-- these tuples and b more of k numbers, one a line, and the lines behind them
unfoldable pub tuples_in : ℕ → ℕ → List ℕ → Rest → Result (List ℕ × Rest) At
tuples_in zero k front rest = Ok (front, rest)
tuples_in (suc b) k front rest = next_tuple k front rest >>= λ more. tuples_in b k more.0 more.1

-- a design that this word begins; where it begins none, code 11 if it begins a section, and else 1
unfoldable pub kind_in : Text → ℕ → ℕ → List Text → Rest → Result (Given × Rest) At
kind_in kind columns at words rest =
    if bytes_eq kind (codes "design") then (do
      counts ← at_line at (listed_of columns words)
      tuples ← tuples_in counts.b counts.k [] rest
      Ok (Listed counts.b columns counts.k counts.r counts.lambda tuples.0, tuples.1))
    else (if bytes_eq kind (codes "cyclic") then (at_line at (cyclic_of columns words) >>= λ given. Ok (given, rest))
    else (if bytes_eq kind (codes "complete") then (at_line at (complete_of columns words) >>= λ given. Ok (given, rest))
    else Err (record { line = at; code = if bytes_eq kind (codes "START") then 11 else 1 })))

-- the design of a level, and the lines behind it; code 11 where no line is left, and 12 at its first line where the level can't stand on it
unfoldable pub given_in : ℕ → ℕ → Rest → Result (Given × Rest) At
given_in level columns rest = do
  line ← next_line 11 rest
  kind ← at_line line.at (next_word line.words)
  given ← kind_in kind.0 columns line.at kind.1 line.rest
  fits ← at_line line.at (only_if (serves level given.0) 12)
  Ok given

-- the same, where the level has one
unfoldable pub design_in : ℕ → ℕ → Rest → Result (Option Given × Rest) At
design_in level columns rest = if has_design level then (given_in level columns rest >>= λ given. Ok (Some given.0, given.1)) else Ok (None, rest)

-- no line is left, or the section of the debug lines begins
abbrev pub debug_behind : Option Next → Result (Unit {0}) At
debug_behind None = Ok tt
debug_behind (Some line) = at_line line.at (pass_start 1 (codes "debug") line.words)

-- the queue's number, where no line is left behind it but debug lines
unfoldable pub queue_in : Rest → Result ℕ At
queue_in rest = do
  line ← next_line 1 rest
  number ← at_line line.at (queue_of line.words)
  last ← line_if_any line.rest
  debug ← debug_behind last
  Ok number

-- the queue's number, where its section comes behind the layout
abbrev pub queue_behind : Option Next → Result (Option ℕ) At
queue_behind None = Ok None
queue_behind (Some line) = do
  present ← at_line line.at (queue_begins line.words)
  if present then (queue_in line.rest >>= λ number. Ok (Some number)) else Ok None
