-- Configurations: what a text says, or the first line that is refused and the code of its refusal.
use Rattle.std.specs.Prelude.{ℕ, ◌&&◌, Bool, true, false, not, List, [], ◌∷◌, ◌++◌, length, take, Option, Some, None, Result, Ok, Err, if◌then◌else◌, nat_eq, nat_le, nat_lt, codes}
use Rattle.std.specs.List.{list_any}
use Rattle.std.specs.Str.{bytes_eq}
use Rattle.raid_text.specs.Text.{Text}
use Rattle.text_steps.specs.Steps.{◌>>=◌, after_number, after_word, at_end, at_line, line_by, line_if_any, next_line, next_number, next_word, number_in, numbers_of, only_if, repeated, Rest, whole}
use Rattle.text_steps.specs.declared.at.At.{At}
use Rattle.raid_conf.specs.declared.conf.Conf.{Conf}
use Rattle.raid_conf.specs.declared.given.Given.{Given}
use Rattle.raid_conf.specs.declared.given.Given.TheVariants.{Listed, Cyclic, Complete}
use Rattle.raid_conf.specs.Designs.{serves}
use Rattle.raid_conf.specs.Format.{after_start}
use Rattle.raid_conf.specs.Levels.{allows, has_design, is_level}
use Rattle.raid_conf.specs.Sections.{pass_start, start_of}

-- ---- the array, its disks and its spares

-- The columns and spares of a line: `1 numCol numSpare`, or `numCol numSpare`. Where a third number
-- comes, the first counts rows and is 1.
unfoldable pub sizes_of : List Text → Result (ℕ × ℕ) ℕ
sizes_of words = do
  first ← next_number words
  row_or_columns ← only_if (nat_le 1 first.0 && nat_le first.0 32) 2
  second ← next_number first.1
  elim second.1 [
    | [] ↦ only_if (nat_le second.0 8) 2 >>= λ few. Ok (first.0, second.0)
    | word ∷ behind ↦ (do
      row ← only_if (nat_eq first.0 1) 2
      columns ← only_if (nat_le 1 second.0 && nat_le second.0 32) 2
      spares ← number_in word
      few ← only_if (nat_le spares 8) 2
      end ← at_end behind
      Ok (second.0, spares))
  ]

-- These names and the one that is alone on a line, which begins no section, or this code: one of at
-- most 255 bytes that differs from these and from those before them, or code 7. `absent` stands for
-- a disk that is missing, whose name is the empty text; a spare can't be.
unfoldable pub with_name_of : ℕ → Bool → List Text → List Text → List Text → Result (List Text) ℕ
with_name_of code absent before names words = do
  word ← next_word words
  goes_on ← only_if (not (bytes_eq word.0 (codes "START"))) code
  name ← if bytes_eq word.0 (codes "absent") then (only_if absent 7 >>= λ may. Ok [])
      else (only_if (nat_le (length word.0) 255 && not (list_any (λ n. bytes_eq n word.0) (before ++ names))) 7 >>= λ new. Ok word.0)
  end ← at_end word.1
  Ok (names ++ name ∷ [])

-- The names of the spares, and the lines behind the one that begins the layout. Where there are no
-- spares their section may be left out; code 6 where it is and there are some.
unfoldable pub spares_among : ℕ → List Text → Rest → Result (List Text × Rest) At
spares_among spares disks rest = do
  line ← next_line 3 rest
  start ← at_line line.at (start_of 5 line.words)
  if bytes_eq start.0 (codes "spare") then (do
    end ← at_line line.at (at_end start.1)
    names ← repeated spares (λ names. line_by 6 (with_name_of 6 false disks names)) [] line.rest
    layout ← after_start 6 (codes "layout") names.1
    Ok (names.0, layout))
      else (if bytes_eq start.0 (codes "layout") then (do
        none ← at_line line.at (only_if (nat_eq spares 0) 6)
        end ← at_line line.at (at_end start.1)
        Ok ([], line.rest))
      else Err (record { line = line.at; code = 3 }))

-- ---- the layout

-- `sectPerSU 1 1 level`: the sectors of a unit, and the level, which may have so many columns
unfoldable pub level_of : ℕ → List Text → Result (ℕ × ℕ) ℕ
level_of columns words = do
  unit ← next_number words
  fits ← only_if (nat_le 1 unit.0 && nat_le unit.0 128) 2
  second ← after_number 1 9 unit.1
  third ← after_number 1 9 second
  word ← next_word third
  level ← elim word.0 [ b ∷ [] ↦ only_if (is_level b) 8 >>= λ is. Ok b | _ ↦ Err 8 ]
  allowed ← only_if (allows level columns) 4
  end ← at_end word.1
  Ok (unit.0, level)

-- these tuples and the one of k numbers that a line is, which begins no section; code 11 where it has
-- fewer or more
unfoldable pub with_tuple : ℕ → List ℕ → List Text → Result (List ℕ) ℕ
with_tuple k tuples words = do
  word ← next_word words
  goes_on ← only_if (not (bytes_eq word.0 (codes "START"))) 11
  numbers ← numbers_of (take k words)
  full ← only_if (nat_eq (length words) k) 11
  Ok (tuples ++ numbers)

-- `b v k r lambda` behind `design`: b, k, r and lambda; v is the number of columns, or code 4
unfoldable pub listing_of : ℕ → List Text → Result (ℕ × ℕ × ℕ × ℕ) ℕ
listing_of columns words = do
  b ← next_number words
  v ← after_number columns 4 b.1
  k ← next_number v
  r ← next_number k.1
  lambda ← next_number r.1
  end ← at_end lambda.1
  Ok (b.0, k.0, r.0, lambda.0)

-- A design of so many objects that begins with this word, and the lines behind it: `design` and b
-- lines of k numbers behind its own, `cyclic v : e1 .. ek` or `complete v k`. Code 4 where v is
-- another number. Where the word begins none, code 11 if it begins a section, and else 1.
unfoldable pub design_by : Text → ℕ → ℕ → List Text → Rest → Result (Given × Rest) At
design_by kind columns at words rest =
    if bytes_eq kind (codes "design") then (do
      line ← at_line at (listing_of columns words)
      tuples ← repeated line.0 (λ tuples. line_by 11 (with_tuple line.1 tuples)) [] rest
      Ok (Listed line.0 columns line.1 line.2 line.3 tuples.0, tuples.1))
    else (if bytes_eq kind (codes "cyclic") then (do
      base ← at_line at (do
        v ← after_number columns 4 words
        colon ← after_word (codes ":") 1 v
        base ← numbers_of colon
        some ← only_if (nat_lt 0 (length base)) 1
        Ok base)
      Ok (Cyclic columns base, rest))
    else (if bytes_eq kind (codes "complete") then (do
      k ← at_line at (do
        v ← after_number columns 4 words
        k ← next_number v
        end ← at_end k.1
        Ok k.0)
      Ok (Complete columns k, rest))
    else Err (record { line = at; code = if bytes_eq kind (codes "START") then 11 else 1 })))

-- The design of a level, where it has one, and the lines behind it: code 11 where no line is left,
-- and 12 at its first line where the level can't stand on it.
unfoldable pub design_among : ℕ → ℕ → Rest → Result (Option Given × Rest) At
design_among level columns rest =
    if has_design level then (do
      line ← next_line 11 rest
      kind ← at_line line.at (next_word line.words)
      given ← design_by kind.0 columns line.at kind.1 line.rest
      fits ← at_line line.at (only_if (serves level given.0) 12)
      Ok (Some given.0, given.1))
    else Ok (None, rest)

-- ---- the whole

-- the queue's number, where its section comes behind the layout; no line is left behind it but debug
-- lines, which are any
unfoldable pub queue_among : Rest → Result (Option ℕ) At
queue_among rest = line_if_any rest >>= elim [
  | None ↦ Ok None
  | Some line ↦ (do
    start ← at_line line.at (start_of 1 line.words)
    if bytes_eq start.0 (codes "queue") then (do
      end ← at_line line.at (at_end start.1)
      number ← line_by 1 (λ words. do
        fifo ← after_word (codes "fifo") 10 words
        number ← next_number fifo
        end ← at_end number.1
        Ok number.0) line.rest
      last ← line_if_any number.1
      debug ← elim last [
        | None ↦ Ok (tt {0})
        | Some line ↦ at_line line.at (pass_start 1 (codes "debug") line.words)
      ]
      Ok (Some number.0))
        else (if bytes_eq start.0 (codes "debug") then (at_line line.at (at_end start.1) >>= λ end. Ok None)
        else Err (record { line = line.at; code = 3 })))
]

-- what a text says
unfoldable pub conf_of : Text → Result Conf At
conf_of text = do
  array ← after_start 1 (codes "array") (whole text) >>= line_by 1 sizes_of
  disks ← after_start 1 (codes "disks") array.1
      >>= repeated array.0.0 (λ names. line_by 5 (with_name_of 5 true [] names)) []
  spares ← spares_among array.0.1 disks.0 disks.1
  layout ← line_by 1 (level_of array.0.0) spares.1
  design ← design_among layout.0.1 array.0.0 layout.1
  queue ← queue_among design.1
  Ok (record {
    columns = array.0.0;
    spares = array.0.1;
    unit = layout.0.0;
    level = layout.0.1;
    queue = queue;
    disks = disks.0;
    spare_names = spares.0;
    design = design.0;
  })
