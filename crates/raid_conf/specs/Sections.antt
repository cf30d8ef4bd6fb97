-- What the functions that read a line of a configuration find: what the line says, or the code by
-- which it is refused; Texts says it in one.
use Rattle.std.specs.Prelude.{ℕ, zero, suc, Bool, true, false, ◌&&◌, not, List, [], ◌∷◌, ◌++◌, Result, Ok, Err, if◌then◌else◌, nat_eq, nat_le, nat_lt, codes, length}
use Rattle.std.specs.List.{list_any}
use Rattle.std.specs.Str.{bytes_eq}
use Rattle.raid_text.specs.Text.{Text}
use Rattle.raid_conf.specs.declared.given.Given.{Given}
use Rattle.raid_conf.specs.declared.given.Given.TheVariants.{Cyclic, Complete}
use Rattle.raid_conf.specs.declared.role.Role.{Role}
use Rattle.raid_conf.specs.declared.role.Role.TheVariants.{Disk, Spare}
use Rattle.raid_conf.specs.Levels.{allows, is_level}
use Rattle.text_steps.specs.Steps.{◌>>=◌, after_number, after_word, at_end, next_number, next_word, number_in, only_if}

-- ---- the lines that begin sections

-- the name of the section that a line begins, and the words behind it; this code where the line begins none
unfoldable pub start_of : ℕ → List Text → Result (Text × List Text) ℕ
start_of code words = after_word (codes "START") code words >>= next_word

-- the line begins the section of this name; code 3 where it begins another
unfoldable pub pass_start : ℕ → Text → List Text → Result (Unit {0}) ℕ
pass_start code name words = do
  start ← start_of code words
  named ← only_if (bytes_eq start.0 name) 3
  at_end start.1

-- whether the section of the spares begins behind the disks, or that of the layout: code 6 where it
-- is the layout's and there are to be spares
unfoldable pub spares_begin : ℕ → List Text → Result Bool ℕ
spares_begin spares words = do
  start ← start_of 5 words
  if bytes_eq start.0 (codes "spare") then (at_end start.1 >>= λ end. Ok true)
      else (if bytes_eq start.0 (codes "layout")
      then (only_if (nat_eq spares 0) 6 >>= λ none. at_end start.1 >>= λ end. Ok false) else Err 3)

-- whether the section of the queue begins behind the layout, or that of the debug lines
unfoldable pub queue_begins : List Text → Result Bool ℕ
queue_begins words = do
  start ← start_of 1 words
  if bytes_eq start.0 (codes "queue") then (at_end start.1 >>= λ end. Ok true)
      else (if bytes_eq start.0 (codes "debug")
      then (at_end start.1 >>= λ end. Ok false) else Err 3)

-- ---- the array's line

-- the columns and spares of a line whose first two numbers are these: where a third comes, the first counts rows and is 1
unfoldable pub counts_of : ℕ → ℕ → List Text → Result (ℕ × ℕ) ℕ
counts_of first second [] = only_if (nat_le second 8) 2 >>= λ few. Ok (first, second)
counts_of first second (word ∷ words) = do
  row ← only_if (nat_eq first 1) 2
  columns ← only_if (nat_le 1 second && nat_le second 32) 2
  spares ← number_in word
  few ← only_if (nat_le spares 8) 2
  end ← at_end words
  Ok (second, spares)

-- `1 numCol numSpare`, or `numCol numSpare`
unfoldable pub array_of : List Text → Result (ℕ × ℕ) ℕ
array_of words = do
  first ← next_number words
  row_or_columns ← only_if (nat_le 1 first.0 && nat_le first.0 32) 2
  second ← next_number first.1
  counts_of first.0 second.0 second.1

-- ---- names

-- the code of a line where a disk or a spare is missing or too many
abbrev pub count_code : Role → ℕ
count_code Disk = 5
count_code Spare = 6

-- what `absent` stands for: a disk that is missing, whose name is the empty text. A spare can't be
abbrev pub absent_as : Role → Result Text ℕ
absent_as Disk = Ok []
absent_as Spare = Err 7

-- the name that a word is, behind these; code 7 where it has more than 255 bytes, or is one of them
unfoldable pub name_in : Role → List Text → Text → Result Text ℕ
name_in role names word =
    if bytes_eq word (codes "absent") then absent_as role
    else (only_if (nat_le (length word) 255 && not (list_any (λ n. bytes_eq n word) names)) 7
    >>= λ fits. Ok word)

-- the name that is alone on a line, which begins no section
unfoldable pub name_of : Role → List Text → List Text → Result Text ℕ
name_of role names words = do
  word ← next_word words
  goes_on ← only_if (not (bytes_eq word.0 (codes "START"))) (count_code role)
  name ← name_in role names word.0
  end ← at_end word.1
  Ok name

-- ---- the layout's line

-- the level that a word is; code 8 where it is none
unfoldable pub level_in : Text → Result ℕ ℕ
level_in [] = Err 8
level_in (b ∷ []) = only_if (is_level b) 8 >>= λ level. Ok b
level_in (b ∷ c ∷ more) = Err 8

-- `sectPerSU 1 1 level`: the sectors of a unit, and the level, which may have so many columns
unfoldable pub layout_of : ℕ → List Text → Result (ℕ × ℕ) ℕ
layout_of columns words = do
  unit ← next_number words
  fits ← only_if (nat_le 1 unit.0 && nat_le unit.0 128) 2
  second ← after_number 1 9 unit.1
  third ← after_number 1 9 second
  word ← next_word third
  level ← level_in word.0
  allowed ← only_if (allows level columns) 4
  end ← at_end word.1
  Ok (unit.0, level)

-- `fifo number`
unfoldable pub queue_of : List Text → Result ℕ ℕ
queue_of words = do
  fifo ← after_word (codes "fifo") 10 words
  number ← next_number fifo
  end ← at_end number.1
  Ok number.0

-- ---- designs

-- the numbers of a listed design
pub record Counts : Type 0 where
  pub b : ℕ
  pub k : ℕ
  pub r : ℕ
  pub lambda : ℕ

-- `b v k r lambda` behind `design`: v is the number of columns, or code 4
unfoldable pub listed_of : ℕ → List Text → Result Counts ℕ
listed_of columns words = do
  b ← next_number words
  v ← after_number columns 4 b.1
  k ← next_number v
  r ← next_number k.1
  lambda ← next_number r.1
  end ← at_end lambda.1
  Ok (record { b = b.0; k = k.0; r = r.0; lambda = lambda.0 })

-- these numbers and the one that a word is
unfoldable pub with_number : List ℕ → Text → Result (List ℕ) ℕ
with_number front word = number_in word >>= λ x. Ok (front ++ x ∷ [])

-- these numbers and the n behind them, with which the line ends; code 11 where it has fewer or more
unfoldable pub tuple_behind : ℕ → List ℕ → List Text → Result (List ℕ) ℕ
tuple_behind zero front [] = Ok front
tuple_behind zero front (word ∷ words) = Err 11
tuple_behind (suc n) front [] = Err 11
tuple_behind (suc n) front (word ∷ words) = with_number front word >>= λ more. tuple_behind n more words

-- the first word of a tuple's line, which begins no section, and the words behind it
unfoldable pub first_of : List Text → Result (Text × List Text) ℕ
first_of words = do
  word ← next_word words
  goes_on ← only_if (not (bytes_eq word.0 (codes "START"))) 11
  Ok word

-- these tuples and the one of k numbers on a line
unfoldable pub tuple_of : ℕ → List ℕ → List Text → Result (List ℕ) ℕ
tuple_of k front words = first_of words >>= λ word. tuple_behind k front (word.0 ∷ word.1)

-- these numbers and those up to the line's end
unfoldable pub numbers_behind : List ℕ → List Text → Result (List ℕ) ℕ
numbers_behind front [] = Ok front
numbers_behind front (word ∷ words) = with_number front word >>= λ more. numbers_behind more words

-- `v : e1 .. ek` behind `cyclic`, with one element at least
unfoldable pub cyclic_of : ℕ → List Text → Result Given ℕ
cyclic_of columns words = do
  v ← after_number columns 4 words
  colon ← after_word (codes ":") 1 v
  base ← numbers_behind [] colon
  some ← only_if (nat_lt 0 (length base)) 1
  Ok (Cyclic columns base)

-- `v k` behind `complete`
unfoldable pub complete_of : ℕ → List Text → Result Given ℕ
complete_of columns words = do
  v ← after_number columns 4 words
  k ← next_number v
  end ← at_end k.1
  Ok (Complete columns k.0)
