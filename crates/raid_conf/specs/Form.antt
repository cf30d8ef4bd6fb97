-- The form of a configuration: what stands at each place of each of its lines.
use Rattle.std.specs.Prelude.{if◌then◌else◌, ◌≡◌, ◌≢◌, ℕ, zero, suc, ◌<◌, ◌≤◌, ◌^◌, Bool, true, false, IsTrue, List, [], ◌∷◌, ◌++◌, Option, Some, None, codes, length, map, decimal, take, drop, nat_eq, slice_index_or, All}
use Rattle.std.specs.Option.{ForSome, option_map_or}
use Rattle.raid_text.specs.Text.{Text, Numbered, is_word, number_of, sound_words}
use Rattle.raid_text.specs.Printed.{text_of}
use Rattle.raid_conf.specs.declared.conf.Conf.{Conf}
use Rattle.raid_conf.specs.declared.given.Given.{Given}
use Rattle.raid_conf.specs.declared.given.Given.TheVariants.{Listed, Cyclic, Complete}
use Rattle.raid_conf.specs.Designs.{objects_of, serves}
use Rattle.raid_conf.specs.Levels.{allows, has_design, is_level}

-- what stands at a word's place: this word, or a number
pub data Place : Type 0 where
  Literal : Text → Place
  Number : ℕ → Place

-- a word that may stand there: a number may have leading zeros
abbrev pub Fills : Place → Text → Type 0
Fills (Literal text) word = word ≡ text
Fills (Number n) word = number_of word ≡ Some n

-- the words fill the places, one by one
abbrev pub FillsAll : List Place → List Text → Type 0
FillsAll [] [] = Unit {0}
FillsAll [] (word ∷ words) = ⊥
FillsAll (place ∷ places) [] = ⊥
FillsAll (place ∷ places) (word ∷ words) = Fills place word × FillsAll places words

-- the line has such words, and no other bytes outside its comment
abbrev pub IsLineOf : List Place → Numbered → Type 0
IsLineOf places line = (words : List Text) × (sound_words line ≡ Some words) × FillsAll places words

-- the lines begin with lines of these forms, one by one, and the others stand behind them
abbrev pub HasForm : List (List Place) → List Numbered → List Numbered → Type 0
HasForm [] lines behind = lines ≡ behind
HasForm (places ∷ more) [] behind = ⊥
HasForm (places ∷ more) (line ∷ lines) behind = IsLineOf places line × HasForm more lines behind

-- ---- the places of each line

-- `START NAME`
abbrev pub start_places : Text → List Place
start_places name = Literal (codes "START") ∷ Literal name ∷ []

-- `1 numCol numSpare`, or short `numCol numSpare`
abbrev pub array_places : Bool → ℕ → ℕ → List Place
array_places true columns spares = Number columns ∷ Number spares ∷ []
array_places false columns spares = Number 1 ∷ Number columns ∷ Number spares ∷ []

-- the word that names a disk: `absent` where the name is empty
abbrev pub disk_word : Text → Text
disk_word [] = codes "absent"
disk_word (b ∷ name) = b ∷ name

-- a disk's name alone, or a spare's
abbrev pub name_places : Text → List Place
name_places name = Literal (disk_word name) ∷ []

-- the section of the spares, where it is present
abbrev pub spare_places : Bool → List Text → List (List Place)
spare_places true names = start_places (codes "spare") ∷ map name_places names
spare_places false names = []

-- `sectPerSU 1 1 level`
abbrev pub layout_places : ℕ → ℕ → List Place
layout_places unit level = Number unit ∷ Number 1 ∷ Number 1 ∷ Literal (level ∷ []) ∷ []

-- b lines of k numbers
unfoldable pub tuple_places : ℕ → ℕ → List ℕ → List (List Place)
tuple_places zero k tuples = []
tuple_places (suc b) k tuples = map Number (take k tuples) ∷ tuple_places b k (drop k tuples)

-- the lines of a design
abbrev pub given_places : Given → List (List Place)
given_places (Listed b v k r lambda tuples) = (Literal (codes "design") ∷ Number b ∷ Number v ∷ Number k ∷ Number r ∷ Number lambda ∷ []) ∷ tuple_places b k tuples
given_places (Cyclic v base) = (Literal (codes "cyclic") ∷ Number v ∷ Literal (codes ":") ∷ map Number base) ∷ []
given_places (Complete v k) = (Literal (codes "complete") ∷ Number v ∷ Number k ∷ []) ∷ []

-- the lines of the design that there is
abbrev pub design_places : Option Given → List (List Place)
design_places None = []
design_places (Some given) = given_places given

-- the section of the queue, where its number is given
abbrev pub queue_places : Option ℕ → List (List Place)
queue_places None = []
queue_places (Some number) = start_places (codes "queue") ∷ (Literal (codes "fifo") ∷ Number number ∷ []) ∷ []

-- the lines of a configuration, in which the array's line may be short, and the section of the spares present though it is empty
abbrev pub conf_places : Bool → Bool → Conf → List (List Place)
conf_places short present conf =
    (start_places (codes "array") ∷ array_places short conf.columns conf.spares ∷ [])
    ++ ((start_places (codes "disks") ∷ map name_places conf.disks)
    ++ (spare_places present conf.spare_names
    ++ ((start_places (codes "layout") ∷ layout_places conf.unit conf.level ∷ [])
    ++ (design_places conf.design ++ queue_places conf.queue))))

-- no line is left, or the section of the debug lines begins, which are any
abbrev pub IsTail : List Numbered → Type 0
IsTail [] = Unit {0}
IsTail (line ∷ lines) = IsLineOf (start_places (codes "debug")) line

-- the lines are those of a configuration: the section of the spares is present where there are spares
pub record IsConfOf (lines : List Numbered) (conf : Conf) : Type 0 where
  pub short : Bool
  pub present : Bool
  pub behind : List Numbered
  pub spares : present ≡ false → conf.spares ≡ 0
  pub form : HasForm (conf_places short present conf) lines behind
  pub tail : IsTail behind

-- ---- the configurations that there are

-- a name: a word of at most 255 bytes other than `absent` and `START`
pub record IsName (name : Text) : Type 0 where
  pub word : IsTrue (is_word name)
  pub short : length name ≤ 255
  pub present : name ≢ codes "absent"
  pub no_start : name ≢ codes "START"

-- a disk's name, which is empty where the disk is absent
abbrev pub IsDiskName : Text → Type 0
IsDiskName [] = Unit {0}
IsDiskName (b ∷ name) = IsName (b ∷ name)

-- no name stands there twice but that of absent disks
abbrev pub Differ : List Text → Type 0
Differ names = (i j : ℕ) (m n : Text) → i < j → j < length names → slice_index_or names i m ≡ slice_index_or names j n → slice_index_or names j n ≡ []

-- numbers that a word can be
abbrev pub IsWordGiven : Given → Type 0
IsWordGiven (Listed b v k r lambda tuples) = (b < 2 ^ 32) × (k < 2 ^ 32) × (r < 2 ^ 32) × (lambda < 2 ^ 32) × All (λ n. n < 2 ^ 32) tuples
IsWordGiven (Cyclic v base) = (0 < length base) × All (λ n. n < 2 ^ 32) base
IsWordGiven (Complete v k) = k < 2 ^ 32

-- a design of so many objects on which the level can stand
pub record IsGiven (level columns : ℕ) (given : Given) : Type 0 where
  pub words : IsWordGiven given
  pub objects : objects_of given ≡ columns
  pub serves : IsTrue (serves level given)

-- a design at levels T and D, and none at the others
abbrev pub IsDesignOf : ℕ → ℕ → Option Given → Type 0
IsDesignOf level columns None = has_design level ≡ false
IsDesignOf level columns (Some given) = IsTrue (has_design level) × IsGiven level columns given

-- a configuration that a text can hold
pub record IsConf (conf : Conf) : Type 0 where
  pub columns_least : 1 ≤ conf.columns
  pub columns_most : conf.columns ≤ 32
  pub spares_most : conf.spares ≤ 8
  pub unit_least : 1 ≤ conf.unit
  pub unit_most : conf.unit ≤ 128
  pub level : IsTrue (is_level conf.level)
  pub allowed : IsTrue (allows conf.level conf.columns)
  pub queue : ForSome conf.queue (λ n. n < 2 ^ 32)
  pub disk_count : length conf.disks ≡ conf.columns
  pub spare_count : length conf.spare_names ≡ conf.spares
  pub disks : All IsDiskName conf.disks
  pub spare_names : All IsName conf.spare_names
  pub differ : Differ (conf.disks ++ conf.spare_names)
  pub design : IsDesignOf conf.level conf.columns conf.design

-- ---- the canonical text

-- the word that is printed at a place
abbrev pub printed : Place → Text
printed (Literal text) = text
printed (Number n) = decimal n

-- the canonical text of a form: one space between words, no leading zeros, no comments
abbrev pub canonical : List (List Place) → Text
canonical places = text_of (map (λ line. map printed line) places)

-- ---- the same of a configuration, line by line

-- b lines of k numbers
unfoldable pub tuple_lines : ℕ → ℕ → List ℕ → List (List Text)
tuple_lines zero k tuples = []
tuple_lines (suc b) k tuples = map decimal (take k tuples) ∷ tuple_lines b k (drop k tuples)

-- the lines of a design, if there is one
abbrev pub design_lines : Option Given → List (List Text)
design_lines None = []
design_lines (Some (Listed b v k r lambda tuples)) =
    (codes "design" ∷ decimal b ∷ decimal v ∷ decimal k ∷ decimal r ∷ decimal lambda ∷ [])
    ∷ tuple_lines b k tuples
design_lines (Some (Cyclic v base)) =
    (codes "cyclic" ∷ decimal v ∷ codes ":" ∷ map decimal base) ∷ []
design_lines (Some (Complete v k)) = (codes "complete" ∷ decimal v ∷ decimal k ∷ []) ∷ []

-- The canonical text of a configuration: three numbers on the array's line, the section of the
-- spares where there are any, that of the queue where its number is given, no debug lines.
abbrev pub conf_text : Conf → Text
conf_text conf = text_of (
    (codes "START" ∷ codes "array" ∷ [])
    ∷ (codes "1" ∷ decimal conf.columns ∷ decimal conf.spares ∷ [])
    ∷ (codes "START" ∷ codes "disks" ∷ [])
    ∷ (map (λ name. disk_word name ∷ []) conf.disks
    ++ ((if nat_eq conf.spares 0 then []
    else (codes "START" ∷ codes "spare" ∷ []) ∷ map (λ name. disk_word name ∷ []) conf.spare_names)
    ++ ((codes "START" ∷ codes "layout" ∷ [])
    ∷ (decimal conf.unit ∷ codes "1" ∷ codes "1" ∷ (conf.level ∷ []) ∷ [])
    ∷ (design_lines conf.design
    ++ option_map_or
    (λ number. (codes "START" ∷ codes "queue" ∷ []) ∷ (codes "fifo" ∷ decimal number ∷ []) ∷ [])
    conf.queue [])))))
