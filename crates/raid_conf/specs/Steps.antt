-- What the functions that read a configuration find piece by piece; Sections, Format and Designs
-- say it in one.
use Rattle.std.specs.Prelude.{ℕ, Bool, true, false, ◌&&◌, not, List, Result, Ok, Err, if◌then◌else◌, nat_eq, nat_le, codes, length, [], Option, Some, None}
use Rattle.std.specs.List.{list_any}
use Rattle.std.specs.Str.{bytes_eq}
use Rattle.raid_text.specs.Text.{Text}
use Rattle.text_steps.specs.Steps.{◌>>=◌, after_number, at_end, only_if, at_line, line_if_any, Rest}
use Rattle.raid_conf.specs.declared.conf.Conf.{Conf}
use Rattle.text_steps.specs.declared.at.At.{At}
use Rattle.raid_conf.specs.declared.given.Given.{Given}
use Rattle.raid_conf.specs.declared.given.Given.TheVariants.{Listed, Cyclic, Complete}
use Rattle.raid_conf.specs.declared.role.Role.TheVariants.{Disk, Spare}
use Rattle.raid_conf.specs.Sections.{listed_of}
use Rattle.raid_conf.specs.Format.{after_start, array_in, names_in, spares_in, layout_in, tuples_in, design_in, queue_behind}
use Rattle.lay_core.specs.Layout.{Shape}
use Rattle.raid_conf.specs.Designs.{blocks_of}
use Rattle.raid_conf.specs.Levels.{has_design}
use Rattle.raid_conf.specs.Layouts.{plain_of, plain_shape, design_shape}
use Rattle.raid_conf.specs.declared.plain.Plain.{Plain}
use Rattle.raid_conf.specs.declared.plain.Plain.TheVariants.{Chained}

-- the line begins a section
abbrev pub begins : Text → Bool
begins word = bytes_eq word (codes "START")

-- a section of this name behind the disks is that of the spares, or else that of the layout: code 6 where it is the layout's and there are to be spares
unfoldable pub spare_or_layout : ℕ → Text → List Text → Result Bool ℕ
spare_or_layout spares name words =
    if bytes_eq name (codes "spare") then (at_end words >>= λ end. Ok true)
    else (if bytes_eq name (codes "layout") then (only_if (nat_eq spares 0) 6 >>= λ none. at_end words >>= λ end. Ok false) else Err 3)

-- a section of this name behind the layout is that of the queue, or else that of the debug lines
unfoldable pub queue_or_debug : Text → List Text → Result Bool ℕ
queue_or_debug name words =
    if bytes_eq name (codes "queue") then (at_end words >>= λ end. Ok true)
    else (if bytes_eq name (codes "debug") then (at_end words >>= λ end. Ok false) else Err 3)

-- so many columns there may be
abbrev pub may_be_columns : ℕ → Bool
may_be_columns n = nat_le 1 n && nat_le n 32

-- one of the names is this one
unfoldable pub has_name : List Text → Text → Bool
has_name names name = list_any (λ n. bytes_eq n name) names

-- a name of 1 to 255 bytes that isn't among these; code 7 for any other
unfoldable pub new_name : List Text → Text → Result Text ℕ
new_name names word = only_if (nat_le (length word) 255 && not (has_name names word)) 7 >>= λ fits. Ok word

-- the words behind v, which is the number of columns; code 4 where it is another
unfoldable pub after_objects : ℕ → List Text → Result (List Text) ℕ
after_objects columns words = after_number columns 4 words

-- a line in the design's place that begins with no design word: code 11 where it begins a section, else 1
abbrev pub no_design : Text → ℕ
no_design word = if begins word then 11 else 1

-- the names of so many disks, and the lines behind them
unfoldable pub disks_in : ℕ → Rest → Result (List Text × Rest) At
disks_in columns rest = after_start 1 (codes "disks") rest >>= names_in Disk columns [] []

-- the names of so many spares, and the lines behind the one that begins the layout
unfoldable pub spare_lines : ℕ → List Text → Rest → Result (List Text × Rest) At
spare_lines spares disks rest = do
  names ← names_in Spare spares disks [] rest
  layout ← after_start 6 (codes "layout") names.1
  Ok (names.0, layout)

-- a listed design: the words behind `design` on its line, and its tuples
unfoldable pub listed_in : ℕ → ℕ → List Text → Rest → Result (Given × Rest) At
listed_in columns at words rest = do
  counts ← at_line at (listed_of columns words)
  tuples ← tuples_in counts.b counts.k [] rest
  Ok (Listed counts.b columns counts.k counts.r counts.lambda tuples.0, tuples.1)

-- the same of the lines behind the layout
unfoldable pub tail_in : Rest → Result (Option ℕ) At
tail_in rest = line_if_any rest >>= queue_behind

-- what the lines say
unfoldable pub conf_in : Rest → Result Conf At
conf_in rest = do
  array ← array_in rest
  disks ← disks_in array.0 array.2
  spares ← spares_in array.1 disks.0 disks.1
  layout ← layout_in array.0 spares.1
  design ← design_in layout.1 array.0 layout.2
  queue ← tail_in design.1
  Ok (record { columns = array.0; spares = array.1; unit = layout.0; level = layout.1; queue = queue; disks = disks.0; spare_names = spares.0; design = design.0 })

-- the layout of a level over n columns, with the design that there may be
abbrev pub level_shape : ℕ → ℕ → ℕ → ℕ → Option Given → Shape
level_shape level n u rows None = plain_shape (plain_of level) n u rows
level_shape level n u rows (Some given) = if has_design level then design_shape level (blocks_of given) u rows else plain_shape (plain_of level) n u rows

-- the rows of the least layout, of which all others have a multiple, and its stripes: those of a full table at levels T and D, of two rows at level C, of a row at the others
abbrev pub plain_rows : Plain → ℕ
plain_rows Chained = 2
plain_rows _ = 1

-- the objects of a tuple
abbrev pub width_of : Given → ℕ
width_of (Listed b v k r lambda tuples) = k
width_of (Cyclic v base) = length base
width_of (Complete v k) = k

-- a tuple has three objects at least
unfoldable pub is_wide : Given → Bool
is_wide given = nat_le 3 (width_of given)
