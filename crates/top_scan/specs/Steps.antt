-- What the functions that read a list, or print a scan, find piece by piece; List, Lines and
-- Scanned say it in one.
use Rattle.std.specs.Prelude.{ℕ, List, [], ◌∷◌, codes, decimal, slice_index_or, Bool, Result, length, flat_map, ◌==◌, ◌&&◌, false, Option, Some, None, position, if◌then◌else◌}
use Rattle.put_line.specs.Line.{line}
use Rattle.raid_assemble.specs.declared.sets.Set.{Set}
use Rattle.raid_assemble.specs.declared.sets.Standing.{Standing}
use Rattle.raid_assemble.specs.declared.sets.Standing.TheVariants.{Bare, Member, Double, Foreign, Stale}
use Rattle.raid_text.specs.Text.{Text, Numbered, lines_in}
use Rattle.std.specs.List.{list_any, range_with_len}
use Rattle.std.specs.Str.{bytes_eq}
use Rattle.text_steps.specs.Steps.{◌>>=◌, words_in}
use Rattle.text_steps.specs.declared.at.At.{At}
use Rattle.top_scan.specs.List.{name_of, names_behind}
use Rattle.top_open.specs.declared.fronts.Front.{Front}
use Rattle.top_scan.specs.Lines.{member_text, other_text, set_text, bare_text}
use Rattle.top_open.specs.declared.fronts.Front.TheVariants.{Away, Unread, Held}

-- the name in a place
abbrev pub name_at : List Text → ℕ → Text
name_at names place = slice_index_or names place []

abbrev pub standing_at : List Standing → ℕ → Standing
standing_at places place = slice_index_or places place Bare

-- member COLUMN NAME
unfoldable pub member_front : ℕ → List ℕ
member_front column = line (codes "member " ∷ decimal column ∷ codes " " ∷ [])

-- a set of nothing
abbrev pub no_set : Set
no_set = record { serial = 0; counter = 0; columns = 0; level = 0; members = 0; wanted = 0 }

-- the lines of a set's members, by column
abbrev pub members_text : List Text → List Standing → ℕ → ℕ → List ℕ
members_text names places set columns =
    flat_map (member_text names places set) (range_with_len 0 columns)

-- those of what else belongs to it, in the order of the list
abbrev pub others_text : List Text → List Standing → ℕ → List ℕ
others_text names places set =
    flat_map (other_text names places set) (range_with_len 0 (length places))

-- those of all sets, in their order
abbrev pub sets_text : List Text → List Standing → List Set → List ℕ
sets_text names places sets = flat_map (set_text names places sets) (range_with_len 0 (length sets))

-- those of the components that have no label, in the order of the list
abbrev pub bares_text : List Text → List Standing → List Front → List ℕ
bares_text names places fronts =
    flat_map (bare_text names places fronts) (range_with_len 0 (length places))

-- one of these is this name
unfoldable pub has_name : List Text → Text → Bool
has_name names name = list_any (λ n. bytes_eq n name) names

-- the name of a line; code 1 where a byte stands on it that no word has
unfoldable pub line_name : List Text → Numbered → Result Text ℕ
line_name names line = words_in line >>= λ words. name_of names words

-- the names of a text, in the order of its lines
unfoldable pub list_of : Text → Result (List Text) At
list_of text = names_behind [] (lines_in text)

-- a set's member for a column
abbrev pub is_member_at : ℕ → ℕ → Standing → Bool
is_member_at set column (Member s c) = (s == set) && (c == column)
is_member_at set column (Double s) = false
is_member_at set column (Foreign s) = false
is_member_at set column (Stale s) = false
is_member_at set column Bare = false

-- what a label is that belongs to a set and isn't its member
abbrev pub other_front : ℕ → Standing → Option (List ℕ)
other_front set (Member s c) = None
other_front set (Double s) = if s == set then Some (codes "double ") else None
other_front set (Foreign s) = if s == set then Some (codes "foreign ") else None
other_front set (Stale s) = if s == set then Some (codes "stale ") else None
other_front set Bare = None

-- what a component without a label is, by what was read of it
abbrev pub bare_front : Front → Standing → Option (List ℕ)
bare_front Unread Bare = Some (codes "unread ")
bare_front Away Bare = Some (codes "bare ")
bare_front (Held bytes) Bare = Some (codes "bare ")
bare_front front (Member s c) = None
bare_front front (Double s) = None
bare_front front (Foreign s) = None
bare_front front (Stale s) = None

-- the set in a position; a set of nothing where there is none
abbrev pub set_at : List Set → ℕ → Set
set_at sets position = slice_index_or sets position
    (record { serial = 0; counter = 0; columns = 0; level = 0; members = 0; wanted = 0 })
