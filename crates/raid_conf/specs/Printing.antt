-- How a configuration's text is printed: line by line, and on a line word by word.
use Rattle.std.specs.Prelude.{◌≡◌, ◌<◌, ◌*◌, false, List, [], ◌∷◌, ◌++◌, codes, length, map, flat_map, nat_eq, not}
use Rattle.std.specs.List.{join_with_byte}
use Rattle.raid_text.specs.Text.{Text}
use Rattle.raid_conf.specs.declared.conf.Conf.{Conf}
use Rattle.raid_conf.specs.declared.given.Given.{Given}
use Rattle.raid_conf.specs.declared.given.Given.TheVariants.{Listed, Cyclic, Complete}
use Rattle.raid_conf.specs.Form.{Place, array_places, design_places, layout_places, name_places, printed, queue_places, spare_places, start_places, canonical, conf_places}

-- the words that are printed at these places, a space before each
abbrev pub spaced : List Place → Text
spaced places = flat_map (λ place. 32 ∷ printed place) places

-- the line that is printed of these places
unfoldable pub line_text : List Place → Text
line_text places = join_with_byte 32 (map printed places) ++ 10 ∷ []

-- the lines that are printed, one behind the other
abbrev pub lines_text : List (List Place) → Text
lines_text lines = flat_map line_text lines

-- the sections of the array, its disks and its spares
abbrev pub device_places : Conf → List (List Place)
device_places conf =
    (start_places (codes "array") ∷ array_places false conf.columns conf.spares ∷ [])
    ++ ((start_places (codes "disks") ∷ map name_places conf.disks)
    ++ spare_places (not (nat_eq (length conf.spare_names) 0)) conf.spare_names)

-- the sections of the layout and the queue
abbrev pub level_places : Conf → List (List Place)
level_places conf = (start_places (codes "layout") ∷ layout_places conf.unit conf.level ∷ []) ++ (design_places conf.design ++ queue_places conf.queue)

-- tuples that stand one after the other, none of them empty
abbrev pub IsPrintable : Given → Type 0
IsPrintable (Listed b v k r lambda tuples) = (0 < k) × (length tuples ≡ b * k)
IsPrintable (Cyclic v base) = Unit {0}
IsPrintable (Complete v k) = Unit {0}

-- the canonical text of a configuration by the places of its form
abbrev pub placed_text : Conf → Text
placed_text conf = canonical (conf_places false (not (nat_eq conf.spares 0)) conf)
