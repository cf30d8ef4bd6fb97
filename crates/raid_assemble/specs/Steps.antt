-- What the functions of this crate find piece by piece.
use Rattle.std.specs.Prelude.{ℕ, ◌==◌, ◌&&◌, ◌||◌, Bool, false, not, List, take, slice_index_or, nat_lt, Option, None, Some, if◌then◌else◌}
use Rattle.std.specs.List.{count_by}
use Rattle.raid_label.specs.declared.label.Label.{Label}
use Rattle.raid_assemble.specs.declared.sets.Set.{Set}
use Rattle.raid_assemble.specs.declared.sets.Standing.{Standing}
use Rattle.raid_assemble.specs.declared.sets.Standing.TheVariants.{Member, Double, Foreign, Stale, Bare}
use Rattle.raid_assemble.specs.Sets.{fits, standing_behind}

-- a label of this serial
abbrev pub is_of : ℕ → Option Label → Bool
is_of serial None = false
is_of serial (Some l) = l.serial == serial

-- its counter, where it is of the serial
abbrev pub counter_of : ℕ → Option Label → ℕ
counter_of serial None = 0
counter_of serial (Some l) = if l.serial == serial then l.counter else 0

-- a label of this serial and counter
abbrev pub is_at : ℕ → ℕ → Option Label → Bool
is_at serial counter None = false
is_at serial counter (Some l) = l.serial == serial && l.counter == counter

-- a label that has the column of another of its serial and counter, and fits the pattern
abbrev pub has_column_of : Option Label → Label → Option Label → Bool
has_column_of p l None = false
has_column_of p l (Some e) =
    ((e.serial == l.serial && e.counter == l.counter) && e.column == l.column) && fits p e

-- the position of a serial among those that are found: how many of them are less
abbrev pub rank : List ℕ → ℕ → ℕ
rank serials serial = count_by (λ s. nat_lt s serial) serials

abbrev pub standing_of : List (Option Label) → List ℕ → List (Option Label) → Option Label → Standing
standing_of labels serials earlier None = Bare
standing_of labels serials earlier (Some l) = standing_behind labels serials earlier l

abbrev pub standing : List (Option Label) → List ℕ → ℕ → Standing
standing labels serials i = standing_of labels serials (take i labels) (slice_index_or labels i None)

-- a member of the set at this position
abbrev pub is_member_of : ℕ → Standing → Bool
is_member_of set (Member s column) = s == set
is_member_of set (Double s) = false
is_member_of set (Foreign s) = false
is_member_of set (Stale s) = false
is_member_of set Bare = false

-- a seat at which a device is wanted: neither that of a spread column nor that of a dead one
abbrev pub is_wanted : ℕ → Bool
is_wanted seat = not (seat == 254 || seat == 255)

-- the set of a pattern, at a position among the sets
abbrev pub set_of : ℕ → List Standing → Label → Set
set_of position places p = record {
  serial = p.serial;
  counter = p.counter;
  columns = p.columns;
  level = p.level;
  members = count_by (is_member_of position) places;
  wanted = count_by (λ seat. not (seat == 254 || seat == 255)) (take p.columns p.seats);
}
