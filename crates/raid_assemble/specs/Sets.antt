-- Which arrays a list of labels makes up, and what each label is in it.
use Rattle.std.specs.Prelude.{◌≡◌, ℕ, ◌<◌, ◌==◌, ◌&&◌, ◌||◌, Bool, false, not, List, [], ◌∷◌, length, take, map, slice_index_or, nat_eq, nat_lt, max, Option, None, Some, if◌then◌else◌}
use Rattle.std.specs.List.{list_any, count_by}
use Rattle.std.specs.Str.{bytes_eq}
use Rattle.raid_label.specs.declared.label.Label.{Label}
use Rattle.raid_assemble.specs.declared.sets.Set.{Set}
use Rattle.raid_assemble.specs.declared.sets.Standing.{Standing}
use Rattle.raid_assemble.specs.declared.sets.Standing.TheVariants.{Member, Double, Foreign, Stale, Bare}

-- the greatest counter of a serial
unfoldable pub newest : List (Option Label) → ℕ → ℕ
newest [] serial = 0
newest (label ∷ labels) serial =
    max (elim label [ None ↦ 0 | Some l ↦ if l.serial == serial then l.counter else 0 ])
    (newest labels serial)

-- the first label of this serial and counter
unfoldable pub first_at : ℕ → ℕ → List (Option Label) → Option Label
first_at serial counter [] = None
first_at serial counter (label ∷ labels) =
    if (elim label [ None ↦ false | Some l ↦ l.serial == serial && l.counter == counter ]) then label
    else first_at serial counter labels

-- the pattern of a serial: its first label with the greatest counter
abbrev pub pattern : List (Option Label) → ℕ → Option Label
pattern labels serial = first_at serial (newest labels serial) labels

-- a label of the pattern's array: the same shape and seats, and a column of it
unfoldable pub is_alike : Label → Label → Bool
is_alike p l =
    ((((l.columns == p.columns && l.unit == p.unit) && (l.rows == p.rows && l.level == p.level))
    && ((l.b == p.b && l.k == p.k) && (l.r == p.r && l.lambda == p.lambda)))
    && bytes_eq l.seats p.seats) && nat_lt l.column p.columns

abbrev pub fits : Option Label → Label → Bool
fits None l = false
fits (Some p) l = is_alike p l

-- What a label is, behind these others, of the set whose position is the number of the serials that
-- are less: of those that fit the pattern, the first of each column is the member.
unfoldable pub standing_behind : List (Option Label) → List ℕ → List (Option Label) → Label → Standing
standing_behind labels serials earlier l =
    let set = count_by (λ s. nat_lt s l.serial) serials in
    let p = pattern labels l.serial in
    if nat_lt l.counter (newest labels l.serial) then Stale set
    else (if not (fits p l) then Foreign set
    else (if list_any (elim [ None ↦ false | Some e ↦ ((e.serial == l.serial && e.counter == l.counter) && e.column == l.column) && fits p e ]) earlier then Double set
    else Member set l.column))

-- the serials of the labels, ascending, each once
pub record AreSerials (labels : List (Option Label)) (serials : List ℕ) : Type 0 where
  pub ascending : (i j d : ℕ) → i < j → j < length serials
      → slice_index_or serials i d < slice_index_or serials j d
  pub each : (serial : ℕ) → list_any (nat_eq serial) serials
      ≡ list_any (elim [ None ↦ false | Some l ↦ l.serial == serial ]) labels

-- a set stands for a serial, with what the serial's pattern says: at a seat a device is wanted
-- where it is neither that of a spread column nor that of a dead one
abbrev pub IsSetOf : List (Option Label) → List Standing → ℕ → Set → Type 0
IsSetOf labels places position set =
    (p : Label) × (pattern labels set.serial ≡ Some p) × (set ≡ record {
      serial = p.serial;
      counter = p.counter;
      columns = p.columns;
      level = p.level;
      members = count_by (elim [ Member s column ↦ s == position | _ ↦ false ]) places;
      wanted = count_by (λ seat. not (seat == 254 || seat == 255)) (take p.columns p.seats);
    })

-- the sets and the standings of the labels
pub record IsGrouping (labels : List (Option Label)) (sets : List Set) (places : List Standing) : Type 0 where
  pub serials : AreSerials labels (map (λ s. s.serial) sets)
  pub described : (k : ℕ) (d : Set) → k < length sets
      → IsSetOf labels places k (slice_index_or sets k d)
  pub count : length places ≡ length labels
  pub standings : (i : ℕ) (d : Standing) → i < length labels
      → slice_index_or places i d
      ≡ elim (slice_index_or labels i None) [
        | None ↦ Bare
        | Some l ↦ standing_behind labels (map (λ s. s.serial) sets) (take i labels) l
      ]
