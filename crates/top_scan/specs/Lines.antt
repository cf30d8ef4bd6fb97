-- The lines of a scan.
use Rattle.std.specs.Prelude.{ℕ, ◌==◌, ◌&&◌, false, List, [], ◌∷◌, ◌++◌, length, Option, Some, None, codes, decimal, flat_map, position, if◌then◌else◌, slice_index_or}
use Rattle.std.specs.List.{range_with_len}
use Rattle.std.specs.Option.{option_map_or}
use Rattle.put_line.specs.Line.{line}
use Rattle.raid_assemble.specs.declared.sets.Set.{Set}
use Rattle.raid_assemble.specs.declared.sets.Standing.{Standing}
use Rattle.raid_assemble.specs.declared.sets.Standing.TheVariants.{Member, Double, Foreign, Stale, Bare}
use Rattle.raid_text.specs.Text.{Text}
use Rattle.top_open.specs.declared.fronts.Front.{Front}
use Rattle.top_open.specs.declared.fronts.Front.TheVariants.{Away, Unread}

-- words and a name
unfoldable pub named_line : List ℕ → Text → List ℕ
named_line front name = front ++ name ++ codes "\n"

-- set SERIAL COUNTER columns COLUMNS level NUMBER members P of W
unfoldable pub set_line : Set → List ℕ
set_line s = line
    (codes "set " ∷ decimal s.serial ∷ codes " " ∷ decimal s.counter
    ∷ codes " columns " ∷ decimal s.columns ∷ codes " level " ∷ decimal s.level
    ∷ codes " members " ∷ decimal s.members ∷ codes " of " ∷ decimal s.wanted
    ∷ codes "\n" ∷ [])

-- the line of these words and a name, if there are any
abbrev pub line_if : Option (List ℕ) → Text → List ℕ
line_if None name = []
line_if (Some front) name = named_line front name

module _ (names : List Text) (places : List Standing) where
  -- the line of a set's member for a column, if it has one
  unfoldable pub member_text : ℕ → ℕ → List ℕ
  member_text set column =
      option_map_or (λ place. named_line (line (codes "member " ∷ decimal column ∷ codes " " ∷ []))
      (slice_index_or names place []))
      (position (elim [ Member s c ↦ (s == set) && (c == column) | _ ↦ false ]) places) []

  -- the line of what else belongs to it in a place: of a label that isn't its member
  unfoldable pub other_text : ℕ → ℕ → List ℕ
  other_text set place =
      line_if (elim (slice_index_or places place Bare) [
        | Double s ↦ if s == set then Some (codes "double ") else None
        | Foreign s ↦ if s == set then Some (codes "foreign ") else None
        | Stale s ↦ if s == set then Some (codes "stale ") else None
        | _ ↦ None
      ]) (slice_index_or names place [])

  -- the lines of a set: its own, those of its members by column, and those of what else belongs to
  -- it, in the order of the list
  unfoldable pub set_text : List Set → ℕ → List ℕ
  set_text sets set =
      let s = slice_index_or sets set (record {
        serial = 0;
        counter = 0;
        columns = 0;
        level = 0;
        members = 0;
        wanted = 0;
      }) in
      set_line s
      ++ (flat_map (member_text set) (range_with_len 0 s.columns)
      ++ flat_map (other_text set) (range_with_len 0 (length places)))

  module _ (fronts : List Front) where
    -- the line of a component that has no label, by what was read of it
    unfoldable pub bare_text : ℕ → List ℕ
    bare_text place =
        line_if (elim (slice_index_or places place Bare) [
          | Bare ↦ elim (slice_index_or fronts place Away) [ Unread ↦ Some (codes "unread ") | _ ↦ Some (codes "bare ") ]
          | _ ↦ None
        ]) (slice_index_or names place [])

-- all lines of a scan: those of the sets, and behind them those of the components without a label
abbrev pub scan_text : List Text → List Front → List Set → List Standing → List ℕ
scan_text names fronts sets places =
    flat_map (set_text names places sets) (range_with_len 0 (length sets))
    ++ flat_map (bare_text names places fronts) (range_with_len 0 (length places))
