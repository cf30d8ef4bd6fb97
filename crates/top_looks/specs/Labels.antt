-- What is printed of a label.
use Rattle.std.specs.Prelude.{ℕ, List, [], ◌∷◌, ◌++◌, Some, None, codes, decimal, flat_map}
use Rattle.raid_label.specs.Bytes.{label_in}
use Rattle.top_open.specs.declared.fronts.Front.{Front}
use Rattle.top_open.specs.declared.fronts.Front.TheVariants.{Away, Unread, Held}

-- `label` and numbers
unfoldable pub numbers_line : List ℕ → List ℕ
numbers_line numbers = codes "label" ++ flat_map (λ number. codes " " ++ decimal number) numbers ++ codes "\n"

-- what sector 0 of a component holds: of a label the fields but the design's and the seats; a
-- component without a sector has none
abbrev pub label_text : Front → List ℕ
label_text Away = codes "label none\n"
label_text Unread = codes "label unread\n"
label_text (Held bytes) = elim (label_in bytes) [
  | None ↦ codes "label none\n"
  | Some l ↦ numbers_line
      (l.version ∷ l.serial ∷ l.counter ∷ l.column ∷ l.columns ∷ l.unit ∷ l.rows ∷ l.level ∷ l.clean
      ∷ [])
]
