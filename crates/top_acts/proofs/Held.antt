-- Labels that may be written.
use Rattle.std.proofs.Common.{◌≡◌, ◌∙◌, ℕ, ◌≤◌, List, length, sym}
use Rattle.eng_cols.specs.declared.column.Column.{Column}
use Rattle.raid_label.specs.declared.label.Label.{Label}
use Rattle.top_rounds.specs.Labels.{IsLabelFor}

-- with another counter, or clean or not
pub held_as : (columns : List Column) (label : Label) (counter clean : ℕ) → clean ≤ 1 → IsLabelFor columns label → IsLabelFor columns (record label { counter = counter; clean = clean })
held_as columns label counter clean few h = record {
  held = record { version = h.held.version; clean = few; filling = h.held.filling; done = h.held.done; first = h.held.first };
  count = h.count;
}

-- of as many columns
pub held_after : (columns after : List Column) (label : Label) → length after ≡ length columns → IsLabelFor columns label → IsLabelFor after label
held_after columns after label same h = record { held = h.held; count = h.count ∙ sym same }
