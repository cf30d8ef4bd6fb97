-- The columns of the members of each set.
use Rattle.std.proofs.Common.{◌≡◌, ◌∙◌, ℕ, ◌<◌, List, length, map, subst, sym, Option}
use Rattle.std.specs.Prelude.{slice_index_or}
use Rattle.std.proofs.lemmas.List.{length-map}
use Rattle.raid_assemble.specs.Sets.{IsGrouping}
use Rattle.raid_assemble.specs.declared.sets.Set.{Set}
use Rattle.raid_assemble.specs.declared.sets.Standing.{Standing}
use Rattle.raid_assemble.specs.declared.sets.Standing.TheVariants.{Member, Bare}
use Rattle.raid_label.specs.declared.label.Label.{Label}
use Rattle.raid_text.specs.Text.{Text}
use Rattle.top_open.specs.declared.fronts.Front.{Front}
use Rattle.top_scan.specs.Steps.{no_set}
use Rattle.top_scan.specs.Places.{HaveColumnsBelow}
use Rattle.top_scan.specs.Scanned.{IsComplete}
use Rattle.top_open.specs.Labels.{label_of}

-- what is so of every grouping
abbrev pub HaveOwnColumns : Type 0
HaveOwnColumns =
    (labels : List (Option Label)) (sets : List Set) (places : List Standing) (i set column : ℕ) (d : Standing) (x : Set)
    → IsGrouping labels sets places → i < length labels → slice_index_or places i d ≡ Member set column
    → (set < length sets) × (column < (slice_index_or sets set x).columns)

module _ (names : List Text) (fronts : List Front) (sets : List Set) (places : List Standing) (complete : IsComplete names fronts sets places) where
  -- there is a place for each front
  pub a_place_each : length fronts ≡ length places
  a_place_each = sym (complete.grouping.count ∙ length-map fronts label_of)

  -- and for each name
  pub a_name_each : length names ≡ length places
  a_name_each = sym complete.count ∙ a_place_each

  pub have_columns_below : HaveOwnColumns → HaveColumnsBelow places sets
  have_columns_below law set within place column lt at =
      (law (map label_of fronts) sets places place set column Bare no_set complete.grouping
      (subst (λ (n : ℕ). place < n) complete.grouping.count lt) at).1
