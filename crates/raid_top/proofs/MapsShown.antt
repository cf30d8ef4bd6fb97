-- What is shown of an array is what its devices hold.
use Rattle.std.specs.Prelude.{◌≡◌, Bool, ℕ, List, Option, Some, None}
use Rattle.std.proofs.Common.{arith, ap, subst, ◌∙◌}
use Rattle.blk_disk.specs.declared.disk.Disk.{Ghosts}
use Rattle.lay_core.specs.Layout.{Shape}
use Rattle.eng_cols.specs.declared.column.Column.{Column}
use Rattle.raid_conf.specs.Layouts.{shape_of}
use Rattle.raid_label.specs.declared.label.Label.{Label}
use Rattle.raid_map.specs.Marking.{CanBeMarked}
use Rattle.raid_map.specs.Regions.{Marks}
use Rattle.top_bay.specs.Asked.{Asked}
use Rattle.top_duty.specs.Fit.{IsFit}
use Rattle.top_duty.specs.Opening.{sizes_of}
use Rattle.top_looks.specs.declared.map.Marked.{Marked}
use Rattle.top_open.specs.declared.fronts.Front.{Front}
use Rattle.top_open.specs.Opening.{Opened}
use Rattle.top_words.specs.Asked.{profile_of}
use Rattle.raid_top.specs.Does.{ShowsArray}
use Rattle.raid_top.specs.Outcome.{Looked}
use Rattle.raid_top.specs.Shown.{AreMapsFound, IsEmptyMap, MapIs, shown_text}

module _ {D : Type 0} (g : Ghosts D) where
  -- a device that is large enough for the rows has a sector for the map
  pub fit_marked : (k : Asked) (o : Opened) (devices : List (Option D)) → IsFit g k o devices → CanBeMarked g o.columns devices
  fit_marked k o devices fit = record {
    sized = λ c d on. let large = fit.large c d on in omega (arith, large);
    apart = λ c e d one other. fit.apart c e d one other;
  }

  -- there is a map to read into exactly where the array has labels
  pub found_if : (y : Shape) (newest : Option Label) (map : Option Marks) (columns after : List Column) (old new : List (Option D)) (found : Option Marked)
      → IsEmptyMap y newest map → MapIs g map columns after old new found → AreMapsFound g y newest columns after old new found
  found_if y None map columns after old new found is h = subst (λ (m : Option Marks). MapIs g m columns after old new found) is h
  found_if y (Some l) map columns after old new found is h = subst (λ (m : Option Marks). MapIs g m columns after old new found) is h

  -- what is said of it
  pub shows_array : (k : Asked) (o opened : Opened) (sizes : List ℕ) (fronts seen : List Front) (map : Option Marked) (old back : List (Option D))
      → AreMapsFound g (shape_of k.conf o.rows) o.newest o.columns opened.columns old back map
      → opened ≡ record o { columns = opened.columns } → sizes ≡ sizes_of g.size old → seen ≡ fronts
      → ShowsArray g k o fronts old back (Looked (shown_text (profile_of k.command.action).map k.conf opened sizes seen map))
  shows_array k o opened sizes fronts seen map old back found one two three = record {
    after = opened.columns;
    map = map;
    found = found;
    said = ap (λ (text : List ℕ). Looked text) (same (profile_of k.command.action).map);
  }
    where
      same : (asked : Bool) → shown_text asked k.conf opened sizes seen map ≡ shown_text asked k.conf (record o { columns = opened.columns }) (sizes_of g.size old) fronts map
      same asked =
          ap (λ (x : Opened). shown_text asked k.conf x sizes seen map) one
          ∙ (ap (λ (x : List ℕ). shown_text asked k.conf (record o { columns = opened.columns }) x seen map) two
          ∙ ap (λ (x : List Front). shown_text asked k.conf (record o { columns = opened.columns }) (sizes_of g.size old) x map) three)
