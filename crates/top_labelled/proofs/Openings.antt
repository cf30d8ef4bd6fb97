-- How an array with labels is opened: what announces it, and what is swept.
use Rattle.std.proofs.Common.{◌≡◌, ℕ, ◌+◌, ◌≤◌, List, Bool, true, false, Option, Some, None, refl, sym, ap, subst, arith}
use Rattle.std.specs.Prelude.{is_some}
use Rattle.blk_disk.specs.declared.disk.Disk.{Ghosts}
use Rattle.eng_cols.specs.declared.column.Column.{Column}
use Rattle.eng_cols.specs.declared.spot.Loss.{Loss}
use Rattle.eng_cols.specs.Deaths.{Dies}
use Rattle.eng_cols.proofs.DeathLaws.{dies-more, dies-refl}
use Rattle.lay_core.specs.Layout.{Shape}
use Rattle.raid_label.specs.declared.label.Label.{Label}
use Rattle.raid_map.specs.Regions.{Marks as Map}
use Rattle.top_acts.specs.Begun.{HasBegun}
use Rattle.top_acts.specs.declared.opening.Sweeps as declared_sweeps
use Rattle.top_acts.specs.declared.opening.Sweeps.TheVariants as sweeps
use Rattle.top_acts.specs.Mapped.{FitsLayout, IsOpeningFor}
use Rattle.top_acts.specs.Sweeps.{Notice, Round, Sweeps}
use Rattle.top_close.specs.Dying.{AnyCause}
use Rattle.top_close.specs.Stage.{DiesIn}
use Rattle.top_labelled.specs.Words.{BeginsUnless, notice_in}

pub opening_for : (y : Shape) (keeps : Bool) (marks : Map) → marks.stripes ≡ y.stripes → IsOpeningFor y (notice_in keeps marks)
opening_for y true marks same = same
opening_for y false marks same = tt

-- the sweep fits, whatever announces it
pub fits_with : (y : Shape) (notice : Notice) (s : declared_sweeps.Sweeps) → IsOpeningFor y notice → FitsLayout y Round s → FitsLayout y notice s
fits_with y notice sweeps.Nothing opening fits = opening
fits_with y notice (sweeps.Over kind) opening fits = opening
fits_with y notice (sweeps.Marked map) opening fits = (opening, fits.1)

-- ## Unless the array was lost before

-- where it was, nothing is done
pub begins-lost : {D : Type 0} (g : Ghosts D) (notice : Notice) (sweep : Sweeps) (y : Shape) (newest : Label) (columns : List Column) (old : List (Option D)) (before : Option Loss) → is_some before ≡ true → BeginsUnless g before notice sweep y newest newest columns columns old old before 0
begins-lost g notice sweep y newest columns old None some = let z : false ≡ true = some in absurd (let u : ⊥ = cc in u)
begins-lost g notice sweep y newest columns old (Some loss) some = (record { label_is = refl; columns_are = refl; devices_are = refl }, refl)

module _ {D : Type 0} (g : Ghosts D) (notice : Notice) (sweep : Sweeps) (y : Shape) (newest first : Label) (columns after : List Column) (old new : List (Option D)) (lost : Option Loss) (found : ℕ) where
  pub begins-kept : (before : Option Loss) → is_some before ≡ false → HasBegun g notice sweep y newest first columns after old new lost found → BeginsUnless g before notice sweep y newest first columns after old new lost found
  begins-kept None none b = b
  begins-kept (Some loss) none b = let z : true ≡ false = none in absurd (let u : ⊥ = cc in u)

  -- which columns died, and how much the counter has risen
  pub begins-die : (before : Option Loss) → BeginsUnless g before notice sweep y newest first columns after old new lost found → Dies AnyCause columns after
  begins-die None b = dies-more (DiesIn g lost columns old new) AnyCause columns after (λ c why. tt) b.stage.dies
  begins-die (Some loss) b = subst (Dies AnyCause columns) (sym b.0.columns_are) (dies-refl AnyCause columns)

  pub begins-bounded : (before : Option Loss) → BeginsUnless g before notice sweep y newest first columns after old new lost found → first.counter ≤ newest.counter + 34
  begins-bounded None b = b.bounded
  begins-bounded (Some loss) b = let e = ap (λ (l : Label). l.counter) b.0.label_is in omega (arith, e)
