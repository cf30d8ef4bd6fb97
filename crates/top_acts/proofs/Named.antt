-- Columns that have devices, and deaths that leave the spread ones.
use Rattle.std.proofs.Common.{◌≡◌, ◌∙◌, ℕ, Bool, true, false, List, Option, Some, None, refl, sym, inl, inr}
use Rattle.std.specs.Prelude.{option_map, slice_get}
use Rattle.std.proofs.lemmas.Option.{slice_get-map}
use Rattle.blk_disk.specs.declared.disk.Disk.{Ghosts}
use Rattle.lay_core.specs.Layout.{Shape}
use Rattle.eng_cols.specs.declared.column.Column.{Column}
use Rattle.eng_cols.specs.declared.column.Column.TheVariants as column
use Rattle.eng_cols.specs.declared.spot.Loss.{Loss}
use Rattle.eng_cols.specs.Cols.{HasDevice, Live, Filling, device_set, is_set_filling, is_set_spread, passes, state_set, HasDeviceOn}
use Rattle.eng_cols.specs.Deaths.{Dies, LosesDevice}
use Rattle.eng_cols.proofs.DeathLaws.{dies-more}
use Rattle.eng_cols.specs.Fewer.{DieApart}
use Rattle.eng_cols.specs.Stripes.{filled_in, spreads, states_of}
use Rattle.raid_recon.specs.Array.{Failed}
use Rattle.top_close.proofs.DyingLaws.{dies_apart, unspread}
use Rattle.top_close.specs.Stage.{DiesIn}

-- ## Columns that have devices

live_set : (n d : ℕ) (l : List Bool) (o : Option Column) → option_map (state_set n l) o ≡ Some (Live d) → device_set o ≡ Some d
live_set n d l (Some (column.Live e)) h = cc
live_set n d l (Some column.Dead) h = absurd (let u : ⊥ = cc in u)
live_set n d l (Some (column.Filling e m)) h = absurd (let u : ⊥ = cc in u)
live_set n d l (Some column.Spread) h = absurd (let u : ⊥ = cc in u)
live_set n d l None h = absurd (let u : ⊥ = cc in u)

filling_set : (n d : ℕ) (done l : List Bool) (o : Option Column) → option_map (state_set n l) o ≡ Some (Filling d done) → device_set o ≡ Some d
filling_set n d done l (Some (column.Live e)) h = absurd (let u : ⊥ = cc in u)
filling_set n d done l (Some column.Dead) h = absurd (let u : ⊥ = cc in u)
filling_set n d done l (Some (column.Filling e m)) h = cc
filling_set n d done l (Some column.Spread) h = absurd (let u : ⊥ = cc in u)
filling_set n d done l None h = absurd (let u : ⊥ = cc in u)

pub live_of : (y : Shape) (columns : List Column) (c d : ℕ) → HasDevice (states_of y columns) c d → HasDeviceOn columns c d
live_of y columns c d (inl h) = live_set y.stripes d (filled_in y columns) (slice_get columns c) (sym (slice_get-map (state_set y.stripes (filled_in y columns)) columns c) ∙ h)
live_of y columns c d (inr h) = filling_set y.stripes d h.0 (filled_in y columns) (slice_get columns c) (sym (slice_get-map (state_set y.stripes (filled_in y columns)) columns c) ∙ h.1)

-- ## Deaths that leave the spread columns

filling_unspread : (o : Option Column) → passes is_set_filling o ≡ true → passes is_set_spread o ≡ false
filling_unspread (Some (column.Live d)) h = refl
filling_unspread (Some column.Dead) h = refl
filling_unspread (Some (column.Filling d m)) h = refl
filling_unspread (Some column.Spread) h = let z : false ≡ true = h in absurd (let u : ⊥ = cc in u)
filling_unspread None h = refl

module _ {D : Type 0} (g : Ghosts D) where
  in_unspread : (lost : Option Loss) (columns : List Column) (old new : List (Option D)) (c : ℕ) → DiesIn g lost columns old new c → spreads columns c ≡ false
  in_unspread lost columns old new c (inl loses) = unspread columns c loses.device loses.had
  in_unspread None columns old new c (inr gave) = absurd gave
  in_unspread (Some loss) columns old new c (inr gave) = filling_unspread (slice_get columns c) gave

  -- those of which a device failed, or of which the array was lost
  pub apart_in : (lost : Option Loss) (columns after : List Column) (old new : List (Option D)) → Dies (DiesIn g lost columns old new) columns after → DieApart columns after
  apart_in lost columns after old new dies = dies_apart (DiesIn g lost columns old new) columns after dies (in_unspread lost columns old new)

  pub loses_of : (y : Shape) (lost : Option Loss) (columns after : List Column) (old new : List (Option D)) → Dies (Failed g (states_of y columns) old new) columns after → Dies (DiesIn g lost columns old new) columns after
  loses_of y lost columns after old new dies = dies-more (Failed g (states_of y columns) old new) (DiesIn g lost columns old new) columns after
      (λ c f. inl (record { device = f.device; had = live_of y columns c f.device f.had; rose = f.rose })) dies

  -- of an array that isn't lost only devices that failed
  pub only_lose : (columns after : List Column) (old new : List (Option D)) → Dies (DiesIn g None columns old new) columns after → Dies (LosesDevice g columns old new) columns after
  only_lose columns after old new dies = dies-more (DiesIn g None columns old new) (LosesDevice g columns old new) columns after (λ c f. elim f [ inl loses ↦ loses | inr given ↦ absurd given ]) dies
