-- The devices of an array.
use Rattle.std.proofs.Common.{◌≡◌, ◌∙◌, ℕ, ◌≤◌, List, Option, Some, None, refl, ap, inl, inr, arith}
use Rattle.std.specs.Prelude.{IsSome, slice_get}
use Rattle.std.specs.Option.{option_map_or}
use Rattle.blk_disk.specs.declared.disk.Disk.{Ghosts}
use Rattle.blk_disk.specs.Devices.{Changes, device_at}
use Rattle.lay_core.specs.Layout.{Shape}
use Rattle.eng_cols.specs.declared.column.Column.{Column}
use Rattle.eng_cols.specs.declared.column.Column.TheVariants as column
use Rattle.eng_cols.specs.Cols.{HasDevice, device_set, is_set_filling, is_set_spread, HasDeviceOn}
use Rattle.eng_cols.specs.Deaths.{Dies}
use Rattle.std.specs.Prelude.{count_by}
use Rattle.eng_cols.specs.Fewer.{DieApart}
use Rattle.eng_cols.specs.Stripes.{filled_in, states_of}
use Rattle.eng_cols.proofs.Fewer.{states-at}
use Rattle.raid_map.specs.Marking.{CanBeMarked}
use Rattle.raid_recon.specs.Array.{IsArray}
use Rattle.top_close.specs.Settled.{HaveDevices}
use Rattle.top_rounds.proofs.RoundLaws.{any_death, can-after, settable_after}
use Rattle.top_acts.specs.Begun.{CanAct}
use Rattle.top_acts.proofs.Backs.{array_after}

pub has_live : (y : Shape) (columns : List Column) (c d : ℕ) → HasDeviceOn columns c d → HasDevice (states_of y columns) c d
has_live y columns c d has = go (slice_get columns c) refl has
  where
    go : (o : Option Column) → slice_get columns c ≡ o → device_set o ≡ Some d → HasDevice (states_of y columns) c d
    go (Some (column.Live e)) is h = let same : e ≡ d = cc in inl (states-at y columns c (column.Live d) (is ∙ ap (λ k. Some (column.Live k)) same))
    go (Some column.Dead) is h = absurd (let u : ⊥ = cc in u)
    go (Some (column.Filling e m)) is h = let same : e ≡ d = cc in inr (filled_in y columns, states-at y columns c (column.Filling d m) (is ∙ ap (λ k. Some (column.Filling k m)) same))
    go (Some column.Spread) is h = absurd (let u : ⊥ = cc in u)
    go None is h = absurd (let u : ⊥ = cc in u)

module _ {D : Type 0} (g : Ghosts D) where
  sized : (o : Option D) → 64 ≤ option_map_or g.size o 0 → IsSome o
  sized None h = absurd (omega (arith, h))
  sized (Some x) h = refl

  pub have_of : (y : Shape) (columns : List Column) (ds : List (Option D)) → IsArray g y columns ds → HaveDevices columns ds
  have_of y columns ds array = record {
    there = λ c d live. sized (device_at ds d) (omega (arith, array.there c d (has_live y columns c d live)));
    apart = λ c k d one two. array.order.one_column c k d (has_live y columns c d one) (has_live y columns k d two);
  }

  -- columns that died can be acted on as before
  pub acts_after : (y : Shape) (cause : ℕ → Type 0) (may : ℕ → ℕ → Type 0) (columns after : List Column) (old new : List (Option D)) → Dies cause columns after → DieApart columns after → Changes g may old new
      → count_by is_set_filling after ≤ count_by is_set_filling columns → count_by is_set_spread after ≤ count_by is_set_spread columns → CanAct g y columns old → CanAct g y after new
  acts_after y cause may columns after old new dies apart changes filling spread can = record {
    array = array_after g y cause may columns after old new dies apart can.settable.filling changes can.array;
    labels = can-after g cause may columns after old new dies changes can.labels;
    settable = settable_after y columns after (any_death cause columns after dies) filling spread can.settable;
  }

  -- what can be acted on can be marked
  pub marks_of : (y : Shape) (columns : List Column) (ds : List (Option D)) → CanAct g y columns ds → CanBeMarked g columns ds
  marks_of y columns ds can = record {
    sized = λ c d live. let there = can.array.there c d (has_live y columns c d live) in omega (arith, there);
    apart = can.labels.have.apart;
  }
