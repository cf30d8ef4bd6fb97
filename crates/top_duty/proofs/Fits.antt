-- What is fit for what is to be done meets what those ask that do it.
use Rattle.std.specs.Prelude.{◌≡◌, ◌≢◌, ◌+◌, ◌*◌, ◌≤◌, ℕ, zero, suc, List, [], ◌∷◌, Option, Some, None, IsSome, slice_get}
use Rattle.std.specs.Option.{option_map_or}
use Rattle.std.proofs.Common.{arith, refl, sym, ap, subst, ◌∙◌}
use Rattle.blk_disk.specs.Devices.{device_at, size_of}
use Rattle.blk_disk.specs.declared.disk.Disk.{Ghosts}
use Rattle.lay_core.specs.Layout.{Shape}
use Rattle.eng_cols.specs.declared.column.Column.{Column}
use Rattle.eng_cols.specs.Cols.{HasDevice, InOrder, is_set_filling, is_set_spread, passes}
use Rattle.eng_cols.specs.Stripes.{states_of}
use Rattle.eng_cols.proofs.Lists.{count_at_most}
use Rattle.raid_conf.specs.Form.{IsConf}
use Rattle.raid_conf.specs.Layouts.{shape_of}
use Rattle.raid_conf.proofs.TableLaws.{shape-columns, shape-rows, shape-unit}
use Rattle.raid_recon.specs.Array.{IsArray}
use Rattle.top_bay.specs.Asked.{Asked}
use Rattle.top_close.specs.Settled.{HaveDevices}
use Rattle.top_open.specs.Opening.{Opened}
use Rattle.top_rounds.specs.Passes.{CanBeLabelled}
use Rattle.top_duty.specs.Fit.{IsFit}
use Rattle.top_duty.proofs.Setting.{device_was, filling_was, spread_was}

-- a device that has a sector is there
there_if_sized : {D : Type 0} (g : Ghosts D) (ds : List (Option D)) (d : ℕ) → 1 ≤ size_of g ds d → IsSome (device_at ds d)
there_if_sized {D} g ds d h = go (device_at ds d) h
  where
    go : (x : Option D) → 1 ≤ option_map_or g.size x 0 → IsSome x
    go None h = absurd (omega (arith, h))
    go (Some x) h = refl

-- and so many of them
with_sectors : {D : Type 0} (g : Ghosts D) (ds : List (Option D)) (d need : ℕ) → 0 ≢ need → need ≤ size_of g ds d → (x : D) × (slice_get ds d ≡ Some (Some x)) × (need ≤ g.size x)
unfolding device_at
with_sectors g [] d need some h = absurd (some (omega (arith, h)))
with_sectors g (None ∷ ds) zero need some h = absurd (some (omega (arith, h)))
with_sectors g (Some x ∷ ds) zero need some h = (x, refl, h)
with_sectors g (y ∷ ds) (suc d) need some h = with_sectors g ds d need some h

module _ {D : Type 0} (g : Ghosts D) (k : Asked) (o : Opened) (devices : List (Option D)) (fit : IsFit g k o devices) where
  -- devices that may be settled
  pub fit_devices : HaveDevices o.columns devices
  fit_devices = record { there = λ c d at. there_if_sized g devices d (fit.sized c d at); apart = fit.apart }

  -- that may be labelled
  pub fit_labelled : IsConf k.conf → CanBeLabelled g o.columns devices
  fit_labelled is = record {
    have = fit_devices;
    sized = fit.sized;
    columns_most = omega (arith, fit.entries, is.columns_most);
    numbered = fit.numbered;
  }

  -- each column's device is that of no other
  pub fit_apart : (y : Shape) (c e d : ℕ) → HasDevice (states_of y o.columns) c d → HasDevice (states_of y o.columns) e d → c ≡ e
  fit_apart y c e d one two = fit.apart c e d (device_was y o.columns c d one) (device_was y o.columns e d two)

  need_is : IsConf k.conf → 64 + o.rows * k.conf.unit ≡ 64 + (shape_of k.conf o.rows).rows * (shape_of k.conf o.rows).unit_sectors
  need_is is = ap (λ (n : ℕ). 64 + n * k.conf.unit) (sym (shape-rows k.conf o.rows is)) ∙ ap (λ (n : ℕ). 64 + (shape_of k.conf o.rows).rows * n) (sym (shape-unit k.conf o.rows is))

  -- each column's device is there with room for the rows
  pub fit_there : IsConf k.conf → (y : Shape) (c d : ℕ) → HasDevice (states_of y o.columns) c d
      → (x : D) × (slice_get devices d ≡ Some (Some x)) × (64 + (shape_of k.conf o.rows).rows * (shape_of k.conf o.rows).unit_sectors ≤ g.size x)
  fit_there is y c d had =
      let large = fit.large c d (device_was y o.columns c d had) in
      with_sectors g devices d (64 + (shape_of k.conf o.rows).rows * (shape_of k.conf o.rows).unit_sectors) (λ e. omega (arith, e)) (subst (λ (m : ℕ). m ≤ size_of g devices d) (need_is is) large)

  -- at most one is filling, and at most one is spread
  fit_order : (y : Shape) → InOrder (states_of y o.columns)
  fit_order y = record {
    one_column = fit_apart y;
    one_filling = λ c e d f done other one two. count_at_most is_set_filling o.columns fit.filling c e (filling_was y o.columns c d done one) (filling_was y o.columns e f other two);
    one_spread = λ c e done other one two.
        count_at_most is_set_spread o.columns fit.spread c e (ap (λ (x : Option Column). passes is_set_spread x) (spread_was y o.columns c done one))
        (ap (λ (x : Option Column). passes is_set_spread x) (spread_was y o.columns e other two));
  }

  -- an array for sweeps, as it was opened
  pub fit_array : IsConf k.conf → IsArray g (shape_of k.conf o.rows) o.columns devices
  fit_array is = record {
    entries = fit.entries ∙ sym (shape-columns k.conf o.rows is);
    order = fit_order (shape_of k.conf o.rows);
    there = λ c d had. subst (λ (m : ℕ). m ≤ size_of g devices d) (need_is is) (fit.large c d (device_was (shape_of k.conf o.rows) o.columns c d had));
  }
