-- What columns are that are set.
use Rattle.std.specs.Prelude.{◌≡◌, ℕ, zero, suc, Bool, true, List, [], ◌∷◌, map, Option, Some, slice_get}
use Rattle.std.proofs.Common.{refl, ap, inl, inr, ◌∙◌}
use Rattle.lay_core.specs.Layout.{Shape}
use Rattle.eng_cols.specs.declared.column.Column.{Column}
use Rattle.eng_cols.specs.declared.column.Column.TheVariants as column
use Rattle.eng_cols.specs.Cols.{ColumnState, Live, Filling, Spread, HasDevice, device_set, is_set_filling, passes, state_set, HasDeviceOn}
use Rattle.eng_cols.specs.Stripes.{filled_in, states_of}

map_was : {X Z : Type 0} (f : X → Z) (xs : List X) (c : ℕ) (z : Z) → slice_get (map f xs) c ≡ Some z → (x : X) × (slice_get xs c ≡ Some x) × (f x ≡ z)
map_was f [] c z e = cc e
map_was f (x ∷ xs) zero z e = (x, refl, cc e)
map_was f (x ∷ xs) (suc c) z e = map_was f xs c z e

live_set : (n d : ℕ) (l : List Bool) (x : Column) → state_set n l x ≡ Live d → device_set (Some x) ≡ Some d
live_set n d l (column.Live e) h = cc h
live_set n d l column.Dead h = cc h
live_set n d l (column.Filling e m) h = cc h
live_set n d l column.Spread h = cc h

filling_set : (n d : ℕ) (l done : List Bool) (x : Column) → state_set n l x ≡ Filling d done → (device_set (Some x) ≡ Some d) × (is_set_filling x ≡ true)
filling_set n d l done (column.Live e) h = cc h
filling_set n d l done column.Dead h = cc h
filling_set n d l done (column.Filling e m) h = (cc h, refl)
filling_set n d l done column.Spread h = cc h

spread_set : (n : ℕ) (l done : List Bool) (x : Column) → state_set n l x ≡ Spread done → x ≡ column.Spread
spread_set n l done (column.Live d) h = cc h
spread_set n l done column.Dead h = cc h
spread_set n l done (column.Filling d m) h = cc h
spread_set n l done column.Spread h = refl

module _ (y : Shape) (columns : List Column) (c : ℕ) where
  set_was : (z : ColumnState) → slice_get (states_of y columns) c ≡ Some z → (x : Column) × (slice_get columns c ≡ Some x) × (state_set y.stripes (filled_in y columns) x ≡ z)
  set_was z e = map_was (state_set y.stripes (filled_in y columns)) columns c z e

  -- one that has a device had it
  pub device_was : (d : ℕ) → HasDevice (states_of y columns) c d → HasDeviceOn columns c d
  device_was d (inl e) = let x = set_was (Live d) e in ap (λ (o : Option Column). device_set o) x.1 ∙ live_set y.stripes d (filled_in y columns) x.0 x.2
  device_was d (inr h) = let x = set_was (Filling d h.0) h.1 in ap (λ (o : Option Column). device_set o) x.1 ∙ (filling_set y.stripes d (filled_in y columns) h.0 x.0 x.2).0

  -- one that is filling was so
  pub filling_was : (d : ℕ) (done : List Bool) → slice_get (states_of y columns) c ≡ Some (Filling d done) → passes is_set_filling (slice_get columns c) ≡ true
  filling_was d done e = let x = set_was (Filling d done) e in ap (λ (o : Option Column). passes is_set_filling o) x.1 ∙ (filling_set y.stripes d (filled_in y columns) done x.0 x.2).1

  -- and so was one that is spread
  pub spread_was : (done : List Bool) → slice_get (states_of y columns) c ≡ Some (Spread done) → slice_get columns c ≡ Some column.Spread
  spread_was done e = let x = set_was (Spread done) e in x.1 ∙ ap (λ (z : Column). Some z) (spread_set y.stripes (filled_in y columns) done x.0 x.2)
