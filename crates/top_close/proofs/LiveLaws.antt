-- No unit is missing where each column is live.
use Rattle.std.proofs.Common.{◌≡◌, ◌<◌, ℕ, true, false, List, length, Some, All, slice_get, slice_index_or, sym, ◌∙◌, ap, arith}
use Rattle.std.proofs.lemmas.Option.{slice_get-get_or}
use Rattle.lay_core.specs.Layout.{Shape, IsLayout}
use Rattle.eng_cols.specs.declared.column.Column.{Column}
use Rattle.eng_cols.specs.declared.column.Column.TheVariants as column
use Rattle.eng_cols.specs.Lost.{NotLost}
use Rattle.eng_cols.specs.Seats.{available_on, is_available}
use Rattle.eng_cols.specs.Stripes.{states_of}
use Rattle.eng_cols.proofs.Fewer.{states-at}
use Rattle.top_close.specs.Ended.{IsLive}

module _ (y : Shape) (layout : IsLayout y) (columns : List Column) (entries : length columns ≡ y.columns) (live : All IsLive columns) where
  none-missing : (s i : ℕ) → s < y.stripes → i < y.width → is_available y (states_of y columns) s i ≡ true
  none-missing s i sw iw = go (slice_index_or columns c column.Dead) (live c column.Dead within) (slice_get-get_or columns c column.Dead within)
    where
      c : ℕ
      c = (y.place s i).column

      within : c < length columns
      within = let w = (layout.within s i sw iw).0 in omega (arith, w, entries)

      go : (x : Column) → IsLive x → slice_get columns c ≡ Some x → is_available y (states_of y columns) s i ≡ true
      go (column.Live device) h is = ap (λ o. available_on y (states_of y columns) o s) (states-at y columns c (column.Live device) is)
      go column.Dead h is = absurd h
      go (column.Filling device done) h is = absurd h
      go column.Spread h is = absurd h

  pub live-keeps : NotLost y (states_of y columns)
  live-keeps s sw i j iw jw missing other = let z : true ≡ false = sym (none-missing s i sw iw) ∙ missing in absurd (let u : ⊥ = cc in u)
