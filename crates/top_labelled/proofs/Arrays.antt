-- An array that may be served may be swept, and labelled.
use Rattle.std.proofs.Common.{◌≡◌, ℕ, ◌≤◌, List, Bool, true, Option, Some, None, slice_get, length, option_map, refl, sym, ◌∙◌, ap, arith}
use Rattle.std.proofs.lemmas.Option.{slice_get-map, slice_get_within, get_or_from_slice_get}
use Rattle.std.specs.Prelude.{All, IsSome, is_some}
use Rattle.std.specs.Option.{option_map_or}
use Rattle.blk_disk.specs.declared.disk.Disk.{Ghosts as DiskGhosts}
use Rattle.blk_disk.specs.Devices.{device_at, size_of}
use Rattle.blk_disk.proofs.DeviceLaws.{device_at-get}
use Rattle.lay_core.specs.declared.layout.Layout.{Ghosts as LayoutGhosts}
use Rattle.lay_core.specs.Layout.{Shape}
use Rattle.eng_cols.specs.declared.column.Column.{Column}
use Rattle.eng_cols.specs.declared.column.Column.TheVariants as column
use Rattle.eng_cols.specs.Cols.{Live, Dead, Filling, Spread, passes, state_set, is_set_filling, is_set_spread}
use Rattle.eng_cols.specs.Settable.{IsSettable}
use Rattle.eng_cols.specs.Stripes.{filled_in, states_of}
use Rattle.eng_cols.proofs.Lists.{count_at_most}
use Rattle.eng_events.specs.Opened.{IsSetup}
use Rattle.eng_parts.specs.declared.setup.Setup.{Setup}
use Rattle.raid_recon.specs.Array.{IsArray}
use Rattle.top_acts.proofs.Having.{has_live}
use Rattle.top_rounds.specs.Labels.{IsNumbered}
use Rattle.top_rounds.specs.Passes.{CanBeLabelled}
use Rattle.eng_cols.proofs.Words.{all_done}

-- ## What a state says of how its column is set

spread-back : (n : ℕ) (l done : List Bool) (o : Option Column) → option_map (state_set n l) o ≡ Some (Spread done) → passes is_set_spread o ≡ true
spread-back n l done None h = let z : None ≡ Some (Spread done) = h in absurd (let u : ⊥ = cc in u)
spread-back n l done (Some (column.Live d)) h = let z : Some (Live d) ≡ Some (Spread done) = h in absurd (let u : ⊥ = cc in u)
spread-back n l done (Some column.Dead) h = let z : Some Dead ≡ Some (Spread done) = h in absurd (let u : ⊥ = cc in u)
spread-back n l done (Some (column.Filling d m)) h = let z : Some (Filling d l) ≡ Some (Spread done) = h in absurd (let u : ⊥ = cc in u)
spread-back n l done (Some column.Spread) h = refl

filling-back : (n e : ℕ) (l done : List Bool) (o : Option Column) → option_map (state_set n l) o ≡ Some (Filling e done) → passes is_set_filling o ≡ true
filling-back n e l done None h = let z : None ≡ Some (Filling e done) = h in absurd (let u : ⊥ = cc in u)
filling-back n e l done (Some (column.Live d)) h = let z : Some (Live d) ≡ Some (Filling e done) = h in absurd (let u : ⊥ = cc in u)
filling-back n e l done (Some column.Dead) h = let z : Some Dead ≡ Some (Filling e done) = h in absurd (let u : ⊥ = cc in u)
filling-back n e l done (Some (column.Filling d m)) h = refl
filling-back n e l done (Some column.Spread) h = let z : Some (Spread (all_done n)) ≡ Some (Filling e done) = h in absurd (let u : ⊥ = cc in u)

pub set-spread : (y : Shape) (columns : List Column) (c : ℕ) (done : List Bool) → slice_get (states_of y columns) c ≡ Some (Spread done) → passes is_set_spread (slice_get columns c) ≡ true
set-spread y columns c done h = spread-back y.stripes (filled_in y columns) done (slice_get columns c) (sym (slice_get-map (state_set y.stripes (filled_in y columns)) columns c) ∙ h)

pub set-filling : (y : Shape) (columns : List Column) (c d : ℕ) (done : List Bool) → slice_get (states_of y columns) c ≡ Some (Filling d done) → passes is_set_filling (slice_get columns c) ≡ true
set-filling y columns c d done h = filling-back y.stripes d (filled_in y columns) done (slice_get columns c) (sym (slice_get-map (state_set y.stripes (filled_in y columns)) columns c) ∙ h)

module _ {L D : Type 0} (lay : LayoutGhosts L) (disk : DiskGhosts D) (setup : Setup L D) (given : IsSetup lay disk setup) where
  abbrev y : Shape
  y = lay.shape setup.layout

  -- the size of a device that is there
  large : (d : ℕ) (x : D) → slice_get setup.devices.items d ≡ Some (Some x) → size_of disk setup.devices.items d ≡ disk.size x
  large d x is =
      ap (λ (o : Option D). option_map_or disk.size o 0)
      (device_at-get setup.devices.items d None (slice_get_within setup.devices.items d (Some x) is) ∙ get_or_from_slice_get setup.devices.items d (Some x) None is)

  pub array-of : IsArray disk y setup.columns.items setup.devices.items
  array-of = record {
    entries = given.entries;
    order = record {
      one_column = given.one_column;
      one_filling = λ c k d e done other h j. count_at_most is_set_filling setup.columns.items given.filling c k (set-filling y setup.columns.items c d done h) (set-filling y setup.columns.items k e other j);
      one_spread = λ c k done other h j. count_at_most is_set_spread setup.columns.items given.spread c k (set-spread y setup.columns.items c done h) (set-spread y setup.columns.items k other j);
    };
    there = λ c d has. let t = given.there c d has in let size = large d t.0 t.1 in let room = t.2 in omega (arith, size, room);
  }

  pub settable-of : IsSettable y setup.columns.items
  settable-of = record { entries = given.entries; filling = given.filling; spread = given.spread }

  -- ## Labels

  there-at : (d : ℕ) (x : D) → slice_get setup.devices.items d ≡ Some (Some x) → IsSome (device_at setup.devices.items d)
  there-at d x is =
      ap (λ (o : Option D). is_some o) (device_at-get setup.devices.items d None (slice_get_within setup.devices.items d (Some x) is) ∙ get_or_from_slice_get setup.devices.items d (Some x) None is)

  pub labels-of : length setup.columns.items ≤ 32 → All (IsNumbered (length setup.columns.items)) setup.columns.items → CanBeLabelled disk setup.columns.items setup.devices.items
  labels-of few numbered = record {
    have = record {
      there = λ c d live. let t = given.there c d (has_live y setup.columns.items c d live) in there-at d t.0 t.1;
      apart = λ c k d one two. given.one_column c k d (has_live y setup.columns.items c d one) (has_live y setup.columns.items k d two);
    };
    sized = λ c d live. let size = array-of.there c d (has_live y setup.columns.items c d live) in omega (arith, size);
    columns_most = few;
    numbered = numbered;
  }
