-- Columns of which some died: what those of the end have, those of before had.
use Rattle.std.proofs.Common.{◌≡◌, ◌⊎◌, ℕ, List, Bool, Option, Some, None, inl, inr, subst, arith}
use Rattle.std.proofs.lemmas.Bool.{cases_Bool, cases_eq}
use Rattle.std.specs.Prelude.{◌<◌, ◌≤◌, suc, zero, count_by, slice_get, true, false}
use Rattle.blk_disk.specs.declared.disk.Disk.{Ghosts}
use Rattle.blk_disk.specs.Devices.{Changes}
use Rattle.blk_disk.proofs.DeviceLaws.{changes_size}
use Rattle.lay_core.specs.declared.place.Place.{Place}
use Rattle.lay_core.specs.Layout.{Shape}
use Rattle.eng_cols.specs.declared.column.Column.{Column}
use Rattle.eng_cols.specs.declared.spot.Spot.{Spot}
use Rattle.eng_cols.specs.Cols.{ColumnState, Live, Dead, Filling, Spread, HasDevice, is_set_filling}
use Rattle.eng_cols.specs.Deaths.{Dies}
use Rattle.eng_cols.specs.Seats.{is_available, open_on, seat_on, seat}
use Rattle.eng_cols.specs.Fewer.{DieApart}
use Rattle.eng_cols.specs.Stripes.{states_of}
use Rattle.eng_cols.proofs.Lists.{count_at_most}
use Rattle.raid_recon.specs.Array.{IsArray, IsComplete, Lacks}
use Rattle.raid_recon.proofs.Backs.{Back}
use Rattle.top_close.specs.Dying.{OnlyDie}
use Rattle.top_close.proofs.DyingLaws.{columns_die, unit_back}
use Rattle.eng_cols.proofs.Words.{spare_open}

module _ (y : Shape) (old new : List ColumnState) (die : OnlyDie old new) where
  -- what holds of a column and of no dead one held before
  was : (P : Option ColumnState → Type 0) (c : ℕ) → (P (Some Dead) → ⊥) → P (slice_get new c) → P (slice_get old c)
  was P c dead h = elim (die.each c) [ inl same ↦ subst P same h | inr is ↦ absurd (dead (subst P is h)) ]

  no_open : (p : Place) (at : Spot) → open_on (Some Dead) p ≡ Some at → ⊥
  no_open p at h = let z : None ≡ Some at = h in let u : ⊥ = cc in u

  spare_was : (o : Option Place) (at : Spot) → spare_open new o ≡ Some at → spare_open old o ≡ Some at
  spare_was None at h = h
  spare_was (Some p) at h = was (λ o. open_on o p ≡ Some at) p.column (no_open p at) h

  no_seat : (p : Place) (s : ℕ) (at : Spot) → seat_on y new (Some Dead) p s ≡ Some at → ⊥
  no_seat p s at h = let z : None ≡ Some at = h in let u : ⊥ = cc in u

  seat_on_was : (o : Option ColumnState) (p : Place) (s : ℕ) (at : Spot) → seat_on y new o p s ≡ Some at → seat_on y old o p s ≡ Some at
  seat_on_was (Some (Live device)) p s at h = h
  seat_on_was (Some (Filling device done)) p s at h = h
  seat_on_was (Some Dead) p s at h = h
  seat_on_was None p s at h = h
  seat_on_was (Some (Spread done)) p s at h = spare_was (y.spare s) at h

  seat_was : (s i : ℕ) (at : Spot) → seat y new s i ≡ Some at → seat y old s i ≡ Some at
  seat_was s i at h = seat_on_was (slice_get old (y.place s i).column) (y.place s i) s at
      (was (λ o. seat_on y new o (y.place s i) s ≡ Some at) (y.place s i).column (no_seat (y.place s i) s at) h)

  no_device : (d : ℕ) → (Some Dead ≡ Some (Live d)) ⊎ ((done : List Bool) × (Some Dead ≡ Some (Filling d done))) → ⊥
  no_device d (inl h) = let u : ⊥ = cc in u
  no_device d (inr h) = let e = h.1 in let u : ⊥ = cc in u

  device_was : (c d : ℕ) → HasDevice new c d → HasDevice old c d
  device_was c d h = was (λ (o : Option ColumnState). (o ≡ Some (Live d)) ⊎ ((done : List Bool) × (o ≡ Some (Filling d done)))) c (no_device d) h

  no_filling : (d : ℕ) (done : List Bool) → Some Dead ≡ Some (Filling d done) → ⊥
  no_filling d done h = let u : ⊥ = cc in u

  no_spread : (done : List Bool) → Some Dead ≡ Some (Spread done) → ⊥
  no_spread done h = let u : ⊥ = cc in u

  pub back : Back y new old
  back = record {
    seats = seat_was;
    available = λ s i h. (unit_back y old new die s i h).0;
    devices = device_was;
    order = λ order. record {
      one_column = λ c k d h i. order.one_column c k d (device_was c d h) (device_was k d i);
      one_filling = λ c k d e done other h i. order.one_filling c k d e done other
          (was (λ (o : Option ColumnState). o ≡ Some (Filling d done)) c (no_filling d done) h)
          (was (λ (o : Option ColumnState). o ≡ Some (Filling e other)) k (no_filling e other) i);
      one_spread = λ c k done other h i. order.one_spread c k done other
          (was (λ (o : Option ColumnState). o ≡ Some (Spread done)) c (no_spread done) h)
          (was (λ (o : Option ColumnState). o ≡ Some (Spread other)) k (no_spread other) i);
    };
  }

-- whatever they died of
pub died : (cause : ℕ → Type 0) (y : Shape) (columns after : List Column) → Dies cause columns after → DieApart columns after → count_by is_set_filling columns ≤ 1 → Back y (states_of y after) (states_of y columns)
died cause y columns after dies apart few = back y (states_of y columns) (states_of y after) (columns_die cause y columns after dies apart (count_at_most is_set_filling columns few))

-- and they are an array still
pub array_after : {D : Type 0} (g : Ghosts D) (y : Shape) (cause : ℕ → Type 0) (may : ℕ → ℕ → Type 0) (columns after : List Column) (old new : List (Option D)) → Dies cause columns after → DieApart columns after → count_by is_set_filling columns ≤ 1 → Changes g may old new → IsArray g y columns old → IsArray g y after new
array_after g y cause may columns after old new dies apart few changes array =
    let b = died cause y columns after dies apart few in
    record {
      entries = omega (arith, dies.count, array.entries);
      order = b.order array.order;
      there = λ c d has. omega (arith, array.there c d (b.devices c d has), changes_size g may old new d changes);
    }

-- a stripe lacks no unit, or one
pub complete_or : (y : Shape) (cols : List ColumnState) (s : ℕ) → IsComplete y cols s ⊎ Lacks y cols s
complete_or y cols s = elim (go y.width) [ inl all ↦ inl all | inr one ↦ inr one ]
  where
    go : (n : ℕ) → ((i : ℕ) → i < n → is_available y cols s i ≡ true) ⊎ ((i : ℕ) × (i < n) × (is_available y cols s i ≡ false))
    go zero = inl (λ i within. absurd (omega (arith, within)))
    go (suc n) = elim (cases_Bool (is_available y cols s n)) [
      | inr gone ↦ inr (n, omega arith, gone)
      | inl here ↦ elim (go n) [
        | inr one ↦ inr (one.0, omega (arith, one.1), one.2)
        | inl all ↦ inl (λ i within. elim (cases_eq i n) [
          | inl e ↦ subst (λ k. is_available y cols s k ≡ true) (let f : n ≡ i = omega (arith, e) in f) here
          | inr ne ↦ all i (omega (arith, within, ne))
        ])
      ]
    ]
