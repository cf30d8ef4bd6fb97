-- Where units stand, by a list of columns as they are set.
use Rattle.std.proofs.Common.{◌≡◌, ◌⊎◌, ℕ, zero, suc, ◌+◌, ◌*◌, ◌<◌, ◌≤◌, List, [], ◌∷◌, length, length-set, true, false, Option, Some, None, slice_get, slice_set, inl, inr, refl, sym, ap, ap₂, ◌∙◌, subst, arith}
use Rattle.std.proofs.Math.Nat.{mul-le-mul_right}
use Rattle.std.proofs.lemmas.Bool.{cases_Bool, cases_eq, cond-true, cond-false}
use Rattle.std.proofs.lemmas.List.{length-map}
use Rattle.std.proofs.lemmas.Option.{slice_get-get_or}
use Rattle.blk_disk.specs.declared.disk.Disk.{Ghosts}
use Rattle.blk_disk.specs.Devices.{size_of, Changes}
use Rattle.blk_disk.proofs.DeviceLaws.{changes_size}
use Rattle.lay_core.specs.Layout.{Shape, IsLayout}
use Rattle.eng_cols.specs.declared.column.Column.{Column}
use Rattle.eng_cols.specs.declared.column.Column.TheVariants as column
use Rattle.eng_cols.specs.declared.spot.Spot.{Spot}
use Rattle.eng_cols.specs.Cols.{ColumnState, Dead, AtMostOne, HasDevice, InOrder, is_set_filling, is_set_spread, is_spread, passes, state_set}
use Rattle.eng_cols.specs.Changes.{killed}
use Rattle.eng_cols.specs.Seats.{is_available, seat, spot}
use Rattle.eng_cols.specs.Stripes.{filled_in, spreads, states_of}
use Rattle.eng_cols.specs.Fewer.{DieApart}
use Rattle.eng_cols.proofs.Lists.{get_set_either, get_set_other, get_set_same}
use Rattle.eng_cols.proofs.Fewer.{states-at, states-same, states-spread}
use Rattle.eng_cols.proofs.Spots.{available-seat, seat-within, seat-device}
use Rattle.raid_recon.specs.Array.{AreSeated, IsArray}

no : {A : Type 0} → false ≡ true → A
no h = absurd (let u : ⊥ = cc in u)

-- an available unit stands at its seat, and a missing one nowhere
pub spot-seat : (y : Shape) (cols : List ColumnState) (s i : ℕ) → is_available y cols s i ≡ true → spot y cols s i ≡ seat y cols s i
spot-seat y cols s i h = cond-true (is_available y cols s i) (seat y cols s i) None h

pub spot-none : (y : Shape) (cols : List ColumnState) (s i : ℕ) → spot y cols s i ≡ None → is_available y cols s i ≡ false
spot-none y cols s i h = elim (cases_Bool (is_available y cols s i)) [
  | inl e ↦ let at = available-seat y cols s i e in let z : None ≡ Some at.0 = sym h ∙ spot-seat y cols s i e ∙ at.1 in absurd (let u : ⊥ = cc in u)
  | inr e ↦ e
]

pub spot-some : (y : Shape) (cols : List ColumnState) (s i : ℕ) (at : Spot) → spot y cols s i ≡ Some at → is_available y cols s i ≡ true
spot-some y cols s i at h = elim (cases_Bool (is_available y cols s i)) [
  | inl e ↦ e
  | inr e ↦ let z : None ≡ Some at = sym (cond-false (is_available y cols s i) (seat y cols s i) None e) ∙ h in absurd (let u : ⊥ = cc in u)
]

-- ## Columns of which one died

-- where the states are in order at most one column is filling
one-filling : (y : Shape) (columns : List Column) → InOrder (states_of y columns) → AtMostOne is_set_filling columns
one-filling y columns order c k h j =
    let a = there c h in
    let b = there k j in
    order.one_filling c k a.0 b.0 (filled_in y columns) (filled_in y columns) (states-at y columns c _ a.2) (states-at y columns k _ b.2)
  where
    there : (c : ℕ) → passes is_set_filling (slice_get columns c) ≡ true → (d : ℕ) × (m : ℕ) × (slice_get columns c ≡ Some (column.Filling d m))
    there c h = go (slice_get columns c) refl h
      where
        go : (o : Option Column) → slice_get columns c ≡ o → passes is_set_filling o ≡ true → (d : ℕ) × (m : ℕ) × (slice_get columns c ≡ Some (column.Filling d m))
        go (Some (column.Filling d m)) e h = (d, m, e)
        go (Some (column.Live d)) e h = no h
        go (Some column.Dead) e h = no h
        go (Some column.Spread) e h = no h
        go None e h = no h

-- a column with a device isn't spread
pub device-unspread : (y : Shape) (columns : List Column) (c d : ℕ) → HasDevice (states_of y columns) c d → spreads columns c ≡ false
device-unspread y columns c d has = elim (cases_Bool (spreads columns c)) [
  | inr e ↦ e
  | inl e ↦ let s = states-spread y columns c ∙ e in elim has [
    | inl h ↦ no (sym (ap (passes is_spread) h) ∙ s)
    | inr h ↦ no (sym (ap (passes is_spread) h.1) ∙ s)
  ]
]

same-list : (xs ys : List ColumnState) → length xs ≡ length ys → ((i : ℕ) → slice_get xs i ≡ slice_get ys i) → xs ≡ ys
same-list [] [] n each = refl
same-list [] (y ∷ ys) n each = absurd (omega (arith, n))
same-list (x ∷ xs) [] n each = absurd (omega (arith, n))
same-list (x ∷ xs) (y ∷ ys) n each = let first : Some x ≡ Some y = each 0 in let e : x ≡ y = cc in ap₂ (λ z (zs : List ColumnState). z ∷ zs) e (same-list xs ys (omega (arith, n)) (λ i. each (suc i)))

set-past : {X : Type 0} (xs : List X) (c : ℕ) (x : X) → length xs ≤ c → slice_set xs c x ≡ xs
set-past [] c x le = refl
set-past (z ∷ xs) zero x le = absurd (omega (arith, le))
set-past (z ∷ xs) (suc c) x le = ap (λ l. z ∷ l) (set-past xs c x (omega (arith, le)))

-- The states behind a death: a column that wasn't spread leaves the one that is filling its stripes.
pub states-killed : (y : Shape) (columns : List Column) (c : ℕ) → InOrder (states_of y columns) → spreads columns c ≡ false → states_of y (slice_set columns c column.Dead) ≡ killed (states_of y columns) c
states-killed y columns c order unspread = elim (cases_le (length columns) c) [
  | inl le ↦
      ap (states_of y) (set-past columns c column.Dead le)
      ∙ sym (set-past (states_of y columns) c Dead (omega (arith, le, count columns)))
  | inr lt ↦ same-list (states_of y new) (killed (states_of y columns) c)
      (omega (arith, count new, count columns, length-set columns c column.Dead, length-set (states_of y columns) c Dead)) (each lt)
]
  where
    cases_le : (a b : ℕ) → (a ≤ b) ⊎ (b < a)
    cases_le a b = search (arith)

    new : List Column
    new = slice_set columns c column.Dead

    count : (xs : List Column) → length (states_of y xs) ≡ length xs
    count xs = length-map xs (state_set y.stripes (filled_in y xs))

    apart : DieApart columns (slice_set columns c column.Dead)
    apart = record {
      each = λ k. elim (get_set_either columns c k column.Dead) [ inl dead ↦ inr dead | inr same ↦ inl same ];
      spread = λ k d m is j. elim (get_set_either columns c j column.Dead) [
        | inr same ↦ ap (passes is_set_spread) same
        | inl dead ↦ elim (cases_eq j c) [
          | inl e ↦ ap (passes is_set_spread) dead ∙ sym (ap (spreads columns) e ∙ unspread)
          | inr ne ↦ ap (passes is_set_spread) (get_set_other columns c j column.Dead ne)
        ]
      ];
    }

    each : c < length columns → (i : ℕ) → slice_get (states_of y (slice_set columns c column.Dead)) i ≡ slice_get (killed (states_of y columns) c) i
    each lt i = elim (cases_eq i c) [
      | inl e ↦
          states-at y (slice_set columns c column.Dead) i column.Dead (ap (slice_get (slice_set columns c column.Dead)) e ∙ get_set_same columns c _ column.Dead (slice_get-get_or columns c column.Dead lt))
          ∙ sym (ap (slice_get (killed (states_of y columns) c)) e ∙ get_set_same (states_of y columns) c _ Dead (slice_get-get_or (states_of y columns) c Dead (omega (arith, lt, count columns))))
      | inr ne ↦
          states-same y columns (slice_set columns c column.Dead) apart (one-filling y columns order) i (get_set_other columns c i column.Dead ne)
          ∙ sym (get_set_other (states_of y columns) c i Dead ne)
    ]

-- a unit's sectors lie on its device
pub seat-fits : {D : Type 0} (g : Ghosts D) (y : Shape) (cols : List ColumnState) (devices : List (Option D)) (s i : ℕ) (at : Spot) → IsLayout y → AreSeated g y cols devices → s < y.stripes → i < y.width → seat y cols s i ≡ Some at
    → 64 + at.row * y.unit_sectors + y.unit_sectors ≤ size_of g devices at.device
seat-fits g y cols devices s i at layout seated sw iw is =
    let row : suc at.row ≤ y.rows = (seat-within y cols s i at layout sw iw is).1 in
    let most : suc at.row * y.unit_sectors ≤ y.rows * y.unit_sectors = mul-le-mul_right y.unit_sectors row in
    omega (arith, seated.there at.column at.device (seat-device y cols s i at is), most)

-- columns stay seated as long as their devices have their sizes
pub seated-kept : {D : Type 0} (g : Ghosts D) (may : ℕ → ℕ → Type 0) (y : Shape) (cols : List ColumnState) (old new : List (Option D)) → AreSeated g y cols old → Changes g may old new → AreSeated g y cols new
seated-kept g may y cols old new seated h = record {
  order = seated.order;
  there = λ c d has. omega (arith, seated.there c d has, changes_size g may old new d h);
}

-- those of an array are
pub array-seated : {D : Type 0} (g : Ghosts D) (y : Shape) (columns : List Column) (cols : List ColumnState) (devices : List (Option D)) → cols ≡ states_of y columns → IsArray g y columns devices → AreSeated g y cols devices
array-seated g y columns cols devices same array = subst (λ c. AreSeated g y c devices) (sym same) (record { order = array.order; there = array.there })

-- an array stays one as long as its devices have their sizes
pub array-kept : {D : Type 0} (g : Ghosts D) (may : ℕ → ℕ → Type 0) (y : Shape) (columns : List Column) (old new : List (Option D)) → IsArray g y columns old → Changes g may old new → IsArray g y columns new
array-kept g may y columns old new array h = record {
  entries = array.entries;
  order = array.order;
  there = λ c d has. omega (arith, array.there c d has, changes_size g may old new d h);
}
