-- Columns of which one is dead, and the others are kept.
use Rattle.std.proofs.Common.{◌≡◌, ◌⊎◌, ◌∙◌, ℕ, ◌+◌, ◌<◌, ◌≤◌, Bool, true, false, List, [], ◌∷◌, length, length-set, get_or, Option, Some, None, refl, sym, ap, subst, inl, inr, arith}
use Rattle.std.specs.Prelude.{All, count_by, is_some, option_map, slice_get, slice_set, zero, suc}
use Rattle.std.proofs.lemmas.Bool.{cases_eq, cases_lt}
use Rattle.std.proofs.lemmas.List.{length-map}
use Rattle.std.proofs.lemmas.List.Elements.{All-from_get_or, All-get_or}
use Rattle.std.proofs.lemmas.Option.{slice_get-get_or, slice_get-map}
use Rattle.blk_disk.specs.declared.disk.Disk.{Ghosts}
use Rattle.lay_core.specs.Layout.{Shape}
use Rattle.eng_cols.specs.declared.column.Column.{Column}
use Rattle.eng_cols.specs.declared.column.Column.TheVariants as column
use Rattle.eng_cols.specs.declared.spot.Loss.{Loss}
use Rattle.eng_cols.specs.Changes.{killed}
use Rattle.eng_cols.specs.Cols.{ColumnState, Columns, Live, Dead, Filling, Spread, HasDevice, IsFor, column_with, device_set, is_done, is_done_on, is_set_filling, is_set_spread, passes, state_set, HasDeviceOn}
use Rattle.eng_cols.specs.Lost.{NotLost}
use Rattle.eng_cols.specs.Seats.{HasStripeLeft, IsWhole}
use Rattle.eng_cols.specs.Settable.{IsSettable}
use Rattle.eng_cols.specs.Stripes.{filled_in, leading, states_of}
use Rattle.eng_cols.proofs.Lists.{count_at_most, get_set_either, get_set_other, get_set_same}
use Rattle.top_close.specs.Closes.{FillingEnds, SpreadEnds}
use Rattle.top_close.specs.Dying.{OnlyDie}
use Rattle.top_close.specs.Ended.{IsLossBy}
use Rattle.top_close.proofs.ClosingLaws.{closing_lost}
use Rattle.top_close.proofs.Counts.{counted, nothing, one_if, some}
use Rattle.top_close.proofs.DyingLaws.{lost_no_less}
use Rattle.top_rounds.specs.Labels.{IsNumbered}
use Rattle.top_rounds.specs.Passes.{CanBeLabelled}
use Rattle.top_acts.specs.Begun.{CanAct}
use Rattle.top_acts.specs.Alive.{IsWithout}
use Rattle.top_acts.proofs.Having.{has_live}
use Rattle.top_acts.proofs.Named.{live_of}
use Rattle.top_acts.proofs.Tried.{not_lost}
use Rattle.eng_cols.proofs.Words.{all_done}

-- ## A column as it is kept, by what it was

abbrev IsKeptOf : Option Column → Option ColumnState → Type 0
IsKeptOf (Some (column.Live d)) was = (was ≡ Some (Live d)) ⊎ ((l : List Bool) × (was ≡ Some (Filling d l)))
IsKeptOf (Some (column.Filling d m)) was = (l : List Bool) × (was ≡ Some (Filling d l))
IsKeptOf (Some column.Spread) was = (l : List Bool) × (was ≡ Some (Spread l))
IsKeptOf (Some column.Dead) was = Unit {0}
IsKeptOf None was = Unit {0}

-- what is kept of a dead one is so of any
of_dead : (x : Option Column) (was : Option ColumnState) → IsKeptOf x (Some Dead) → IsKeptOf x was
of_dead (Some (column.Live d)) was (inl h) = absurd (let u : ⊥ = cc in u)
of_dead (Some (column.Live d)) was (inr h) = let e = h.1 in absurd (let u : ⊥ = cc in u)
of_dead (Some (column.Filling d m)) was h = let e = h.1 in absurd (let u : ⊥ = cc in u)
of_dead (Some column.Spread) was h = let e = h.1 in absurd (let u : ⊥ = cc in u)
of_dead (Some column.Dead) was h = tt
of_dead None was h = tt

ends_kept : (y : Shape) (cols : List ColumnState) (k : ℕ) (x : Option Column) (mid : Option ColumnState) → FillingEnds y cols k mid x → IsKeptOf x mid
ends_kept y cols k x (Some (Live d)) e = subst (λ o. IsKeptOf o (Some (Live d))) (sym e) (inl refl)
ends_kept y cols k x (Some Dead) e = subst (λ o. IsKeptOf o (Some Dead)) (sym e) tt
ends_kept y cols k x (Some (Filling d l)) (inl e) = subst (λ o. IsKeptOf o (Some (Filling d l))) (sym e.1) (inr (l, refl))
ends_kept y cols k x (Some (Filling d l)) (inr e) = subst (λ o. IsKeptOf o (Some (Filling d l))) (sym e.1) (l, refl)
ends_kept y cols k x (Some (Spread l)) e = subst (λ o. IsKeptOf o (Some (Spread l))) (sym e) (l, refl)
ends_kept y cols k x None e = subst (λ o. IsKeptOf o None) (sym e) tt

spread_ends : (y : Shape) (cols : List ColumnState) (k : ℕ) (was mid : Option ColumnState) → SpreadEnds y cols k was mid → (mid ≡ was) ⊎ (mid ≡ Some Dead)
spread_ends y cols k (Some (Live d)) mid e = inl e
spread_ends y cols k (Some Dead) mid e = inl e
spread_ends y cols k (Some (Filling d l)) mid e = inl e
spread_ends y cols k (Some (Spread l)) mid (inl e) = inl e.1
spread_ends y cols k (Some (Spread l)) mid (inr e) = inr e.1
spread_ends y cols k None mid e = inl e

-- ## As it is read

-- one that is filling and whole is live
pub kept_whole : (y : Shape) (cols : List ColumnState) (c n d m : ℕ) (o : Option ColumnState) → option_map (column_with n) o ≡ Some (column.Filling d m) → IsWhole y cols c → FillingEnds y cols c o (Some (column.Live d))
kept_whole y cols c n d m (Some (Live e)) h whole = absurd (let u : ⊥ = cc in u)
kept_whole y cols c n d m (Some Dead) h whole = absurd (let u : ⊥ = cc in u)
kept_whole y cols c n d m (Some (Filling e l)) h whole = let same : d ≡ e = cc in inl (whole, ap (λ k. Some (column.Live k)) same)
kept_whole y cols c n d m (Some (Spread l)) h whole = absurd (let u : ⊥ = cc in u)
kept_whole y cols c n d m None h whole = absurd (let u : ⊥ = cc in u)

pub kept_left : (y : Shape) (cols : List ColumnState) (c d m : ℕ) (o : Option ColumnState) → option_map (column_with (leading y cols c)) o ≡ Some (column.Filling d m) → HasStripeLeft y cols c → FillingEnds y cols c o (Some (column.Filling d m))
kept_left y cols c d m (Some (Live e)) h left = absurd (let u : ⊥ = cc in u)
kept_left y cols c d m (Some Dead) h left = absurd (let u : ⊥ = cc in u)
kept_left y cols c d m (Some (Filling e l)) h left = inr (left, sym h)
kept_left y cols c d m (Some (Spread l)) h left = absurd (let u : ⊥ = cc in u)
kept_left y cols c d m None h left = absurd (let u : ⊥ = cc in u)

pub kept_other : (y : Shape) (cols : List ColumnState) (c n : ℕ) (x : Column) (o : Option ColumnState) → option_map (column_with n) o ≡ Some x → ((d m : ℕ) → x ≡ column.Filling d m → ⊥) → FillingEnds y cols c o (Some x)
kept_other y cols c n x (Some (Live e)) h not = sym h
kept_other y cols c n x (Some Dead) h not = sym h
kept_other y cols c n x (Some (Filling e l)) h not = let same : x ≡ column.Filling e n = cc in absurd (not e n same)
kept_other y cols c n x (Some (Spread l)) h not = sym h
kept_other y cols c n x None h not = absurd (let u : ⊥ = cc in u)

-- what a state says of how the column is set
set_filling : (n e : ℕ) (f l : List Bool) (o : Option Column) → option_map (state_set n f) o ≡ Some (Filling e l) → passes is_set_filling o ≡ true
set_filling n e f l (Some (column.Live d)) h = absurd (let u : ⊥ = cc in u)
set_filling n e f l (Some column.Dead) h = absurd (let u : ⊥ = cc in u)
set_filling n e f l (Some (column.Filling d m)) h = refl
set_filling n e f l (Some column.Spread) h = absurd (let u : ⊥ = cc in u)
set_filling n e f l None h = absurd (let u : ⊥ = cc in u)

set_spread : (n : ℕ) (f l : List Bool) (o : Option Column) → option_map (state_set n f) o ≡ Some (Spread l) → passes is_set_spread o ≡ true
set_spread n f l (Some (column.Live d)) h = absurd (let u : ⊥ = cc in u)
set_spread n f l (Some column.Dead) h = absurd (let u : ⊥ = cc in u)
set_spread n f l (Some (column.Filling d m)) h = absurd (let u : ⊥ = cc in u)
set_spread n f l (Some column.Spread) h = refl
set_spread n f l None h = absurd (let u : ⊥ = cc in u)

state_filling : (y : Shape) (cs : List Column) (k e : ℕ) (l : List Bool) → slice_get (states_of y cs) k ≡ Some (Filling e l) → passes is_set_filling (slice_get cs k) ≡ true
state_filling y cs k e l h = set_filling y.stripes e (filled_in y cs) l (slice_get cs k) (sym (slice_get-map (state_set y.stripes (filled_in y cs)) cs k) ∙ h)

state_spread : (y : Shape) (cs : List Column) (k : ℕ) (l : List Bool) → slice_get (states_of y cs) k ≡ Some (Spread l) → passes is_set_spread (slice_get cs k) ≡ true
state_spread y cs k l h = set_spread y.stripes (filled_in y cs) l (slice_get cs k) (sym (slice_get-map (state_set y.stripes (filled_in y cs)) cs k) ∙ h)

-- ## One column is dead, and each is kept

all_kept : (n s : ℕ) → s < n → is_done (all_done n) s ≡ true
all_kept zero s lt = absurd (omega (arith, lt))
all_kept (suc n) zero lt = refl
all_kept (suc n) (suc s) lt = all_kept n s (omega (arith, lt))

spread_all : (n : ℕ) (f l : List Bool) (o : Option Column) → option_map (state_set n f) o ≡ Some (Spread l) → (s : ℕ) → s < n → is_done l s ≡ true
spread_all n f l (Some (column.Live d)) h s lt = absurd (let u : ⊥ = cc in u)
spread_all n f l (Some column.Dead) h s lt = absurd (let u : ⊥ = cc in u)
spread_all n f l (Some (column.Filling d m)) h s lt = absurd (let u : ⊥ = cc in u)
spread_all n f l (Some column.Spread) h s lt = let same : l ≡ all_done n = cc in ap (λ k. is_done k s) same ∙ all_kept n s lt
spread_all n f l None h s lt = absurd (let u : ⊥ = cc in u)

-- one that is spread is whole, and stays
spread_stays : (y : Shape) (columns : List Column) (c k : ℕ) → SpreadEnds y (killed (states_of y columns) c) k (slice_get (killed (states_of y columns) c) k) (slice_get (killed (states_of y columns) c) k)
spread_stays y columns c k = go (slice_get (killed (states_of y columns) c) k) refl
  where
    go : (o : Option ColumnState) → slice_get (killed (states_of y columns) c) k ≡ o → SpreadEnds y (killed (states_of y columns) c) k o o
    go (Some (Live d)) is = refl
    go (Some Dead) is = refl
    go (Some (Filling d l)) is = refl
    go (Some (Spread l)) is = inl (
      (λ s sw of. ap (λ o. is_done_on o s) is ∙ elim (get_set_either (states_of y columns) c k Dead) [
        | inl dead ↦ let z : Some Dead ≡ Some (Spread l) = sym dead ∙ is in absurd (let u : ⊥ = cc in u)
        | inr same ↦ spread_all y.stripes (filled_in y columns) l (slice_get columns k) (sym (slice_get-map (state_set y.stripes (filled_in y columns)) columns k) ∙ (sym same ∙ is)) s sw
      ]),
      refl,
    )
    go None is = refl

past_get : {X : Type 0} (xs : List X) (k : ℕ) → length xs ≤ k → slice_get xs k ≡ None
past_get [] k le = refl
past_get (x ∷ xs) zero le = absurd (omega (arith, le))
past_get (x ∷ xs) (suc k) le = past_get xs k (omega (arith, le))

pub without_is : (y : Shape) (columns after : List Column) (c : ℕ) (states : List ColumnState) → states ≡ killed (states_of y columns) c → length after ≡ length columns
    → ((k : ℕ) → k < length columns → FillingEnds y states k (slice_get states k) (slice_get after k)) → IsWithout y c columns after
without_is y columns after c states are count each =
    let cols = killed (states_of y columns) c in
    let long : length (killed (states_of y columns) c) ≡ length columns = length-set (states_of y columns) c Dead ∙ length-map columns (state_set y.stripes (filled_in y columns)) in
    record {
      entries = count;
      kept = record {
        mid = cols;
        count = refl;
        spread = spread_stays y columns c;
        filling = λ k. elim (cases_lt k (length columns)) [
          | inl lt ↦ subst (λ s. FillingEnds y s k (slice_get s k) (slice_get after k)) are (each k lt)
          | inr le ↦ subst (λ o. FillingEnds y (killed (states_of y columns) c) k o (slice_get after k)) (sym (past_get (killed (states_of y columns) c) k (omega (arith, le, long)))) (past_get after k (omega (arith, le, count)))
        ];
      };
    }

pub kept_more : (y : Shape) (states : List ColumnState) (cols : List Column) (n : ℕ) (x : Column) → n < length cols → ((k : ℕ) → k < n → FillingEnds y states k (slice_get states k) (slice_get cols k)) → FillingEnds y states n (slice_get states n) (Some x)
    → (k : ℕ) → k < n + 1 → FillingEnds y states k (slice_get states k) (slice_get (slice_set cols n x) k)
kept_more y states cols n x within so_far now k lt = elim (cases_eq k n) [
  | inl e ↦ subst (λ j. FillingEnds y states j (slice_get states j) (slice_get (slice_set cols n x) j)) (sym e)
      (subst (FillingEnds y states n (slice_get states n)) (sym (get_set_same cols n _ x (slice_get-get_or cols n column.Dead within))) now)
  | inr ne ↦ subst (FillingEnds y states k (slice_get states k)) (sym (get_set_other cols n k x ne)) (so_far k (omega (arith, lt, ne)))
]

-- the judge that was set to these columns, of which one was killed
pub set_for : (y : Shape) (columns : List Column) (c : ℕ) (old set dead : Columns) → set ≡ record old { states = states_of y columns } → dead ≡ record set { states = killed set.states c } → length columns ≡ y.columns → IsFor y old → IsFor y dead × (dead.states ≡ killed (states_of y columns) c)
set_for y columns c old set dead is_set is_dead entries for =
    let states : dead.states ≡ killed (states_of y columns) c = ap (λ (j : Columns). j.states) is_dead ∙ ap (λ (j : Columns). killed j.states c) is_set in (
      record {
        columns = ap (λ (s : List ColumnState). length s) states ∙ (length-set (states_of y columns) c Dead ∙ (length-map columns (state_set y.stripes (filled_in y columns)) ∙ entries));
        stripes = ap (λ (j : Columns). j.stripes) is_dead ∙ (ap (λ (j : Columns). j.stripes) is_set ∙ for.stripes);
      },
      states,
    )

-- the number of a column's device
numbered_by : (n d : ℕ) (x : Column) → device_set (Some x) ≡ Some d → IsNumbered n x → d < n + 8
numbered_by n d (column.Live e) h is = let same : e ≡ d = cc in omega (arith, same, is)
numbered_by n d column.Dead h is = absurd (let u : ⊥ = cc in u)
numbered_by n d (column.Filling e m) h is = let same : e ≡ d = cc in omega (arith, same, is)
numbered_by n d column.Spread h is = absurd (let u : ⊥ = cc in u)

-- ## Columns that are kept

count_less : (p : Column → Bool) (xs zs : List Column) → length zs ≡ length xs → ((i : ℕ) → passes p (slice_get zs i) ≡ true → passes p (slice_get xs i) ≡ true) → count_by p zs ≤ count_by p xs
count_less p [] [] long each = omega arith
count_less p [] (z ∷ zs) long each = absurd (omega (arith, long))
count_less p (x ∷ xs) [] long each = absurd (omega (arith, long))
count_less p (x ∷ xs) (z ∷ zs) long each =
    let rest = count_less p xs zs (omega (arith, long)) (λ i. each (suc i)) in
    omega (arith, counted p x xs, counted p z zs, rest, one (p x) (p z) (each 0))
  where
    one : (a b : Bool) → (b ≡ true → a ≡ true) → one_if b ≤ one_if a
    one a false h = let z = nothing false refl in omega (arith, z)
    one a true h = let x = some a (h refl) in let z = some true refl in omega (arith, x, z)

module _ (y : Shape) (columns after : List Column) (c : ℕ) (w : IsWithout y c columns after) where
  was : (k : ℕ) → IsKeptOf (slice_get after k) (slice_get (states_of y columns) k)
  was k =
      let mid = slice_get w.kept.mid k in
      let x = slice_get after k in
      let of_mid = ends_kept y w.kept.mid k x mid (w.kept.filling k) in
      let of_killed : IsKeptOf x (slice_get (killed (states_of y columns) c) k) = elim (spread_ends y (killed (states_of y columns) c) k (slice_get (killed (states_of y columns) c) k) mid (w.kept.spread k)) [
        | inl same ↦ subst (IsKeptOf x) same of_mid
        | inr dead ↦ of_dead x (slice_get (killed (states_of y columns) c) k) (subst (IsKeptOf x) dead of_mid)
      ] in
      elim (get_set_either (states_of y columns) c k Dead) [
        | inl dead ↦ of_dead x (slice_get (states_of y columns) k) (subst (IsKeptOf x) dead of_killed)
        | inr same ↦ subst (IsKeptOf x) same of_killed
      ]

  -- no device is new
  pub device_was : (k d : ℕ) → HasDeviceOn after k d → HasDeviceOn columns k d
  device_was k d h = go (slice_get after k) h (was k)
    where
      go : (x : Option Column) → device_set x ≡ Some d → IsKeptOf x (slice_get (states_of y columns) k) → HasDeviceOn columns k d
      go (Some (column.Live e)) h (inl is) = let same : e ≡ d = cc in live_of y columns k d (inl (is ∙ ap (λ j. Some (Live j)) same))
      go (Some (column.Live e)) h (inr is) = let same : e ≡ d = cc in live_of y columns k d (inr (is.0, is.1 ∙ ap (λ j. Some (Filling j is.0)) same))
      go (Some (column.Filling e m)) h is = let same : e ≡ d = cc in live_of y columns k d (inr (is.0, is.1 ∙ ap (λ j. Some (Filling j is.0)) same))
      go (Some column.Spread) h is = absurd (let u : ⊥ = cc in u)
      go (Some column.Dead) h is = absurd (let u : ⊥ = cc in u)
      go None h is = absurd (let u : ⊥ = cc in u)

  -- ## What passes passed

  passes_filling : (k : ℕ) → passes is_set_filling (slice_get after k) ≡ true → passes is_set_filling (slice_get columns k) ≡ true
  passes_filling k h = go (slice_get after k) h (was k)
    where
      go : (x : Option Column) → passes is_set_filling x ≡ true → IsKeptOf x (slice_get (states_of y columns) k) → passes is_set_filling (slice_get columns k) ≡ true
      go (Some (column.Filling e m)) h is = state_filling y columns k e is.0 is.1
      go (Some (column.Live e)) h is = let z : false ≡ true = h in absurd (let u : ⊥ = cc in u)
      go (Some column.Spread) h is = let z : false ≡ true = h in absurd (let u : ⊥ = cc in u)
      go (Some column.Dead) h is = let z : false ≡ true = h in absurd (let u : ⊥ = cc in u)
      go None h is = let z : false ≡ true = h in absurd (let u : ⊥ = cc in u)

  passes_spread : (k : ℕ) → passes is_set_spread (slice_get after k) ≡ true → passes is_set_spread (slice_get columns k) ≡ true
  passes_spread k h = go (slice_get after k) h (was k)
    where
      go : (x : Option Column) → passes is_set_spread x ≡ true → IsKeptOf x (slice_get (states_of y columns) k) → passes is_set_spread (slice_get columns k) ≡ true
      go (Some column.Spread) h is = state_spread y columns k is.0 is.1
      go (Some (column.Live e)) h is = let z : false ≡ true = h in absurd (let u : ⊥ = cc in u)
      go (Some (column.Filling e m)) h is = let z : false ≡ true = h in absurd (let u : ⊥ = cc in u)
      go (Some column.Dead) h is = let z : false ≡ true = h in absurd (let u : ⊥ = cc in u)
      go None h is = let z : false ≡ true = h in absurd (let u : ⊥ = cc in u)

  pub settable : IsSettable y columns → IsSettable y after
  settable h =
      let filling = count_less is_set_filling columns after w.entries passes_filling in
      let spread = count_less is_set_spread columns after w.entries passes_spread in
      record { entries = w.entries ∙ h.entries; filling = omega (arith, filling, h.filling); spread = omega (arith, spread, h.spread) }

  -- one that was lost is lost
  pub without_lost : count_by is_set_filling columns ≤ 1 → NotLost y (states_of y after) → NotLost y (states_of y columns)
  without_lost few not =
      let filling = count_less is_set_filling columns after w.entries passes_filling in
      let one = count_at_most is_set_filling after (omega (arith, filling, few)) in
      let die : OnlyDie (states_of y columns) (killed (states_of y columns) c) = record {
        count = length-set (states_of y columns) c Dead;
        each = λ k. elim (get_set_either (states_of y columns) c k Dead) [ inl dead ↦ inr dead | inr same ↦ inl same ];
      } in
      lost_no_less y (states_of y columns) (killed (states_of y columns) c) die (closing_lost y (killed (states_of y columns) c) after w.kept one not)

  pub without_still : (before lost : Option Loss) → count_by is_set_filling columns ≤ 1 → IsLossBy y None (states_of y columns) before → is_some before ≡ true → IsLossBy y None (states_of y after) lost → is_some lost ≡ true
  without_still before None few was some is =
      let none = not_lost y (states_of y columns) before was (without_lost few is) in
      let z : false ≡ true = ap is_some (sym none) ∙ some in absurd (let u : ⊥ = cc in u)
  without_still before (Some loss) few was some is = refl

  numbered : All (IsNumbered (length columns)) columns → All (IsNumbered (length after)) after
  numbered all = subst (λ n. All (IsNumbered n) after) (sym w.entries) (All-from_get_or (IsNumbered (length columns)) after column.Dead (λ i within.
      let is : slice_get after i ≡ Some (get_or after i column.Dead) = slice_get-get_or after i column.Dead within in
      go i within (get_or after i column.Dead) is))
    where
      there : (i d : ℕ) → i < length after → HasDeviceOn after i d → d < length columns + 8
      there i d within h =
          let lt : i < length columns = omega (arith, within, w.entries) in
          let on : device_set (Some (get_or columns i column.Dead)) ≡ Some d = ap device_set (sym (slice_get-get_or columns i column.Dead lt)) ∙ device_was i d h in
          numbered_by (length columns) d (get_or columns i column.Dead) on (All-get_or (IsNumbered (length columns)) columns i column.Dead lt all)

      go : (i : ℕ) → i < length after → (x : Column) → slice_get after i ≡ Some x → IsNumbered (length columns) x
      go i within (column.Live d) is = there i d within (ap device_set is)
      go i within column.Dead is = tt
      go i within (column.Filling d m) is = there i d within (ap device_set is)
      go i within column.Spread is = tt

  module _ {D : Type 0} (g : Ghosts D) (devices : List (Option D)) where
    pub labels : CanBeLabelled g columns devices → CanBeLabelled g after devices
    labels can = record {
      have = record {
        there = λ k d h. can.have.there k d (device_was k d h);
        apart = λ k j d one other. can.have.apart k j d (device_was k d one) (device_was j d other);
      };
      sized = λ k d h. can.sized k d (device_was k d h);
      columns_most = omega (arith, w.entries, can.columns_most);
      numbered = numbered can.numbered;
    }

    pub acts : CanAct g y columns devices → CanAct g y after devices
    acts can =
        let set = settable can.settable in
        let had : (k d : ℕ) → HasDevice (states_of y after) k d → HasDevice (states_of y columns) k d = λ k d h. has_live y columns k d (device_was k d (live_of y after k d h)) in
        record {
          array = record {
            entries = w.entries ∙ can.array.entries;
            order = record {
              one_column = λ k j d h i. can.array.order.one_column k j d (had k d h) (had j d i);
              one_filling = λ k j d e done other h i. count_at_most is_set_filling after set.filling k j (state_filling y after k d done h) (state_filling y after j e other i);
              one_spread = λ k j done other h i. count_at_most is_set_spread after set.spread k j (state_spread y after k done h) (state_spread y after j other i);
            };
            there = λ k d h. can.array.there k d (had k d h);
          };
          labels = labels can.labels;
          settable = set;
        }
