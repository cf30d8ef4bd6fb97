-- A column that is failed beside one that is filling may leave that with fewer stripes. An array that outlives the call isn't lost by that.
use Rattle.std.specs.Prelude.{◌≡◌, ◌⊎◌, ℕ, zero, suc, List, [], ◌∷◌, length, Bool, true, false, if◌then◌else◌, Option, Some, None, option_map, count_by, slice_get}
use Rattle.std.proofs.Common.{arith, refl, sym, ap, subst, inl, inr, ◌∙◌}
use Rattle.std.proofs.lemmas.Bool.{cases_eq}
use Rattle.std.proofs.lemmas.Option.{slice_get-map}
use Rattle.lay_core.specs.Layout.{Shape}
use Rattle.eng_cols.specs.declared.column.Column.{Column}
use Rattle.eng_cols.specs.declared.column.Column.TheVariants as column
use Rattle.eng_cols.specs.Changes.{killed}
use Rattle.eng_cols.specs.Cols.{ColumnState, Dead, Filling, is_done_on, is_set_filling, passes, state_set}
use Rattle.eng_cols.specs.Deaths.{Dies}
use Rattle.eng_cols.specs.Lost.{NotLost}
use Rattle.eng_cols.specs.Stripes.{filled_in, leading, states_of}
use Rattle.eng_cols.proofs.Lists.{count_at_most, get_set_either, get_set_other}
use Rattle.top_acts.specs.Alive.{IsWithout}
use Rattle.top_close.specs.Closes.{FillingEnds, SpreadEnds}
use Rattle.top_close.specs.Dying.{AnyCause}
use Rattle.top_close.proofs.DyingLaws.{columns_die, dies_unfilled, lost_no_less}
use Rattle.top_labelled.proofs.Alone.{dead-as, done-all, kept-as}
use Rattle.top_rounds.proofs.RoundLaws.{given_after}
use Rattle.top_serve.specs.Served.{IsKeptAs}

false_is : {A : Type 0} → false ≡ true → A
false_is h = absurd (let u : ⊥ = cc in u)

-- a column that is what it was is kept
pub kept_same : (o : Option Column) → IsKeptAs o o
kept_same None = refl
kept_same (Some (column.Live d)) = refl
kept_same (Some column.Dead) = refl
kept_same (Some (column.Filling d m)) = inr (m, refl)
kept_same (Some column.Spread) = refl

-- ## What is left

module _ (y : Shape) (columns : List Column) (c : ℕ) (left : List Column) (w : IsWithout y c columns left) where
  abbrev cols : List ColumnState
  cols = killed (states_of y columns) c

  -- a column is what it was; or it is column c, and dead; or it was filling
  abbrev pub IsLeftAs : ℕ → Type 0
  IsLeftAs k = (slice_get left k ≡ slice_get columns k) ⊎ (((k ≡ c) × (slice_get left k ≡ Some column.Dead)) ⊎ (passes is_set_filling (slice_get columns k) ≡ true))

  abbrev at : ℕ → Option ColumnState
  at k = option_map (state_set y.stripes (filled_in y columns)) (slice_get columns k)

  state_at : (k : ℕ) → slice_get (states_of y columns) k ≡ at k
  state_at k = slice_get-map (state_set y.stripes (filled_in y columns)) columns k

  unchanged : (k : ℕ) → slice_get cols k ≡ at k → IsLeftAs k
  unchanged k same = by (slice_get columns k) refl
    where
      none_filling : (x : Option Column) → ((d m : ℕ) → x ≡ Some (column.Filling d m) → ⊥) → slice_get columns k ≡ x → IsLeftAs k
      none_filling x not e = inl (kept-as y cols w.kept.mid k (slice_get w.kept.mid k) (slice_get left k) (filled_in y columns) (slice_get columns k) (λ d m is. not d m (sym e ∙ is))
          (λ is s lt. ap (λ (o : Option ColumnState). is_done_on o s) (same ∙ ap (option_map (state_set y.stripes (filled_in y columns))) is) ∙ done-all y.stripes s lt)
          (subst (λ (o : Option ColumnState). SpreadEnds y cols k o (slice_get w.kept.mid k)) same (w.kept.spread k)) (w.kept.filling k))

      by : (x : Option Column) → slice_get columns k ≡ x → IsLeftAs k
      by None e = none_filling None (λ d m is. cc is) e
      by (Some (column.Live d)) e = none_filling (Some (column.Live d)) (λ f m is. cc is) e
      by (Some column.Dead) e = none_filling (Some column.Dead) (λ d m is. cc is) e
      by (Some (column.Filling d m)) e = inr (inr (ap (passes is_set_filling) e))
      by (Some column.Spread) e = none_filling (Some column.Spread) (λ d m is. cc is) e

  pub left_as : (k : ℕ) → IsLeftAs k
  left_as k = elim (cases_eq k c) [
    | inr other ↦ unchanged k (get_set_other (states_of y columns) c k Dead other ∙ state_at k)
    | inl here ↦ elim (get_set_either (states_of y columns) c k Dead) [
      | inr same ↦ unchanged k (same ∙ state_at k)
      | inl dead ↦ inr (inl (here, dead-as y cols w.kept.mid k (slice_get w.kept.mid k) (slice_get left k) (subst (λ (o : Option ColumnState). SpreadEnds y cols k o (slice_get w.kept.mid k)) dead (w.kept.spread k)) (w.kept.filling k)))
    ]
  ]

  -- ### One that was filling

  module _ (k d m : ℕ) (is : slice_get columns k ≡ Some (column.Filling d m)) where
    -- where the death doesn't change its state, it is live or filling on the same device
    still_filling : slice_get cols k ≡ at k → IsKeptAs (slice_get columns k) (slice_get left k)
    still_filling same =
        let state : slice_get cols k ≡ Some (Filling d (filled_in y columns)) = same ∙ ap (option_map (state_set y.stripes (filled_in y columns))) is in
        let mid : slice_get w.kept.mid k ≡ Some (Filling d (filled_in y columns)) = subst (λ (o : Option ColumnState). SpreadEnds y cols k o (slice_get w.kept.mid k)) state (w.kept.spread k) in
        let ends : FillingEnds y w.kept.mid k (Some (Filling d (filled_in y columns))) (slice_get left k) = subst (λ (o : Option ColumnState). FillingEnds y w.kept.mid k o (slice_get left k)) mid (w.kept.filling k) in
        subst (λ (o : Option Column). IsKeptAs o (slice_get left k)) (sym is)
        (elim ends [ inl whole ↦ inl whole.1 | inr fewer ↦ inr (leading y w.kept.mid k, fewer.1) ])

    kept_filling : IsKeptAs (slice_get columns k) (slice_get left k) ⊎ ((k ≡ c) × (slice_get left k ≡ Some column.Dead))
    kept_filling = elim (cases_eq k c) [
      | inr other ↦ inl (still_filling (get_set_other (states_of y columns) c k Dead other ∙ state_at k))
      | inl here ↦ elim (get_set_either (states_of y columns) c k Dead) [
        | inr same ↦ inl (still_filling (same ∙ state_at k))
        | inl dead ↦ inr (here, dead-as y cols w.kept.mid k (slice_get w.kept.mid k) (slice_get left k) (subst (λ (o : Option ColumnState). SpreadEnds y cols k o (slice_get w.kept.mid k)) dead (w.kept.spread k)) (w.kept.filling k))
      ]
    ]

  -- each is kept, but for column c, which may be dead
  pub kept_left : (k : ℕ) → IsKeptAs (slice_get columns k) (slice_get left k) ⊎ ((k ≡ c) × (slice_get left k ≡ Some column.Dead))
  kept_left k = elim (left_as k) [
    | inl same ↦ inl (subst (λ (o : Option Column). IsKeptAs (slice_get columns k) o) (sym same) (kept_same (slice_get columns k)))
    | inr (inl here) ↦ inr here
    | inr (inr fills) ↦ by (slice_get columns k) refl fills
  ]
    where
      by : (x : Option Column) → slice_get columns k ≡ x → passes is_set_filling x ≡ true → IsKeptAs (slice_get columns k) (slice_get left k) ⊎ ((k ≡ c) × (slice_get left k ≡ Some column.Dead))
      by None is fills = false_is fills
      by (Some (column.Live d)) is fills = false_is fills
      by (Some column.Dead) is fills = false_is fills
      by (Some (column.Filling d m)) is fills = kept_filling k d m is
      by (Some column.Spread) is fills = false_is fills

-- ## The columns with those dead that are so in the end, and those that were filling

dead_if : Column → Column → Column
dead_if x column.Dead = column.Dead
dead_if x (column.Live d) = if is_set_filling x then column.Dead else x
dead_if x (column.Filling d m) = if is_set_filling x then column.Dead else x
dead_if x column.Spread = if is_set_filling x then column.Dead else x

both : List Column → List Column → List Column
both [] zs = []
both (x ∷ xs) [] = x ∷ xs
both (x ∷ xs) (z ∷ zs) = dead_if x z ∷ both xs zs

both_length : (xs zs : List Column) → length (both xs zs) ≡ length xs
unfolding both
both_length [] zs = refl
both_length (x ∷ xs) [] = refl
both_length (x ∷ xs) (z ∷ zs) = ap suc (both_length xs zs)

-- what stands there
data IsBoth (o x z : Option Column) : Type 0 where
  stays : o ≡ x → (z ≡ Some column.Dead → x ≡ Some column.Dead) → passes is_set_filling x ≡ false → IsBoth o x z
  falls : o ≡ Some column.Dead → (z ≡ Some column.Dead) ⊎ (passes is_set_filling x ≡ true) → IsBoth o x z

either_is : (x z : Column) → (Some z ≡ Some column.Dead → Some x ≡ Some column.Dead) → (b : Bool) → is_set_filling x ≡ b → IsBoth (Some (if b then column.Dead else x)) (Some x) (Some z)
either_is x z alive true e = falls refl (inr e)
either_is x z alive false e = stays refl alive e

dead_is : (x z : Column) → IsBoth (Some (dead_if x z)) (Some x) (Some z)
unfolding dead_if
dead_is x column.Dead = falls refl (inl refl)
dead_is x (column.Live d) = either_is x (column.Live d) (λ e. cc e) (is_set_filling x) refl
dead_is x (column.Filling d m) = either_is x (column.Filling d m) (λ e. cc e) (is_set_filling x) refl
dead_is x column.Spread = either_is x column.Spread (λ e. cc e) (is_set_filling x) refl

both_at : (xs zs : List Column) → length zs ≡ length xs → (k : ℕ) → IsBoth (slice_get (both xs zs) k) (slice_get xs k) (slice_get zs k)
unfolding both
both_at [] zs long k = stays refl (λ e. past zs k long e) refl
  where
    past : (l : List Column) (i : ℕ) → length l ≡ 0 → slice_get l i ≡ Some column.Dead → None ≡ Some column.Dead
    past [] i none e = e
    past (z ∷ l) i none e = absurd (omega (arith, none))
both_at (x ∷ xs) [] long k = absurd (omega (arith, long))
both_at (x ∷ xs) (z ∷ zs) long zero = dead_is x z
both_at (x ∷ xs) (z ∷ zs) long (suc k) = both_at xs zs (omega (arith, long)) k

-- ## What outlives that

module _ (y : Shape) (columns left last : List Column) (c : ℕ) (w : IsWithout y c columns left) (cause may : ℕ → Type 0) (died : Dies cause left last)
    (named : may c) (filling : (k : ℕ) → passes is_set_filling (slice_get columns k) ≡ true → may k)
    (causes : (k : ℕ) → slice_get left k ≡ slice_get columns k → cause k → may k) (none : count_by is_set_filling last ≡ 0) where
  long : length last ≡ length columns
  long = died.count ∙ w.entries

  -- a column that is dead in the end may be, or was
  dead_by : (k : ℕ) → slice_get last k ≡ Some column.Dead → (slice_get columns k ≡ Some column.Dead) ⊎ may k
  dead_by k dead = elim (left_as y columns c left w k) [
    | inr (inl here) ↦ inr (subst may (sym here.0) named)
    | inr (inr was) ↦ inr (filling k was)
    | inl same ↦ elim (died.each k) [
      | inl still ↦ inl (sym same ∙ (sym still ∙ dead))
      | inr gone ↦ inr (causes k same gone.1)
    ]
  ]

  may_die : Dies may columns (both columns last)
  may_die = record { count = both_length columns last; each = λ k. of k (both_at columns last long k) }
    where
      of : (k : ℕ) → IsBoth (slice_get (both columns last) k) (slice_get columns k) (slice_get last k) → (slice_get (both columns last) k ≡ slice_get columns k) ⊎ ((slice_get (both columns last) k ≡ Some column.Dead) × may k)
      of k (stays is alive not) = inl is
      of k (falls is (inr was)) = inr (is, filling k was)
      of k (falls is (inl dead)) = elim (dead_by k dead) [ inl before ↦ inl (is ∙ sym before) | inr why ↦ inr (is, why) ]

  died_more : Dies AnyCause last (both columns last)
  died_more = record { count = both_length columns last ∙ sym long; each = λ k. of k (both_at columns last long k) }
    where
      of : (k : ℕ) → IsBoth (slice_get (both columns last) k) (slice_get columns k) (slice_get last k) → (slice_get (both columns last) k ≡ slice_get last k) ⊎ ((slice_get (both columns last) k ≡ Some column.Dead) × AnyCause k)
      of k (falls is why) = inr (is, tt)
      of k (stays is alive not) = elim (died.each k) [
        | inr gone ↦ inl (is ∙ (alive gone.0 ∙ sym gone.0))
        | inl still ↦ elim (left_as y columns c left w k) [
          | inl same ↦ inl (is ∙ (sym same ∙ sym still))
          | inr (inl here) ↦ let dead : slice_get last k ≡ Some column.Dead = still ∙ here.1 in inl (is ∙ (alive dead ∙ sym dead))
          | inr (inr fills) ↦ let z : true ≡ false = sym fills ∙ not in absurd (let u : ⊥ = cc in u)
        ]
      ]

  pub outlives_failing : ((l : List Column) → Dies may columns l → NotLost y (states_of y l)) → NotLost y (states_of y last)
  outlives_failing survives =
      let still : count_by is_set_filling (both columns last) ≡ 0 = given_after AnyCause (Some (record { first = 0; second = 0; stripe = 0 })) last (both columns last) died_more none in
      lost_no_less y (states_of y last) (states_of y (both columns last))
      (columns_die AnyCause y last (both columns last) died_more (dies_unfilled AnyCause last (both columns last) died_more still) (count_at_most is_set_filling last (omega (arith, none))))
      (survives (both columns last) may_die)
