-- The columns behind the start of a rebuild, by what each of them is, whatever stripes are done.
use Rattle.std.proofs.Common.{◌≡◌, ◌≢◌, ◌⊎◌, inl, inr, ℕ, zero, suc, List, [], ◌∷◌, ◌++◌, Bool, Option, option_map, Some, None, slice_get, slice_set, map, refl, sym, ◌∙◌, ap, subst, arith}
use Rattle.std.specs.Prelude.{Contains}
use Rattle.std.proofs.lemmas.Bool.{cases_eq}
use Rattle.std.proofs.lemmas.List.{map-set}
use Rattle.std.proofs.lemmas.Option.{slice_get-map}
use Rattle.eng_cols.specs.declared.column.Column.{Column}
use Rattle.eng_cols.specs.declared.column.Column.TheVariants as set
use Rattle.lay_core.specs.Layout.{Shape}
use Rattle.eng_cols.specs.Cols.{ColumnState, Live, Dead, Filling, Spread, HasDevice, none_done, column_with, state_set, is_spread, is_set_spread, passes}
use Rattle.eng_cols.specs.Stripes.{filled_in, states_of}
use Rattle.eng_cols.proofs.Lists.{get_set_other}
use Rattle.eng_world.specs.declared.item.Traced.{Traced}
use Rattle.eng_world.proofs.Caused.{tail-has, head-has}
use Rattle.eng_array.specs.declared.start.Start.{Start}
use Rattle.eng_array.specs.declared.start.Start.TheVariants as start
use Rattle.eng_array.specs.Starts as starts
use Rattle.top_serve.specs.Setups.{with_start}
use Rattle.top_serve.proofs.Starting.{first_of}

-- the columns behind a start over these
abbrev pub AreBegun : ℕ → Option Start → List ColumnState → List ColumnState → Type 0
AreBegun n None old new = new ≡ old
AreBegun n (Some (start.Fill c device most)) old new = new ≡ slice_set old c (Filling device (none_done n))
AreBegun n (Some (start.Resume c most)) old new = new ≡ old
AreBegun n (Some (start.Spread c)) old new = new ≡ slice_set old c (Spread (none_done n))

-- it isn't the column that is rebuilt
abbrev pub IsOther : Option Start → ℕ → Type 0
IsOther None c = Unit {0}
IsOther (Some how) c = c ≢ starts.column_of how

-- what a column is, however many of its stripes are done
abbrev pub kind : Option ColumnState → Option Column
kind o = option_map (column_with 0) o

abbrev pub kinds : List ColumnState → List Column
kinds cols = map (column_with 0) cols

abbrev pub bare : Column → Column
bare (set.Live device) = set.Live device
bare set.Dead = set.Dead
bare (set.Filling device done) = set.Filling device 0
bare set.Spread = set.Spread

pub bare-dead : (o : Option Column) → option_map bare o ≡ Some set.Dead → o ≡ Some set.Dead
bare-dead (Some set.Dead) h = refl
bare-dead (Some (set.Live device)) h = absurd (let u : ⊥ = cc in u)
bare-dead (Some (set.Filling device done)) h = absurd (let u : ⊥ = cc in u)
bare-dead (Some set.Spread) h = absurd (let u : ⊥ = cc in u)
bare-dead None h = absurd (let u : ⊥ = cc in u)

-- ## Kinds

kind-set : (n : ℕ) (l : List Bool) (x : Column) → column_with 0 (state_set n l x) ≡ bare x
kind-set n l (set.Live device) = refl
kind-set n l set.Dead = refl
kind-set n l (set.Filling device done) = refl
kind-set n l set.Spread = refl

kinds-set-by : (n : ℕ) (l : List Bool) (columns : List Column) → map (column_with 0) (map (state_set n l) columns) ≡ map bare columns
kinds-set-by n l [] = refl
kinds-set-by n l (x ∷ columns) = ap (λ z. z ∷ map (column_with 0) (map (state_set n l) columns)) (kind-set n l x) ∙ ap (λ v. bare x ∷ v) (kinds-set-by n l columns)

pub kinds-set : (y : Shape) (columns : List Column) → kinds (states_of y columns) ≡ map bare columns
kinds-set y columns = kinds-set-by y.stripes (filled_in y columns) columns

module _ (y : Shape) (columns : List Column) (old : List ColumnState) (was : old ≡ states_of y columns) where
  kinds-were : kinds old ≡ map bare columns
  kinds-were = ap kinds was ∙ kinds-set y columns

  kinds-put : (c : ℕ) (x : ColumnState) (z : Column) → column_with 0 x ≡ bare z → kinds (slice_set old c x) ≡ map bare (slice_set columns c z)
  kinds-put c x z same =
      map-set (column_with 0) old c x
      ∙ (ap (λ (l : List Column). slice_set l c (column_with 0 x)) kinds-were
      ∙ (ap (slice_set (map bare columns) c) same ∙ sym (map-set bare columns c z)))

  -- they are those of the start
  pub kinds-begun : (how : Option Start) (new : List ColumnState) → AreBegun y.stripes how old new → kinds new ≡ map bare (with_start how columns)
  kinds-begun None new is = ap kinds is ∙ kinds-were
  kinds-begun (Some (start.Fill c device most)) new is = ap kinds is ∙ kinds-put c (Filling device (none_done y.stripes)) (set.Filling device 0) refl
  kinds-begun (Some (start.Resume c most)) new is = ap kinds is ∙ kinds-were
  kinds-begun (Some (start.Spread c)) new is = ap kinds is ∙ kinds-put c (Spread (none_done y.stripes)) set.Spread refl

-- column by column
pub kind-at : (cols : List ColumnState) (columns : List Column) → kinds cols ≡ columns → (c : ℕ) → kind (slice_get cols c) ≡ slice_get columns c
kind-at cols columns is c = sym (slice_get-map (column_with 0) cols c) ∙ ap (λ (l : List Column). slice_get l c) is

-- ## By its kind

abbrev Has : ℕ → Option ColumnState → Type 0
Has d o = (o ≡ Some (Live d)) ⊎ ((done : List Bool) × (o ≡ Some (Filling d done)))

pub kind-live : (o : Option ColumnState) (d : ℕ) → kind o ≡ Some (set.Live d) → o ≡ Some (Live d)
kind-live (Some (Live device)) d h = let z : Some (set.Live device) ≡ Some (set.Live d) = h in let e : device ≡ d = cc in ap (λ v. Some (Live v)) e
kind-live (Some Dead) d h = let z : Some set.Dead ≡ Some (set.Live d) = h in absurd (let u : ⊥ = cc in u)
kind-live (Some (Filling device done)) d h = let z : Some (set.Filling device 0) ≡ Some (set.Live d) = h in absurd (let u : ⊥ = cc in u)
kind-live (Some (Spread done)) d h = let z : Some set.Spread ≡ Some (set.Live d) = h in absurd (let u : ⊥ = cc in u)
kind-live None d h = let z : None ≡ Some (set.Live d) = h in absurd (let u : ⊥ = cc in u)

pub kind-filling : (o : Option ColumnState) (d : ℕ) → kind o ≡ Some (set.Filling d 0) → (done : List Bool) × (o ≡ Some (Filling d done))
kind-filling (Some (Filling device done)) d h = let z : Some (set.Filling device 0) ≡ Some (set.Filling d 0) = h in let e : device ≡ d = cc in (done, ap (λ v. Some (Filling v done)) e)
kind-filling (Some Dead) d h = let z : Some set.Dead ≡ Some (set.Filling d 0) = h in absurd (let u : ⊥ = cc in u)
kind-filling (Some (Live device)) d h = let z : Some (set.Live device) ≡ Some (set.Filling d 0) = h in absurd (let u : ⊥ = cc in u)
kind-filling (Some (Spread done)) d h = let z : Some set.Spread ≡ Some (set.Filling d 0) = h in absurd (let u : ⊥ = cc in u)
kind-filling None d h = let z : None ≡ Some (set.Filling d 0) = h in absurd (let u : ⊥ = cc in u)

pub kind-spread : (o : Option ColumnState) → kind o ≡ Some set.Spread → (done : List Bool) × (o ≡ Some (Spread done))
kind-spread (Some (Spread done)) h = (done, refl)
kind-spread (Some Dead) h = let z : Some set.Dead ≡ Some set.Spread = h in absurd (let u : ⊥ = cc in u)
kind-spread (Some (Live device)) h = let z : Some (set.Live device) ≡ Some set.Spread = h in absurd (let u : ⊥ = cc in u)
kind-spread (Some (Filling device done)) h = let z : Some (set.Filling device 0) ≡ Some set.Spread = h in absurd (let u : ⊥ = cc in u)
kind-spread None h = let z : None ≡ Some set.Spread = h in absurd (let u : ⊥ = cc in u)

-- two columns of one kind have the same device
has-alike : (d : ℕ) (o p : Option ColumnState) → kind o ≡ kind p → Has d o → Has d p
has-alike d o p same (inl h) = inl (kind-live p d (sym same ∙ ap kind h))
has-alike d o p same (inr h) = inr (kind-filling p d (sym same ∙ ap kind h.1))

pub device-alike : (cols more : List ColumnState) → kinds cols ≡ kinds more → (c d : ℕ) → HasDevice cols c d → HasDevice more c d
device-alike cols more same c d has = has-alike d (slice_get cols c) (slice_get more c) (kind-at cols (kinds more) same c ∙ slice_get-map (column_with 0) more c) has

pub spread-kind : (o : Option ColumnState) → passes is_spread o ≡ passes is_set_spread (kind o)
spread-kind (Some (Live device)) = refl
spread-kind (Some Dead) = refl
spread-kind (Some (Filling device done)) = refl
spread-kind (Some (Spread done)) = refl
spread-kind None = refl

-- ## The columns that are set

pub start-other : (how : Option Start) (columns : List Column) (c : ℕ) → IsOther how c → slice_get (with_start how columns) c ≡ slice_get columns c
start-other None columns c ne = refl
start-other (Some (start.Fill k device most)) columns c ne = get_set_other columns k c (set.Filling device 0) ne
start-other (Some (start.Resume k most)) columns c ne = refl
start-other (Some (start.Spread k)) columns c ne = get_set_other columns k c set.Spread ne

pub other-or-not : (how : Option Start) (c : ℕ) → IsOther how c ⊎ ((rebuild : Start) × (how ≡ Some rebuild) × (c ≡ starts.column_of rebuild))
other-or-not None c = inl tt
other-or-not (Some how) c = elim (cases_eq c (starts.column_of how)) [ inl e ↦ inr (how, refl, e) | inr ne ↦ inl ne ]

-- ## Events behind a start

pub either-has : (xs ys : List Traced) (e : Traced) → Contains (xs ++ ys) e → Contains xs e ⊎ Contains ys e
either-has [] ys e has = inr has
either-has (x ∷ xs) ys e (zero, within, is) = inl (subst (Contains (x ∷ xs)) is (head-has x xs))
either-has (x ∷ xs) ys e (suc n, within, is) = elim (either-has xs ys e (n, omega (arith, within), is)) [ inl h ↦ inl (tail-has x xs e h) | inr h ↦ inr h ]

-- what starts is the start
pub first-is : (how : Option Start) (count : ℕ) (e : Traced) → Contains (first_of how count) e → (rebuild : Start) × (how ≡ Some rebuild) × (starts.event_of rebuild count ≡ e)
first-is None count e (n, within, is) = absurd (omega (arith, within))
first-is (Some how) count e (zero, within, is) = (how, refl, is)
first-is (Some how) count e (suc n, within, is) = absurd (omega (arith, within))
