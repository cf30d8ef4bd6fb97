-- The column that is filling.
use Rattle.std.proofs.Common.{◌≡◌, ◌<◌, ℕ, zero, suc, List, [], ◌∷◌, length, Bool, true, false, Option, Some, None, slice_get, refl, ap, ◌∙◌, arith}
use Rattle.std.specs.Prelude.{◌||◌}
use Rattle.std.specs.List.{list_any}
use Rattle.eng_cols.specs.Cols.{ColumnState, Live, Dead, Filling, Spread, is_filling, passes}

no : {A : Type 0} → false ≡ true → A
no h = absurd (let u : ⊥ = cc in u)

pub filling-there : (o : Option ColumnState) → passes is_filling o ≡ true → (device : ℕ) × (done : List Bool) × (o ≡ Some (Filling device done))
filling-there (Some (Filling device done)) h = (device, done, refl)
filling-there (Some (Live device)) h = no h
filling-there (Some Dead) h = no h
filling-there (Some (Spread done)) h = no h
filling-there None h = no h

pub none-any : (cols : List ColumnState) → ((c : ℕ) → c < length cols → passes is_filling (slice_get cols c) ≡ false) → list_any is_filling cols ≡ false
none-any [] none = refl
none-any (x ∷ cols) none = ap (λ b. b || list_any is_filling cols) (none 0 (omega arith)) ∙ none-any cols (λ c lt. none (suc c) (omega (arith, lt)))
