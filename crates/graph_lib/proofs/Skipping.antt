-- Lists of the units that a test picks, as a walk goes on to the next of them.
use Rattle.std.proofs.Common.{◌≡◌, ℕ, zero, suc, ◌+◌, ◌≤◌, Bool, inl, inr, sym, ap, ◌∙◌, arith, append-nil, length, ◌++◌}
use Rattle.std.specs.Prelude.{if◌then◌else◌}
use Rattle.std.proofs.lemmas.Bool.{cases_eq}
use Rattle.graph_lib.specs.Piece.{Use, when}
use Rattle.graph_lib.specs.Library.{units_where}
use Rattle.graph_lib.specs.Section.{uses_where}
use Rattle.graph_lib.specs.Units.{NoneBetween}
use Rattle.graph_lib.proofs.Units.{units-less}
use Rattle.graph_lib.proofs.Tables.{uses-next}

-- none is picked in between
pub units-skip : (p : ℕ → Bool) (from n : ℕ) → from ≤ n → NoneBetween p from n → units_where p from ≡ units_where p n
units-skip p from zero l h = ap (units_where p) (let z : from ≡ 0 = omega arith in z)
units-skip p from (suc n) l h = elim (cases_eq from (suc n)) [
  | inl e ↦ ap (units_where p) e
  | inr e ↦ units-skip p from n (omega arith) (λ i a b. h i a (omega arith)) ∙ sym (units-less p n (h n (omega arith) (omega arith)))
]

pub uses-skip : (p q : ℕ → Bool) (b l from n : ℕ) → from ≤ n → NoneBetween p from n → uses_where p q b l from ≡ uses_where p q b l n
uses-skip p q b l from zero le h = ap (uses_where p q b l) (let z : from ≡ 0 = omega arith in z)
uses-skip p q b l from (suc n) le h = elim (cases_eq from (suc n)) [
  | inl e ↦ ap (uses_where p q b l) e
  | inr e ↦
      let w : Use = record { unit = n; buf = if q n then b + length (units_where q n) else l } in
      uses-skip p q b l from n (omega arith) (λ i a m. h i a (omega arith))
      ∙ sym (uses-next p q b l n ∙ ap (λ t. uses_where p q b l n ++ when t w) (h n (omega arith) (omega arith)) ∙ append-nil (uses_where p q b l n))
]
