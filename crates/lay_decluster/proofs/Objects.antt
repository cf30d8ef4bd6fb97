-- How often an object stands in a tuple.
use Rattle.std.specs.Prelude.{◌≡◌, ◌<◌, ◌≤◌, ◌+◌, ◌==◌, ◌||◌, ℕ, zero, suc, Bool, true, false, List, take, get_or, length, slice_set}
use Rattle.std.specs.List.{list_any}
use Rattle.std.proofs.Common.{arith, refl, sym, ap, ◌∙◌, inl, inr}
use Rattle.std.proofs.lemmas.Bool.{eq-eqb, ne_eqb, cases_eq}
use Rattle.std.proofs.lemmas.List.{take_all, get_or-set_other}
use Rattle.std.proofs.lemmas.Grind.{get_or-set_at}
use Rattle.std.proofs.lemmas.List.Folds.{list_any_more}
use Rattle.lay_design.specs.Counting.{count_below}
use Rattle.lay_design.specs.Blocks.{tuple, object, has, is_repeated}
use Rattle.lay_design.specs.Design.{Blocks, IsDesign}
use Rattle.lay_decluster.specs.Counted.{one_if, count_none, count_more}
use Rattle.lay_decluster.specs.Seats.{tuple_long}

-- in a list without repetitions each number stands once or not at all
once : (x : ℕ) (l : List ℕ) → ((i : ℕ) → i < length l → is_repeated l i ≡ false) → (n : ℕ) → n ≤ length l → count_below (λ p. get_or l p 0 == x) n ≡ one_if (list_any (λ y. y == x) (take n l))
once x l distinct zero h = count_none (λ p. get_or l p 0 == x)
once x l distinct (suc n) h =
    let before = once x l distinct n (omega (arith, h)) in
    let within : n < length l = omega (arith, h) in
    let next : suc n ≡ n + 1 = omega arith in
    let more = list_any_more (λ y. y == x) l n 0 within in
    rw next (count_more (λ p. get_or l p 0 == x) n ∙ (elim (cases_eq (get_or l n 0) x) [
      | inl e ↦
          let new : list_any (λ y. y == x) (take n l) ≡ false = ap (λ z. list_any (λ y. y == z) (take n l)) (sym e) ∙ distinct n within in
          let one : one_if (get_or l n 0 == x) ≡ 1 = ap one_if (eq-eqb _ _ e) in
          let none : count_below (λ p. get_or l p 0 == x) n ≡ 0 = before ∙ ap one_if new in
          let there : one_if (list_any (λ y. y == x) (take (n + 1) l)) ≡ 1 = ap one_if (more ∙ ap (λ t. t || (get_or l n 0 == x)) new ∙ eq-eqb _ _ e) in
          omega (arith, one, none, there)
      | inr ne ↦
          let zero_is : one_if (get_or l n 0 == x) ≡ 0 = ap one_if (ne_eqb _ _ ne) in
          let same : one_if (list_any (λ y. y == x) (take (n + 1) l)) ≡ one_if (list_any (λ y. y == x) (take n l)) = ap one_if (more ∙ ap (λ t. list_any (λ y. y == x) (take n l) || t) (ne_eqb _ _ ne) ∙ or_false (list_any (λ y. y == x) (take n l))) in
          omega (arith, zero_is, before, same)
    ]))
  where
    or_false : (b : Bool) → (b || false) ≡ b
    or_false true = refl
    or_false false = refl

pub object_once : (d : Blocks) → IsDesign d → (t x : ℕ) → t < d.b → count_below (λ p. object d.k d.objects t p == x) d.k ≡ one_if (has d.k d.objects x t)
object_once d design t x ht =
    let l : List ℕ = tuple d.k d.objects t in
    let long : length l ≡ d.k = tuple_long d design t ht in
    once x l (λ i h. design.distinct t i ht (omega (arith, h, long))) d.k (omega (arith, long)) ∙ ap (λ xs. one_if (list_any (λ y. y == x) xs)) (ap (λ n. take n l) (sym long) ∙ take_all (length l) l (omega arith))

-- the count of one number is raised
pub raised : (counts : List ℕ) (x y : ℕ) → x < length counts → get_or (slice_set counts x (get_or counts x 0 + 1)) y 0 ≡ get_or counts y 0 + one_if (x == y)
raised counts x y h = elim (cases_eq x y) [
  | inl e ↦
      let one : one_if (x == y) ≡ 1 = ap one_if (eq-eqb x y e) in
      let same : get_or counts x 0 ≡ get_or counts y 0 = ap (λ z. get_or counts z 0) e in
      omega (arith, get_or-set_at counts x y (get_or counts x 0 + 1) 0 (sym e) h, one, same)
  | inr ne ↦
      let none : one_if (x == y) ≡ 0 = ap one_if (ne_eqb x y ne) in
      omega (arith, get_or-set_other counts x y (get_or counts x 0 + 1) 0 (λ e. ne (sym e)), none)
]
