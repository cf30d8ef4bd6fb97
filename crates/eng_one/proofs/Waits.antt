-- Which nodes are waiting, as counts fall.
use Rattle.std.proofs.Common.{◌≡◌, ℕ, zero, suc, ◌<◌, inl, inr, List, [], ◌∷◌, Bool, true, false, ◌&&◌, refl, ap, sym, ◌∙◌, arith, length, slice_index_or, slice_set}
use Rattle.std.specs.Prelude.{◌==◌}
use Rattle.std.proofs.lemmas.List.{get_or-set_same, get_or-set_other}
use Rattle.std.proofs.lemmas.Bool.{cases_eq, ne_eqb}
use Rattle.graph_mean.specs.declared.step.Status.{Status}
use Rattle.eng_one.specs.Control.{mark_in}
use Rattle.eng_one.specs.Counts.{is_idle, is_waiting}
use Rattle.eng_one.proofs.Chains.{some-below}

-- an element's place holds whatever stands for those past the end
pub any-default : (xs : List ℕ) (n d e : ℕ) → n < length xs → slice_index_or xs n d ≡ slice_index_or xs n e
any-default [] n d e l = absurd (omega arith)
any-default (x ∷ xs) zero d e l = refl
any-default (x ∷ xs) (suc n) d e l = any-default xs n d e (omega arith)

pub and-no : (b : Bool) → (b && false) ≡ false
and-no true = refl
and-no false = refl

-- a node that waits for some isn't waiting to be fired
pub counted-not : (marks : List Status) (counts : List ℕ) (n : ℕ) → 0 < slice_index_or counts n 0 → is_waiting marks counts n ≡ false
counted-not marks counts n some =
    let e = any-default counts n 1 0 (some-below counts n some) in
    ap (λ (b : Bool). is_idle (mark_in marks n) && b) (ne_eqb (slice_index_or counts n 1) 0 (λ z. let q : slice_index_or counts n 0 ≡ 0 = sym e ∙ z in absurd (omega (arith, q, some)))) ∙ and-no (is_idle (mark_in marks n))

-- a node that waits for one less, and can't be fired yet
pub waiting-kept : (marks : List Status) (counts : List ℕ) (n left : ℕ) → 0 < slice_index_or counts n 0 → (is_idle (mark_in marks n) && (left == 0)) ≡ false → (k : ℕ) → is_waiting marks counts k ≡ is_waiting marks (slice_set counts n left) k
waiting-kept marks counts n left some not-yet k = elim (cases_eq k n) [
  | inl is ↦
      ap (is_waiting marks counts) is
      ∙ counted-not marks counts n some
      ∙ sym not-yet
      ∙ ap (λ (z : ℕ). is_idle (mark_in marks n) && (z == 0)) (sym (get_or-set_same counts n left 1 (some-below counts n some)))
      ∙ ap (is_waiting marks (slice_set counts n left)) (sym is)
  | inr apart ↦ ap (λ (z : ℕ). is_idle (mark_in marks k) && (z == 0)) (sym (get_or-set_other counts n k left 1 apart))
]
