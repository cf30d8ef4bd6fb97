-- The rule of the tests. A value is how many units are left and how many are counted; a ticket says whether its pass has a unit in hand.
use Rattle.std.specs.Prelude.{◌≡◌, ℕ, ◌+◌, ◌^◌, ◌<◌, ◌≤◌, Bool, true, false, List, [], ◌∷◌, ◌++◌, sum_by, Some}
use Rattle.std.proofs.Common.{arith}
use Rattle.std.proofs.lemmas.List.Sums.{sum_by_push, sum_by-append, sum_by-cons}
use Rattle.eng_turn.specs.declared.turn.Pass.{Pass}
use Rattle.eng_turn.specs.declared.turn.Turn.{Turn}
use Rattle.eng_turn.specs.Turn.{IsOf, IsOutside, ticket_of, mark_of}

abbrev pub in_hand : Bool → ℕ
in_hand true = 1
in_hand false = 0

-- no unit is lost, and none is counted twice
abbrev pub Fits : ℕ × ℕ → ℕ × ℕ → List Bool → Type 0
Fits o v ts = ((v.0 + v.1) + sum_by in_hand ts ≡ o.0 + o.1) × (o.0 + o.1 < 2 ^ 64)

-- a unit that was taken isn't left again
abbrev pub After : ℕ × ℕ → ℕ × ℕ → Type 0
After v w = w.0 ≤ v.0

abbrev pub Steps : ℕ × ℕ → Bool → ℕ × ℕ → Bool → Type 0
Steps v t w u = After v w

pub empty_comes : (o v : ℕ × ℕ) (xs : List Bool) → Fits o v xs → Fits o v (xs ++ false ∷ [])
empty_comes o v xs f = let a = sum_by_push in_hand xs false in let b = f.0 in (omega arith, f.1)

pub empty_goes : (o v : ℕ × ℕ) (xs ys : List Bool) → Fits o v (xs ++ false ∷ ys) → Fits o v (xs ++ ys)
empty_goes o v xs ys f = let a = sum_by-append in_hand xs (false ∷ ys) in let b = sum_by-cons in_hand false ys in let c = sum_by-append in_hand xs ys in let d = f.0 in (omega arith, f.1)

pub after_itself : (v : ℕ × ℕ) → After v v
after_itself v = omega arith

pub after_later : (u v w : ℕ × ℕ) → After u v → After v w → After u w
after_later u v w a b = omega arith

-- the pass is outside, with no unit in hand
abbrev pub IsReady : {R : Type 0} → Turn R (ℕ × ℕ) Bool → Pass R (ℕ × ℕ) Bool → Type 0
IsReady t p = IsOf p t × IsOutside p × (ticket_of p ≡ false)

-- the value that the pass left last had no unit left
abbrev pub HasNoneLeft : {R : Type 0} → Pass R (ℕ × ℕ) Bool → Type 0
HasNoneLeft p = (counted : ℕ) × (mark_of p ≡ Some (0, counted))
