-- A number is divided by a product, and what is left by one of its factors.
use Rattle.std.proofs.Common.{◌≡◌, ◌∙◌, ◌<◌, ◌/◌, ◌%◌, ◌*◌, ◌+◌, ℕ, sym, ap, arith}
use Rattle.std.proofs.Math.Nat.{mul_assoc, mul_comm, mod-lt, mod-eq_of_lt, div-add-mod, div-lt_iff_lt-mul, add-mul-div_left, div-div-eq-div-mul, mul-add-mod_self_left, add_comm}

pub stripe-once : (b s u : ℕ) → b / (s * u) ≡ b / s / u
stripe-once b s u = sym (div-div-eq-div-mul b s u)

-- the number is what the whole products make, and what is left
parts : (b s u : ℕ) → s * (u * (b / (s * u))) + b % (s * u) ≡ b
parts b s u = ap (λ n. n + b % (s * u)) (sym (mul_assoc s u (b / (s * u)))) ∙ div-add-mod b (s * u)

pub offset-once : (b s u : ℕ) → b % (s * u) % s ≡ b % s
offset-once b s u = sym (mul-add-mod_self_left s (u * (b / (s * u))) (b % (s * u))) ∙ ap (λ n. n % s) (parts b s u)

-- what is left has fewer units than the product
few : (b s u : ℕ) → 0 < s → 0 < s * u → b % (s * u) / s < u
few b s u some more = (div-lt_iff_lt-mul some).1 (let h = mod-lt b more in omega (arith, h, mul_comm s u))

quotient : (b s u : ℕ) → 0 < s → b / s ≡ u * (b / (s * u)) + b % (s * u) / s
quotient b s u some =
    ap (λ n. n / s) (sym (parts b s u) ∙ add_comm (s * (u * (b / (s * u)))) (b % (s * u)))
    ∙ (add-mul-div_left (b % (s * u)) (u * (b / (s * u))) some
    ∙ add_comm (b % (s * u) / s) (u * (b / (s * u))))

pub unit-once : (b s u : ℕ) → 0 < s → 0 < s * u → b % (s * u) / s ≡ (b / s) % u
unit-once b s u some more =
    sym (ap (λ n. n % u) (quotient b s u some)
    ∙ (mul-add-mod_self_left u (b / (s * u)) (b % (s * u) / s)
    ∙ mod-eq_of_lt (few b s u some more)))
