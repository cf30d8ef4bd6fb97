-- Level 5 is a layout: the units of a stripe lie on different columns.
use Rattle.std.specs.Prelude.{◌≡◌, ◌<◌, ◌≤◌, ◌+◌, ◌-◌, ◌*◌, ◌/◌, ◌%◌, ℕ, Bool, true, false, if◌then◌else◌, nat_lt}
use Rattle.std.proofs.Common.{arith, ⊎_elim, sym, ap, ◌∙◌, refl}
use Rattle.std.proofs.lemmas.Bool.{ltb-false, cases_order}
use Rattle.std.proofs.lemmas.Nat.{mod-mul-add, div-add-mod'}
use Rattle.std.proofs.Math.Nat.{mod-lt, mul-le-mul_left}
use Rattle.lay_core.specs.Layout.{IsLayout}
use Rattle.lay_plain.specs.Plain.{IsInLimits, by_rows_lawful}
use Rattle.lay_plain.specs.LeftSymmetric.{left_symmetric}

-- the column of unit i of stripe s, of n columns
abbrev left_symmetric_column : ℕ → ℕ → ℕ → ℕ
left_symmetric_column n s i = if nat_lt i (n - 1) then (s * (n - 1) + i) % n else n - 1 - s % n

-- over m + 1 columns the check unit of stripe q * (m + 1) + r is dealt out m - r columns behind q * m + r rounds
dealt : (m q r : ℕ) → r ≤ m → (q * (m + 1) + r) * m + m ≡ (q * m + r) * (m + 1) + (m - r)
dealt m q r h = omega (arith, h)

-- the check unit is dealt out in turn as well, behind the stripe's data units
check_in_turn : (n s : ℕ) → 0 < n → n - 1 - s % n ≡ (s * (n - 1) + (n - 1)) % n
check_in_turn n s some = by_parts (n - 1) (s / n) (s % n) (omega arith) (omega (arith, mod-lt s some)) (omega (arith, div-add-mod' s n))
  where
    by_parts : (m q r : ℕ) → n ≡ m + 1 → r ≤ m → s ≡ q * n + r → n - 1 - r ≡ (s * (n - 1) + (n - 1)) % n
    by_parts m q r n_is most s_is =
        let m_is : n - 1 ≡ m = omega (arith, n_is) in
        let rest : n - 1 - r ≡ m - r = omega (arith, n_is) in
        let sum : s * (n - 1) + (n - 1) ≡ (q * m + r) * n + (m - r) =
        ap (λ (x : ℕ). x * (n - 1) + (n - 1)) s_is
        ∙ (ap (λ (x : ℕ). (q * n + r) * x + x) m_is
        ∙ (ap (λ (x : ℕ). (q * x + r) * m + m) n_is
        ∙ (dealt m q r most ∙ ap (λ (x : ℕ). (q * m + r) * x + (m - r)) (sym n_is)))) in
        rest ∙ sym (ap (λ (x : ℕ). x % n) sum ∙ mod-mul-add (q * m + r) n (m - r) (omega (arith, n_is)))

column_in_turn : (n s i : ℕ) → i < n → left_symmetric_column n s i ≡ (s * (n - 1) + i) % n
column_in_turn n s i h = go (nat_lt i (n - 1)) refl
  where
    go : (b : Bool) → nat_lt i (n - 1) ≡ b → (if b then (s * (n - 1) + i) % n else n - 1 - s % n) ≡ (s * (n - 1) + i) % n
    go true e = refl
    go false e =
        let last : n - 1 ≡ i = omega (arith, h, ltb-false i (n - 1) e) in
        check_in_turn n s (omega (arith, h)) ∙ ap (λ (j : ℕ). (s * (n - 1) + j) % n) last

-- n numbers in a row have different remainders
pub remainders_differ : (n a i j : ℕ) → i < n → j < n → (a + i) % n ≡ (a + j) % n → i ≡ j
remainders_differ n a i j hi hj same =
    let p : ℕ = (a + i) / n in
    let q : ℕ = (a + j) / n in
    let one : n * p + (a + i) % n ≡ a + i = omega arith in
    let two : n * q + (a + j) % n ≡ a + j = omega arith in
    ⊎_elim
    (λ e. omega (arith, one, two, same, ap (λ (k : ℕ). n * k) e))
    (λ order. ⊎_elim (λ lt. absurd (omega (arith, one, two, same, mul-le-mul_left n lt))) (λ gt. absurd (omega (arith, one, two, same, mul-le-mul_left n gt))) order)
    (cases_order p q)

-- level 5 has all laws
pub left_symmetric_lawful : (n u rows : ℕ) → 2 ≤ n → n ≤ 32 → 1 ≤ u → u ≤ 128 → 1 ≤ rows → rows ≤ 1048576 → IsLayout (left_symmetric n u rows)
left_symmetric_lawful n u rows columns_least columns_most unit_least unit_most rows_least rows_most =
    by_rows_lawful n 1 u rows (left_symmetric_column n) limits
    (λ s i hi. omega (arith, column_in_turn n s i hi, mod-lt (s * (n - 1) + i) {m = n} (omega (arith, hi))))
    (λ s i j hi hj e. remainders_differ n (s * (n - 1)) i j hi hj (sym (column_in_turn n s i hi) ∙ (e ∙ column_in_turn n s j hj)))
  where
    limits : IsInLimits n 1 u rows
    limits = record {
      columns_most = columns_most;
      checks_most = omega arith;
      checks_below = columns_least;
      unit_least = unit_least;
      unit_most = unit_most;
      rows_least = rows_least;
      rows_most = rows_most;
    }
