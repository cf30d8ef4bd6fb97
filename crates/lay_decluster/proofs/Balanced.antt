-- Full tables are balanced.
use Rattle.std.specs.Prelude.{◌≡◌, ◌≢◌, ◌<◌, ◌≤◌, ◌+◌, ◌-◌, ◌*◌, ◌/◌, ◌%◌, ◌==◌, ◌&&◌, ℕ, zero, suc, Bool, true, false, not, nat_lt}
use Rattle.std.proofs.Common.{arith, refl, sym, ap, ◌∙◌, inl, inr}
use Rattle.std.proofs.lemmas.Bool.{cases_lt, eq-eqb, ne_eqb, cases_eq}
use Rattle.std.proofs.lemmas.Nat.{div-mul-add, mod-mul-add}
use Rattle.lay_design.specs.Counting.{count_below}
use Rattle.lay_design.specs.Blocks.{object, has, together}
use Rattle.lay_design.specs.Design.{Blocks, IsDesign}
use Rattle.lay_decluster.specs.Limits.{table_stripes}
use Rattle.lay_decluster.specs.Table.{tuple_of, copy_of, column_at}
use Rattle.lay_decluster.specs.Positions.{unit_position, spare_position, spared_position}
use Rattle.lay_decluster.specs.Counted.{one_if, count_none, count_more, count_alike}
use Rattle.lay_decluster.specs.Shapes.{declustered, spared}
use Rattle.lay_decluster.specs.Balance.{has_unit, has_check, has_spare, count_in_table, IsBalanced}
use Rattle.lay_decluster.proofs.Objects.{object_once}
use Rattle.lay_decluster.proofs.Sums.{sum_below, sum_alike, sum_same, sum_times, sum_ones, count_rows, count_turned, count_around, count_neither}
use Rattle.lay_decluster.proofs.Spread.{units_everywhere, unit_last, spared_everywhere, spared_last}

none_pass : (n : ℕ) → count_below (λ i. false) n ≡ 0
none_pass zero = count_none (λ i. false)
none_pass (suc n) =
    let next : suc n ≡ n + 1 = omega arith in
    let more : count_below (λ i. false) (suc n) ≡ count_below (λ i. false) n + one_if false = ap (count_below (λ i. false)) next ∙ count_more (λ i. false) n in
    omega (arith, more, none_pass n)

some : (b : Bool) → nat_lt 0 (one_if b) ≡ b
some true = refl
some false = refl

turn : (a b : Bool) → (a && b) ≡ (b && a)
turn true true = refl
turn true false = refl
turn false true = refl
turn false false = refl

-- what a stripe's units leave out at a spare place
without : (c : ℕ) (a b : Bool) → c + one_if b ≡ one_if a → nat_lt 0 c ≡ (a && not b)
without c true true e = let z : c ≡ 0 = omega (arith, e) in ap (nat_lt 0) z
without c true false e = let z : c ≡ 1 = omega (arith, e) in ap (nat_lt 0) z
without c false true e = absurd (omega (arith, e))
without c false false e = let z : c ≡ 0 = omega (arith, e) in ap (nat_lt 0) z

-- of k numbers, one passes the one test and another passes the other
neither : (k : ℕ) (f g : ℕ → Bool) (a b : Bool) → count_below f k ≡ one_if a → count_below g k ≡ one_if b → ((j : ℕ) → (f j && g j) ≡ false)
    → count_below (λ j. (a && not (f j)) && (b && not (g j))) k ≡ one_if (a && b) * (k - 2)
neither k f g true true hf hg apart = let sum = count_neither f g k (λ j less. apart j) in omega (arith, sum, hf, hg)
neither k f g true false hf hg apart = count_alike (λ j. (true && not (f j)) && (false && not (g j))) (λ j. false) k (λ j less. and_false (not (f j))) ∙ (none_pass k ∙ omega arith)
  where
    and_false : (x : Bool) → (x && false) ≡ false
    and_false true = refl
    and_false false = refl
neither k f g false b hf hg apart = none_pass k ∙ omega arith

-- no number is two
not_both : (x z n : ℕ) → x ≢ z → ((n == x) && (n == z)) ≡ false
not_both x z n apart = elim (cases_eq n x) [
  | inl e ↦ ap (λ b. (n == x) && b) (ne_eqb n z (λ f. apart (sym e ∙ f))) ∙ ap (λ b. b && false) (eq-eqb n x e)
  | inr ne ↦ ap (λ b. b && (n == z)) (ne_eqb n x ne)
]

-- the stripe of tuple t in copy j of table q
abbrev stripe_at : Blocks → ℕ → ℕ → ℕ → ℕ
stripe_at d q j t = q * (d.k * d.b) + (j * d.b + t)

-- two objects stand together in lambda tuples, in whichever order they are named
pairs_are : (d : Blocks) → IsDesign d → (x z : ℕ) → x < d.v → z < d.v → x ≢ z → together d.b d.k d.objects x z ≡ d.lambda
pairs_are d design x z hx hz apart = elim (cases_lt x z) [
  | inl less ↦ design.pairs x z less hz
  | inr most ↦ elim (cases_lt z x) [
    | inl more ↦ count_alike (λ t. has d.k d.objects x t && has d.k d.objects z t) (λ t. has d.k d.objects z t && has d.k d.objects x t) d.b (λ t h. turn (has d.k d.objects x t) (has d.k d.objects z t)) ∙ design.pairs z x more hx
    | inr least ↦ absurd (apart (omega (arith, most, least)))
  ]
]

module _ (d : Blocks) (design : IsDesign d) (q j t : ℕ) (hj : j < d.k) (ht : t < d.b) where
  stripe_is : stripe_at d q j t ≡ (q * d.k + j) * d.b + t
  stripe_is = omega arith

  pub tuple_is : tuple_of d (stripe_at d q j t) ≡ t
  tuple_is = ap (λ s. s % d.b) stripe_is ∙ mod-mul-add (q * d.k + j) d.b t ht

  pub copy_is : copy_of d (stripe_at d q j t) ≡ j
  copy_is = ap (λ s. (s / d.b) % d.k) stripe_is ∙ (ap (λ c. c % d.k) (div-mul-add (q * d.k + j) d.b t ht) ∙ mod-mul-add q d.k j hj)

  -- a position is on column x where its object is x
  pub on_column : (x p : ℕ) → (column_at d (stripe_at d q j t) p == x) ≡ (object d.k d.objects t p == x)
  on_column x p = ap (λ n. object d.k d.objects n p == x) tuple_is

  pub unit_there : (u rows x : ℕ) → has_unit (declustered d u rows) x (stripe_at d q j t) ≡ has d.k d.objects x t
  unit_there u rows x =
      let s : ℕ = stripe_at d q j t in
      let h : ℕ → Bool = λ p. object d.k d.objects t p == x in
      let same : count_below (λ i. column_at d s (unit_position d.k (copy_of d s) i) == x) d.k ≡ count_below (λ i. h (unit_position d.k j i)) d.k =
      count_alike (λ i. column_at d s (unit_position d.k (copy_of d s) i) == x) (λ i. h (unit_position d.k j i)) d.k (λ i less. on_column x (unit_position d.k (copy_of d s) i) ∙ ap (λ c. h (unit_position d.k c i)) copy_is) in
      ap (nat_lt 0) (same ∙ (units_everywhere h d.k j hj ∙ object_once d design t x ht)) ∙ some (has d.k d.objects x t)

  pub check_there : (u rows x : ℕ) → has_check (declustered d u rows) x (stripe_at d q j t) ≡ (object d.k d.objects t j == x)
  check_there u rows x =
      let s : ℕ = stripe_at d q j t in
      on_column x (unit_position d.k (copy_of d s) (d.k - 1)) ∙ ap (λ p. object d.k d.objects t p == x) (unit_last d.k (copy_of d s) ∙ copy_is)

  module _ (wide : 3 ≤ d.k) where
    pub spared_unit_there : (u rows x : ℕ) → has_unit (spared d u rows) x (stripe_at d q j t) ≡ (has d.k d.objects x t && not (object d.k d.objects t (spare_position d.k j) == x))
    spared_unit_there u rows x =
        let s : ℕ = stripe_at d q j t in
        let h : ℕ → Bool = λ p. object d.k d.objects t p == x in
        let same : count_below (λ i. column_at d s (spared_position d.k (copy_of d s) i) == x) (d.k - 1) ≡ count_below (λ i. h (spared_position d.k j i)) (d.k - 1) =
        count_alike (λ i. column_at d s (spared_position d.k (copy_of d s) i) == x) (λ i. h (spared_position d.k j i)) (d.k - 1) (λ i less. on_column x (spared_position d.k (copy_of d s) i) ∙ ap (λ c. h (spared_position d.k c i)) copy_is) in
        let sum : count_below (λ i. h (spared_position d.k j i)) (d.k - 1) + one_if (h (spare_position d.k j)) ≡ one_if (has d.k d.objects x t) = spared_everywhere h d.k j wide hj ∙ object_once d design t x ht in
        ap (nat_lt 0) same ∙ without (count_below (λ i. h (spared_position d.k j i)) (d.k - 1)) (has d.k d.objects x t) (h (spare_position d.k j)) sum

    pub spared_check_there : (u rows x : ℕ) → has_check (spared d u rows) x (stripe_at d q j t) ≡ (object d.k d.objects t j == x)
    spared_check_there u rows x =
        let s : ℕ = stripe_at d q j t in
        let last : d.k - 1 - 1 ≡ d.k - 2 = omega arith in
        on_column x (spared_position d.k (copy_of d s) (d.k - 1 - 1)) ∙ ap (λ p. object d.k d.objects t p == x) (ap (spared_position d.k (copy_of d s)) last ∙ (spared_last d.k (copy_of d s) ∙ copy_is))

    pub spare_there : (u rows x : ℕ) → has_spare (spared d u rows) x (stripe_at d q j t) ≡ (object d.k d.objects t (spare_position d.k j) == x)
    spare_there u rows x =
        let s : ℕ = stripe_at d q j t in
        on_column x (spare_position d.k (copy_of d s)) ∙ ap (λ c. object d.k d.objects t (spare_position d.k c) == x) copy_is

-- a table's stripes, copy by copy and tuple by tuple
by_copies : (d : Blocks) (q : ℕ) (test : ℕ → Bool) (g : ℕ → ℕ → Bool) → ((j t : ℕ) → j < d.k → t < d.b → test (stripe_at d q j t) ≡ g j t)
    → count_in_table (table_stripes d) q test ≡ sum_below (λ j. count_below (g j) d.b) d.k
by_copies d q test g same =
    count_rows (λ s. test (q * table_stripes d + s)) d.b d.k
    ∙ sum_alike (λ j. count_below (λ t. test (q * table_stripes d + (j * d.b + t))) d.b) (λ j. count_below (g j) d.b) d.k (λ j hj. count_alike (λ t. test (q * table_stripes d + (j * d.b + t))) (g j) d.b (λ t ht. same j t hj ht))

module _ (d : Blocks) (design : IsDesign d) where
  -- what falls to each position of each tuple once falls to each object r times
  each_degree : (h : ℕ → ℕ → Bool) (x : ℕ) → x < d.v → ((t : ℕ) → t < d.b → count_below (λ j. h j t) d.k ≡ one_if (has d.k d.objects x t)) → sum_below (λ j. count_below (h j) d.b) d.k ≡ d.r
  each_degree h x hx once =
      count_turned h d.k d.b
      ∙ (sum_alike (λ t. count_below (λ j. h j t) d.k) (λ t. one_if (has d.k d.objects x t)) d.b once
      ∙ (sum_ones (has d.k d.objects x) d.b ∙ design.degrees x hx))

  checks_even : (x : ℕ) → x < d.v → sum_below (λ j. count_below (λ t. object d.k d.objects t j == x) d.b) d.k ≡ d.r
  checks_even x hx = each_degree (λ j t. object d.k d.objects t j == x) x hx (λ t ht. object_once d design t x ht)

  spares_even : (x : ℕ) → x < d.v → sum_below (λ j. count_below (λ t. object d.k d.objects t (spare_position d.k j) == x) d.b) d.k ≡ d.r
  spares_even x hx = each_degree (λ j t. object d.k d.objects t (spare_position d.k j) == x) x hx (λ t ht. count_around (λ p. object d.k d.objects t p == x) d.k ∙ object_once d design t x ht)

  pub declustered_balanced : (u rows : ℕ) → IsBalanced (declustered d u rows) (table_stripes d) (d.lambda * d.k) d.r 0
  declustered_balanced u rows = record {
    shared = λ q x z h hx hz apart.
        by_copies d q (λ s. has_unit (declustered d u rows) x s && has_unit (declustered d u rows) z s) (λ j t. has d.k d.objects x t && has d.k d.objects z t)
        (λ j t hj ht. ap (λ b. b && has_unit (declustered d u rows) z (stripe_at d q j t)) (unit_there d design q j t hj ht u rows x) ∙ ap (λ b. has d.k d.objects x t && b) (unit_there d design q j t hj ht u rows z))
        ∙ (sum_same (λ j. count_below (λ t. has d.k d.objects x t && has d.k d.objects z t) d.b) d.k d.lambda (λ j hj. pairs_are d design x z hx hz apart) ∙ omega arith);
    check_units = λ q x h hx. by_copies d q (has_check (declustered d u rows) x) (λ j t. object d.k d.objects t j == x) (λ j t hj ht. check_there d design q j t hj ht u rows x) ∙ checks_even x hx;
    spare_places = λ q x h hx. none_pass (table_stripes d);
  }

  module _ (wide : 3 ≤ d.k) where
    -- of the copies of a tuple with two objects, one has its spare place on the one and one on the other
    kept : (x z t : ℕ) → x ≢ z → t < d.b
        → count_below (λ j. (has d.k d.objects x t && not (object d.k d.objects t (spare_position d.k j) == x)) && (has d.k d.objects z t && not (object d.k d.objects t (spare_position d.k j) == z))) d.k
        ≡ one_if (has d.k d.objects x t && has d.k d.objects z t) * (d.k - 2)
    kept x z t apart ht =
        neither d.k (λ j. object d.k d.objects t (spare_position d.k j) == x) (λ j. object d.k d.objects t (spare_position d.k j) == z) (has d.k d.objects x t) (has d.k d.objects z t)
        (count_around (λ p. object d.k d.objects t p == x) d.k ∙ object_once d design t x ht)
        (count_around (λ p. object d.k d.objects t p == z) d.k ∙ object_once d design t z ht)
        (λ j. not_both x z (object d.k d.objects t (spare_position d.k j)) apart)

    pub spared_balanced : (u rows : ℕ) → IsBalanced (spared d u rows) (table_stripes d) (d.lambda * (d.k - 2)) d.r d.r
    spared_balanced u rows = record {
      shared = λ q x z h hx hz apart.
          by_copies d q (λ s. has_unit (spared d u rows) x s && has_unit (spared d u rows) z s)
          (λ j t. (has d.k d.objects x t && not (object d.k d.objects t (spare_position d.k j) == x)) && (has d.k d.objects z t && not (object d.k d.objects t (spare_position d.k j) == z)))
          (λ j t hj ht. ap (λ b. b && has_unit (spared d u rows) z (stripe_at d q j t)) (spared_unit_there d design q j t hj ht wide u rows x) ∙ ap (λ b. (has d.k d.objects x t && not (object d.k d.objects t (spare_position d.k j) == x)) && b) (spared_unit_there d design q j t hj ht wide u rows z))
          ∙ (count_turned (λ j t. (has d.k d.objects x t && not (object d.k d.objects t (spare_position d.k j) == x)) && (has d.k d.objects z t && not (object d.k d.objects t (spare_position d.k j) == z))) d.k d.b
          ∙ (sum_alike (λ t. count_below (λ j. (has d.k d.objects x t && not (object d.k d.objects t (spare_position d.k j) == x)) && (has d.k d.objects z t && not (object d.k d.objects t (spare_position d.k j) == z))) d.k) (λ t. one_if (has d.k d.objects x t && has d.k d.objects z t) * (d.k - 2)) d.b (λ t ht. kept x z t apart ht)
          ∙ (sum_times (λ t. has d.k d.objects x t && has d.k d.objects z t) (d.k - 2) d.b
          ∙ ap (λ n. n * (d.k - 2)) (pairs_are d design x z hx hz apart))));
      check_units = λ q x h hx. by_copies d q (has_check (spared d u rows) x) (λ j t. object d.k d.objects t j == x) (λ j t hj ht. spared_check_there d design q j t hj ht wide u rows x) ∙ checks_even x hx;
      spare_places = λ q x h hx. by_copies d q (has_spare (spared d u rows) x) (λ j t. object d.k d.objects t (spare_position d.k j) == x) (λ j t hj ht. spare_there d design q j t hj ht wide u rows x) ∙ spares_even x hx;
    }
