-- The test of designs says whether there is one.
use Rattle.std.proofs.Common.{◌≡◌, ◌∙◌, ℕ, ◌+◌, ◌<◌, ◌≤◌, ◌*◌, ◌-◌, Bool, true, false, Result, Ok, Err, length, get_or, le-leb, lt-ltb, refl, sym, ap, arith, ◌⊎◌, inl, inr}
use Rattle.std.specs.Prelude.{◌≢◌, ◌&&◌, ◌==◌, not, nat_eq, nat_le, nat_lt}
use Rattle.std.specs.List.{list_all, range_with_len}
use Rattle.std.proofs.lemmas.Bool.{and_parts, eq-eqb, eqb-true, leb-true, ltb-true}
use Rattle.std.proofs.lemmas.List.FromFn.{get_or-range_with_len, length-range_with_len}
use Rattle.std.proofs.lemmas.List.Sums.{AllPass-from_list_all, list_all-from_AllPass}
use Rattle.lay_design.specs.declared.fault.DesignFault.{DesignFault}
use Rattle.lay_design.specs.declared.fault.DesignFault.TheVariants.{Count, Element, Repeat, Degree, Pair, Memory}
use Rattle.lay_design.specs.Blocks.{degree, together}
use Rattle.lay_design.specs.Counting.{IsNowhere}
use Rattle.lay_design.specs.Design.{AreNumbers, Blocks, IsDesign, IsFault, outside, parts, repeated, strays}
use Rattle.raid_conf.specs.declared.fault.ConfFault.{ConfFault}
use Rattle.raid_conf.specs.Answers.{Judges, AnswersFault}
use Rattle.raid_conf.specs.Designs.{is_design, nowhere, numbers_fit}

both : (a b : Bool) → a ≡ true → b ≡ true → (a && b) ≡ true
both a b h k = rw (h, k) refl

not_true : (b : Bool) → not b ≡ true → b ≡ false
not_true true h = cc
not_true false h = refl

false_not : (b : Bool) → b ≡ false → not b ≡ true
false_not b h = rw h refl

zero_more : (i : ℕ) → 0 + i ≡ i
zero_more i = omega arith

-- a test that all of 0 to n - 1 pass
all_pass : (f : ℕ → Bool) (n i : ℕ) → list_all f (range_with_len 0 n) ≡ true → i < n → f i ≡ true
all_pass f n i h lt =
    let at = AllPass-from_list_all f (range_with_len 0 n) h i 0 (rw (length-range_with_len 0 n) lt) in
    rw (get_or-range_with_len 0 n i 0 lt, zero_more i) at at

pass_all : (f : ℕ → Bool) (n : ℕ) → ((i : ℕ) → i < n → f i ≡ true) → list_all f (range_with_len 0 n) ≡ true
pass_all f n h = list_all-from_AllPass f (range_with_len 0 n) (λ i d lt.
    let small : i < n = rw (length-range_with_len 0 n) at lt in
    rw (get_or-range_with_len 0 n i d small, zero_more i) (h i small))

nowhere_is : (f : ℕ → ℕ → Bool) (n k : ℕ) → nowhere f n k ≡ true → IsNowhere f n k
unfolding nowhere
nowhere_is f n k h t i row place = not_true (f t i) (all_pass (λ j. not (f t j)) k i (all_pass (λ s. list_all (λ j. not (f s j)) (range_with_len 0 k)) n t h row) place)

is_nowhere : (f : ℕ → ℕ → Bool) (n k : ℕ) → IsNowhere f n k → nowhere f n k ≡ true
unfolding nowhere
is_nowhere f n k h = pass_all (λ s. list_all (λ j. not (f s j)) (range_with_len 0 k)) n (λ t row. pass_all (λ j. not (f t j)) k (λ i place. false_not (f t i) (h t i row place)))

numbers_are : (d : Blocks) → numbers_fit d ≡ true → AreNumbers d
unfolding numbers_fit
numbers_are d h =
    let halves = and_parts _ _ h in
    let limits = and_parts _ _ halves.0 in
    let sums = and_parts _ _ halves.1 in
    let wide = and_parts _ _ limits.0 in
    let many = and_parts _ _ limits.1 in
    let v = and_parts _ _ wide.0 in
    let k = and_parts _ _ wide.1 in
    let b = and_parts _ _ many.0 in
    record {
      objects_least = leb-true 2 d.v v.0;
      objects_most = leb-true d.v 32 v.1;
      width_least = leb-true 2 d.k k.0;
      width_most = leb-true d.k d.v k.1;
      tuples_least = leb-true 1 d.b b.0;
      tuples_most = leb-true d.b 4096 b.1;
      length = eqb-true (length d.objects) (d.b * d.k) many.1;
      places = eqb-true (d.b * d.k) (d.v * d.r) sums.0;
      pairs = eqb-true (d.r * (d.k - 1)) (d.lambda * (d.v - 1)) sums.1;
    }

are_numbers : (d : Blocks) → AreNumbers d → numbers_fit d ≡ true
unfolding numbers_fit
are_numbers d h = both _ _
    (both _ _
    (both _ _ (both _ _ (le-leb 2 d.v h.objects_least) (le-leb d.v 32 h.objects_most)) (both _ _ (le-leb 2 d.k h.width_least) (le-leb d.k d.v h.width_most)))
    (both _ _ (both _ _ (le-leb 1 d.b h.tuples_least) (le-leb d.b 4096 h.tuples_most)) (eq-eqb (length d.objects) (d.b * d.k) h.length)))
    (both _ _ (eq-eqb (d.b * d.k) (d.v * d.r) h.places) (eq-eqb (d.r * (d.k - 1)) (d.lambda * (d.v - 1)) h.pairs))

-- what passes the test is a design
pub design_is : (d : Blocks) → is_design d ≡ true → IsDesign d
unfolding is_design
design_is d h =
    let halves = and_parts _ _ h in
    let tuples = and_parts _ _ halves.0 in
    let places = and_parts _ _ tuples.1 in
    let counts = and_parts _ _ halves.1 in
    record {
      numbers = numbers_are d tuples.0;
      below = nowhere_is (outside d) d.b d.k places.0;
      distinct = nowhere_is (repeated d) d.b d.k places.1;
      degrees = λ x lt. not_strays d x (all_pass (λ y. not (strays d y)) d.v x counts.0 lt);
      pairs = λ x y less lt. not_parts d x y less (nowhere_is (parts d) d.v d.v counts.1 x y (omega (arith, less, lt)) lt);
    }
  where
    not_not : (b : Bool) → not (not b) ≡ true → b ≡ true
    not_not true h = refl
    not_not false h = cc

    not_strays : (d : Blocks) (x : ℕ) → not (strays d x) ≡ true → degree d.b d.k d.objects x ≡ d.r
    not_strays d x h = eqb-true (degree d.b d.k d.objects x) d.r (not_not _ h)

    not_parts : (d : Blocks) (x y : ℕ) → x < y → parts d x y ≡ false → together d.b d.k d.objects x y ≡ d.lambda
    not_parts d x y less h = eqb-true (together d.b d.k d.objects x y) d.lambda (go (nat_lt x y) _ (lt-ltb x y less) h)
      where
        go : (a b : Bool) → a ≡ true → (a && not b) ≡ false → b ≡ true
        go true true e h = refl
        go true false e h = cc
        go false b e h = absurd (cc)

-- a design passes it
pub is_the_design : (d : Blocks) → IsDesign d → is_design d ≡ true
unfolding is_design
is_the_design d h = both _ _
    (both _ _ (are_numbers d h.numbers) (both _ _ (is_nowhere (outside d) d.b d.k h.below) (is_nowhere (repeated d) d.b d.k h.distinct)))
    (both _ _ (pass_all (λ y. not (strays d y)) d.v (λ x lt. no_stray d x (h.degrees x lt))) (is_nowhere (parts d) d.v d.v (λ x y row place. no_part d x y (h.pairs x y) place)))
  where
    no_stray : (d : Blocks) (x : ℕ) → degree d.b d.k d.objects x ≡ d.r → not (strays d x) ≡ true
    no_stray d x e = rw (eq-eqb (degree d.b d.k d.objects x) d.r e) refl

    no_part : (d : Blocks) (x y : ℕ) → (x < y → y < d.v → together d.b d.k d.objects x y ≡ d.lambda) → y < d.v → parts d x y ≡ false
    no_part d x y same lt = go (nat_lt x y) refl
      where
        go : (a : Bool) → nat_lt x y ≡ a → parts d x y ≡ false
        go true e = let t = eq-eqb (together d.b d.k d.objects x y) d.lambda (same (ltb-true x y e) lt) in rw (e, t) refl
        go false e = rw e refl

-- what lay_design answers settles the test
pub judged : ((d : Blocks) (fault : DesignFault) → IsDesign d → IsFault d fault → fault ≡ Memory) → (d : Blocks) (fault : DesignFault) (result : Result Bool ConfFault)
    → ((fault ≡ Memory) ⊎ IsFault d fault) → AnswersFault fault result → Judges result (is_design d)
judged law d fault result cause h = go fault cause h
  where
    fails : (f : DesignFault) → f ≢ Memory → ((f ≡ Memory) ⊎ IsFault d f) → is_design d ≡ false
    fails f other (inl e) = absurd (other e)
    fails f other (inr e) = test (is_design d) refl
      where
        test : (b : Bool) → is_design d ≡ b → b ≡ false
        test true k = absurd (other (law d f (design_is d k) e))
        test false k = refl

    no : is_design d ≡ false → result ≡ Ok false → Judges result (is_design d)
    no test e = rw e test

    go : (f : DesignFault) → ((f ≡ Memory) ⊎ IsFault d f) → AnswersFault f result → Judges result (is_design d)
    go Memory cause e = rw e tt
    go Count cause e = no (fails Count (λ x. cc) cause) e
    go (Element t i) cause e = no (fails (Element t i) (λ x. cc) cause) e
    go (Repeat t i) cause e = no (fails (Repeat t i) (λ x. cc) cause) e
    go (Degree x has) cause e = no (fails (Degree x has) (λ y. cc) cause) e
    go (Pair x y has) cause e = no (fails (Pair x y has) (λ z. cc) cause) e
