-- A task followed by another has both in it.
use Rattle.std.proofs.Common.{◌≡◌, ◌∙◌, inl, inr, ℕ, ◌+◌, ◌-◌, ◌<◌, ◌==◌, ◌&&◌, ◌||◌, nat_lt, Bool, true, false, List, [], ◌∷◌, ◌++◌, map, refl, sym, ap, arith}
use Rattle.std.specs.Prelude.{All}
use Rattle.std.specs.List.{list_any}
use Rattle.std.proofs.lemmas.Bool.{cases_eq, eq-eqb, ne_eqb, lt-ltb, le-ltb, cond-true, cond-false}
use Rattle.std.proofs.lemmas.List.Folds.{list_any-append}
use Rattle.std.proofs.lemmas.List.Elements.{All-head, All-tail, All-weaker}
use Rattle.lay_core.specs.declared.place.Part.{Part}
use Rattle.lay_core.specs.Touched.{part_has}
use Rattle.graph_mean.specs.Task.{Aim, Missing, IsPartOf, is_write, is_read, is_touched}
use Rattle.graph_merge.specs.Tasks.{moved_part, followed, missing_followed, IsAlike}
use Rattle.graph_merge.proofs.Carry.{Side}

module _ (n s i o : ℕ) where
  none_moved : s < n → (ys : List Part) → list_any (part_has s i o) (map (moved_part n) ys) ≡ false
  none_moved h [] = refl
  none_moved h (y ∷ ys) =
      let apart : (y.stripe + n == s) ≡ false = ne_eqb (y.stripe + n) s (λ e. (let x = e in absurd (omega arith))) in
      let rest = none_moved h ys in cc

  none_before : (xs : List Part) → All (λ p. p.stripe < n) xs → list_any (part_has (s + n) i o) xs ≡ false
  none_before [] below = refl
  none_before (x ∷ xs) below =
      let first : x.stripe < n = All-head (λ (p : Part). p.stripe < n) x xs below in
      let apart : (x.stripe == s + n) ≡ false = ne_eqb x.stripe (s + n) (λ e. (let z = e in absurd (omega arith))) in
      let rest = none_before xs (All-tail (λ (p : Part). p.stripe < n) x xs below) in cc

  same_stripe : (y : ℕ) → (y + n == s + n) ≡ (y == s)
  same_stripe y = elim (cases_eq y s) [
    | inl is ↦ eq-eqb (y + n) (s + n) (omega arith) ∙ sym (eq-eqb y s is)
    | inr other ↦ ne_eqb (y + n) (s + n) (λ e. other (let z = e in omega arith)) ∙ sym (ne_eqb y s other)
  ]

  all_moved : (ys : List Part) → list_any (part_has (s + n) i o) (map (moved_part n) ys) ≡ list_any (part_has s i o) ys
  all_moved [] = refl
  all_moved (y ∷ ys) =
      let same = same_stripe y.stripe in
      let rest = all_moved ys in cc

  pub touched_first : s < n → (xs ys : List Part) → list_any (part_has s i o) (xs ++ map (moved_part n) ys) ≡ list_any (part_has s i o) xs
  touched_first h xs ys =
      let both = list_any-append (part_has s i o) xs (map (moved_part n) ys) in
      let none = none_moved h ys in
      both ∙ (ap (λ (b : Bool). list_any (part_has s i o) xs || b) none ∙ or_false (list_any (part_has s i o) xs))
    where
      or_false : (b : Bool) → (b || false) ≡ b
      or_false true = refl
      or_false false = refl

  pub touched_second : (xs ys : List Part) → All (λ p. p.stripe < n) xs → list_any (part_has (s + n) i o) (xs ++ map (moved_part n) ys) ≡ list_any (part_has s i o) ys
  touched_second xs ys below =
      let both = list_any-append (part_has (s + n) i o) xs (map (moved_part n) ys) in
      both ∙ (ap (λ (b : Bool). b || list_any (part_has (s + n) i o) (map (moved_part n) ys)) (none_before xs below) ∙ all_moved ys)

module _ (t u : Aim) (m k : Missing) where
  pub first_side : Side t (followed t u) m (missing_followed t m k) 0
  first_side = record {
    kind = refl;
    width = refl;
    checks = refl;
    unit_sectors = refl;
    stripes = λ s h. omega arith;
    written = λ s i o h. let same : s + 0 ≡ s = omega arith in ap (λ (x : ℕ). is_write t.kind && is_touched (followed t u) x i o) same ∙ ap (λ (b : Bool). is_write t.kind && b) (touched_first t.stripes s i o h t.parts u.parts);
    wanted = λ s i o h. let same : s + 0 ≡ s = omega arith in ap (λ (x : ℕ). is_read t.kind && is_touched (followed t u) x i o) same ∙ ap (λ (b : Bool). is_read t.kind && b) (touched_first t.stripes s i o h t.parts u.parts);
    missing = λ s h. let same : s + 0 ≡ s = omega arith in ap (missing_followed t m k) same ∙ cond-true (nat_lt s t.stripes) (m s) (k (s - t.stripes)) (lt-ltb s t.stripes h);
  }

  pub second_side : All (IsPartOf t) t.parts → IsAlike t u → Side u (followed t u) k (missing_followed t m k) t.stripes
  second_side parts like = record {
    kind = sym like.kind;
    width = sym like.width;
    checks = sym like.checks;
    unit_sectors = sym like.unit_sectors;
    stripes = λ s h. omega arith;
    written = λ s i o h. ap (λ (b : Bool). is_write t.kind && b) (touched_second t.stripes s i o t.parts u.parts below) ∙ ap (λ (x : _). is_write x && is_touched u s i o) (sym like.kind);
    wanted = λ s i o h. ap (λ (b : Bool). is_read t.kind && b) (touched_second t.stripes s i o t.parts u.parts below) ∙ ap (λ (x : _). is_read x && is_touched u s i o) (sym like.kind);
    missing = λ s h. let back : s + t.stripes - t.stripes ≡ s = omega arith in cond-false (nat_lt (s + t.stripes) t.stripes) (m (s + t.stripes)) (k (s + t.stripes - t.stripes)) (le-ltb (s + t.stripes) t.stripes (omega arith)) ∙ ap k back;
  }
    where
      below : All (λ p. p.stripe < t.stripes) t.parts
      below = All-weaker (IsPartOf t) (λ p. p.stripe < t.stripes) (λ p is. is.stripe) t.parts parts
