-- Cover pieces: what is the same at all offsets of one, and how many there are.
use Rattle.std.proofs.Common.{◌≡◌, ℕ, zero, suc, ◌+◌, ◌<◌, ◌≤◌, inl, inr, Bool, true, false, List, [], ◌∷◌, refl, sym, ap, ◌∙◌, subst, arith, length, get_or}
use Rattle.std.specs.Prelude.{if◌then◌else◌, nat_le, nat_lt, ◌&&◌, ◌||◌, ◌==◌}
use Rattle.std.specs.List.{list_any}
use Rattle.std.proofs.lemmas.Bool.{cases_lt, and_parts, and_from, or_left, or_right, eqb-true, eq-eqb, leb-true, ltb-true, le-leb, lt-ltb, both_ways}
use Rattle.std.proofs.lemmas.List.{get_or_past}
use Rattle.std.proofs.lemmas.List.Folds.{list_any_at}
use Rattle.lay_core.specs.declared.place.Part.{Part}
use Rattle.lay_core.specs.Touched.{part_has}
use Rattle.lay_core.specs.Sums.{xor_below}
use Rattle.graph_mean.specs.Graph.{View, kind_at, buf_at, ret_at}
use Rattle.graph_mean.specs.Sums.{old_of, new_of}
use Rattle.graph_mean.specs.Task.{Aim, Missing, IsTask, is_write, is_read, is_touched, is_wanted, has_equation, data_units, data_due, due}
use Rattle.graph_mean.specs.Steps.{Covers, Writes, Wrote, stripe_of}
use Rattle.graph_mean.specs.Refusals.{Leaves, by_write, by_none, Returns, IsWrongValue, IsWrongReturn, same_on}
use Rattle.graph_mean.specs.Fewest.{sum_below, one_if}
use Rattle.graph_mean.proofs.Invariant.{wrote-is}
use Rattle.graph_mean.proofs.Xor.{below_same}
use Rattle.graph_check.specs.Pieces.{range_cuts, buf_cuts, part_cuts, is_cut, pieces_of, IsOnePiece, IsAlike, IsCutTable, is_noted, noted_of, noted_pieces}
use Rattle.graph_mean.proofs.Words.{no_buf}

same-test : (a b : Bool) → (a ≡ true → b ≡ true) → (b ≡ true → a ≡ true) → a ≡ b
same-test true b f h = sym (f refl)
same-test false true f h = h refl
same-test false false f h = refl

any-same : {X : Type 0} (f h : X → Bool) (d : X) (xs : List X) → ((k : ℕ) → k < length xs → f (get_or xs k d) ≡ h (get_or xs k d)) → list_any f xs ≡ list_any h xs
any-same f h d [] e = refl
any-same f h d (x ∷ xs) e = ap (λ b. b || list_any f xs) (e 0 (omega arith)) ∙ ap (λ b. h x || b) (any-same f h d xs (λ k l. e (suc k) (omega arith)))

-- an end of the range is a cut of its own stripe
from-cuts : (from count s : ℕ) → range_cuts s from count s from ≡ true
from-cuts from count s = and_from (s == s) ((from == from) || (from + count == from)) (eq-eqb s s refl) (or_left (from == from) (from + count == from) (eq-eqb from from refl))

end-cuts : (from count s : ℕ) → range_cuts s from count s (from + count) ≡ true
end-cuts from count s = and_from (s == s) ((from == from + count) || (from + count == from + count)) (eq-eqb s s refl) (or_right (from == from + count) (from + count == from + count) (eq-eqb (from + count) (from + count) refl))

-- a range without an end after o up to p has both or neither
module _ (s o p from count : ℕ) (le : o ≤ p) (clear : (q : ℕ) → o < q → q ≤ p → range_cuts s from count s q ≡ true → ⊥) where
  range-on : (from ≤ o) × (o < from + count) → (from ≤ p) × (p < from + count)
  range-on h =
      let a = h.0 in
      let b : o < from + count = h.1 in
      (omega arith, elim (cases_lt p (from + count)) [ inl l ↦ l | inr l ↦ absurd (clear (from + count) b l (end-cuts from count s)) ])

  range-back : (from ≤ p) × (p < from + count) → (from ≤ o) × (o < from + count)
  range-back h =
      let a : from ≤ p = h.0 in
      let b = h.1 in
      (elim (cases_lt o from) [ inl l ↦ absurd (clear from l a (from-cuts from count s)) | inr l ↦ l ], omega arith)

module _ (g : View) (t : Aim) (s o p : ℕ) (one : IsOnePiece g t s o p) where
  le : o ≤ p
  le = one.0

  buf-clear : (b : ℕ) → b < length g.bufs → stripe_of g b ≡ s → (q : ℕ) → o < q → q ≤ p → range_cuts s (buf_at g b).from (buf_at g b).count s q ≡ true → ⊥
  buf-clear b l e q m n h =
      let z : buf_cuts s q (buf_at g b) ≡ true = subst (λ z. range_cuts z (buf_at g b).from (buf_at g b).count s q ≡ true) (sym e) h in
      both_ways (is_cut g t s q) (one.1 q m n) (or_right (q == 0) (list_any (buf_cuts s q) g.bufs || list_any (part_cuts s q) t.parts) (or_left (list_any (buf_cuts s q) g.bufs) (list_any (part_cuts s q) t.parts) (list_any_at (buf_cuts s q) g.bufs b no_buf l z)))

  part-clear : (k : ℕ) (d : Part) → k < length t.parts → (get_or t.parts k d).stripe ≡ s → (q : ℕ) → o < q → q ≤ p → range_cuts s (get_or t.parts k d).from (get_or t.parts k d).count s q ≡ true → ⊥
  part-clear k d l e q m n h =
      let x = get_or t.parts k d in
      let z : part_cuts s q x ≡ true = subst (λ z. range_cuts z x.from x.count s q ≡ true) (sym e) h in
      both_ways (is_cut g t s q) (one.1 q m n) (or_right (q == 0) (list_any (buf_cuts s q) g.bufs || list_any (part_cuts s q) t.parts) (or_right (list_any (buf_cuts s q) g.bufs) (list_any (part_cuts s q) t.parts) (list_any_at (part_cuts s q) t.parts k d l z)))

  -- a buffer past the end covers nothing
  past-covers : (b x : ℕ) → length g.bufs ≤ b → Covers g b x → ⊥
  past-covers b x l h = let r = subst (λ v. (v.from ≤ x) × (x < v.from + v.count)) (get_or_past g.bufs b no_buf l) h in let z : x < 0 = r.1 in omega arith

  covers-on : (b : ℕ) → stripe_of g b ≡ s → Covers g b o → Covers g b p
  covers-on b e h = elim (cases_lt b (length g.bufs)) [
    | inl l ↦ range-on s o p (buf_at g b).from (buf_at g b).count le (buf-clear b l e) h
    | inr l ↦ absurd (past-covers b o l h)
  ]

  covers-back : (b : ℕ) → stripe_of g b ≡ s → Covers g b p → Covers g b o
  covers-back b e h = elim (cases_lt b (length g.bufs)) [
    | inl l ↦ range-back s o p (buf_at g b).from (buf_at g b).count le (buf-clear b l e) h
    | inr l ↦ absurd (past-covers b p l h)
  ]

  writes-to : (x y : ℕ) → ((b : ℕ) → stripe_of g b ≡ s → Covers g b x → Covers g b y) → (n i : ℕ) → Writes g n s i x → Writes g n s i y
  writes-to x y to n i w = let r = wrote-is g (kind_at g n) s i x w.1 in (w.0, subst (λ z. Wrote g z s i y) (sym r.1) (refl, r.2, to r.0 r.2 r.3))

  leaves-to : (x y : ℕ) → ((b : ℕ) → stripe_of g b ≡ s → Covers g b x → Covers g b y) → ((b : ℕ) → stripe_of g b ≡ s → Covers g b y → Covers g b x) → (i m : ℕ) → Leaves g s i x m → Leaves g s i y m
  leaves-to x y to back i m (by_write {n = n} {b = b} l k st co) = by_write l k st (to b st co)
  leaves-to x y to back i m (by_none none) = by_none (λ n w. none n (writes-to y x back n i w))

  returns-to : (x y : ℕ) → ((b : ℕ) → stripe_of g b ≡ s → Covers g b x → Covers g b y) → (i k : ℕ) → Returns g k s i x → Returns g k s i y
  returns-to x y to i k r = record { below = r.below; unit = r.unit; stripe = r.stripe; covers = to (ret_at g k).buf r.stripe r.covers }

  -- a part has both or neither
  has-to : (i x y : ℕ) (v : Part) → ((v.stripe ≡ s) → (v.from ≤ x) × (x < v.from + v.count) → (v.from ≤ y) × (y < v.from + v.count)) → part_has s i x v ≡ true → part_has s i y v ≡ true
  has-to i x y v to h =
      let a = and_parts (v.stripe == s) ((v.unit == i) && (nat_le v.from x && nat_lt x (v.from + v.count))) h in
      let b = and_parts (v.unit == i) (nat_le v.from x && nat_lt x (v.from + v.count)) a.1 in
      let d = and_parts (nat_le v.from x) (nat_lt x (v.from + v.count)) b.1 in
      let r = to (eqb-true v.stripe s a.0) (leb-true v.from x d.0, ltb-true x (v.from + v.count) d.1) in
      and_from (v.stripe == s) ((v.unit == i) && (nat_le v.from y && nat_lt y (v.from + v.count))) a.0
      (and_from (v.unit == i) (nat_le v.from y && nat_lt y (v.from + v.count)) b.0
      (and_from (nat_le v.from y) (nat_lt y (v.from + v.count)) (le-leb v.from y r.0) (lt-ltb y (v.from + v.count) r.1)))

  no_part : Part
  no_part = record { stripe = 0; unit = 0; from = 0; count = 0 }

  touched-same : (i : ℕ) → is_touched t s i o ≡ is_touched t s i p
  touched-same i = any-same (part_has s i o) (part_has s i p) no_part t.parts (λ k l.
      let v = get_or t.parts k no_part in
      same-test (part_has s i o v) (part_has s i p v)
      (has-to i o p v (λ e. range-on s o p v.from v.count le (part-clear k no_part l e)))
      (has-to i p o v (λ e. range-back s o p v.from v.count le (part-clear k no_part l e))))

  data-same : (i : ℕ) → data_due t s o i ≡ data_due t s p i
  data-same i = ap (λ b. if is_write t.kind && b then new_of i else old_of i) (touched-same i)

  due-same : (i : ℕ) → due t s i o ≡ due t s i p
  due-same i =
      ap (λ x. if nat_lt i (data_units t) then x else xor_below (data_due t s o) (data_units t)) (data-same i)
      ∙ ap (λ x. if nat_lt i (data_units t) then data_due t s p i else x) (below_same (data_due t s o) (data_due t s p) (data_units t) (λ j l. data-same j))

  pub alike : IsAlike g t s o p
  alike = record {
    left = λ i m. (leaves-to o p covers-on covers-back i m, leaves-to p o covers-back covers-on i m);
    returned = λ i k. (returns-to o p covers-on i k, returns-to p o covers-back i k);
    due = due-same;
  }

  -- a wrong value is wrong in the whole piece
  pub value-back : (missing : Missing) (i : ℕ) → IsWrongValue g t missing s i p → IsWrongValue g t missing s i o
  value-back missing i h =
      let u : p < t.unit_sectors = h.sector.offset in
      record {
        sector = record { stripe = h.sector.stripe; unit = h.sector.unit; offset = omega arith };
        counts = h.counts;
        wrong = elim h.wrong [
          | inl w ↦ inl (w.0, (λ n x. w.1 n (writes-to o p covers-on n i x)))
          | inr w ↦ inr (w.0, leaves-to p o covers-back covers-on i w.0 w.1, subst (λ d. same_on (has_equation t missing s) t.width w.0 d ≡ false) (sym (due-same i)) w.2)
        ];
      }

  wanted-same : (i : ℕ) → is_wanted t s i o ≡ is_wanted t s i p
  wanted-same i = ap (λ b. is_read t.kind && b) (touched-same i)

  -- a wrong return is
  pub return-back : (missing : Missing) (i : ℕ) → IsWrongReturn g t missing s i p → IsWrongReturn g t missing s i o
  return-back missing i h =
      let u : p < t.unit_sectors = h.offset in
      record {
        stripe = h.stripe;
        unit = h.unit;
        offset = omega arith;
        wrong = elim h.wrong [
          | inl w ↦ inl (wanted-same i ∙ w.0, (λ k x. w.1 k (returns-to o p covers-on i k x)))
          | inr z ↦ elim z [
            | inl w ↦ inr (inl (w.0, w.1, w.2, returns-to p o covers-back i w.0 w.3, returns-to p o covers-back i w.1 w.4))
            | inr w ↦ inr (inr (w.0, returns-to p o covers-back i w.0 w.1, elim w.2 [ inl x ↦ inl (wanted-same i ∙ x) | inr x ↦ inr x ]))
          ]
        ];
      }

-- by a table of cuts
module _ (g : View) (t : Aim) (cuts : List Bool) (table : IsCutTable g t cuts) where
  noted-cut : (s o : ℕ) → s < t.stripes → o < 128 → is_noted cuts s o ≡ is_cut g t s o
  noted-cut s o l m = ap (λ b. (o == 0) || b) (table s o l m)

  pub one-step : (s o : ℕ) → s < t.stripes → o + 1 < 128 → is_noted cuts s (o + 1) ≡ false → IsOnePiece g t s o (o + 1)
  one-step s o l m h = (omega arith, (λ q a b. let e : o + 1 ≡ q = omega arith in subst (λ z. is_cut g t s z ≡ false) e (sym (noted-cut s (o + 1) l m) ∙ h)))

  sum-same : (f h : ℕ → ℕ) (n : ℕ) → ((i : ℕ) → i < n → f i ≡ h i) → sum_below f n ≡ sum_below h n
  unfolding sum_below
  sum-same f h zero e = refl
  sum-same f h (suc n) e = let a = e n (omega arith) in let b = sum-same f h n (λ i l. e i (omega arith)) in omega arith

  pub pieces-noted : IsTask t → noted_pieces t cuts ≡ pieces_of g t
  pieces-noted task = sum-same (λ s. noted_of cuts s t.unit_sectors) (λ s. sum_below (λ o. one_if (is_cut g t s o)) t.unit_sectors) t.stripes
      (λ s l. sum-same (λ o. one_if (is_noted cuts s o)) (λ o. one_if (is_cut g t s o)) t.unit_sectors (λ o m. ap one_if (noted-cut s o l (let z = task.unit_most in omega arith))))

-- one range more, among those so far
pub cuts-more : (p l old : Bool) → (p || (l || old)) ≡ ((l || p) || old)
cuts-more true true old = refl
cuts-more true false old = refl
cuts-more false true old = refl
cuts-more false false old = refl

sum-more : (f : ℕ → ℕ) (n : ℕ) → sum_below f (n + 1) ≡ f n + sum_below f n
unfolding sum_below
sum-more f n = ap (sum_below f) (let e : n + 1 ≡ suc n = omega arith in e)

-- one offset more
pub noted-more : (cuts : List Bool) (s n : ℕ) → noted_of cuts s (n + 1) ≡ one_if (is_noted cuts s n) + noted_of cuts s n
noted-more cuts s n = sum-more (λ o. one_if (is_noted cuts s o)) n

pub noted-none : (cuts : List Bool) (s : ℕ) → noted_of cuts s 0 ≡ 0
unfolding sum_below
noted-none cuts s = refl

-- the pieces of the first n stripes
abbrev pub noted_below : ℕ → List Bool → ℕ → ℕ
noted_below u cuts n = sum_below (λ s. noted_of cuts s u) n

pub below-more : (u : ℕ) (cuts : List Bool) (n : ℕ) → noted_below u cuts (n + 1) ≡ noted_of cuts n u + noted_below u cuts n
below-more u cuts n = sum-more (λ s. noted_of cuts s u) n

pub below-none : (u : ℕ) (cuts : List Bool) → noted_below u cuts 0 ≡ 0
unfolding sum_below
below-none u cuts = refl
