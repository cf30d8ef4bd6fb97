-- The set of each label.
use Rattle.std.proofs.Common.{◌≡◌, ◌≢◌, ◌∙◌, inl, inr, ℕ, ◌+◌, ◌<◌, ◌≤◌, zero, suc, Bool, true, false, not, ◌&&◌, cond, List, [], ◌∷◌, length, take, map, get_or, nat_eq, nat_lt, refl, sym, ap, subst, arith, Option, Some, None}
use Rattle.std.proofs.lemmas.Bool.{and_parts, cases_lt, cases_eq, eq-eqb, ltb-true, lt-ltb, true≢false}
use Rattle.std.proofs.lemmas.Bool.Decides.{nat_tests}
use Rattle.std.proofs.lemmas.List.{get_or-map, get_or-take, length-take, length-map}
use Rattle.std.proofs.lemmas.List.Folds.{list_any_at}
use Rattle.std.proofs.lemmas.List.Sums.{sum_by-cons}
use Rattle.std.specs.List.{list_any}
use Rattle.raid_label.specs.declared.label.Label.{Label}
use Rattle.raid_assemble.specs.declared.sets.Set.{Set}
use Rattle.raid_assemble.specs.declared.sets.Standing.{Standing}
use Rattle.raid_assemble.specs.declared.sets.Standing.TheVariants.{Member, Double, Foreign, Stale, Bare}
use Rattle.raid_assemble.specs.Sets.{IsGrouping, is_alike, newest, pattern, fits, standing_behind}
use Rattle.raid_assemble.specs.Steps.{is_of, counter_of, has_column_of, rank, standing_of}
use Rattle.raid_assemble.specs.Standings.{IsFoundAt, HasSetOf, HasCounterOf}
use Rattle.raid_assemble.proofs.Patterns.{first_is}

abbrev Ascends : List ℕ → Type 0
Ascends xs = (i j d : ℕ) → i < j → j < length xs → get_or xs i d < get_or xs j d

tail_ascends : (x : ℕ) (xs : List ℕ) → Ascends (x ∷ xs) → Ascends xs
tail_ascends x xs up i j d less within = up (suc i) (suc j) d (omega arith) (omega arith)

rank_cons : (s x : ℕ) (xs : List ℕ) → rank (x ∷ xs) s ≡ cond (nat_lt x s) 1 0 + rank xs s
rank_cons s x xs = sum_by-cons (λ (t : ℕ). cond (nat_lt t s) 1 0) x xs

not_less : (x s : ℕ) → s ≤ x → cond {A = ℕ} (nat_lt x s) 1 0 ≡ 0
not_less x s h = grind (arith, nat_tests)

is_less : (x s : ℕ) → x < s → cond {A = ℕ} (nat_lt x s) 1 0 ≡ 1
is_less x s h = grind (arith, nat_tests)

-- none below
rank_none : (s : ℕ) (xs : List ℕ) → ((k : ℕ) → k < length xs → s ≤ get_or xs k 0) → rank xs s ≡ 0
rank_none s [] f = refl
rank_none s (x ∷ xs) f =
    let rest = rank_none s xs (λ k h. f (suc k) (omega arith)) in
    let first = f 0 (omega arith) in
    let no = not_less x s first in
    rank_cons s x xs ∙ omega arith

-- a serial's rank is its place
rank_is : (s : ℕ) (xs : List ℕ) → Ascends xs → list_any (nat_eq s) xs ≡ true → (rank xs s < length xs) × (get_or xs (rank xs s) 0 ≡ s)
rank_is s [] up h = absurd (true≢false (sym h))
rank_is s (x ∷ xs) up h = elim (cases_eq s x) [
  | inl same ↦
      let none = rank_none s xs (λ k w. let l = up 0 (suc k) 0 (omega arith) (omega arith) in omega arith) in
      let no = not_less x s (omega arith) in
      let zero' : rank (x ∷ xs) s ≡ 0 = rank_cons s x xs ∙ omega arith in
      (omega arith, ap (λ (i : ℕ). get_or (x ∷ xs) i 0) zero' ∙ sym same)
  | inr other ↦
      let more : list_any (nat_eq s) xs ≡ true = grind (arith, nat_tests) in
      let rest = rank_is s xs (tail_ascends x xs up) more in
      let low = up 0 (suc (rank xs s)) 0 (omega arith) (let w = rest.0 in omega arith) in
      let is = rest.1 in
      let one = is_less x s (omega arith) in
      let next : rank (x ∷ xs) s ≡ suc (rank xs s) = rank_cons s x xs ∙ omega arith in
      (let w = rest.0 in omega arith, ap (λ (i : ℕ). get_or (x ∷ xs) i 0) next ∙ is)
]

-- a label's counter is at most the newest
counter_le : (labels : List (Option Label)) (i : ℕ) (l : Label) → i < length labels → get_or labels i None ≡ Some l → l.counter ≤ newest labels l.serial
unfolding newest
counter_le [] i l within is = absurd (omega arith)
counter_le (x ∷ xs) zero l within is =
    let own : counter_of l.serial x ≡ l.counter = ap (counter_of l.serial) is ∙ ap (λ (b : Bool). cond b l.counter 0) (eq-eqb l.serial l.serial refl) in
    omega arith
counter_le (x ∷ xs) (suc i) l within is = let rest = counter_le xs i l (omega arith) is in omega arith

of_there : (labels : List (Option Label)) (i : ℕ) (l : Label) → i < length labels → get_or labels i None ≡ Some l → list_any (is_of l.serial) labels ≡ true
of_there labels i l within is = list_any_at (is_of l.serial) labels i None within (ap (is_of l.serial) is ∙ eq-eqb l.serial l.serial refl)

-- a standing by its tests
by_tests : (P : Standing → Type 0) (a b c : Bool) (k column : ℕ) → (a ≡ true → P (Stale k)) → (a ≡ false → P (Foreign k)) → (a ≡ false → P (Double k)) → (a ≡ false → P (Member k column))
    → P (cond a (Stale k) (cond (not b) (Foreign k) (cond c (Double k) (Member k column))))
by_tests P true b c k column s f d m = s refl
by_tests P false false c k column s f d m = f refl
by_tests P false true true k column s f d m = d refl
by_tests P false true false k column s f d m = m refl

-- what a member passed
of_member : (a b c : Bool) (k column set other : ℕ) → cond a (Stale k) (cond (not b) (Foreign k) (cond c (Double k) (Member k column))) ≡ Member set other → (a ≡ false) × (b ≡ true) × (c ≡ false) × (k ≡ set) × (column ≡ other)
of_member true b c k column set other e = cc
of_member false false c k column set other e = cc
of_member false true true k column set other e = cc
of_member false true false k column set other e = (refl, refl, refl, (let same : k ≡ set = cc in same), (let same : column ≡ other = cc in same))

not_below : (a b : ℕ) → nat_lt a b ≡ false → b ≤ a
not_below a b h = elim (cases_lt a b) [ inl less ↦ absurd (true≢false (sym (lt-ltb a b less) ∙ h)) | inr most ↦ most ]

-- a label of the pattern's array has a column of it
alike_column : (p l : Label) → is_alike p l ≡ true → l.column < p.columns
unfolding is_alike
alike_column p l h = ltb-true l.column p.columns (and_parts _ (nat_lt l.column p.columns) h).1

module _ (labels : List (Option Label)) (sets : List Set) (places : List Standing) (group : IsGrouping labels sets places) where
  rank_found : (i : ℕ) (l : Label) → i < length labels → get_or labels i None ≡ Some l → (rank (map (λ (s : Set). s.serial) sets) l.serial < length (map (λ (s : Set). s.serial) sets)) × (get_or (map (λ (s : Set). s.serial) sets) (rank (map (λ (s : Set). s.serial) sets) l.serial) 0 ≡ l.serial)
  rank_found i l within is = rank_is l.serial (map (λ (s : Set). s.serial) sets) (λ a b d. group.serials.ascending a b d) (group.serials.each l.serial ∙ of_there labels i l within is)

  found_at : (i : ℕ) (l : Label) → i < length labels → get_or labels i None ≡ Some l → IsFoundAt sets l.serial (rank (map (λ (s : Set). s.serial) sets) l.serial)
  found_at i l within is =
      let found = rank_found i l within is in
      let long : length (map (λ (s : Set). s.serial) sets) ≡ length sets = length-map sets (λ (s : Set). s.serial) in
      let inside : rank (map (λ (s : Set). s.serial) sets) l.serial < length sets = let w = found.0 in omega arith in
      (inside, λ d. sym (get_or-map (λ (s : Set). s.serial) sets (rank (map (λ (s : Set). s.serial) sets) l.serial) d 0 inside) ∙ found.1)

  standing_is : (i : ℕ) (l : Label) (d : Standing) → i < length labels → get_or labels i None ≡ Some l → get_or places i d ≡ standing_behind labels (map (λ (s : Set). s.serial) sets) (take i labels) l
  standing_is i l d within is = group.standings i d within ∙ ap (standing_of labels (map (λ (s : Set). s.serial) sets) (take i labels)) is

  pub has_set : (i : ℕ) (l : Label) (d : Standing) → i < length labels → get_or labels i None ≡ Some l → HasSetOf sets l.serial (get_or places i d)
  unfolding standing_behind
  has_set i l d within is =
      let found = found_at i l within is in
      subst (HasSetOf sets l.serial) (sym (standing_is i l d within is))
      (by_tests (HasSetOf sets l.serial) (nat_lt l.counter (newest labels l.serial)) (fits (pattern labels l.serial) l) (list_any (has_column_of (pattern labels l.serial) l) (take i labels)) (rank (map (λ (s : Set). s.serial) sets) l.serial) l.column (λ e. found) (λ e. found) (λ e. found) (λ e. found))

  counter_at : (i : ℕ) (l : Label) → i < length labels → get_or labels i None ≡ Some l → (d : Set) → (get_or sets (rank (map (λ (s : Set). s.serial) sets) l.serial) d).counter ≡ newest labels l.serial
  counter_at i l within is d =
      let found = found_at i l within is in
      let set = get_or sets (rank (map (λ (s : Set). s.serial) sets) l.serial) d in
      let own = group.described (rank (map (λ (s : Set). s.serial) sets) l.serial) d found.0 in
      let of = first_is set.serial (newest labels set.serial) labels own.0 own.1 in
      ap (λ (s : Set). s.counter) own.2 ∙ (of.1 ∙ ap (newest labels) (found.1 d))

  pub has_counter : (i : ℕ) (l : Label) (d : Standing) → i < length labels → get_or labels i None ≡ Some l → HasCounterOf sets l.counter (get_or places i d)
  unfolding standing_behind
  has_counter i l d within is =
      let at = counter_at i l within is in
      let most = counter_le labels i l within is in
      let same : nat_lt l.counter (newest labels l.serial) ≡ false → (e : Set) → (get_or sets (rank (map (λ (s : Set). s.serial) sets) l.serial) e).counter ≡ l.counter = λ no e. at e ∙ (let low = not_below l.counter (newest labels l.serial) no in omega arith) in
      subst (HasCounterOf sets l.counter) (sym (standing_is i l d within is))
      (by_tests (HasCounterOf sets l.counter) (nat_lt l.counter (newest labels l.serial)) (fits (pattern labels l.serial) l) (list_any (has_column_of (pattern labels l.serial) l) (take i labels)) (rank (map (λ (s : Set). s.serial) sets) l.serial) l.column
      (λ e x. let less = ltb-true l.counter (newest labels l.serial) e in let is' = at x in omega arith) same same same)

  -- what is so of the label of a member
  record IsMember (i set column : ℕ) (l : Label) : Type 0 where
    new : nat_lt l.counter (newest labels l.serial) ≡ false
    fit : fits (pattern labels l.serial) l ≡ true
    first : list_any (has_column_of (pattern labels l.serial) l) (take i labels) ≡ false
    rank_is : rank (map (λ (s : Set). s.serial) sets) l.serial ≡ set
    column_is : l.column ≡ column

  member_of : (i set column : ℕ) (l : Label) (d : Standing) → i < length labels → get_or labels i None ≡ Some l → get_or places i d ≡ Member set column → IsMember i set column l
  unfolding standing_behind
  member_of i set column l d within is member =
      let all = of_member (nat_lt l.counter (newest labels l.serial)) (fits (pattern labels l.serial) l) (list_any (has_column_of (pattern labels l.serial) l) (take i labels)) (rank (map (λ (s : Set). s.serial) sets) l.serial) l.column set column (sym (standing_is i l d within is) ∙ member) in
      record { new = all.0; fit = all.1; first = all.2; rank_is = all.3; column_is = all.4 }

  label_of_member : (i set column : ℕ) (d : Standing) → i < length labels → get_or places i d ≡ Member set column → (l : Label) × (get_or labels i None ≡ Some l)
  label_of_member i set column d within member = go (get_or labels i None) refl
    where
      go : (o : Option Label) → get_or labels i None ≡ o → (l : Label) × (get_or labels i None ≡ Some l)
      go (Some l) e = (l, e)
      go None e = let bare : Bare ≡ Member set column = sym (ap (standing_of labels (map (λ (s : Set). s.serial) sets) (take i labels)) e) ∙ (sym (group.standings i d within) ∙ member) in absurd cc

  pub apart : (i j set column other : ℕ) (d : Standing) → i < j → j < length labels → get_or places i d ≡ Member set column → get_or places j d ≡ Member set other → column ≢ other
  apart i j set column other d less within one two same =
      let early : i < length labels = omega arith in
      let e = label_of_member i set column d early one in
      let l = label_of_member j set other d within two in
      let m = member_of i set column e.0 d early e.1 one in
      let n = member_of j set other l.0 d within l.1 two in
      let at = (rank_found i e.0 early e.1).1 in
      let to = (rank_found j l.0 within l.1).1 in
      let ranks : rank (map (λ (s : Set). s.serial) sets) (e.0).serial ≡ rank (map (λ (s : Set). s.serial) sets) (l.0).serial = m.rank_is ∙ sym n.rank_is in
      let serials : (e.0).serial ≡ (l.0).serial = sym at ∙ (ap (λ (k : ℕ). get_or (map (λ (s : Set). s.serial) sets) k 0) ranks ∙ to) in
      let newer : newest labels (e.0).serial ≡ newest labels (l.0).serial = ap (newest labels) serials in
      let low = not_below (e.0).counter (newest labels (e.0).serial) m.new in
      let high = counter_le labels i e.0 early e.1 in
      let low' = not_below (l.0).counter (newest labels (l.0).serial) n.new in
      let high' = counter_le labels j l.0 within l.1 in
      let counters : (e.0).counter ≡ (l.0).counter = omega arith in
      let columns : (e.0).column ≡ (l.0).column = m.column_is ∙ (same ∙ sym n.column_is) in
      let fit : fits (pattern labels (l.0).serial) e.0 ≡ true = subst (λ (s : ℕ). fits (pattern labels s) e.0 ≡ true) serials m.fit in
      let has : has_column_of (pattern labels (l.0).serial) l.0 (Some e.0) ≡ true = both (both (both (eq-eqb (e.0).serial (l.0).serial serials) (eq-eqb (e.0).counter (l.0).counter counters)) (eq-eqb (e.0).column (l.0).column columns)) fit in
      let there : get_or (take j labels) i None ≡ Some e.0 = get_or-take j labels i None less ∙ e.1 in
      let some = list_any_at (has_column_of (pattern labels (l.0).serial) l.0) (take j labels) i None (let long = length-take j labels in omega arith) (ap (has_column_of (pattern labels (l.0).serial) l.0) there ∙ has) in
      true≢false (sym some ∙ n.first)
    where
      both : {a b : Bool} → a ≡ true → b ≡ true → (a && b) ≡ true
      both x y = cc

  -- a member's column is one of its set
  pub has_column : (i set column : ℕ) (d : Standing) (x : Set) → i < length labels → get_or places i d ≡ Member set column → (set < length sets) × (column < (get_or sets set x).columns)
  has_column i set column d x within member =
      let e = label_of_member i set column d within member in
      let m = member_of i set column e.0 d within e.1 member in
      let found = found_at i e.0 within e.1 in
      let inside : set < length sets = subst (λ (k : ℕ). k < length sets) m.rank_is found.0 in
      let own = group.described set x inside in
      let serial : (get_or sets set x).serial ≡ (e.0).serial = subst (λ (k : ℕ). (get_or sets k x).serial ≡ (e.0).serial) m.rank_is (found.1 x) in
      let pat : pattern labels (e.0).serial ≡ Some own.0 = ap (pattern labels) (sym serial) ∙ own.1 in
      let fit : fits (Some own.0) e.0 ≡ true = ap (λ (p : Option Label). fits p e.0) (sym pat) ∙ m.fit in
      let less = alike_column own.0 e.0 fit in
      let columns : (get_or sets set x).columns ≡ (own.0).columns = ap (λ (s : Set). s.columns) own.2 in
      let column_is = m.column_is in
      (inside, omega arith)
