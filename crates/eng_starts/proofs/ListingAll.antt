-- The list of a column's rebuilds, stripe after stripe.
use Rattle.std.proofs.Common.{◌≡◌, ℕ, ◌<◌, ◌≤◌, ◌+◌, ◌⊎◌, List, [], ◌∷◌, ◌++◌, length, get_or, subst, sym, ap, ◌∙◌, arith, inl, inr, length-append}
use Rattle.std.specs.Prelude.{Contains, slice_index}
use Rattle.std.specs.List.Sorted.{IsStrictlyIncreasing}
use Rattle.std.proofs.lemmas.Bool.{cases_eq}
use Rattle.std.proofs.lemmas.List.{length-map, map-append, get_or_append_left, get_or_push}
use Rattle.std.proofs.lemmas.List.Elements.{Contains-get_or, Contains-append_left, Contains-push, Contains-push_cases}
use Rattle.lay_core.specs.Layout.{Shape}
use Rattle.eng_cols.specs.Cols.{ColumnState}
use Rattle.eng_world.specs.Serving.{IsLeft}
use Rattle.eng_world.specs.declared.item.Item.{Item}
use Rattle.eng_clients.specs.Listing.{rebuild}
use Rattle.eng_starts.specs.Rebuilding.{AreRebuildsBelow}

-- a number behind lower ones
rises : (xs : List ℕ) (n : ℕ) → IsStrictlyIncreasing xs → ((s : ℕ) → Contains xs s → s < n) → IsStrictlyIncreasing (xs ++ n ∷ [])
rises xs n up low k lt = elim (cases_eq (k + 1) (length xs)) [
  | inl e ↦
      let here : k < length xs = omega (arith, e) in
      let left : slice_index (xs ++ n ∷ []) k ≡ get_or xs k 0 = get_or_append_left xs (n ∷ []) 0 k here in
      let right : slice_index (xs ++ n ∷ []) (k + 1) ≡ n = get_or_push xs n 0 (k + 1) (sym e) in
      let below : get_or xs k 0 < n = low (get_or xs k 0) (Contains-get_or xs k 0 here) in
      omega (arith, left, right, below)
  | inr ne ↦
      let all = length-append xs (n ∷ []) in
      let inside : k + 1 < length xs = omega (arith, ne, lt, all) in
      let left : slice_index (xs ++ n ∷ []) k ≡ get_or xs k 0 = get_or_append_left xs (n ∷ []) 0 k (omega (arith, inside)) in
      let right : slice_index (xs ++ n ∷ []) (k + 1) ≡ get_or xs (k + 1) 0 = get_or_append_left xs (n ∷ []) 0 (k + 1) inside in
      let step : get_or xs k 0 < get_or xs (k + 1) 0 = up k inside in
      omega (arith, left, right, step)
]

module _ (y : Shape) (cols : List ColumnState) (c asked : ℕ) where
  pub rebuilds-none : (items : List Item) → items ≡ [] → AreRebuildsBelow y cols c asked 0 items
  rebuilds-none items none = record {
    stripes = [];
    is = none;
    few = omega arith;
    within = omega arith;
    first = λ s lt h. absurd (omega (arith, lt));
    only = λ s h. let lt = h.1 in absurd (omega (arith, lt));
    behind = λ s lt h. absurd (omega (arith, lt));
    ascending = λ k lt. absurd (omega (arith, lt));
  }

  pub rebuilds-more : (n : ℕ) (items new : List Item) → AreRebuildsBelow y cols c asked n items → IsLeft y cols c n → length items < asked → new ≡ items ++ rebuild n ∷ [] → AreRebuildsBelow y cols c asked (n + 1) new
  rebuilds-more n items new r left room is = record {
    stripes = r.stripes ++ n ∷ [];
    is = is ∙ (ap (λ (l : List Item). l ++ rebuild n ∷ []) r.is ∙ sym (map-append rebuild r.stripes (n ∷ [])));
    few = let all = length-append r.stripes (n ∷ []) in let few = r.few in omega (arith, all, few);
    within = let all = length-append r.stripes (n ∷ []) in omega (arith, all, short);
    first = λ s lt h. inl (there s lt h);
    only = λ s h. elim (Contains-push_cases r.stripes n s h) [
      | inl old ↦ let was = r.only s old in let lt = was.0 in (omega (arith, lt), was.1)
      | inr e ↦ (omega (arith, e), subst (IsLeft y cols c) e left)
    ];
    behind = λ s lt h. inl (there s lt h);
    ascending = rises r.stripes n r.ascending (λ s h. (r.only s h).0);
  }
    where
      short : length r.stripes < asked
      short = let same = ap length r.is ∙ length-map r.stripes rebuild in omega (arith, same, room)

      there : (s : ℕ) → s < n + 1 → IsLeft y cols c s → Contains (r.stripes ++ n ∷ []) s
      there s lt h = elim (cases_eq s n) [
        | inl e ↦ subst (Contains (r.stripes ++ n ∷ [])) (sym e) (Contains-push r.stripes n)
        | inr ne ↦ elim (r.first s (omega (arith, lt, ne)) h) [
          | inl has ↦ Contains-append_left r.stripes (n ∷ []) s has
          | inr full ↦ absurd (omega (arith, full, short))
        ]
      ]

  pub rebuilds-skip : (n : ℕ) (items : List Item) → AreRebuildsBelow y cols c asked n items → (IsLeft y cols c n → ⊥) ⊎ (length items ≡ asked) → AreRebuildsBelow y cols c asked (n + 1) items
  rebuilds-skip n items r why = record {
    stripes = r.stripes;
    is = r.is;
    few = let few = r.few in omega (arith, few);
    within = r.within;
    first = λ s lt h. elim (cases_eq s n) [
      | inl e ↦ elim why [ inl not ↦ absurd (not (subst (IsLeft y cols c) e h)) | inr full ↦ inr (sym same ∙ full) ]
      | inr ne ↦ r.first s (omega (arith, lt, ne)) h
    ];
    only = λ s h. let was = r.only s h in let lt = was.0 in (omega (arith, lt), was.1);
    behind = λ s lt h. elim (cases_eq s n) [
      | inl e ↦ elim why [
        | inl not ↦ absurd (not (subst (IsLeft y cols c) e h))
        | inr full ↦ inr (λ t has. let low = (r.only t has).0 in omega (arith, low, e))
      ]
      | inr ne ↦ r.behind s (omega (arith, lt, ne)) h
    ];
    ascending = r.ascending;
  }
    where
      same : length items ≡ length r.stripes
      same = ap length r.is ∙ length-map r.stripes rebuild
