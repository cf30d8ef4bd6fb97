-- What is left when an owner leaves.
use Rattle.std.proofs.Common.{◌≡◌, ◌≢◌, ℕ, ◌+◌, ◌<◌, ◌≤◌, List, [], ◌∷◌, ◌++◌, length, get_or, take, drop, slice_set, filter, map, None, refl, sym, ap, ◌∙◌, subst, inl, inr, arith}
use Rattle.std.specs.List.{All}
use Rattle.std.proofs.lemmas.Bool.{cases_Bool, cases_eq}
use Rattle.std.proofs.lemmas.List.{get_or-map, length-map}
use Rattle.std.proofs.lemmas.List.Edits.{map_over_more}
use Rattle.std.proofs.lemmas.List.Elements.{All-head, All-tail, All-cons, All-nil}
use Rattle.std.proofs.lemmas.List.Kept.{AllPairs-filter}
use Rattle.stripe_lock.specs.declared.holder.Holder.{Holder}
use Rattle.stripe_lock.specs.declared.row.Row.{Row}
use Rattle.stripe_lock.specs.Holder.{mode_in, is_held, left}
use Rattle.stripe_lock.specs.Rows.{mode_at, IsAscending, IsHeld, IsSound, count_in, rows_of, without_owner, has_holder}
use Rattle.stripe_lock.proofs.Holders.{left_own, left_other, no_one}
use Rattle.stripe_lock.proofs.Rows.{at_head, past_head, later, none_later, count_none, count_same, rows_of-cons, few_rows}

abbrev pub gone : ℕ → List Row → List Row
gone owner rows = filter has_holder (map (without_owner owner) rows)

pub left_more : (owner : ℕ) (xs ys : List Row) (i : ℕ) (x : Row) (h : Holder) → i < length xs → ys ≡ map (without_owner owner) (take i xs) ++ drop i xs → x ≡ get_or ys i x → h ≡ left x.holder owner → slice_set ys i (record { stripe = x.stripe; holder = h }) ≡ map (without_owner owner) (take (i + 1) xs) ++ drop (i + 1) xs
left_more owner xs ys i x h within is read now =
    subst (λ (k : Holder). slice_set ys i (record { stripe = x.stripe; holder = k }) ≡ map (without_owner owner) (take (i + 1) xs) ++ drop (i + 1) xs) (sym now)
    (map_over_more (without_owner owner) xs ys i x within is read)

module _ (owner : ℕ) (low : owner < 32) where
  pub gone_own : (rows : List Row) (stripe : ℕ) → mode_at (gone owner rows) owner stripe ≡ None
  gone_own [] stripe = refl
  gone_own (row ∷ rows) stripe = elim (cases_Bool (is_held (left row.holder owner))) [
    | inl held ↦ rw held (elim (cases_eq row.stripe stripe) [
      | inl same ↦ at_head (without_owner owner row) (gone owner rows) owner stripe same ∙ left_own row.holder owner low
      | inr other ↦ past_head (without_owner owner row) (gone owner rows) owner stripe other ∙ gone_own rows stripe
    ])
    | inr free ↦ rw free (gone_own rows stripe)
  ]

  pub gone_other : (rows : List Row) (o stripe : ℕ) → IsAscending rows → o ≢ owner → mode_at (gone owner rows) o stripe ≡ mode_at rows o stripe
  gone_other [] o stripe up apart = refl
  gone_other (row ∷ rows) o stripe up apart =
      let rest = gone_other rows o stripe (later row rows up) apart in
      let stays = left_other row.holder owner o apart in
      elim (cases_Bool (is_held (left row.holder owner))) [
        | inl held ↦ rw held (elim (cases_eq row.stripe stripe) [
          | inl same ↦ at_head (without_owner owner row) (gone owner rows) o stripe same ∙ (stays ∙ sym (at_head row rows o stripe same))
          | inr other ↦ past_head (without_owner owner row) (gone owner rows) o stripe other ∙ (rest ∙ sym (past_head row rows o stripe other))
        ])
        | inr free ↦ rw free (elim (cases_eq row.stripe stripe) [
          | inl same ↦
              rest
              ∙ (subst (λ (s : ℕ). mode_at rows o s ≡ None) same (none_later row rows o up)
              ∙ (sym (no_one (left row.holder owner) free o) ∙ (stays ∙ sym (at_head row rows o stripe same))))
          | inr other ↦ rest ∙ sym (past_head row rows o stripe other)
        ])
      ]

  mapped_ascending : (rows : List Row) → IsAscending rows → IsAscending (map (without_owner owner) rows)
  mapped_ascending rows up i j d before within =
      let long : length (map (without_owner owner) rows) ≡ length rows = length-map rows (without_owner owner) in
      let a = ap (λ (r : Row). r.stripe) (get_or-map (without_owner owner) rows i d d (omega arith)) in
      let b = ap (λ (r : Row). r.stripe) (get_or-map (without_owner owner) rows j d d (omega arith)) in
      let l = up i j d before (omega arith) in
      omega arith

  pub gone_ascending : (rows : List Row) → IsAscending rows → IsAscending (gone owner rows)
  gone_ascending rows up = AllPairs-filter (λ one other. one.stripe < other.stripe) has_holder (map (without_owner owner) rows) (mapped_ascending rows up)

  pub gone_held : (rows : List Row) → All IsHeld rows → All IsHeld (gone owner rows)
  gone_held [] held = All-nil IsHeld
  gone_held (row ∷ rows) held =
      let rest = gone_held rows (All-tail IsHeld row rows held) in
      let first = All-head IsHeld row rows held in
      elim (cases_Bool (is_held (left row.holder owner))) [
        | inl stays ↦ rw stays (All-cons IsHeld (without_owner owner row) (gone owner rows) (record {
          some = stays;
          below = λ o m is. elim (cases_eq o owner) [
            | inl same ↦ let none = subst (λ (x : ℕ). mode_in (left row.holder owner) x ≡ None) (sym same) (left_own row.holder owner low) in absurd cc
            | inr apart ↦ first.below o m (sym (left_other row.holder owner o apart) ∙ is)
          ];
        }) rest)
        | inr free ↦ rw free rest
      ]

  count_left : (holder : Holder) (o : ℕ) → count_in (left holder owner) o ≤ count_in holder o
  count_left holder o = elim (cases_eq o owner) [
    | inl same ↦ subst (λ (x : ℕ). count_in (left holder owner) x ≤ count_in holder x) (sym same) (let n = count_none (left holder owner) owner (left_own holder owner low) in omega arith)
    | inr apart ↦ let n = count_same (left holder owner) holder o (left_other holder owner o apart) in omega arith
  ]

  pub gone_count : (rows : List Row) (o : ℕ) → rows_of o (gone owner rows) ≤ rows_of o rows
  gone_count [] o = omega arith
  gone_count (row ∷ rows) o =
      let rest = gone_count rows o in
      let all = rows_of-cons o row rows in
      elim (cases_Bool (is_held (left row.holder owner))) [
        | inl held ↦ rw held (let a = rows_of-cons o (without_owner owner row) (gone owner rows) in let b = count_left row.holder o in omega arith)
        | inr free ↦ rw free (omega arith)
      ]

  pub gone_sound : (rows : List Row) → IsSound rows → IsSound (gone owner rows)
  gone_sound rows sound =
      let held = gone_held rows sound.held in
      let most : (o : ℕ) → rows_of o (gone owner rows) ≤ 16 = λ o. let a = gone_count rows o in let b = sound.most o in omega arith in
      record { ascending = gone_ascending rows sound.ascending; held = held; most = most; few = few_rows (gone owner rows) held most }
