-- What an owner gains.
use Rattle.std.proofs.Common.{◌≡◌, ◌≢◌, ℕ, ◌+◌, ◌<◌, ◌≤◌, true, List, [], ◌∷◌, ◌++◌, length, get_or, take, drop, slice_set, None, Some, Contains, refl, sym, ap, ◌∙◌, subst, inl, inr, arith, length-append}
use Rattle.std.specs.List.{insert, All}
use Rattle.std.proofs.lemmas.Bool.{cases_Bool, cases_eq}
use Rattle.std.proofs.lemmas.List.{get_or-set_same, length-set, take_more}
use Rattle.std.proofs.lemmas.List.Edits.{length-insert}
use Rattle.std.proofs.lemmas.List.Elements.{All-set, All-append, All-take, All-drop, All-cons, All-get_or, Contains-push_cases, Contains-push, Contains-append_left}
use Rattle.stripe_lock.specs.declared.mode.Mode.{Mode}
use Rattle.stripe_lock.specs.declared.holder.Holder.{Holder}
use Rattle.stripe_lock.specs.declared.row.Row.{Row}
use Rattle.stripe_lock.specs.Holder.{mode_in, only, joined, is_held, IsInTheWay}
use Rattle.stripe_lock.specs.Rows.{mode_at, IsAscending, IsPlace, HasRow, IsHeld, IsSound, HoldsNone, IsBarred, Grows, rows_of}
use Rattle.stripe_lock.proofs.Holders.{only_own, only_other, joined_own, joined_other, no_one}
use Rattle.stripe_lock.proofs.Barring.{one_of_one, has_itself, way_bars, barred_among}
use Rattle.stripe_lock.proofs.Rows.{here, found, missing, absent, put_ascending, put_own, put_other, set_ascending, set_other, count_le, count_same, count_none, rows_of-set, rows_of-insert, none_of, few_rows, fewer_rows}

held_now : (holder : Holder) (owner : ℕ) (mode : Mode) → mode_in holder owner ≡ Some mode → is_held holder ≡ true
held_now holder owner mode is = elim (cases_Bool (is_held holder)) [ inl t ↦ t | inr f ↦ let none = no_one holder f owner in absurd cc ]

-- one stripe, by who holds it then
module _ (old new : List Row) (owner stripe : ℕ) (mode : Mode) (holder : Holder) where
  grows_one :
      ((o : ℕ) → mode_at new o stripe ≡ mode_in holder o)
      → ((o s : ℕ) → stripe ≢ s → mode_at new o s ≡ mode_at old o s)
      → mode_in holder owner ≡ Some mode
      → ((o : ℕ) → o ≢ owner → mode_in holder o ≡ mode_at old o stripe)
      → IsAscending new
      → (All IsHeld old → All IsHeld new)
      → length new ≤ length old + 1
      → rows_of owner new ≤ rows_of owner old + 1
      → ((o : ℕ) → o ≢ owner → rows_of o new ≤ rows_of o old)
      → Grows old owner (stripe ∷ []) mode new
  grows_one at_it elsewhere own theirs up held long count counts = record {
    each = λ s has. subst (λ (x : ℕ). mode_at new owner x ≡ Some mode) (one_of_one stripe s has) (at_it owner ∙ own);
    only = λ s none. elsewhere owner s (λ e. none (subst (λ (x : ℕ). Contains (stripe ∷ []) x) e (has_itself stripe)));
    others = λ o s apart. elim (cases_eq stripe s) [
      | inl same ↦ subst (λ (x : ℕ). mode_at new o x ≡ mode_at old o x) same (at_it o ∙ theirs o apart)
      | inr other ↦ elsewhere o s other
    ];
    ascending = up;
    held = held;
    long = long;
    own = count;
    theirs = counts;
  }

pub grows_by_set : (rows : List Row) (at owner stripe : ℕ) (mode : Mode) (row e : Row) → owner < 17 → IsAscending rows → HasRow rows stripe at → ¬ IsBarred rows owner (stripe ∷ []) mode → row.stripe ≡ (get_or rows at e).stripe → row.holder ≡ joined (get_or rows at e).holder owner mode → Grows rows owner (stripe ∷ []) mode (slice_set rows at row)
grows_by_set rows at owner stripe mode row e low up has free same_stripe holder_is =
    let before = (get_or rows at e).holder in
    let inside = has.within in
    let is : row.stripe ≡ stripe = same_stripe ∙ has.same e in
    let at_row : (d : Row) → (get_or rows at d).stripe ≡ row.stripe = λ d. has.same d ∙ sym is in
    let up_new = set_ascending rows at row up inside at_row in
    let old_is : (o : ℕ) → mode_in before o ≡ mode_at rows o stripe = λ o. found rows at o stripe e up has in
    let no_way : ¬ IsInTheWay before owner mode = λ way. free (way_bars rows owner stripe mode before old_is way) in
    let own : mode_in row.holder owner ≡ Some mode = ap (λ (h : Holder). mode_in h owner) holder_is ∙ joined_own before owner mode (omega arith) in
    let theirs : (o : ℕ) → o ≢ owner → mode_in row.holder o ≡ mode_in before o = λ o apart. ap (λ (h : Holder). mode_in h o) holder_is ∙ joined_other before owner mode o no_way apart in
    let long = length-set rows at row in
    let at_new = get_or-set_same rows at row row inside in
    grows_one rows (slice_set rows at row) owner stripe mode row.holder
    (λ o. here (slice_set rows at row) at o stripe row up_new (omega arith) (ap (λ (r : Row). r.stripe) at_new ∙ is) ∙ ap (λ (r : Row). mode_in r.holder o) at_new)
    (λ o s other. set_other rows at row o s e inside (at_row e) (λ x. other (sym is ∙ x)))
    own
    (λ o apart. theirs o apart ∙ old_is o)
    up_new
    (λ held. All-set IsHeld rows at row (record {
      some = held_now row.holder owner mode own;
      below = λ o m m_is. elim (cases_eq o owner) [
        | inl same ↦ omega arith
        | inr apart ↦ (All-get_or IsHeld rows at e inside held).below o m (sym (theirs o apart) ∙ m_is)
      ];
    }) held)
    (omega arith)
    (let c = rows_of-set owner rows at row e inside in let n = count_le row.holder owner in omega arith)
    (λ o apart. let c = rows_of-set o rows at row e inside in let n = count_same row.holder before o (theirs o apart) in omega arith)

pub grows_by_insert : (rows : List Row) (at owner stripe : ℕ) (mode : Mode) (row : Row) → owner < 17 → IsAscending rows → IsPlace rows stripe at → ¬ HasRow rows stripe at → row.stripe ≡ stripe → row.holder ≡ only owner mode → Grows rows owner (stripe ∷ []) mode (insert rows at row)
grows_by_insert rows at owner stripe mode row low up is no_row stripe_is holder_is =
    let none = missing rows at stripe up is no_row in
    let place = subst (λ (s : ℕ). IsPlace rows s at) (sym stripe_is) is in
    let new = subst (λ (s : ℕ). All (λ (r : Row). r.stripe ≢ s) rows) (sym stripe_is) none in
    let own : mode_in row.holder owner ≡ Some mode = ap (λ (h : Holder). mode_in h owner) holder_is ∙ only_own owner mode (omega arith) in
    let theirs : (o : ℕ) → o ≢ owner → mode_in row.holder o ≡ None = λ o apart. ap (λ (h : Holder). mode_in h o) holder_is ∙ only_other owner mode o apart in
    let long = length-insert rows at row is.within in
    grows_one rows (insert rows at row) owner stripe mode row.holder
    (λ o. subst (λ (s : ℕ). mode_at (insert rows at row) o s ≡ mode_in row.holder o) stripe_is (put_own rows at row up place new o))
    (λ o s other. put_other rows at row o s (λ x. other (sym stripe_is ∙ x)))
    own
    (λ o apart. theirs o apart ∙ sym (absent rows o stripe none))
    (put_ascending rows at row up place new)
    (λ held. All-append IsHeld (take at rows) (row ∷ drop at rows) (All-take IsHeld at rows held) (All-cons IsHeld row (drop at rows) (record {
      some = held_now row.holder owner mode own;
      below = λ o m m_is. elim (cases_eq o owner) [
        | inl same ↦ omega arith
        | inr apart ↦ let n = theirs o apart in absurd cc
      ];
    }) (All-drop IsHeld at rows held)))
    (omega arith)
    (let c = rows_of-insert owner rows at row in let n = count_le row.holder owner in omega arith)
    (λ o apart. let c = rows_of-insert o rows at row in let n = count_none row.holder o (theirs o apart) in omega arith)

-- the same in the code's words
pub grows_by_change : (rows : List Row) (at owner stripe : ℕ) (mode : Mode) (x : Row) (h : Holder) → owner < 17 → IsAscending rows → HasRow rows stripe at → ¬ IsBarred rows owner (stripe ∷ []) mode → x ≡ get_or rows at x → h ≡ joined x.holder owner mode → Grows rows owner (stripe ∷ []) mode (slice_set rows at (record { stripe = x.stripe; holder = h }))
grows_by_change rows at owner stripe mode x h low up has free read now =
    grows_by_set rows at owner stripe mode (record { stripe = x.stripe; holder = h }) x low up has free
    (ap (λ (r : Row). r.stripe) read) (now ∙ ap (λ (r : Row). joined r.holder owner mode) read)

pub grows_by_new : (rows new : List Row) (at owner stripe : ℕ) (mode : Mode) (h : Holder) → owner < 17 → IsAscending rows → IsPlace rows stripe at → ¬ HasRow rows stripe at → h ≡ only owner mode → new ≡ insert rows at (record { stripe = stripe; holder = h }) → Grows rows owner (stripe ∷ []) mode new
grows_by_new rows new at owner stripe mode h low up is none now new_is =
    subst (λ (xs : List Row). Grows rows owner (stripe ∷ []) mode xs) (sym new_is)
    (grows_by_insert rows at owner stripe mode (record { stripe = stripe; holder = h }) low up is none refl now)

-- ---- several stripes

pub grows_more : (old middle new : List Row) (owner stripe : ℕ) (stripes : List ℕ) (mode : Mode) → Grows old owner stripes mode middle → Grows middle owner (stripe ∷ []) mode new → Grows old owner (stripes ++ stripe ∷ []) mode new
grows_more old middle new owner stripe stripes mode first then' =
    let long = length-append stripes (stripe ∷ []) in
    let a = first.long in
    let b = then'.long in
    let p = first.own in
    let q = then'.own in
    record {
      each = λ s has. elim (cases_eq stripe s) [
        | inl same ↦ then'.each s (subst (λ (x : ℕ). Contains (stripe ∷ []) x) same (has_itself stripe))
        | inr other ↦ elim (Contains-push_cases stripes stripe s has) [
          | inl before ↦ then'.only s (λ one. other (one_of_one stripe s one)) ∙ first.each s before
          | inr same ↦ absurd (other same)
        ]
      ];
      only = λ s none.
          then'.only s (λ one. none (subst (λ (x : ℕ). Contains (stripes ++ stripe ∷ []) x) (one_of_one stripe s one) (Contains-push stripes stripe)))
          ∙ first.only s (λ before. none (Contains-append_left stripes (stripe ∷ []) s before));
      others = λ o s apart. then'.others o s apart ∙ first.others o s apart;
      ascending = then'.ascending;
      held = λ held. then'.held (first.held held);
      long = omega arith;
      own = omega arith;
      theirs = λ o apart. let x = first.theirs o apart in let y = then'.theirs o apart in omega arith;
    }

pub grows_on : (old middle new : List Row) (owner i : ℕ) (stripes : List ℕ) (mode : Mode) → i < length stripes → Grows old owner (take i stripes) mode middle → Grows middle owner (get_or stripes i 0 ∷ []) mode new → Grows old owner (take (i + 1) stripes) mode new
grows_on old middle new owner i stripes mode within first then' =
    subst (λ (xs : List ℕ). Grows old owner xs mode new) (sym (take_more stripes i 0 within)) (grows_more old middle new owner (get_or stripes i 0) (take i stripes) mode first then')

pub still_free : (old middle : List Row) (owner stripe : ℕ) (stripes taken : List ℕ) (mode : Mode) → ¬ IsBarred old owner stripes mode → Grows old owner taken mode middle → Contains stripes stripe → ¬ IsBarred middle owner (stripe ∷ []) mode
still_free old middle owner stripe stripes taken mode free grows has barred =
    free (barred_among old owner stripe stripes mode has (record {
      other = barred.other;
      stripe = barred.stripe;
      theirs = barred.theirs;
      apart = barred.apart;
      wanted = barred.wanted;
      held = sym (grows.others barred.other barred.stripe barred.apart) ∙ barred.held;
      alone = barred.alone;
    }))

pub few_before : (old : List Row) (owner : ℕ) → owner < 17 → IsSound old → HoldsNone old owner → length old ≤ 256
few_before old owner low sound none = fewer_rows old owner low sound.held (none_of old owner sound.ascending none) sound.most

pub sound_after : (old new : List Row) (owner : ℕ) (stripes : List ℕ) (mode : Mode) → IsSound old → HoldsNone old owner → length stripes ≤ 16 → Grows old owner stripes mode new → IsSound new
sound_after old new owner stripes mode sound none few grows =
    let zero' = none_of old owner sound.ascending none in
    let most : (o : ℕ) → rows_of o new ≤ 16 = λ o. elim (cases_eq o owner) [
      | inl same ↦ subst (λ (x : ℕ). rows_of x new ≤ 16) (sym same) (let a = grows.own in omega arith)
      | inr apart ↦ let a = grows.theirs o apart in let b = sound.most o in omega arith
    ] in
    record { ascending = grows.ascending; held = grows.held sound.held; most = most; few = few_rows new (grows.held sound.held) most }
