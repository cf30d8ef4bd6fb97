-- What an edit of the rows does to who holds what.
use Rattle.std.proofs.Common.{◌≡◌, ◌≢◌, ◌↔◌, ℕ, zero, suc, ◌+◌, ◌-◌, ◌*◌, ◌<◌, ◌≤◌, ◌==◌, if◌then◌else◌, false, List, [], ◌∷◌, ◌++◌, length, get_or, take, drop, slice_set, cond, Option, None, Some, IsTrue, refl, sym, ap, ◌∙◌, subst, inl, inr, arith}
use Rattle.std.specs.List.{insert, All, AllWithin}
use Rattle.std.specs.Option.{is_some}
use Rattle.std.proofs.lemmas.Bool.{cases_Bool, cases_eq, cases_lt, eq-eqb, ne_eqb, eqb-true}
use Rattle.std.proofs.lemmas.List.{take-append-drop, get_or-set_same, get_or-set_other, length-set, get_or_default}
use Rattle.std.proofs.lemmas.List.Edits.{length-insert, get_or-insert_below, get_or-insert_at, get_or-insert_above}
use Rattle.std.proofs.lemmas.List.Elements.{All-head, All-tail}
use Rattle.std.proofs.lemmas.List.Sums.{sum_by-cons, sum_by-set, sum_by-insert}
use Rattle.stripe_lock.specs.declared.mode.Mode.{Mode}
use Rattle.stripe_lock.specs.declared.holder.Holder.{Holder}
use Rattle.stripe_lock.specs.declared.row.Row.{Row}
use Rattle.stripe_lock.specs.Holder.{mode_in}
use Rattle.stripe_lock.specs.Rows.{mode_at, IsAscending, IsPlace, HasRow, IsHeld, count_in, rows_of}
use Rattle.stripe_lock.proofs.Holders.{somebody}

-- ---- one row

pub at_head : (row : Row) (rows : List Row) (owner stripe : ℕ) → row.stripe ≡ stripe → mode_at (row ∷ rows) owner stripe ≡ mode_in row.holder owner
at_head row rows owner stripe is = rw (eq-eqb row.stripe stripe is)

pub past_head : (row : Row) (rows : List Row) (owner stripe : ℕ) → row.stripe ≢ stripe → mode_at (row ∷ rows) owner stripe ≡ mode_at rows owner stripe
past_head row rows owner stripe is = rw (ne_eqb row.stripe stripe is)

pub absent : (rows : List Row) (owner stripe : ℕ) → All (λ row. row.stripe ≢ stripe) rows → mode_at rows owner stripe ≡ None
absent [] owner stripe none = refl
absent (row ∷ rows) owner stripe none =
    past_head row rows owner stripe (All-head (λ (r : Row). r.stripe ≢ stripe) row rows none)
    ∙ absent rows owner stripe (All-tail (λ (r : Row). r.stripe ≢ stripe) row rows none)

pub later : (row : Row) (rows : List Row) → IsAscending (row ∷ rows) → IsAscending rows
later row rows up i j d before within = up (suc i) (suc j) d (omega arith) (omega arith)

pub above : (row : Row) (rows : List Row) → IsAscending (row ∷ rows) → All (λ other. row.stripe < other.stripe) rows
above row rows up k d within = up 0 (suc k) d (omega arith) (omega arith)

pub none_later : (row : Row) (rows : List Row) (owner : ℕ) → IsAscending (row ∷ rows) → mode_at rows owner row.stripe ≡ None
none_later row rows owner up = absent rows owner row.stripe (λ k d within. let low = above row rows up k d within in λ e. omega arith)

pub here : (rows : List Row) (at owner stripe : ℕ) (d : Row) → IsAscending rows → at < length rows → (get_or rows at d).stripe ≡ stripe → mode_at rows owner stripe ≡ mode_in (get_or rows at d).holder owner
here [] at owner stripe d up within is = absurd (omega arith)
here (row ∷ rows) zero owner stripe d up within is = at_head row rows owner stripe is
here (row ∷ rows) (suc at) owner stripe d up within is =
    let low : row.stripe < (get_or rows at d).stripe = above row rows up at d (omega arith) in
    past_head row rows owner stripe (λ e. omega arith) ∙ here rows at owner stripe d (later row rows up) (omega arith) is

-- where the row at the place has another stripe, none has this one
pub not_here : (rows : List Row) (stripe at : ℕ) → IsAscending rows → IsPlace rows stripe at → ((d : Row) → at < length rows → (get_or rows at d).stripe ≢ stripe) → All (λ row. row.stripe ≢ stripe) rows
not_here rows stripe at up is other k d within = elim (cases_lt k at) [
  | inl low ↦ let l = is.below k d (omega arith) low in λ e. omega arith
  | inr high ↦ elim (cases_eq k at) [
    | inl same ↦ subst (λ (n : ℕ). (get_or rows n d).stripe ≢ stripe) (sym same) (other d (let w = within in omega arith))
    | inr more ↦ let first = is.above at d (omega arith) (omega arith) in let l = up at k d (omega arith) within in λ e. omega arith
  ]
]

-- ---- finding a row

pub below_middle : (rows : List Row) (stripe middle : ℕ) (e : Row) → IsAscending rows → middle < length rows → (get_or rows middle e).stripe < stripe → AllWithin (λ row. row.stripe < stripe) rows 0 (middle + 1)
below_middle rows stripe middle e up inside low k d from within =
    let same : (get_or rows middle d).stripe ≡ (get_or rows middle e).stripe = ap (λ (r : Row). r.stripe) (get_or_default rows middle d e inside) in
    elim (cases_eq k middle) [
      | inl is ↦ subst (λ (n : ℕ). (get_or rows n d).stripe < stripe) (sym is) (omega arith)
      | inr not' ↦ let before : k < middle = omega arith in let l = up k middle d before inside in omega arith
    ]

pub above_middle : (rows : List Row) (stripe middle : ℕ) (e : Row) → IsAscending rows → middle < length rows → stripe ≤ (get_or rows middle e).stripe → AllWithin (λ row. stripe ≤ row.stripe) rows middle (length rows)
above_middle rows stripe middle e up inside high k d from within =
    let same : (get_or rows middle d).stripe ≡ (get_or rows middle e).stripe = ap (λ (r : Row). r.stripe) (get_or_default rows middle d e inside) in
    elim (cases_eq k middle) [
      | inl is ↦ subst (λ (n : ℕ). stripe ≤ (get_or rows n d).stripe) (sym is) (omega arith)
      | inr not' ↦ let after : middle < k = omega arith in let l = up middle k d after within in omega arith
    ]

pub row_by_test : (rows : List Row) (at stripe : ℕ) (e : Row) → at < length rows → IsTrue ((get_or rows at e).stripe == stripe) ↔ HasRow rows stripe at
row_by_test rows at stripe e inside = (
  λ t. record { within = inside; same = λ d. ap (λ (r : Row). r.stripe) (get_or_default rows at d e inside) ∙ eqb-true (get_or rows at e).stripe stripe t },
  λ has. eq-eqb (get_or rows at e).stripe stripe (has.same e),
)

pub no_row : (rows : List Row) (at stripe : ℕ) → length rows ≤ at → IsTrue false ↔ HasRow rows stripe at
no_row rows at stripe past = (λ t. absurd cc, λ has. let w = has.within in absurd (omega arith))

pub found : (rows : List Row) (at owner stripe : ℕ) (e : Row) → IsAscending rows → HasRow rows stripe at → mode_in (get_or rows at e).holder owner ≡ mode_at rows owner stripe
found rows at owner stripe e up has = sym (here rows at owner stripe e up has.within (has.same e))

pub missing : (rows : List Row) (at stripe : ℕ) → IsAscending rows → IsPlace rows stripe at → ¬ HasRow rows stripe at → All (λ row. row.stripe ≢ stripe) rows
missing rows at stripe up is no' =
    not_here rows stripe at up is (λ d inside e. no' (record { within = inside; same = λ f. ap (λ (r : Row). r.stripe) (get_or_default rows at f d inside) ∙ e }))

-- ---- a row put in

around : (xs ys : List Row) (row : Row) (owner stripe : ℕ) → row.stripe ≢ stripe → mode_at (xs ++ row ∷ ys) owner stripe ≡ mode_at (xs ++ ys) owner stripe
around [] ys row owner stripe other = past_head row ys owner stripe other
around (x ∷ xs) ys row owner stripe other = ap (λ (m : Option Mode). cond (x.stripe == stripe) (mode_in x.holder owner) m) (around xs ys row owner stripe other)

pub put_other : (rows : List Row) (at : ℕ) (row : Row) (owner stripe : ℕ) → row.stripe ≢ stripe → mode_at (insert rows at row) owner stripe ≡ mode_at rows owner stripe
put_other rows at row owner stripe other =
    around (take at rows) (drop at rows) row owner stripe other ∙ ap (λ (xs : List Row). mode_at xs owner stripe) (take-append-drop at rows)

module _ (rows : List Row) (at : ℕ) (row : Row) (up : IsAscending rows) (is : IsPlace rows row.stripe at) (new : All (λ other. other.stripe ≢ row.stripe) rows) where
  below_it : (k : ℕ) (d : Row) → k < at → (get_or (insert rows at row) k d).stripe < row.stripe
  below_it k d low = rw (get_or-insert_below rows at row d k low is.within) (is.below k d (omega arith) low)

  at_it : (d : Row) → get_or (insert rows at row) at d ≡ row
  at_it d = get_or-insert_at rows at row d is.within

  past_it : (k : ℕ) (d : Row) → at < k → get_or (insert rows at row) k d ≡ get_or rows (k - 1) d
  past_it k d high =
      let e : (k - 1) + 1 ≡ k = omega arith in
      subst (λ (n : ℕ). get_or (insert rows at row) n d ≡ get_or rows (k - 1) d) e (get_or-insert_above rows at row d (k - 1) (omega arith) is.within)

  above_it : (k : ℕ) (d : Row) → at < k → k < length rows + 1 → row.stripe < (get_or (insert rows at row) k d).stripe
  above_it k d high within =
      let l = is.above (k - 1) d (omega arith) (omega arith) in
      let n = new (k - 1) d (omega arith) in
      let e = past_it k d high in
      rw e (let apart : (get_or rows (k - 1) d).stripe ≢ row.stripe = n in elim (cases_lt row.stripe (get_or rows (k - 1) d).stripe) [ inl low ↦ low | inr no' ↦ absurd (apart (omega arith)) ])

  pub put_ascending : IsAscending (insert rows at row)
  put_ascending i j d before within =
      let long = length-insert rows at row is.within in
      let j_in : j < length rows + 1 = omega arith in
      elim (cases_lt j at) [
        | inl low ↦
            let i_low : i < at = omega arith in
            rw (get_or-insert_below rows at row d i i_low is.within, get_or-insert_below rows at row d j low is.within) (up i j d before (let w = is.within in omega arith))
        | inr high ↦ elim (cases_eq j at) [
          | inl same ↦
              let i_low : i < at = omega arith in
              let b = below_it i d i_low in
              subst (λ (n : ℕ). (get_or (insert rows at row) i d).stripe < (get_or (insert rows at row) n d).stripe) (sym same) (rw (at_it d) b)
          | inr more ↦
              let past : at < j = omega arith in
              let a = above_it j d past j_in in
              elim (cases_lt i at) [
                | inl i_low ↦ let b = below_it i d i_low in omega arith
                | inr i_high ↦ elim (cases_eq i at) [
                  | inl i_same ↦ subst (λ (n : ℕ). (get_or (insert rows at row) n d).stripe < (get_or (insert rows at row) j d).stripe) (sym i_same) (rw (at_it d) a)
                  | inr i_more ↦
                      let i_past : at < i = omega arith in
                      rw (past_it i d i_past, past_it j d past) (up (i - 1) (j - 1) d (omega arith) (omega arith))
                ]
              ]
        ]
      ]

  pub put_own : (owner : ℕ) → mode_at (insert rows at row) owner row.stripe ≡ mode_in row.holder owner
  put_own owner =
      let e = at_it row in
      let long = length-insert rows at row is.within in
      let w = is.within in
      here (insert rows at row) at owner row.stripe row put_ascending (omega arith) (ap (λ (r : Row). r.stripe) e) ∙ ap (λ (r : Row). mode_in r.holder owner) e

-- ---- a row changed

pub set_other : (rows : List Row) (at : ℕ) (row : Row) (owner stripe : ℕ) (d : Row) → at < length rows → (get_or rows at d).stripe ≡ row.stripe → row.stripe ≢ stripe → mode_at (slice_set rows at row) owner stripe ≡ mode_at rows owner stripe
set_other [] at row owner stripe d within same other = absurd (omega arith)
set_other (x ∷ xs) zero row owner stripe d within same other = past_head row xs owner stripe other ∙ sym (past_head x xs owner stripe (λ e. other (sym same ∙ e)))
set_other (x ∷ xs) (suc at) row owner stripe d within same other =
    ap (λ (m : Option Mode). cond (x.stripe == stripe) (mode_in x.holder owner) m) (set_other xs at row owner stripe d (omega arith) same other)

same_stripe : (rows : List Row) (at : ℕ) (row : Row) → at < length rows → ((d : Row) → (get_or rows at d).stripe ≡ row.stripe) → (k : ℕ) (d : Row) → (get_or (slice_set rows at row) k d).stripe ≡ (get_or rows k d).stripe
same_stripe rows at row within same k d = elim (cases_eq k at) [
  | inl is ↦
      subst (λ (n : ℕ). (get_or (slice_set rows at row) n d).stripe ≡ (get_or rows n d).stripe) (sym is)
      (ap (λ (r : Row). r.stripe) (get_or-set_same rows at row d within) ∙ sym (same d))
  | inr not' ↦ ap (λ (r : Row). r.stripe) (get_or-set_other rows at k row d not')
]

pub set_ascending : (rows : List Row) (at : ℕ) (row : Row) → IsAscending rows → at < length rows → ((d : Row) → (get_or rows at d).stripe ≡ row.stripe) → IsAscending (slice_set rows at row)
set_ascending rows at row up within same i j d before inside =
    let long = length-set rows at row in
    rw (same_stripe rows at row within same i d, same_stripe rows at row within same j d) (up i j d before (omega arith))

-- ---- how many stripes an owner holds

pub count_le : (holder : Holder) (owner : ℕ) → count_in holder owner ≤ 1
count_le holder owner = elim (cases_Bool (is_some (mode_in holder owner))) [ inl t ↦ rw t (omega arith) | inr f ↦ rw f (omega arith) ]

pub count_same : (one other : Holder) (owner : ℕ) → mode_in one owner ≡ mode_in other owner → count_in one owner ≡ count_in other owner
count_same one other owner same = ap (λ (m : Option Mode). let n : ℕ = if is_some m then 1 else 0 in n) same

pub count_none : (holder : Holder) (owner : ℕ) → mode_in holder owner ≡ None → count_in holder owner ≡ 0
count_none holder owner none = ap (λ (m : Option Mode). let n : ℕ = if is_some m then 1 else 0 in n) none

pub count_some : (holder : Holder) (owner : ℕ) (mode : Mode) → mode_in holder owner ≡ Some mode → count_in holder owner ≡ 1
count_some holder owner mode some = ap (λ (m : Option Mode). let n : ℕ = if is_some m then 1 else 0 in n) some

pub rows_of-cons : (owner : ℕ) (row : Row) (rows : List Row) → rows_of owner (row ∷ rows) ≡ count_in row.holder owner + rows_of owner rows
rows_of-cons owner row rows = sum_by-cons (λ (r : Row). count_in r.holder owner) row rows

pub rows_of-insert : (owner : ℕ) (rows : List Row) (at : ℕ) (row : Row) → rows_of owner (insert rows at row) ≡ rows_of owner rows + count_in row.holder owner
rows_of-insert owner rows at row = sum_by-insert (λ (r : Row). count_in r.holder owner) rows at row

pub rows_of-set : (owner : ℕ) (rows : List Row) (at : ℕ) (row d : Row) → at < length rows → rows_of owner (slice_set rows at row) + count_in (get_or rows at d).holder owner ≡ rows_of owner rows + count_in row.holder owner
rows_of-set owner rows at row d within = sum_by-set (λ (r : Row). count_in r.holder owner) rows at row d within

-- who holds no stripe holds no row
pub none_of : (rows : List Row) (owner : ℕ) → IsAscending rows → ((stripe : ℕ) → mode_at rows owner stripe ≡ None) → rows_of owner rows ≡ 0
none_of [] owner up none = refl
none_of (row ∷ rows) owner up none =
    let first = count_none row.holder owner (sym (at_head row rows owner row.stripe refl) ∙ none row.stripe) in
    let rest = none_of rows owner (later row rows up) (λ stripe. elim (cases_eq row.stripe stripe) [
      | inl same ↦ subst (λ (s : ℕ). mode_at rows owner s ≡ None) same (none_later row rows owner up)
      | inr other ↦ sym (past_head row rows owner stripe other) ∙ none stripe
    ]) in
    rows_of-cons owner row rows ∙ omega arith

-- ---- the rows are at most the sum of what the owners hold

pub total : ℕ → List Row → ℕ
total zero rows = 0
total (suc n) rows = rows_of n rows + total n rows

holders : ℕ → Holder → ℕ
holders zero holder = 0
holders (suc n) holder = count_in holder n + holders n holder

total-cons : (n : ℕ) (row : Row) (rows : List Row) → total n (row ∷ rows) ≡ holders n row.holder + total n rows
unfolding total holders
total-cons zero row rows = refl
total-cons (suc n) row rows = let a = rows_of-cons n row rows in let b = total-cons n row rows in omega arith

total-nil : (n : ℕ) → 0 ≤ total n []
total-nil n = omega arith

a_holder : (n : ℕ) (holder : Holder) (owner : ℕ) → owner < n → count_in holder owner ≡ 1 → 1 ≤ holders n holder
unfolding holders
a_holder zero holder owner low is = absurd (omega arith)
a_holder (suc n) holder owner low is = elim (cases_eq owner n) [
  | inl same ↦ let one = subst (λ (k : ℕ). count_in holder k ≡ 1) same is in omega arith
  | inr other ↦ let rest = a_holder n holder owner (omega arith) is in omega arith
]

pub length_le_total : (rows : List Row) → All IsHeld rows → length rows ≤ total 17 rows
length_le_total [] held = omega arith
length_le_total (row ∷ rows) held =
    let first = All-head IsHeld row rows held in
    let who = somebody row.holder first.some in
    let one = a_holder 17 row.holder who.0 (first.below who.0 who.1 who.2) (count_some row.holder who.0 who.1 who.2) in
    let rest = length_le_total rows (All-tail IsHeld row rows held) in
    let t = total-cons 17 row rows in
    omega arith

total_le : (n : ℕ) (rows : List Row) → ((owner : ℕ) → rows_of owner rows ≤ 16) → total n rows ≤ 16 * n
unfolding total
total_le zero rows most = omega arith
total_le (suc n) rows most = let a = most n in let b = total_le n rows most in omega arith

total_less : (n : ℕ) (rows : List Row) (owner : ℕ) → owner < n → rows_of owner rows ≡ 0 → ((owner : ℕ) → rows_of owner rows ≤ 16) → total n rows + 16 ≤ 16 * n
unfolding total
total_less zero rows owner low none most = absurd (omega arith)
total_less (suc n) rows owner low none most = elim (cases_eq owner n) [
  | inl same ↦ let z = subst (λ (k : ℕ). rows_of k rows ≡ 0) same none in let b = total_le n rows most in omega arith
  | inr other ↦ let a = most n in let b = total_less n rows owner (omega arith) none most in omega arith
]

pub few_rows : (rows : List Row) → All IsHeld rows → ((owner : ℕ) → rows_of owner rows ≤ 16) → length rows ≤ 272
few_rows rows held most = let a = length_le_total rows held in let b = total_le 17 rows most in omega arith

pub fewer_rows : (rows : List Row) (owner : ℕ) → owner < 17 → All IsHeld rows → rows_of owner rows ≡ 0 → ((owner : ℕ) → rows_of owner rows ≤ 16) → length rows ≤ 256
fewer_rows rows owner low held none most = let a = length_le_total rows held in let b = total_less 17 rows owner low none most in omega arith
