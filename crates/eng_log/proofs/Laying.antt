-- Regions one behind the other: what they are once all are laid out.
use Rattle.std.proofs.Common.{◌≡◌, ℕ, zero, suc, ◌<◌, ◌≤◌, ◌+◌, ◌*◌, ◌⊎◌, List, [], ◌∷◌, ◌++◌, length, get_or, replicate, subst, sym, ap, ◌∙◌, arith, inl, inr, refl}
use Rattle.std.specs.Prelude.{Option, Some, None, slice_get, slice_index_or}
use Rattle.std.proofs.lemmas.Bool.{cases_lt, cases_eq}
use Rattle.std.proofs.lemmas.List.{get_or_past, get_or_push, get_or_append_left, get_or-replicate, length-replicate, length_push}
use Rattle.blk_plain.specs.declared.op.Op.TheVariants as op
use Rattle.blk_plain.specs.declared.op.Span.{Span}
use Rattle.eng_world.specs.declared.item.Item.{Item}
use Rattle.eng_world.specs.declared.item.Item.TheVariants as item
use Rattle.item_list.specs.ItemList.{ItemList, read_in, read_at}
use Rattle.eng_rest.specs.Left.{below}
use Rattle.eng_log.specs.declared.region.Region.{Region}
use Rattle.eng_log.specs.Given.{items_at}
use Rattle.eng_log.specs.Handed.{Handout, AreRegions, no_region, region_at, client_sectors, all_sectors}
use Rattle.eng_log.specs.Laid.{sectors_in, sectors_at, row_sectors, sectors_before, IsRow, AreRows, IsLaidOut}

-- ## Sums

pub below-grows : (f : ℕ → ℕ) (m n : ℕ) → m ≤ n → below f m ≤ below f n
unfolding below
below-grows f m zero l = let e : m ≡ 0 = omega (arith, l) in subst (λ (k : ℕ). below f k ≤ 0) (sym e) (omega arith)
below-grows f m (suc n) l = elim (cases_eq m (suc n)) [
  | inl e ↦ subst (λ (k : ℕ). below f m ≤ below f k) e (omega arith)
  | inr ne ↦ let b = below-grows f m n (omega (arith, l, ne)) in omega (arith, b)
]

pub below-one : (f : ℕ → ℕ) (n : ℕ) → below f (n + 1) ≡ below f n + f n
unfolding below
below-one f n = let e : n + 1 ≡ suc n = omega arith in ap (below f) e ∙ omega arith

-- one more stays within the sum of all
pub below-within : (f : ℕ → ℕ) (i n : ℕ) → i < n → below f i + f i ≤ below f n
below-within f i n l = let a = below-grows f (i + 1) n (omega (arith, l)) in let b = below-one f i in omega (arith, a, b)

-- terms that are the same below
pub below-alike : (f g : ℕ → ℕ) (n : ℕ) → ((i : ℕ) → i < n → f i ≡ g i) → below f n ≡ below g n
unfolding below
below-alike f g zero same = refl
below-alike f g (suc n) same =
    let here = same n (omega arith) in
    let rest = below-alike f g n (λ i lt. same i (omega (arith, lt))) in
    omega (arith, here, rest)

-- and such that are nothing
pub below-nothing : (f : ℕ → ℕ) (n : ℕ) → ((i : ℕ) → f i ≡ 0) → below f n ≡ 0
unfolding below
below-nothing f zero none = refl
below-nothing f (suc n) none = let here = none n in let rest = below-nothing f n none in omega (arith, here, rest)

-- ## One region or row more

pub row-more : (items : List Item) (first i : ℕ) (row : List Region) (r : Region) → IsRow items first i row → r ≡ record { first = first + below (sectors_at items) i; count = sectors_at items i } → IsRow items first (i + 1) (row ++ r ∷ [])
row-more items first i row r so is = record {
  count = let e = length_push row r in let c = so.count in omega (arith, e, c);
  each = λ k lt. elim (cases_eq k i) [
    | inl e ↦ get_or_push row r no_region k (so.count ∙ sym e) ∙ (is ∙ ap (λ (j : ℕ). record { first = first + below (sectors_at items) j; count = sectors_at items j }) (sym e))
    | inr ne ↦ let c = so.count in let low : k < i = omega (arith, lt, ne) in get_or_append_left row (r ∷ []) no_region k (omega (arith, low, c)) ∙ so.each k low
  ];
}

pub rows-more : (given : List ItemList) (n : ℕ) (rows : List (List Region)) (row : List Region) → AreRows given n rows → IsRow (items_at given n) (sectors_before given n) (length (items_at given n)) row → AreRows given (n + 1) (rows ++ row ∷ [])
rows-more given n rows row so is = record {
  count = let e = length_push rows row in let c = so.count in omega (arith, e, c);
  each = λ c lt. elim (cases_eq c n) [
    | inl e ↦ subst (λ (j : ℕ). IsRow (items_at given j) (sectors_before given j) (length (items_at given j)) (slice_index_or (rows ++ row ∷ []) c [])) (sym e)
        (subst (IsRow (items_at given n) (sectors_before given n) (length (items_at given n))) (sym (get_or_push rows row [] c (so.count ∙ sym e))) is)
    | inr ne ↦ let k = so.count in let low : c < n = omega (arith, lt, ne) in
        subst (IsRow (items_at given c) (sectors_before given c) (length (items_at given c))) (sym (get_or_append_left rows (row ∷ []) [] c (omega (arith, low, k)))) (so.each c low)
  ];
}

pub all-laid : (given : List ItemList) (own : ℕ) (rows : List (List Region)) (h : Handout) → length given ≤ 16 → AreRows given 16 rows → h.regions ≡ rows ++ replicate own no_region ∷ [] → h.bytes ≡ replicate (512 * sectors_before given 16) 0 → IsLaidOut given own h
all-laid given own rows h few so regions bytes = record {
  few = few;
  count = ap (λ (l : List (List Region)). length l) regions ∙ (let e = length_push rows (replicate own no_region) in let c = so.count in omega (arith, e, c));
  rows = λ c lt. subst (λ (l : List (List Region)). IsRow (items_at given c) (sectors_before given c) (length (items_at given c)) (slice_index_or l c [])) (sym regions)
      (subst (IsRow (items_at given c) (sectors_before given c) (length (items_at given c))) (sym (get_or_append_left rows (replicate own no_region ∷ []) [] c (let k = so.count in omega (arith, lt, k)))) (so.each c lt));
  own_row = ap (λ (l : List (List Region)). slice_index_or l 16 []) regions ∙ get_or_push rows (replicate own no_region) [] 16 so.count;
  bytes = bytes;
}

-- ## What is so of all

module _ (given : List ItemList) (own : ℕ) (h : Handout) (laid : IsLaidOut given own h) where
  -- one that has a sector is an item's
  pub record IsHere (c i : ℕ) : Type 0 where
    pub client : c < 16
    pub item : i < length (items_at given c)
    pub first : (region_at h c i).first ≡ sectors_before given c + below (sectors_at (items_at given c)) i
    pub count : (region_at h c i).count ≡ sectors_at (items_at given c) i

  empty-own : (l : List Region) (i : ℕ) → l ≡ replicate own no_region → (slice_index_or l i no_region) ≡ no_region
  empty-own l i is = ap (λ (r : List Region). get_or r i no_region) is ∙ elim (cases_lt i own) [
    | inl lt ↦ get_or-replicate own i no_region no_region lt
    | inr ge ↦ get_or_past (replicate own no_region) i no_region (let e = length-replicate own no_region in omega (arith, e, ge))
  ]

  pub here : (c i : ℕ) → IsHere c i ⊎ (region_at h c i ≡ no_region)
  here c i = elim (cases_lt c 16) [
    | inl lt ↦ elim (cases_lt i (length (items_at given c))) [
      | inl li ↦ let e = (laid.rows c lt).each i li in inl (record { client = lt; item = li; first = ap (λ (r : Region). r.first) e; count = ap (λ (r : Region). r.count) e })
      | inr gi ↦ inr (get_or_past (slice_index_or h.regions c []) i no_region (let e = (laid.rows c lt).count in omega (arith, e, gi)))
    ]
    | inr ge ↦ elim (cases_eq c 16) [
      | inl e ↦ inr (empty-own (slice_index_or h.regions c []) i (ap (λ (k : ℕ). slice_index_or h.regions k []) e ∙ laid.own_row))
      | inr ne ↦ inr (ap (λ (l : List Region). get_or l i no_region) (get_or_past h.regions c [] (let e = laid.count in omega (arith, e, ge, ne))) ∙ get_or_past [] i no_region (omega arith))
    ]
  ]

  -- and ends before all of its client do
  ends : (c i : ℕ) → IsHere c i → (region_at h c i).first + (region_at h c i).count ≤ sectors_before given (c + 1)
  ends c i at =
      let a = at.first in let b = at.count in
      let w = below-within (sectors_at (items_at given c)) i (length (items_at given c)) at.item in
      let o = below-one (row_sectors given) c in
      omega (arith, a, b, w, o)

  within : (c i : ℕ) → 512 * ((region_at h c i).first + (region_at h c i).count) ≤ length h.bytes
  within c i =
      let long : length h.bytes ≡ 512 * sectors_before given 16 = ap length laid.bytes ∙ length-replicate (512 * sectors_before given 16) 0 in
      elim (here c i) [
        | inl at ↦ let e = ends c i at in let lt = at.client in let m = below-grows (row_sectors given) (c + 1) 16 (omega (arith, lt)) in omega (arith, long, e, m)
        | inr none ↦ let a = ap (λ (r : Region). r.first) none in let b = ap (λ (r : Region). r.count) none in omega (arith, a, b)
      ]

  -- one of a client before lies before
  before : (c i k j : ℕ) → IsHere c i → IsHere k j → c < k → (region_at h c i).first + (region_at h c i).count ≤ (region_at h k j).first
  before c i k j at to lt = let e = ends c i at in let m = below-grows (row_sectors given) (c + 1) k (omega (arith, lt)) in let f = to.first in omega (arith, e, m, f)

  -- and so does one of an item before
  before-item : (c i j : ℕ) → IsHere c i → IsHere c j → i < j → (region_at h c i).first + (region_at h c i).count ≤ (region_at h c j).first
  before-item c i j at to lt =
      let w = below-within (sectors_at (items_at given c)) i j lt in
      let a = at.first in let b = at.count in let f = to.first in
      omega (arith, w, a, b, f)

  same-item : (c i j a b : ℕ) → IsHere c i → IsHere c j → a < (region_at h c i).count → b < (region_at h c j).count → (region_at h c i).first + a ≡ (region_at h c j).first + b → i ≡ j
  same-item c i j a b at to la lb e = elim (cases_lt i j) [
    | inl lt ↦ let m = before-item c i j at to lt in absurd (let u : ⊥ = omega (arith, m, la, lb, e) in u)
    | inr ge ↦ elim (cases_eq i j) [
      | inl is ↦ is
      | inr ne ↦ let m = before-item c j i to at (omega (arith, ge, ne)) in absurd (let u : ⊥ = omega (arith, m, la, lb, e) in u)
    ]
  ]

  one-client : (c i k j a b : ℕ) → IsHere c i → IsHere k j → a < (region_at h c i).count → b < (region_at h k j).count → (region_at h c i).first + a ≡ (region_at h k j).first + b → c ≡ k
  one-client c i k j a b at to la lb e = elim (cases_lt c k) [
    | inl lt ↦ let m = before c i k j at to lt in absurd (let u : ⊥ = omega (arith, m, la, lb, e) in u)
    | inr ge ↦ elim (cases_eq c k) [
      | inl is ↦ is
      | inr ne ↦ let m = before k j c i to at (omega (arith, ge, ne)) in absurd (let u : ⊥ = omega (arith, m, la, lb, e) in u)
    ]
  ]

  not-empty : (c i a : ℕ) → region_at h c i ≡ no_region → a < (region_at h c i).count → ⊥
  not-empty c i a none lt = let e = ap (λ (r : Region). r.count) none in omega (arith, e, lt)

  is-here : (c i a : ℕ) → a < (region_at h c i).count → IsHere c i
  is-here c i a lt = elim (here c i) [
    | inl at ↦ at
    | inr none ↦ absurd (not-empty c i a none lt)
  ]

  apart : (c i k j a b : ℕ) → a < (region_at h c i).count → b < (region_at h k j).count → (region_at h c i).first + a ≡ (region_at h k j).first + b → (c ≡ k) × (i ≡ j)
  apart c i k j a b la lb e =
      let at = is-here c i a la in
      let to = is-here k j b lb in
      let one : c ≡ k = one-client c i k j a b at to la lb e in
      let there : (IsHere c j) × ((b < (region_at h c j).count) × ((region_at h c i).first + a ≡ (region_at h c j).first + b)) = subst (λ (q : ℕ). (IsHere q j) × ((b < (region_at h q j).count) × ((region_at h c i).first + a ≡ (region_at h q j).first + b))) (sym one) (to, (lb, e)) in
      (one, same-item c i j a b at there.0 la there.1.0 there.1.1)

  -- the regions of a client have as many sectors as its items, and those of the engine's own none
  client-alike : (c : ℕ) → c < 16 → client_sectors h c ≡ row_sectors given c
  client-alike c lt =
      let row = laid.rows c lt in
      ap (below (λ i. (region_at h c i).count)) row.count
      ∙ below-alike (λ i. (region_at h c i).count) (sectors_at (items_at given c)) (length (items_at given c)) (λ i li. ap (λ (r : Region). r.count) (row.each i li))

  own-none : client_sectors h 16 ≡ 0
  own-none = below-nothing (λ i. (region_at h 16 i).count) (length (slice_index_or h.regions 16 [])) (λ i. ap (λ (r : Region). r.count) (empty-own (slice_index_or h.regions 16 []) i laid.own_row))

  pub laid-sectors : all_sectors h ≡ sectors_before given 16
  laid-sectors =
      let clients = below-alike (client_sectors h) (row_sectors given) 16 client-alike in
      let last = below-one (client_sectors h) 16 in
      let none = own-none in
      ap (below (client_sectors h)) laid.count ∙ omega (arith, clients, last, none)

  all : length h.bytes ≡ 512 * all_sectors h
  all = ap length laid.bytes ∙ (length-replicate (512 * sectors_before given 16) 0 ∙ ap (λ (n : ℕ). 512 * n) (sym laid-sectors))

  pub are-regions : AreRegions h
  are-regions = record { within = within; all = all; apart = apart }

-- ## The loops over items and over clients

pub none-yet : (items : List Item) (first : ℕ) → IsRow items first 0 []
none-yet items first = record { count = refl; each = λ i lt. absurd (let u : ⊥ = omega (arith, lt) in u) }

pub no-rows : (given : List ItemList) → AreRows given 0 []
no-rows given = record { count = refl; each = λ i lt. absurd (let u : ⊥ = omega (arith, lt) in u) }

pub below-none : (f : ℕ → ℕ) → below f 0 ≡ 0
unfolding below
below-none f = refl

-- the sectors of the span that is read, if one is
abbrev counted : Option Span → ℕ
counted None = 0
counted (Some span) = span.count

counted-read : (o : Option Item) → counted (read_in o) ≡ sectors_in o
counted-read None = refl
counted-read (Some (item.Run (op.Write span pattern) file)) = refl
counted-read (Some (item.Run (op.Writes patches) file)) = refl
counted-read (Some (item.Run (op.Read span) file)) = refl
counted-read (Some (item.Run (op.Rebuild stripe) file)) = refl
counted-read (Some (item.Run (op.Sync stripe) file)) = refl
counted-read (Some (item.Fail column)) = refl

pub some-read : (items : List Item) (i : ℕ) (span : Span) → read_at items i ≡ Some span → span.count ≡ sectors_at items i
some-read items i span is = sym (ap counted is) ∙ counted-read (slice_get items i)

pub none-read : (items : List Item) (i : ℕ) → read_at items i ≡ None → 0 ≡ sectors_at items i
none-read items i is = sym (ap counted is) ∙ counted-read (slice_get items i)
