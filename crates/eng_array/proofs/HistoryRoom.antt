-- A legal history names no item twice, so that it has room for an operation that isn't in it.
use Rattle.std.proofs.Common.{◌≡◌, ◌≢◌, ◌<◌, ◌≤◌, ◌+◌, inl, inr, ℕ, zero, suc, List, [], ◌∷◌, Option, Some, None, slice_get, refl, sym, ◌∙◌, ap, length, arith}
use Rattle.std.proofs.lemmas.Bool.{cases_eq, cases_lt}
use Rattle.std.proofs.lemmas.Option.{slice_get_within}
use Rattle.blk_plain.specs.declared.op.Op.{Op}
use Rattle.blk_plain.specs.declared.op.OpId.{OpId}
use Rattle.eng_world.specs.declared.item.Item.{Item}
use Rattle.eng_world.specs.World.{World, op_of, op_at}
use Rattle.eng_world.specs.Pool.{HaveItems}
use Rattle.eng_world.specs.Legal.{AreOps, StandsAt}
use Rattle.eng_rest.specs.Left.{below, is_name}
use Rattle.eng_rest.proofs.Items.{name-here, name-client, name-item, name-most}
use Rattle.eng_rest.proofs.Summing.{below-le, below-less}

-- ## Sums

below-zero : (n : ℕ) → below (λ k. 0) n ≡ 0
unfolding below
below-zero zero = refl
below-zero (suc n) = let a = below-zero n in omega (arith, a)

below-none : (f : ℕ → ℕ) (n : ℕ) → ((k : ℕ) → k < n → f k ≡ 0) → below f n ≡ 0
unfolding below
below-none f zero h = refl
below-none f (suc n) h = let a = h n (omega arith) in let b = below-none f n (λ k l. h k (omega (arith, l))) in omega (arith, a, b)

-- one part counts 1, and no other
below-one : (f : ℕ → ℕ) (n c : ℕ) → c < n → ((k : ℕ) → k < n → k ≢ c → f k ≡ 0) → f c ≡ 1 → below f n ≡ 1
unfolding below
below-one f zero c l others one = absurd (omega (arith, l))
below-one f (suc n) c l others one = elim (cases_eq c n) [
  | inl here ↦
      let e : f c ≡ f n = ap f here in
      let rest = below-none f n (λ k kl. others k (omega (arith, kl)) (λ same. let u : ⊥ = omega (arith, kl, same, here) in u)) in
      omega (arith, e, rest, one)
  | inr ne ↦
      let rest = below-one f n c (omega (arith, l, ne)) (λ k kl. others k (omega (arith, kl))) one in
      let top = others n (omega arith) (λ same. ne (sym same)) in
      omega (arith, rest, top)
]

below-plus : (f g h : ℕ → ℕ) (n : ℕ) → ((k : ℕ) → k < n → h k ≡ f k + g k) → below h n ≡ below f n + below g n
unfolding below
below-plus f g h zero e = refl
below-plus f g h (suc n) e = let a = e n (omega arith) in let b = below-plus f g h n (λ k l. e k (omega (arith, l))) in omega (arith, a, b)

ones : (n : ℕ) → below (λ k. 1) n ≡ n
unfolding below
ones zero = refl
ones (suc n) = let a = ones n in omega (arith, a)

-- ## How often a history names an item

named : List OpId → ℕ → ℕ → ℕ
named [] c i = 0
named (id ∷ ids) c i = is_name id.client id.index c i + named ids c i

id-same : (id : OpId) (c i : ℕ) → id.client ≡ c → id.index ≡ i → id ≡ record { client = c; index = i }
id-same id c i a b = let make : ℕ → ℕ → OpId = λ x y. record { client = x; index = y } in ap (λ x. make x id.index) a ∙ ap (make c) b

-- what names an item is its name
name-is : (id : OpId) (c i : ℕ) → 1 ≤ is_name id.client id.index c i → id ≡ record { client = c; index = i }
name-is id c i h = elim (cases_eq id.client c) [
  | inl a ↦ elim (cases_eq id.index i) [
    | inl b ↦ id-same id c i a b
    | inr ne ↦ let z = name-item id.client id.index c i ne in absurd (let u : ⊥ = omega (arith, z, h) in u)
  ]
  | inr ne ↦ let z = name-client id.client id.index c i ne in absurd (let u : ⊥ = omega (arith, z, h) in u)
]

named-stands : (ids : List OpId) (c i : ℕ) → 1 ≤ named ids c i → (n : ℕ) × StandsAt ids n (record { client = c; index = i })
unfolding named
named-stands [] c i h = absurd (let u : ⊥ = omega (arith, h) in u)
named-stands (id ∷ ids) c i h = elim (cases_lt 0 (is_name id.client id.index c i)) [
  | inl l ↦ (0, ap (λ (v : OpId). Some v) (name-is id c i (omega (arith, l))))
  | inr l ↦ let r = named-stands ids c i (omega (arith, h, l)) in (suc r.0, r.1)
]

-- no item is named twice
Once : List OpId → Type 0
Once ids = (m n : ℕ) (id : OpId) → StandsAt ids m id → StandsAt ids n id → m ≡ n

named-once : (ids : List OpId) (c i : ℕ) → Once ids → named ids c i ≤ 1
unfolding named Once
named-once [] c i once = omega arith
named-once (id ∷ ids) c i once = elim (cases_lt 0 (is_name id.client id.index c i)) [
  | inl l ↦ elim (cases_lt 0 (named ids c i)) [
    | inl more ↦
        let s = named-stands ids c i (omega (arith, more)) in
        let e = once 0 (suc s.0) (record { client = c; index = i }) (ap (λ (v : OpId). Some v) (name-is id c i (omega (arith, l)))) s.1 in
        absurd (let u : ⊥ = omega (arith, e) in u)
    | inr none ↦ let a = name-most id.client id.index c i in omega (arith, a, none)
  ]
  | inr l ↦ let r = named-once ids c i (λ m n v a b. let e = once (suc m) (suc n) v a b in omega (arith, e)) in omega (arith, r, l)
]

-- ## A history's length

module _ (w : World) (have : HaveItems w 17) where
  abbrev items : ℕ → ℕ
  items c = length (w.clients c).items

  -- how many names it has of all items
  total : List OpId → ℕ
  total ids = below (λ c. below (λ i. named ids c i) (items c)) 17

  op-there : (l : List Item) (i : ℕ) (op : Op) (o : Option Item) → slice_get l i ≡ o → op_of o ≡ Some op → i < length l
  op-there l i op (Some x) is h = slice_get_within l i x is
  op-there l i op None is h = let z : None ≡ Some op = h in absurd (let u : ⊥ = cc in u)

  there : (id : OpId) (op : Op) → op_at w id ≡ Some op → (id.client < 17) × (id.index < items id.client)
  there id op is =
      let l = op-there (w.clients id.client).items id.index op (slice_get (w.clients id.client).items id.index) refl is in
      elim (cases_lt id.client 17) [
        | inl c ↦ (c, l)
        | inr past ↦ let z : items id.client ≡ 0 = ap (λ v. length v) (have.1 id.client past) in absurd (let u : ⊥ = omega (arith, z, l) in u)
      ]

  total-length : (ids : List OpId) (ops : List Op) → AreOps w ids ops → total ids ≡ length ids
  unfolding named total
  total-length [] [] a = below-none (λ c. below (λ i. 0) (items c)) 17 (λ c l. below-zero (items c))
  total-length [] (op ∷ ops) a = absurd a
  total-length (id ∷ ids) [] a = absurd a
  total-length (id ∷ ids) (op ∷ ops) a =
      let in-it = there id op a.0 in
      let one : below (λ c. below (λ i. is_name id.client id.index c i) (items c)) 17 ≡ 1 =
      below-one (λ c. below (λ i. is_name id.client id.index c i) (items c)) 17 id.client in-it.0
      (λ c l ne. below-none (λ i. is_name id.client id.index c i) (items c) (λ i k. name-client id.client id.index c i (λ e. ne (sym e))))
      (below-one (λ i. is_name id.client id.index id.client i) (items id.client) id.index in-it.1 (λ i l ne. name-item id.client id.index id.client i (λ e. ne (sym e))) (name-here id.client id.index)) in
      let sum = below-plus (λ c. below (λ i. is_name id.client id.index c i) (items c)) (λ c. below (λ i. named ids c i) (items c)) (λ c. below (λ i. is_name id.client id.index c i + named ids c i) (items c)) 17
      (λ c l. below-plus (λ i. is_name id.client id.index c i) (λ i. named ids c i) (λ i. is_name id.client id.index c i + named ids c i) (items c) (λ i k. refl)) in
      let rest = total-length ids ops a.1 in
      omega (arith, one, sum, rest)

  -- it has room for an item that it doesn't name
  pub history-room : (ids : List OpId) (ops : List Op) → AreOps w ids ops → ((m n : ℕ) (id : OpId) → StandsAt ids m id → StandsAt ids n id → m ≡ n) → (c i : ℕ) → c < 17 → i < length (w.clients c).items
      → ((n : ℕ) → StandsAt ids n (record { client = c; index = i }) → ⊥) → length ids < below (λ k. length (w.clients k).items) 17
  unfolding Once total
  history-room ids ops are once c i cl il absent =
      let few : (k j : ℕ) → named ids k j ≤ 1 = λ k j. named-once ids k j once in
      let none : named ids c i ≡ 0 = elim (cases_lt 0 (named ids c i)) [
        | inl more ↦ let s = named-stands ids c i (omega (arith, more)) in absurd (absent s.0 s.1)
        | inr l ↦ omega (arith, l)
      ] in
      let most : (k : ℕ) → below (λ j. named ids k j) (items k) ≤ items k = λ k. let a = below-le (λ j. 1) (λ j. named ids k j) (items k) (λ j l. few k j) in let b = ones (items k) in omega (arith, a, b) in
      let less : below (λ j. named ids c j) (items c) < items c = let a = below-less (λ j. 1) (λ j. named ids c j) (items c) i il (λ j l. few c j) (omega (arith, none)) in let b = ones (items c) in omega (arith, a, b) in
      let a = below-less (λ k. items k) (λ k. below (λ j. named ids k j) (items k)) 17 c cl (λ k l. most k) less in
      let b = total-length ids ops are in
      omega (arith, a, b)
