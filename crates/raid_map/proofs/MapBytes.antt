-- The bytes of a map.
use Rattle.std.proofs.Common.{◌≡◌, ◌<◌, ◌≤◌, ◌+◌, ◌-◌, ◌*◌, ◌/◌, ◌%◌, inl, inr, ℕ, zero, suc, List, Bool, true, false, sym, ◌∙◌, ap, arith, rules, length}
use Rattle.std.specs.Prelude.{MatchBool, ◌==◌, ◌&&◌, nat_lt}
use Rattle.std.proofs.lemmas.Bool.{cases_Bool, lt-ltb, cond-true, cond-false}
use Rattle.std.proofs.lemmas.List.{get_or_past}
use Rattle.raid_map.specs.Regions.{region_stripes, regions_in, bit_at, number_at, HasMagic, IsMap, Marks, is_marked, one_if, packed, byte_of, NonePast}
use Rattle.raid_map.proofs.Words.{bit_of}

-- ## Bits

one-small : (b : Bool) → one_if b ≤ 1
one-small true = omega arith
one-small false = omega arith

is-one : (b : Bool) (n : ℕ) → n ≡ one_if b → (n == 1) ≡ b
is-one true n h = ap (λ z. z == 1) h
is-one false n h = ap (λ z. z == 1) h

abbrev sum8 : ℕ → ℕ → ℕ → ℕ → ℕ → ℕ → ℕ → ℕ → ℕ
sum8 a b c d e f g h = a + 2 * b + 4 * c + 8 * d + 16 * e + 32 * f + 64 * g + 128 * h

bit0 : (a b c d e f g h : ℕ) → a ≤ 1 → (sum8 a b c d e f g h / 1) % 2 ≡ a
bit0 a b c d e f g h p = omega arith

bit1 : (a b c d e f g h : ℕ) → a ≤ 1 → b ≤ 1 → (sum8 a b c d e f g h / 2) % 2 ≡ b
bit1 a b c d e f g h p q = omega arith

bit2 : (a b c d e f g h : ℕ) → a ≤ 1 → b ≤ 1 → c ≤ 1 → (sum8 a b c d e f g h / 4) % 2 ≡ c
bit2 a b c d e f g h p q r = omega arith

bit3 : (a b c d e f g h : ℕ) → a ≤ 1 → b ≤ 1 → c ≤ 1 → d ≤ 1 → (sum8 a b c d e f g h / 8) % 2 ≡ d
bit3 a b c d e f g h p q r s = omega arith

bit4 : (a b c d e f g h : ℕ) → a ≤ 1 → b ≤ 1 → c ≤ 1 → d ≤ 1 → e ≤ 1 → (sum8 a b c d e f g h / 16) % 2 ≡ e
bit4 a b c d e f g h p q r s t = omega arith

bit5 : (a b c d e f g h : ℕ) → a ≤ 1 → b ≤ 1 → c ≤ 1 → d ≤ 1 → e ≤ 1 → f ≤ 1 → (sum8 a b c d e f g h / 32) % 2 ≡ f
bit5 a b c d e f g h p q r s t u = omega arith

bit6 : (a b c d e f g h : ℕ) → a ≤ 1 → b ≤ 1 → c ≤ 1 → d ≤ 1 → e ≤ 1 → f ≤ 1 → g ≤ 1 → (sum8 a b c d e f g h / 64) % 2 ≡ g
bit6 a b c d e f g h p q r s t u v = omega arith

bit7 : (a b c d e f g h : ℕ) → a ≤ 1 → b ≤ 1 → c ≤ 1 → d ≤ 1 → e ≤ 1 → f ≤ 1 → g ≤ 1 → h ≤ 1 → (sum8 a b c d e f g h / 128) % 2 ≡ h
bit7 a b c d e f g h p q r s t u v w = omega arith

-- a bit of packed marks is that mark
packed-bit : (marks : List Bool) (r i : ℕ) → i < 8 → bit_of (packed marks r) i ≡ is_marked marks (r + i)
packed-bit marks r i h = go i h
  where
    m : ℕ → ℕ
    m j = one_if (is_marked marks (r + j))

    s : (j : ℕ) → m j ≤ 1
    s j = one-small (is_marked marks (r + j))

    first : one_if (is_marked marks r) ≤ 1
    first = one-small (is_marked marks r)

    go : (i : ℕ) → i < 8 → bit_of (packed marks r) i ≡ is_marked marks (r + i)
    go zero h = is-one (is_marked marks r) _ (bit0 _ (m 1) (m 2) (m 3) (m 4) (m 5) (m 6) (m 7) first) ∙ ap (is_marked marks) (let e : r ≡ r + 0 = omega arith in e)
    go (suc zero) h = is-one (is_marked marks (r + 1)) _ (bit1 _ (m 1) (m 2) (m 3) (m 4) (m 5) (m 6) (m 7) first (s 1))
    go (suc (suc zero)) h = is-one (is_marked marks (r + 2)) _ (bit2 _ (m 1) (m 2) (m 3) (m 4) (m 5) (m 6) (m 7) first (s 1) (s 2))
    go (suc (suc (suc zero))) h = is-one (is_marked marks (r + 3)) _ (bit3 _ (m 1) (m 2) (m 3) (m 4) (m 5) (m 6) (m 7) first (s 1) (s 2) (s 3))
    go (suc (suc (suc (suc zero)))) h = is-one (is_marked marks (r + 4)) _ (bit4 _ (m 1) (m 2) (m 3) (m 4) (m 5) (m 6) (m 7) first (s 1) (s 2) (s 3) (s 4))
    go (suc (suc (suc (suc (suc zero))))) h = is-one (is_marked marks (r + 5)) _ (bit5 _ (m 1) (m 2) (m 3) (m 4) (m 5) (m 6) (m 7) first (s 1) (s 2) (s 3) (s 4) (s 5))
    go (suc (suc (suc (suc (suc (suc zero)))))) h = is-one (is_marked marks (r + 6)) _ (bit6 _ (m 1) (m 2) (m 3) (m 4) (m 5) (m 6) (m 7) first (s 1) (s 2) (s 3) (s 4) (s 5) (s 6))
    go (suc (suc (suc (suc (suc (suc (suc zero))))))) h = is-one (is_marked marks (r + 7)) _ (bit7 _ (m 1) (m 2) (m 3) (m 4) (m 5) (m 6) (m 7) first (s 1) (s 2) (s 3) (s 4) (s 5) (s 6) (s 7))
    go (suc (suc (suc (suc (suc (suc (suc (suc i)))))))) h = absurd (omega (arith, h))

-- ## The sector

four-bytes : (n : ℕ) → n < 4294967296 → n % 256 + 256 * (n / 256 % 256) + 65536 * (n / 65536 % 256) + 16777216 * (n / 16777216 % 256) ≡ n
four-bytes n h = omega (arith, h)

module _ (m : Marks) (f : ℕ → ℕ) (bytes : (k : ℕ) → k < 512 → f k ≡ byte_of m k) where
  pub bytes-are-map : m.serial < 4294967296 → m.stripes ≤ 1048576 → length m.marks ≡ regions_in m.stripes → IsMap m.serial m.stripes (is_marked m.marks) f
  bytes-are-map sw fw count = record {
    magic = λ k kw. bytes k (omega (arith, kw)) ∙ cond-true (nat_lt k 8) _ _ (lt-ltb k 8 kw);
    serial_is = number 8 m.serial (bytes 8 (omega arith)) (bytes 9 (omega arith)) (bytes 10 (omega arith)) (bytes 11 (omega arith)) sw;
    region_is = number 12 (region_stripes m.stripes) (bytes 12 (omega arith)) (bytes 13 (omega arith)) (bytes 14 (omega arith)) (bytes 15 (omega arith)) (omega (arith, fw));
    bits = bit;
  }
    where
      number : (at n : ℕ) → f at ≡ n % 256 → f (at + 1) ≡ n / 256 % 256 → f (at + 2) ≡ n / 65536 % 256 → f (at + 3) ≡ n / 16777216 % 256 → n < 4294967296 → number_at f at ≡ n
      number at n a b c d h = let e = four-bytes n h in omega (arith, a, b, c, d, e)

      high : (r : ℕ) → r < 3968 → byte_of m (16 + r / 8) ≡ packed m.marks (8 * (r / 8))
      high r h =
          let a : nat_lt (16 + r / 8) 8 ≡ false = search rules in
          let b : nat_lt (16 + r / 8) 12 ≡ false = search rules in
          let c : nat_lt (16 + r / 8) 16 ≡ false = search rules in
          cond-false (nat_lt (16 + r / 8) 8) _ _ a ∙ cond-false (nat_lt (16 + r / 8) 12) _ _ b ∙ cond-false (nat_lt (16 + r / 8) 16) _ _ c ∙ ap (λ z. packed m.marks (8 * z)) (let e : 16 + r / 8 - 16 ≡ r / 8 = omega arith in e)

      within : (r : ℕ) → is_marked m.marks r ≡ (nat_lt r (regions_in m.stripes) && is_marked m.marks r)
      within r = elim (cases_Bool (nat_lt r (regions_in m.stripes))) [
        | inl h ↦ sym (ap (λ z. z && is_marked m.marks r) h)
        | inr h ↦ get_or_past m.marks r false (let z : regions_in m.stripes ≤ r = search rules in omega (arith, count, z)) ∙ sym (ap (λ z. z && is_marked m.marks r) h)
      ]

      bit : (r : ℕ) → r < 3968 → bit_at f r ≡ (nat_lt r (regions_in m.stripes) && is_marked m.marks r)
      bit r h = ap (λ z. bit_of z (r % 8)) (bytes (16 + r / 8) (omega (arith, h)) ∙ high r h) ∙ packed-bit m.marks (8 * (r / 8)) (r % 8) (omega arith) ∙ ap (is_marked m.marks) (let e : 8 * (r / 8) + r % 8 ≡ r = omega arith in e) ∙ within r

-- ## Whether a sector is a map

module _ (m : Marks) (f : ℕ → ℕ) (from : ℕ) (magic : HasMagic f) (serial : number_at f 8 ≡ m.serial) (each : number_at f 12 ≡ region_stripes m.stripes) (all : from ≡ regions_in m.stripes) where
  past : (r : ℕ) → from ≤ r → nat_lt r (regions_in m.stripes) ≡ false
  past r h = let z : regions_in m.stripes ≤ r = omega (arith, all, h) in search rules

  is-map : NonePast from f → (marks : ℕ → Bool) × IsMap m.serial m.stripes marks f
  is-map none = (
    bit_at f,
    record {
      magic = magic;
      serial_is = serial;
      region_is = each;
      bits = λ r h. elim (cases_Bool (nat_lt r (regions_in m.stripes))) [
        | inl z ↦ sym (ap (λ b. b && bit_at f r) z)
        | inr z ↦ none r (let w : regions_in m.stripes ≤ r = search rules in omega (arith, all, w)) h ∙ sym (ap (λ b. b && bit_at f r) z)
      ];
    },
  )

  none-past : (marks : ℕ → Bool) → IsMap m.serial m.stripes marks f → NonePast from f
  none-past marks map r h rw = map.bits r rw ∙ ap (λ b. b && marks r) (past r h)

  pub holds-of : (b : Bool) → MatchBool b (NonePast from f) (NonePast from f → ⊥) → MatchBool b ((marks : ℕ → Bool) × IsMap m.serial m.stripes marks f) ((marks : ℕ → Bool) × IsMap m.serial m.stripes marks f → ⊥)
  holds-of true h = is-map h
  holds-of false h = λ q. h (none-past q.0 q.1)
