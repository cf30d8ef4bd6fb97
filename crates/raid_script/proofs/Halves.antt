-- The string that a sector repeats, found by halves.
use Rattle.std.proofs.Common.{◌≡◌, ◌∙◌, ℕ, zero, suc, ◌+◌, ◌-◌, ◌*◌, ◌/◌, ◌<◌, ◌≤◌, ◌%◌, ◌^◌, Bool, true, false, List, length, take, drop, get_or, refl, sym, ap, subst, arith, ⊎_elim, Some, Option}
use Rattle.std.specs.Prelude.{bytes_eq, Contains, find, unwrap_or, slice_get}
use Rattle.std.specs.List.{position_or_len}
use Rattle.std.proofs.lemmas.Slice.Eq.{bytes_eq-Decides}
use Rattle.std.proofs.lemmas.Bool.{cases_lt, false_from_ne_true}
use Rattle.std.proofs.lemmas.Nat.{mod-mul-add, pow_pos, pow_below, pow-add}
use Rattle.std.proofs.Math.Nat.{mod-mod_of_dvd, dvd-mul_left, mul-add-mod_self_left, mod-eq_of_lt, mod-lt, pow-le-pow_right, pow-suc}
use Rattle.std.proofs.lemmas.List.{length-take-le, length-drop, get_or-take, get_or-drop, ext_get_or}
use Rattle.std.proofs.lemmas.Option.{slice_get_read}
use Rattle.std.proofs.lemmas.List.FromFn.{fill_by_all, length-map-range_with_len, get_or-map-range_with_len}
use Rattle.std.proofs.lemmas.List.Folds.{find_at}
use Rattle.std.proofs.lemmas.List.Sums.{position_or_len_is}
use Rattle.raid_script.specs.Repetition.{filled_by, shortest}
use Rattle.raid_script.specs.Steps.{lengths}

-- byte i is byte i mod n
abbrev pub Cycles : List ℕ → ℕ → Type 0
Cycles s n = (i : ℕ) → i < 512 → get_or s i 0 ≡ get_or s (i % n) 0

-- so many bytes are one of the lengths, and the sector repeats them
pub record Repeats (s : List ℕ) (n : ℕ) : Type 0 where
  pub exponent : ℕ
  pub few : exponent < 10
  pub is : n ≡ 2 ^ exponent
  pub within : n ≤ 512
  pub cycles : Cycles s n

-- a sector repeats itself
pub whole_repeats : (s : List ℕ) → Repeats s 512
whole_repeats s = record {
  exponent = 9;
  few = omega arith;
  is = refl;
  within = omega arith;
  cycles = λ i h. ap (λ (k : ℕ). get_or s k 0) (sym (mod-eq_of_lt h));
}

-- its first byte repeats where each byte is that
pub first_repeats : (s : List ℕ) → ((i : ℕ) → i < 512 → get_or s i 0 ≡ get_or s 0 0) → Repeats s 1
first_repeats s same = record {
  exponent = 0;
  few = omega arith;
  is = refl;
  within = omega arith;
  cycles = λ i h. same i h ∙ ap (λ (k : ℕ). get_or s k 0) (let left : i % 1 < 1 = mod-lt i (omega arith) in omega (arith, left));
}

-- where the two halves of what repeats are equal, a half repeats
cycles_half : (s : List ℕ) (q : ℕ) → 0 < q → Cycles s (2 * q) → ((i : ℕ) → i < q → get_or s i 0 ≡ get_or s (q + i) 0) → Cycles s q
cycles_half s q some whole halves i h = whole i h ∙ ⊎_elim low high (cases_lt (i % (2 * q)) q)
  where
    again : i % (2 * q) % q ≡ i % q
    again = mod-mod_of_dvd q i (dvd-mul_left q 2)

    low : i % (2 * q) < q → get_or s (i % (2 * q)) 0 ≡ get_or s (i % q) 0
    low lt = ap (λ (k : ℕ). get_or s k 0) (sym (mod-eq_of_lt lt) ∙ again)

    high : q ≤ i % (2 * q) → get_or s (i % (2 * q)) 0 ≡ get_or s (i % q) 0
    high le =
        let r : ℕ = i % (2 * q) in
        let below : r < 2 * q = mod-lt i (omega arith) in
        let split : r ≡ q + (r - q) = omega arith in
        let turned : r ≡ 1 * q + (r - q) = omega arith in
        let rest : r % q ≡ r - q = ap (λ (k : ℕ). k % q) turned ∙ mod-mul-add 1 q (r - q) (omega arith) in
        ap (λ (k : ℕ). get_or s k 0) split ∙ (sym (halves (r - q) (omega arith)) ∙ ap (λ (k : ℕ). get_or s k 0) (sym rest ∙ again))

-- equal halves of a front, byte by byte
by_byte : (s : List ℕ) (q : ℕ) → take q s ≡ take q (drop q s) → (i : ℕ) → i < q → get_or s i 0 ≡ get_or s (q + i) 0
by_byte s q same i h =
    sym (get_or-take q s i 0 h) ∙ (ap (λ (t : List ℕ). get_or t i 0) same ∙ (get_or-take q (drop q s) i 0 h ∙ get_or-drop q s i 0))

-- the same, from its bytes
from_bytes : (s : List ℕ) (q : ℕ) → length s ≡ 512 → 2 * q ≤ 512 → ((i : ℕ) → i < q → get_or s i 0 ≡ get_or s (q + i) 0) → take q s ≡ take q (drop q s)
from_bytes s q long fits same =
    ext_get_or 0 (take q s) (take q (drop q s)) (front ∙ sym back)
    (λ i h. let lt : i < q = omega (arith, front) in
    get_or-take q s i 0 lt ∙ (same i lt ∙ sym (get_or-take q (drop q s) i 0 lt ∙ get_or-drop q s i 0)))
  where
    front : length (take q s) ≡ q
    front = length-take-le q s (omega arith)

    back : length (take q (drop q s)) ≡ q
    back = length-take-le q (drop q s) (omega (arith, length-drop q s))

-- half of a length
half_of : (n k : ℕ) → n ≡ 2 ^ suc k → n ≡ 2 * 2 ^ k
half_of n k is = is ∙ (pow-suc 2 k ∙ omega arith)

pub half_repeats : (s : List ℕ) (n : ℕ) → Repeats s n → 1 < n → bytes_eq (take (n / 2) s) (take (n / 2) (drop (n / 2) s)) ≡ true → Repeats s (n / 2)
half_repeats s n now more same = go now.exponent now.few now.is
  where
    go : (k : ℕ) → k < 10 → n ≡ 2 ^ k → Repeats s (n / 2)
    go zero few is = absurd (omega (arith, is))
    go (suc k) few is =
        let twice : n ≡ 2 * 2 ^ k = half_of n k is in
        let half : n / 2 ≡ 2 ^ k = omega (arith, twice) in
        let whole : 2 * (n / 2) ≡ n = omega (arith, twice) in
        let cycles : Cycles s (2 * (n / 2)) = subst (λ (m : ℕ). Cycles s m) (sym whole) now.cycles in
        record {
          exponent = k;
          few = omega arith;
          is = half;
          within = let w = now.within in omega arith;
          cycles = cycles_half s (n / 2) (omega arith) cycles (by_byte s (n / 2) ((bytes_eq-Decides (take (n / 2) s) (take (n / 2) (drop (n / 2) s))).0 same));
        }

-- a byte of the sector that a string fills
filled_at : (t : List ℕ) (i : ℕ) → i < 512 → get_or (filled_by t) i 0 ≡ get_or t (i % length t) 0
unfolding filled_by
filled_at t i h = get_or-map-range_with_len (λ (k : ℕ). get_or t (k % length t) 0) 0 512 i i 0 h (omega arith)

-- what repeats its first bytes is filled by them
pub filled : (s : List ℕ) (n : ℕ) → length s ≡ 512 → Repeats s n → filled_by (take n s) ≡ s
unfolding filled_by
filled s n long now =
    sym (fill_by_all (λ (k : ℕ). get_or (take n s) (k % length (take n s)) 0) s 512 0 long
    (λ k h. now.cycles k h ∙ (sym (get_or-take n s (k % n) 0 (mod-lt k some)) ∙ ap (λ (m : ℕ). get_or (take n s) (k % m) 0) (sym many))))
  where
    some : 0 < n
    some = omega (arith, now.is, pow_pos now.exponent)

    many : length (take n s) ≡ n
    many = length-take-le n s (let w = now.within in omega arith)

-- the halves are equal where a string fills the sector whose length divides the half
filled_halves : (s t : List ℕ) (q c : ℕ) → q ≡ length t * c → 2 * q ≤ 512 → filled_by t ≡ s → (i : ℕ) → i < q → get_or s i 0 ≡ get_or s (q + i) 0
filled_halves s t q c divides fits fills i h =
    at i (omega arith) ∙ (ap (λ (k : ℕ). get_or t k 0) (sym (ap (λ (m : ℕ). (m + i) % length t) divides ∙ mul-add-mod_self_left (length t) c i)) ∙ sym (at (q + i) (omega arith)))
  where
    at : (k : ℕ) → k < 512 → get_or s k 0 ≡ get_or t (k % length t) 0
    at k lt = ap (λ (u : List ℕ). get_or u k 0) (sym fills) ∙ filled_at t k lt

-- no shorter string fills a sector whose halves differ
pub least : (s : List ℕ) (n k : ℕ) → length s ≡ 512 → n ≡ 2 ^ k → n ≤ 512 → (1 < n → take (n / 2) s ≡ take (n / 2) (drop (n / 2) s) → ⊥)
    → (t : List ℕ) (j : ℕ) → length t ≡ 2 ^ j → filled_by t ≡ s → n ≤ length t
least s n k long is within differ t j of fills = ⊎_elim (shorter k is) longer (cases_lt j k)
  where
    longer : k ≤ j → n ≤ length t
    longer le = let some : 0 < 2 = omega arith in omega (arith, is, of, pow-le-pow_right some le)

    shorter : (m : ℕ) → n ≡ 2 ^ m → j < m → n ≤ length t
    shorter zero e lt = absurd (omega arith)
    shorter (suc m) e lt =
        let twice : n ≡ 2 * 2 ^ m = half_of n m e in
        let half : n / 2 ≡ 2 ^ m = omega (arith, twice) in
        let apart : m ≡ j + (m - j) = omega arith in
        let divides : n / 2 ≡ length t * 2 ^ (m - j) = half ∙ (ap (λ (i : ℕ). 2 ^ i) apart ∙ (pow-add 2 j (m - j) ∙ ap (λ (l : ℕ). l * 2 ^ (m - j)) (sym of))) in
        let more : 1 < n = omega (arith, twice, pow_pos m) in
        absurd (differ more (from_bytes s (n / 2) long (omega arith) (filled_halves s t (n / 2) (2 ^ (m - j)) divides (omega arith) fills)))

pub many_lengths : length lengths ≡ 10
unfolding lengths
many_lengths = length-map-range_with_len (λ (k : ℕ). 2 ^ k) 0 10

pub at_lengths : (k d : ℕ) → k < 10 → get_or lengths k d ≡ 2 ^ k
unfolding lengths
at_lengths k d h = get_or-map-range_with_len (λ (i : ℕ). 2 ^ i) 0 10 k k d h (omega arith)

shortest_by : (s : List ℕ) → take (unwrap_or (find (λ n. bytes_eq (filled_by (take n s)) s) lengths) 512) s ≡ shortest s
unfolding shortest lengths
shortest_by s = refl

-- the front that a sector repeats is the shortest string, where its halves differ
pub is_shortest : (s : List ℕ) (n : ℕ) → length s ≡ 512 → Repeats s n → (1 < n → take (n / 2) s ≡ take (n / 2) (drop (n / 2) s) → ⊥) → take n s ≡ shortest s
is_shortest s n long now differ = ap (λ (m : Option ℕ). take (unwrap_or m 512) s) (sym found) ∙ shortest_by s
  where
    test : ℕ → Bool
    test m = bytes_eq (filled_by (take m s)) s

    fails : (j : ℕ) → j < now.exponent → test (get_or lengths j 0) ≡ false
    fails j lt =
        let lj : get_or lengths j 0 ≡ 2 ^ j = at_lengths j 0 (let f = now.few in omega arith) in
        let below : 2 ^ j < n = subst (λ (m : ℕ). 2 ^ j < m) (sym now.is) (pow_below j now.exponent lt) in
        let many : length (take (2 ^ j) s) ≡ 2 ^ j = length-take-le (2 ^ j) s (let w = now.within in omega arith) in
        ap test lj ∙ false_from_ne_true (test (2 ^ j)) (λ e.
        absurd (omega (arith, least s n now.exponent long now.is now.within differ (take (2 ^ j) s) j many ((bytes_eq-Decides (filled_by (take (2 ^ j) s)) s).0 e), many, below)))

    passes : test (get_or lengths now.exponent 0) ≡ true
    passes = ap test (at_lengths now.exponent 0 now.few ∙ sym now.is) ∙ (bytes_eq-Decides (filled_by (take n s)) s).1 (filled s n long now)

    place : position_or_len test lengths ≡ now.exponent
    place = position_or_len_is test lengths now.exponent 0 (let f = now.few in omega (arith, many_lengths)) fails (λ h. passes)

    found : find test lengths ≡ Some n
    found = find_at test lengths ∙ (ap (λ (k : ℕ). slice_get lengths k) place ∙ slice_get_read lengths (length lengths) now.exponent n refl (let f = now.few in omega (arith, many_lengths)) (now.is ∙ sym (at_lengths now.exponent n now.few)))

-- the length is listed
pub is_listed : (s : List ℕ) (n : ℕ) → length s ≡ 512 → Repeats s n → Contains lengths (length (take n s))
is_listed s n long now =
    let many : length (take n s) ≡ n = length-take-le n s (let w = now.within in omega arith) in
    (now.exponent, let f = now.few in omega (arith, many_lengths), at_lengths now.exponent (length (take n s)) now.few ∙ (sym now.is ∙ sym many))

-- no listed string that fills the sector is shorter
pub is_least : (s : List ℕ) (n : ℕ) → length s ≡ 512 → Repeats s n → (1 < n → take (n / 2) s ≡ take (n / 2) (drop (n / 2) s) → ⊥)
    → (t : List ℕ) → Contains lengths (length t) → filled_by t ≡ s → length (take n s) ≤ length t
is_least s n long now differ t listed fills =
    let many : length (take n s) ≡ n = length-take-le n s (let w = now.within in omega arith) in
    let few : listed.0 < 10 = let h = listed.1 in omega (arith, many_lengths) in
    let of : length t ≡ 2 ^ listed.0 = sym listed.2 ∙ at_lengths listed.0 (length t) few in
    omega (arith, many, least s n now.exponent long now.is now.within differ t listed.0 of fills)

-- it is at most the whole sector
pub is_short : (s : List ℕ) (n : ℕ) → length s ≡ 512 → Repeats s n → length (take n s) ≤ 512
is_short s n long now = omega (arith, length-take-le n s (let w = now.within in omega arith), now.within)
