-- What one vector more does to the bytes worked through so far.
use Rattle.std.proofs.Common.{◌≡◌, ℕ, suc, ◌+◌, ◌-◌, ◌%◌, ◌^◌, ◌<◌, ◌≤◌, Bool, false, not, cond, eqb, List, [], ◌∷◌, map, length, get_or, replicate, bit_xor, IsTrue, All, take, drop, length-drop, get_or-drop, refl, sym, ap, ◌∙◌, subst, inl, inr, arith, w8, eq-eqb, eqb-true}
use Rattle.std.proofs.lemmas.Bool.{cases_lt}
use Rattle.std.proofs.lemmas.Bool.Decides.{eqb_tells}
use Rattle.std.proofs.lemmas.Simd.{bitmask_splat, none_from_empty_mask, length-chunk, get_or-chunk, get_or-put_chunk_below, get_or-put_chunk_at, get_or-put_chunk_above, get_or-zip2, length-zip2, get_or-replicate}
use Rattle.std.proofs.lemmas.List.Elements.{All-get_or, All-from_get_or, All-drop}
use Rattle.std.proofs.Math.Seq.{take-length}
use lib.Lanes.{chunk, put_chunk, zip2, mask_l, top}
use Rattle.xor_lanes.specs.Bytes.{SumsBelow, IsZeroBelow}

abbrev is_not_zero : ℕ → Bool
is_not_zero x = not (eqb x 0)

-- of zeros alone no bit is set
no_bit : (xs : List ℕ) → ((k : ℕ) → k < length xs → get_or xs k 0 ≡ 0) → mask_l (map is_not_zero xs) ≡ 0
no_bit [] h = refl
no_bit (x ∷ xs) h =
    let first : x ≡ 0 = h 0 (omega arith) in
    let rest : mask_l (map is_not_zero xs) ≡ 0 = no_bit xs (λ k l. h (suc k) (omega (arith, l))) in
    rw first (omega (arith, rest))

zero_of : (x : ℕ) → is_not_zero x ≡ false → x ≡ 0
zero_of x h = elim (eqb_tells x 0) [ inl same ↦ same.1 | inr other ↦ let bit = ap not other.0 in cc ]

pub no_bit_where_zero : (xs : List ℕ) (at : ℕ) → at + 32 ≤ length xs
    → let bits = mask_l (map (top 7) (zip2 (λ a b. cond (not (eqb a b)) 255 0) (chunk at 32 xs) (replicate 32 0))) % 2 ^ 64 in
    (IsTrue (eqb bits 0) → (k : ℕ) → at ≤ k → k < at + 32 → get_or xs k 0 ≡ 0) × (((k : ℕ) → at ≤ k → k < at + 32 → get_or xs k 0 ≡ 0) → IsTrue (eqb bits 0))
no_bit_where_zero xs at room =
    let front : List ℕ = chunk at 32 xs in
    let long : length front ≡ 32 = length-chunk at 32 xs room in
    let is = bitmask_splat w8 (λ a b. not (eqb a b)) front 32 0 long (omega arith) in (
      λ none k low high. zero_of (get_or xs k 0) (none_from_empty_mask is_not_zero xs at 32 0 room (sym is ∙ eqb-true _ 0 none) k low high),
      λ zeros. eq-eqb _ 0 (is ∙ no_bit front (λ k below. get_or-chunk at 32 xs k 0 (omega (arith, below, long)) ∙ zeros (at + k) (omega arith) (omega (arith, below, long)))),
    )

pub cleared_more : (old : List ℕ) (n m : ℕ) → m ≡ n + 32 → m ≤ length old → IsZeroBelow old n → IsZeroBelow (put_chunk n old (replicate 32 0)) m
cleared_more old n m e room below k h = elim (cases_lt k n) [
  | inl low ↦ get_or-put_chunk_below n old (replicate 32 0) k 0 low ∙ below k low
  | inr high ↦
      let j : ℕ = k - n in
      let here : n + j ≡ k = omega arith in
      let less : j < 32 = omega arith in
      subst (λ (p : ℕ). get_or (put_chunk n old (replicate 32 0)) p 0 ≡ 0) here
      (get_or-put_chunk_at n old (replicate 32 0) j 0 less (omega arith) ∙ get_or-replicate 32 j 0 0 less)
]

pub summed_more : (old source to : List ℕ) (n m : ℕ) → m ≡ n + 32 → m ≤ length to → m ≤ length source → SumsBelow old source to n
    → SumsBelow old source (put_chunk n to (zip2 bit_xor (chunk n 32 to) (chunk n 32 source))) m
summed_more old source to n m e room source_room below = record {
  summed = λ k h. elim (cases_lt k n) [
    | inl low ↦ get_or-put_chunk_below n to sums k 0 low ∙ below.summed k low
    | inr high ↦ at_place k (k - n) (omega arith) (omega arith)
  ];
  kept = λ k h. get_or-put_chunk_above n to sums k 0 (omega (arith, sums_long)) ∙ below.kept k (omega arith);
}
  where
    mine : List ℕ
    mine = chunk n 32 to

    theirs : List ℕ
    theirs = chunk n 32 source

    sums : List ℕ
    sums = zip2 bit_xor mine theirs

    mine_long : length mine ≡ 32
    mine_long = length-chunk n 32 to (omega arith)

    theirs_long : length theirs ≡ 32
    theirs_long = length-chunk n 32 source (omega arith)

    sums_long : length sums ≡ 32
    sums_long = length-zip2 bit_xor mine theirs (mine_long ∙ sym theirs_long) ∙ mine_long

    at_place : (k j : ℕ) → n + j ≡ k → j < 32 → get_or (put_chunk n to sums) k 0 ≡ bit_xor (get_or old k 0) (get_or source k 0)
    at_place k j here less =
        let at_new : get_or (put_chunk n to sums) (n + j) 0 ≡ get_or sums j 0 = get_or-put_chunk_at n to sums j 0 (omega (arith, sums_long)) (omega (arith, sums_long)) in
        let sum : get_or sums j 0 ≡ bit_xor (get_or mine j 0) (get_or theirs j 0) = get_or-zip2 bit_xor mine theirs j 0 0 0 (omega (arith, mine_long)) (omega (arith, theirs_long)) in
        let left : get_or mine j 0 ≡ get_or old k 0 = get_or-chunk n 32 to j 0 less ∙ ap (λ (p : ℕ). get_or to p 0) here ∙ below.kept k (omega arith) in
        let right : get_or theirs j 0 ≡ get_or source k 0 = get_or-chunk n 32 source j 0 less ∙ ap (λ (p : ℕ). get_or source p 0) here in
        ap (λ (p : ℕ). get_or (put_chunk n to sums) p 0) (sym here) ∙ at_new ∙ sum ∙ ap (λ (x : ℕ). bit_xor x (get_or theirs j 0)) left ∙ ap (bit_xor (get_or old k 0)) right

abbrev IsZero : ℕ → Type 0
IsZero byte = byte ≡ 0

-- where the front is zero, the whole is zero exactly where the rest is
pub zero_with_front : (bytes : List ℕ) (n : ℕ) → n ≤ length bytes → IsZeroBelow bytes n
    → let rest = take (length bytes - n) (drop n bytes) in (All IsZero rest → All IsZero bytes) × (All IsZero bytes → All IsZero rest)
zero_with_front bytes n room front =
    let long = length-drop n bytes in
    let all_of : take (length bytes - n) (drop n bytes) ≡ drop n bytes = subst (λ (m : ℕ). take m (drop n bytes) ≡ drop n bytes) long (take-length (drop n bytes)) in
    subst (λ (rest : List ℕ). (All IsZero rest → All IsZero bytes) × (All IsZero bytes → All IsZero rest)) (sym all_of) (whole, All-drop IsZero n bytes)
  where
    whole : All IsZero (drop n bytes) → All IsZero bytes
    whole rest = All-from_get_or IsZero bytes 0 (λ k h. elim (cases_lt k n) [
      | inl low ↦ front k low
      | inr high ↦
          let here : n + (k - n) ≡ k = omega arith in
          let long = length-drop n bytes in
          subst (λ (p : ℕ). get_or bytes p 0 ≡ 0) here (sym (get_or-drop n bytes (k - n) 0) ∙ All-get_or IsZero (drop n bytes) (k - n) 0 (omega arith) rest)
    ])
