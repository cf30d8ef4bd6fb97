use Rattle.std.proofs.Common.{◌≡◌, ◌∙◌, ℕ, ◌<◌, ◌≤◌, ◌+◌, ◌-◌, ◌*◌, ◌^◌, Bool, true, false, cond, eqb, ltb, ◌&&◌, ◌⊎◌, length, refl, sym, arith, take, add-one, pow-suc, Option, Some, None}
use Rattle.std.specs.Char.{is_ascii_digit}
use Rattle.std.specs.Int.{IsInRange}
use Rattle.std.proofs.lemmas.Bool.Decides.{nat_tests}
use Rattle.std.proofs.lemmas.Str.{digit_value_digit}
use Rattle.std.proofs.lemmas.Int.Digits.{digits_value_more}
use Rattle.std.proofs.lemmas.List.{take_more}
use Rattle.std.specs.Prelude.{nat_le, slice_index}
use Rattle.std.specs.Str.{all_ascii_digits}
use Rattle.std.specs.Str.Parse.{digits_value}
use Rattle.std.proofs.lemmas.List.Recursion.{and_fails_at, and_push}
use Rattle.raid_text.specs.Text.{Text, number_of}

right_fails : (a b : Bool) (x : Option ℕ) → b ≡ false → None ≡ cond (a && b) x None
right_fails true b x e = rw e refl
right_fails false b x e = refl

left_fails : (a b : Bool) (x : Option ℕ) → a ≡ false → None ≡ cond (a && b) x None
left_fails a b x e = rw e refl

pub not_digit : (w : Text) (i : ℕ) → i < length w → false ≡ is_ascii_digit (slice_index w i) → None ≡ number_of w
unfolding number_of
not_digit w i lt e =
    let all : all_ascii_digits w ≡ false = and_fails_at all_ascii_digits is_ascii_digit refl (λ _ _. refl) w i 0 lt (sym e) in
    right_fails (ltb 0 (length w) && nat_le (length w) 10) (all_ascii_digits w && ltb (digits_value 10 w) (2 ^ 32)) (Some (digits_value 10 w)) (rw all refl)

pub wrong_length : (w : Text) → (length w ≡ 0) ⊎ (10 < length w) → None ≡ number_of w
unfolding number_of
wrong_length w h = left_fails (ltb 0 (length w) && nat_le (length w) 10) (all_ascii_digits w && ltb (digits_value 10 w) (2 ^ 32)) (Some (digits_value 10 w)) (outside (length w) h)
  where
    outside : (n : ℕ) → (n ≡ 0) ⊎ (10 < n) → (ltb 0 n && nat_le n 10) ≡ false
    outside n h = grind (arith, nat_tests)

pub in_range : (w : Text) (v : ℕ) → 0 < length w → length w ≤ 10 → all_ascii_digits w ≡ true → v ≡ digits_value 10 w → v < 2 ^ 32 → Some v ≡ number_of w
unfolding number_of
in_range w v some few all e small = rw (e, all) (go (length w) (digits_value 10 w) some few (rw e at small))
  where
    go : (n d : ℕ) → 0 < n → n ≤ 10 → d < 2 ^ 32 → Some d ≡ cond ((ltb 0 n && nat_le n 10) && (true && ltb d (2 ^ 32))) (Some d) None
    go n d some few small = grind (arith, nat_tests)

pub too_big : (w : Text) (v : ℕ) → v ≡ digits_value 10 w → 2 ^ 32 ≤ v → None ≡ number_of w
unfolding number_of
too_big w v e big = right_fails (ltb 0 (length w) && nat_le (length w) 10) (all_ascii_digits w && ltb (digits_value 10 w) (2 ^ 32)) (Some (digits_value 10 w)) (rw (← e) (go (all_ascii_digits w) v big))
  where
    go : (a : Bool) (d : ℕ) → 2 ^ 32 ≤ d → (a && ltb d (2 ^ 32)) ≡ false
    go a d big = grind (arith, nat_tests)

-- one digit more
pub next_digit : (w : Text) (i v : ℕ) → i < length w → all_ascii_digits (take i w) ≡ true → v ≡ digits_value 10 (take i w) → v < 10 ^ i → true ≡ is_ascii_digit (slice_index w i)
    → (all_ascii_digits (take (i + 1) w) ≡ true) × (v * 10 + (slice_index w i - 48) ≡ digits_value 10 (take (i + 1) w)) × (v * 10 + (slice_index w i - 48) < 10 ^ (i + 1))
next_digit w i v lt all e small d =
    let b = slice_index w i in
    let within : IsInRange 48 57 b = digit_range b d in
    let more = digits_value_more 10 w i lt in
    let digit = digit_value_digit b within in
    let low : 48 ≤ b = within.0 in
    let high : b ≤ 57 = within.1 in
    let wide : 10 ^ (i + 1) ≡ 10 ^ i * 10 = rw add-one (pow-suc 10 i) in (
      rw (take_more w i 0 lt) (and_push all_ascii_digits is_ascii_digit refl (λ _ _. refl) (take i w) b ∙ rw all (sym d)),
      rw e (let h : digits_value 10 (take i w) * 10 + (b - 48) ≡ digits_value 10 (take (i + 1) w) = omega arith in h),
      omega arith,
    )
  where
    digit_range : (b : ℕ) → true ≡ is_ascii_digit b → IsInRange 48 57 b
    digit_range b d = grind (arith, nat_tests)

pub not_empty : (w : Text) (r : Bool) → r ≡ eqb (length w) 0 → r ≡ false → 0 < length w
not_empty w r e f = grind (arith, nat_tests)
