-- One step of reading, and what it says of the form.
use Rattle.std.proofs.Common.{◌≡◌, ◌∙◌, ℕ, ◌<◌, ◌≤◌, ◌^◌, Bool, true, false, cond, List, [], ◌∷◌, ◌++◌, Option, Some, None, Result, Ok, Err, refl, ap, subst, eq-eqb, length, ok_or}
use Rattle.std.specs.Prelude.{◌&&◌, codes, nat_eq, nat_le, nat_lt}
use Rattle.std.specs.Str.{all_ascii_digits, bytes_eq}
use Rattle.std.specs.Str.Parse.{digits_value}
use Rattle.std.proofs.lemmas.Bool.{and_parts, eqb-true, leb-true, ltb-true}
use Rattle.std.proofs.lemmas.Slice.Eq.{bytes_eq-Decides}
use Rattle.raid_text.specs.Text.{Text, number_of}
use Rattle.text_steps.specs.Steps.{◌>>=◌, after_number, after_word, at_end, next_number, next_word, number_in, only_if}
use Rattle.raid_conf.specs.Form.{Place, Literal, Number, Fills, FillsAll}

-- ---- steps that may refuse

-- both steps gave a value
pub bind_ok : {A B E : Type 0} (r : Result A E) (f : A → Result B E) (y : B) → (r >>= f) ≡ Ok y → (x : A) × (r ≡ Ok x) × (f x ≡ Ok y)
bind_ok (Ok x) f y h = (x, refl, h)
bind_ok (Err e) f y h = absurd (cc)

pub ok_same : {A E : Type 0} (x y : A) → ◌≡◌ {A = Result A E} (Ok x) (Ok y) → x ≡ y
ok_same x y h = cc

pub ok_pair : {A B E : Type 0} (a c : A) (b d : B) → ◌≡◌ {A = Result (A × B) E} (Ok (a, b)) (Ok (c, d)) → (a ≡ c) × (b ≡ d)
ok_pair {A} {B} a c b d h =
    let both : ◌≡◌ {A = A × B} (a, b) (c, d) = ok_same _ _ h in
    (ap (λ (p : A × B). p.0) both, ap (λ (p : A × B). p.1) both)

-- the test passed
pub only_ok : (b : Bool) (code : ℕ) (x : Unit {0}) → only_if b code ≡ Ok x → b ≡ true
only_ok true code x h = refl
only_ok false code x h = absurd (cc)

pub if_ok : {A : Type 0} (b : Bool) (x y : A) (code : ℕ) → ◌≡◌ {A = Result A ℕ} (cond b (Ok x) (Err code)) (Ok y) → (b ≡ true) × (x ≡ y)
if_ok true x y code h = (refl, ok_same x y h)
if_ok false x y code h = absurd (cc)

pub bytes_same : (a b : Text) → bytes_eq a b ≡ true → a ≡ b
bytes_same a b h = (bytes_eq-Decides a b).0 h

pub same_bytes : (a : Text) → bytes_eq a a ≡ true
same_bytes a = (bytes_eq-Decides a a).1 refl

-- a number within two bounds
pub between : (low n high : ℕ) → (nat_le low n && nat_le n high) ≡ true → (low ≤ n) × (n ≤ high)
between low n high h = let both = and_parts (nat_le low n) (nat_le n high) h in (leb-true low n both.0, leb-true n high both.1)

-- ---- words

-- a first word, and the words behind it
pub words_are : (words : List Text) (word : Text) (behind : List Text) → next_word words ≡ Ok (word, behind) → words ≡ word ∷ behind
unfolding next_word
words_are [] word behind h = absurd (cc)
words_are (w ∷ ws) word behind h = let both = ok_pair w word ws behind h in ap (λ (x : Text). x ∷ ws) both.0 ∙ ap (λ (xs : List Text). word ∷ xs) both.1

-- the word that was wanted
pub literal_is : (text : Text) (code : ℕ) (words behind : List Text) → after_word text code words ≡ Ok behind → words ≡ text ∷ behind
unfolding after_word
literal_is text code [] behind h = absurd (cc)
literal_is text code (w ∷ ws) behind h =
    let t = if_ok (bytes_eq w text) ws behind code h in
    ap (λ (x : Text). x ∷ ws) (bytes_same w text t.0) ∙ ap (λ (xs : List Text). text ∷ xs) t.1

pub number_is : (word : Text) (n : ℕ) → number_in word ≡ Ok n → number_of word ≡ Some n
unfolding number_in
number_is word n h = go (number_of word) h
  where
    go : (o : Option ℕ) → ok_or {E = ℕ} o 2 ≡ Ok n → o ≡ Some n
    go None e = absurd (cc)
    go (Some k) e = ap (λ (m : ℕ). Some m) (ok_same k n e)

pub is_number : (word : Text) (n : ℕ) → number_of word ≡ Some n → number_in word ≡ Ok n
unfolding number_in
is_number word n h = rw h refl

-- a word's number is below 2^32
pub number_small : (w : Text) (n : ℕ) → number_of w ≡ Some n → n < 2 ^ 32
unfolding number_of
number_small w n h =
    let t = test_some ((nat_lt 0 (length w) && nat_le (length w) 10) && (all_ascii_digits w && nat_lt (digits_value 10 w) (2 ^ 32))) (digits_value 10 w) n h in
    let two = and_parts (nat_lt 0 (length w) && nat_le (length w) 10) (all_ascii_digits w && nat_lt (digits_value 10 w) (2 ^ 32)) t.0 in
    let small = ltb-true (digits_value 10 w) (2 ^ 32) (and_parts (all_ascii_digits w) (nat_lt (digits_value 10 w) (2 ^ 32)) two.1).1 in
    rw t.1 at small
  where
    test_some : (b : Bool) (x y : ℕ) → ◌≡◌ {A = Option ℕ} (cond b (Some x) None) (Some y) → (b ≡ true) × (x ≡ y)
    test_some true x y h = (refl, cc)
    test_some false x y h = absurd (cc)

-- a number that was read: its word, in front of the words behind it
pub record NumberRead (words : List Text) (n : ℕ) (behind : List Text) : Type 0 where
  pub word : Text
  pub split : words ≡ word ∷ behind
  pub number : number_of word ≡ Some n
  pub small : n < 2 ^ 32

pub number_read : (words : List Text) (n : ℕ) (behind : List Text) → next_number words ≡ Ok (n, behind) → NumberRead words n behind
unfolding next_number
number_read [] n behind h = absurd (cc)
number_read (w ∷ ws) n behind h =
    let s = bind_ok (number_in w) _ (n, behind) h in
    let both = ok_pair s.0 n ws behind s.2 in
    let is : number_of w ≡ Some n = rw both.0 at (number_is w s.0 s.1) in
    record { word = w; split = ap (λ (xs : List Text). w ∷ xs) both.1; number = is; small = number_small w n is }

-- the number that was wanted
pub wanted_read : (wanted code : ℕ) (words behind : List Text) → after_number wanted code words ≡ Ok behind → NumberRead words wanted behind
unfolding after_number
wanted_read wanted code words behind h =
    let s = bind_ok (next_number words) _ behind h in
    let t = if_ok (nat_eq s.0.0 wanted) s.0.1 behind code s.2 in
    let e : s.0.0 ≡ wanted = eqb-true s.0.0 wanted t.0 in
    number_read words wanted behind (s.1 ∙ (ap (λ (k : ℕ). Ok (k, s.0.1)) e ∙ ap (λ (ws : List Text). Ok (wanted, ws)) t.1))

pub end_is : (words : List Text) (x : Unit {0}) → at_end words ≡ Ok x → words ≡ []
unfolding at_end
end_is [] x h = refl
end_is (w ∷ ws) x h = absurd (cc)

-- ---- what was read fills its place

pub literal_fills : (text : Text) (code : ℕ) (words behind : List Text) → after_word text code words ≡ Ok behind → (places : List Place) → FillsAll places behind → FillsAll (Literal text ∷ places) words
literal_fills text code words behind h places fills = rw (literal_is text code words behind h) (refl, fills)

pub number_fills : (words : List Text) (n : ℕ) (behind : List Text) → NumberRead words n behind → (places : List Place) → FillsAll places behind → FillsAll (Number n ∷ places) words
number_fills words n behind read places fills = rw read.split (read.number, fills)

pub end_fills : (words : List Text) (x : Unit {0}) → at_end words ≡ Ok x → FillsAll [] words
end_fills words x h = rw (end_is words x h) tt

-- ---- words that fill places are read

pub word_back : (place : Place) (places : List Place) (words : List Text) → FillsAll (place ∷ places) words → (word : Text) × (behind : List Text) × (words ≡ word ∷ behind) × Fills place word × FillsAll places behind
word_back place places [] fills = absurd fills
word_back place places (w ∷ ws) (fill, fills) = (w, ws, refl, fill, fills)

pub literal_back : (text : Text) (code : ℕ) (places : List Place) (words : List Text) → FillsAll (Literal text ∷ places) words → (behind : List Text) × (after_word text code words ≡ Ok behind) × FillsAll places behind
unfolding after_word
literal_back text code places [] fills = absurd fills
literal_back text code places (w ∷ ws) (fill, fills) = (ws, rw (fill, same_bytes text) refl, fills)

pub number_back : (n : ℕ) (places : List Place) (words : List Text) → FillsAll (Number n ∷ places) words → (behind : List Text) × (next_number words ≡ Ok (n, behind)) × FillsAll places behind
unfolding next_number
number_back n places [] fills = absurd fills
number_back n places (w ∷ ws) (fill, fills) = (ws, rw (is_number w n fill) refl, fills)

pub wanted_back : (n code : ℕ) (places : List Place) (words : List Text) → FillsAll (Number n ∷ places) words → (behind : List Text) × (after_number n code words ≡ Ok behind) × FillsAll places behind
unfolding after_number
wanted_back n code places words fills = let s = number_back n places words fills in (s.0, rw (s.1, eq-eqb n n refl) refl, s.2)

pub end_back : (words : List Text) → FillsAll [] words → at_end words ≡ Ok tt
unfolding at_end
end_back [] fills = refl
end_back (w ∷ ws) fills = absurd fills
