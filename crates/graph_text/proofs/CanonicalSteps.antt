-- One step of reading a line, and what it says of the form.
use Rattle.std.proofs.Common.{◌≡◌, ◌∙◌, ℕ, ◌<◌, ◌^◌, Bool, true, false, cond, List, [], ◌∷◌, ◌++◌, Option, Some, None, Result, Ok, Err, refl, ap, subst, eq-eqb, length}
use Rattle.std.specs.Prelude.{◌&&◌, codes, nat_eq, nat_le, nat_lt, ok_or}
use Rattle.std.specs.Str.{all_ascii_digits, bytes_eq}
use Rattle.std.specs.Str.Parse.{digits_value}
use Rattle.std.proofs.lemmas.Bool.{and_parts, eqb-true, ltb-true}
use Rattle.std.proofs.lemmas.Slice.Eq.{bytes_eq-Decides}
use Rattle.raid_text.specs.Text.{Text, number_of}
use Rattle.graph_text.specs.FormatSteps.{next_pair}
use Rattle.text_steps.specs.Steps.{◌>>=◌, at_end, next_number, next_word, number_in, only_if, after_number, after_word, numbers_of}
use Rattle.graph_text.specs.FormatLines.{after_of, antes_of, new_of, sources_of}
use Rattle.graph_text.specs.FormatForm.{Place, Literal, Number, Fills, FillsAll, after_places, new_places, number_places}

-- ---- steps that may refuse

-- both steps gave a value
pub bind_ok : {A B E : Type 0} (r : Result A E) (f : A → Result B E) (y : B) → (r >>= f) ≡ Ok y → (x : A) × (r ≡ Ok x) × (f x ≡ Ok y)
bind_ok (Ok x) f y h = (x, refl, h)
bind_ok (Err e) f y h = absurd (cc)

pub ok_same : {A E : Type 0} (x y : A) → ◌≡◌ {A = Result A E} (Ok x) (Ok y) → x ≡ y
ok_same x y h = cc

pub ok_pair : {A B E : Type 0} (a c : A) (b d : B) → ◌≡◌ {A = Result (A × B) E} (Ok (a, b)) (Ok (c, d)) → (a ≡ c) × (b ≡ d)
ok_pair {A} {B} a c b d h =
    let both : ◌≡◌ {A = A × B} (a, b) (c, d) = ok_same _ _ h in
    (ap (λ (p : A × B). p.0) both, ap (λ (p : A × B). p.1) both)

-- the test passed
pub only_ok : (b : Bool) (code : ℕ) (x : Unit {0}) → only_if b code ≡ Ok x → b ≡ true
only_ok true code x h = refl
only_ok false code x h = absurd (cc)

pub if_ok : {A : Type 0} (b : Bool) (x y : A) (code : ℕ) → ◌≡◌ {A = Result A ℕ} (cond b (Ok x) (Err code)) (Ok y) → (b ≡ true) × (x ≡ y)
if_ok true x y code h = (refl, ok_same x y h)
if_ok false x y code h = absurd (cc)

pub bytes_same : (a b : Text) → bytes_eq a b ≡ true → a ≡ b
bytes_same a b h = (bytes_eq-Decides a b).0 h

pub same_bytes : (a : Text) → bytes_eq a a ≡ true
same_bytes a = (bytes_eq-Decides a a).1 refl

-- a first word, and the words behind it
pub words_are : (words : List Text) (word : Text) (behind : List Text) → next_word words ≡ Ok (word, behind) → words ≡ word ∷ behind
unfolding next_word
words_are [] word behind h = absurd (cc)
words_are (w ∷ ws) word behind h = let both = ok_pair w word ws behind h in ap (λ (x : Text). x ∷ ws) both.0 ∙ ap (λ (xs : List Text). word ∷ xs) both.1

-- ---- numbers

pub number_is : (word : Text) (n : ℕ) → number_in word ≡ Ok n → number_of word ≡ Some n
unfolding number_in
number_is word n h = go (number_of word) h
  where
    go : (o : Option ℕ) → ok_or {E = ℕ} o 2 ≡ Ok n → o ≡ Some n
    go None e = absurd (cc)
    go (Some k) e = ap (λ (m : ℕ). Some m) (ok_same k n e)

pub is_number : (word : Text) (n : ℕ) → number_of word ≡ Some n → number_in word ≡ Ok n
unfolding number_in
is_number word n h = rw h refl

-- a word's number is below 2^32
pub number_small : (w : Text) (n : ℕ) → number_of w ≡ Some n → n < 2 ^ 32
unfolding number_of
number_small w n h =
    let t = test_some ((nat_lt 0 (length w) && nat_le (length w) 10) && (all_ascii_digits w && nat_lt (digits_value 10 w) (2 ^ 32))) (digits_value 10 w) n h in
    let two = and_parts (nat_lt 0 (length w) && nat_le (length w) 10) (all_ascii_digits w && nat_lt (digits_value 10 w) (2 ^ 32)) t.0 in
    let small = ltb-true (digits_value 10 w) (2 ^ 32) (and_parts (all_ascii_digits w) (nat_lt (digits_value 10 w) (2 ^ 32)) two.1).1 in
    rw t.1 at small
  where
    test_some : (b : Bool) (x y : ℕ) → ◌≡◌ {A = Option ℕ} (cond b (Some x) None) (Some y) → (b ≡ true) × (x ≡ y)
    test_some true x y h = (refl, cc)
    test_some false x y h = absurd (cc)

after_is_none : number_of (codes "after") ≡ None
unfolding number_of
after_is_none = refl

-- a number isn't the word `after`
pub not_after : (w : Text) (n : ℕ) → number_of w ≡ Some n → bytes_eq w (codes "after") ≡ false
not_after w n h = go (bytes_eq w (codes "after")) refl
  where
    go : (b : Bool) → bytes_eq w (codes "after") ≡ b → b ≡ false
    go true e = let bad : number_of (codes "after") ≡ Some n = rw (bytes_same w (codes "after") e) at h in absurd (cc (bad, after_is_none))
    go false e = refl

-- ---- what is read fills the places

pub word_fills : (words : List Text) (word : Text) (behind : List Text) → next_word words ≡ Ok (word, behind) → (place : Place) → Fills place word → (places : List Place) → FillsAll places behind → FillsAll (place ∷ places) words
unfolding next_word
word_fills [] word behind h place fill places fills = absurd (cc)
word_fills (w ∷ ws) word behind h place fill places fills = let both = ok_pair w word ws behind h in (rw both.0 fill, rw both.1 fills)

pub literal_fills : (text : Text) (words behind : List Text) → after_word text 1 words ≡ Ok behind → (places : List Place) → FillsAll places behind → FillsAll (Literal text ∷ places) words
unfolding after_word
literal_fills text [] behind h places fills = absurd (cc)
literal_fills text (w ∷ ws) behind h places fills =
    let t = if_ok (bytes_eq w text) ws behind 1 h in
    (bytes_same w text t.0, rw t.1 fills)

pub number_fills : (words : List Text) (n : ℕ) (behind : List Text) → next_number words ≡ Ok (n, behind) → (places : List Place) → FillsAll places behind → FillsAll (Number n ∷ places) words
unfolding next_number
number_fills [] n behind h places fills = absurd (cc)
number_fills (w ∷ ws) n behind h places fills =
    let s = bind_ok (number_in w) _ (n, behind) h in
    let both = ok_pair s.0 n ws behind s.2 in
    (rw both.0 at (number_is w s.0 s.1), rw both.1 fills)

pub index_fills : (n : ℕ) (words behind : List Text) → after_number n 3 words ≡ Ok behind → (places : List Place) → FillsAll places behind → FillsAll (Number n ∷ places) words
unfolding after_number
index_fills n words behind h places fills =
    let s = bind_ok (next_number words) _ behind h in
    let t = if_ok (nat_eq s.0.0 n) s.0.1 behind 3 s.2 in
    let e : s.0.0 ≡ n = eqb-true s.0.0 n t.0 in
    let read : next_number words ≡ Ok (n, s.0.1) = s.1 ∙ ap (λ (k : ℕ). Ok (k, s.0.1)) e in
    number_fills words n s.0.1 read places (rw t.1 fills)

pub pair_fills : (words : List Text) (first second : ℕ) (behind : List Text) → next_pair words ≡ Ok (first, second, behind) → (places : List Place) → FillsAll places behind → FillsAll (Number first ∷ Number second ∷ places) words
unfolding next_pair
pair_fills words first second behind h places fills =
    let a = bind_ok (next_number words) _ (first, second, behind) h in
    let b = bind_ok (next_number a.0.1) _ (first, second, behind) a.2 in
    let is = triple_same a.0.0 first b.0.0 second b.0.1 behind b.2 in
    let one : next_number words ≡ Ok (first, a.0.1) = a.1 ∙ ap (λ (k : ℕ). Ok (k, a.0.1)) is.0 in
    let two : next_number a.0.1 ≡ Ok (second, b.0.1) = b.1 ∙ ap (λ (k : ℕ). Ok (k, b.0.1)) is.1 in
    number_fills words first a.0.1 one (Number second ∷ places) (number_fills a.0.1 second b.0.1 two places (rw is.2 fills))
  where
    triple_same : (a b c d : ℕ) (e f : List Text) → ◌≡◌ {A = Result (ℕ × ℕ × List Text) ℕ} (Ok (a, c, e)) (Ok (b, d, f)) → (a ≡ b) × (c ≡ d) × (e ≡ f)
    triple_same a b c d e f h =
        let all : ◌≡◌ {A = ℕ × ℕ × List Text} (a, c, e) (b, d, f) = ok_same _ _ h in
        (ap (λ (p : ℕ × ℕ × List Text). p.0) all, ap (λ (p : ℕ × ℕ × List Text). p.1) all, ap (λ (p : ℕ × ℕ × List Text). p.2) all)

pub end_fills : (words : List Text) (x : Unit {0}) → at_end words ≡ Ok x → FillsAll [] words
unfolding at_end
end_fills [] x h = tt
end_fills (w ∷ ws) x h = absurd (cc)

pub numbers_fill : (words : List Text) (ns : List ℕ) → numbers_of words ≡ Ok ns → FillsAll (number_places ns) words
unfolding numbers_of
numbers_fill [] ns h = subst (λ (k : List ℕ). FillsAll (number_places k) []) (ok_same [] ns h) tt
numbers_fill (w ∷ ws) ns h =
    let s = bind_ok (number_in w) _ ns h in
    let t = bind_ok (numbers_of ws) _ ns s.2 in
    subst (λ (k : List ℕ). FillsAll (number_places k) (w ∷ ws)) (ok_same (s.0 ∷ t.0) ns t.2) (number_is w s.0 s.1, numbers_fill ws t.0 t.1)

pub new_fills : (words : List Text) (o : Option ℕ) → new_of words ≡ Ok o → FillsAll (new_places o) words
unfolding new_of
new_fills [] o h = subst (λ (u : Option ℕ). FillsAll (new_places u) []) (ok_same None o h) tt
new_fills (w ∷ ws) o h =
    let a = bind_ok (after_word (codes "new") 1 (w ∷ ws)) _ o h in
    let u = bind_ok (next_number a.0) _ o a.2 in
    let e = bind_ok (at_end u.0.1) _ o u.2 in
    subst (λ (u : Option ℕ). FillsAll (new_places u) (w ∷ ws)) (ok_same (Some u.0.0) o e.2)
    (literal_fills (codes "new") (w ∷ ws) a.0 a.1 (Number u.0.0 ∷ []) (number_fills a.0 u.0.0 u.0.1 u.1 [] (end_fills u.0.1 e.0 e.1)))

-- the antecedents behind the word `after`
antes_fill : (w : Text) (ws : List Text) (antes : List ℕ) → w ≡ codes "after" → antes_of (Some ws) ≡ Ok antes → FillsAll (after_places antes) (w ∷ ws)
unfolding antes_of
antes_fill w ws antes is h =
    let f = bind_ok (next_number ws) _ antes h in
    let m = bind_ok (numbers_of f.0.1) _ antes f.2 in
    subst (λ (k : List ℕ). FillsAll (after_places k) (w ∷ ws)) (ok_same (f.0.0 ∷ m.0) antes m.2) (is, number_fills ws f.0.0 f.0.1 f.1 (number_places m.0) (numbers_fill f.0.1 m.0 m.1))

no_antes : (antes : List ℕ) → antes_of None ≡ Ok antes → [] ≡ antes
unfolding antes_of
no_antes antes h = ok_same [] antes h

pub after_fills : (words : List Text) (o : Option (List Text)) (antes : List ℕ) → after_of words ≡ Ok o → antes_of o ≡ Ok antes → FillsAll (after_places antes) words
unfolding after_of
after_fills [] o antes h k =
    let none : None ≡ o = ok_same None o h in
    subst (λ (ns : List ℕ). FillsAll (after_places ns) []) (no_antes antes (rw (← none) at k)) tt
after_fills (w ∷ ws) o antes h k =
    let t = if_ok (bytes_eq w (codes "after")) (Some ws) o 1 h in
    antes_fill w ws antes (bytes_same w (codes "after") t.0) (rw (← t.1) at k)

pub sources_fill : (words : List Text) (sources : List ℕ) (o : Option (List Text)) (antes : List ℕ) → sources_of words ≡ Ok (sources, o) → antes_of o ≡ Ok antes → FillsAll (number_places sources ++ after_places antes) words
unfolding sources_of
sources_fill [] sources o antes h k =
    let both = ok_pair [] sources None o h in
    subst (λ (ss : List ℕ). FillsAll (number_places ss ++ after_places antes) []) both.0
    (subst (λ (ns : List ℕ). FillsAll (after_places ns) []) (no_antes antes (rw (← both.1) at k)) tt)
sources_fill (w ∷ ws) sources o antes h k = go (bytes_eq w (codes "after")) refl (λ ss behind. sources_fill ws ss behind antes) h
  where
    go : (b : Bool) → bytes_eq w (codes "after") ≡ b
        → ((ss : List ℕ) (behind : Option (List Text)) → sources_of ws ≡ Ok (ss, behind) → antes_of behind ≡ Ok antes → FillsAll (number_places ss ++ after_places antes) ws)
        → cond {A = Result (List ℕ × Option (List Text)) ℕ} b (Ok ([], Some ws)) (number_in w >>= λ n. sources_of ws >>= λ more. Ok (n ∷ more.0, more.1)) ≡ Ok (sources, o) → FillsAll (number_places sources ++ after_places antes) (w ∷ ws)
    go true e others r =
        let both = ok_pair [] sources (Some ws) o r in
        subst (λ (ss : List ℕ). FillsAll (number_places ss ++ after_places antes) (w ∷ ws)) both.0 (antes_fill w ws antes (bytes_same w (codes "after") e) (rw (← both.1) at k))
    go false e others r =
        let n = bind_ok (number_in w) _ (sources, o) r in
        let m = bind_ok (sources_of ws) _ (sources, o) n.2 in
        let both = ok_pair (n.0 ∷ m.0.0) sources m.0.1 o m.2 in
        subst (λ (ss : List ℕ). FillsAll (number_places ss ++ after_places antes) (w ∷ ws)) both.0 (number_is w n.0 n.1, others m.0.0 m.0.1 m.1 (rw (← both.1) at k))

-- ---- what fills the places is read

pub word_read : (place : Place) (places : List Place) (words : List Text) → FillsAll (place ∷ places) words → (word : Text) × (behind : List Text) × (next_word words ≡ Ok (word, behind)) × Fills place word × FillsAll places behind
unfolding next_word
word_read place places [] fills = absurd fills
word_read place places (w ∷ ws) (fill, fills) = (w, ws, refl, fill, fills)

pub literal_read : (text : Text) (places : List Place) (words : List Text) → FillsAll (Literal text ∷ places) words → (behind : List Text) × (after_word text 1 words ≡ Ok behind) × FillsAll places behind
unfolding after_word
literal_read text places [] fills = absurd fills
literal_read text places (w ∷ ws) (fill, fills) = (ws, rw (fill, same_bytes text) refl, fills)

pub number_read : (n : ℕ) (places : List Place) (words : List Text) → FillsAll (Number n ∷ places) words → (behind : List Text) × (next_number words ≡ Ok (n, behind)) × FillsAll places behind
unfolding next_number
number_read n places [] fills = absurd fills
number_read n places (w ∷ ws) (fill, fills) = (ws, rw (is_number w n fill) refl, fills)

pub index_read : (n : ℕ) (places : List Place) (words : List Text) → FillsAll (Number n ∷ places) words → (behind : List Text) × (after_number n 3 words ≡ Ok behind) × FillsAll places behind
unfolding after_number
index_read n places words fills =
    let s = number_read n places words fills in
    (s.0, rw (s.1, eq-eqb n n refl) refl, s.2)

pub pair_read : (first second : ℕ) (places : List Place) (words : List Text) → FillsAll (Number first ∷ Number second ∷ places) words → (behind : List Text) × (next_pair words ≡ Ok (first, second, behind)) × FillsAll places behind
unfolding next_pair
pair_read first second places words fills =
    let a = number_read first (Number second ∷ places) words fills in
    let b = number_read second places a.0 a.2 in
    (b.0, rw (a.1, b.1) refl, b.2)

pub end_read : (words : List Text) → FillsAll [] words → at_end words ≡ Ok tt
unfolding at_end
end_read [] fills = refl
end_read (w ∷ ws) fills = absurd fills

pub numbers_read : (ns : List ℕ) (words : List Text) → FillsAll (number_places ns) words → numbers_of words ≡ Ok ns
unfolding numbers_of
numbers_read [] [] fills = refl
numbers_read [] (w ∷ ws) fills = absurd fills
numbers_read (n ∷ ns) [] fills = absurd fills
numbers_read (n ∷ ns) (w ∷ ws) (fill, fills) = rw (is_number w n fill, numbers_read ns ws fills) refl

pub new_read : (o : Option ℕ) (words : List Text) → FillsAll (new_places o) words → new_of words ≡ Ok o
unfolding new_of
new_read None [] fills = refl
new_read None (w ∷ ws) fills = absurd fills
new_read (Some unit) [] fills = absurd fills
new_read (Some unit) (w ∷ ws) fills =
    let a = literal_read (codes "new") (Number unit ∷ []) (w ∷ ws) fills in
    let u = number_read unit [] a.0 a.2 in
    rw (a.1, u.1, end_read u.0 u.2) refl

antes_read : (ante : ℕ) (antes : List ℕ) (ws : List Text) → FillsAll (number_places (ante ∷ antes)) ws → antes_of (Some ws) ≡ Ok (ante ∷ antes)
unfolding antes_of
antes_read ante antes ws fills =
    let f = number_read ante (number_places antes) ws fills in
    rw (f.1, numbers_read antes f.0 f.2) refl

none_read : antes_of None ≡ Ok []
unfolding antes_of
none_read = refl

pub after_read : (antes : List ℕ) (words : List Text) → FillsAll (after_places antes) words → (o : Option (List Text)) × (after_of words ≡ Ok o) × (antes_of o ≡ Ok antes)
unfolding after_of
after_read [] [] fills = (None, refl, none_read)
after_read [] (w ∷ ws) fills = absurd fills
after_read (ante ∷ antes) [] fills = absurd fills
after_read (ante ∷ antes) (w ∷ ws) (is, fills) = (Some ws, rw is refl, antes_read ante antes ws fills)

pub sources_read : (sources antes : List ℕ) (words : List Text) → FillsAll (number_places sources ++ after_places antes) words → (o : Option (List Text)) × (sources_of words ≡ Ok (sources, o)) × (antes_of o ≡ Ok antes)
unfolding sources_of
sources_read [] [] [] fills = (None, refl, none_read)
sources_read [] [] (w ∷ ws) fills = absurd fills
sources_read [] (ante ∷ antes) [] fills = absurd fills
sources_read [] (ante ∷ antes) (w ∷ ws) (is, fills) = (Some ws, rw is refl, antes_read ante antes ws fills)
sources_read (source ∷ sources) antes [] fills = absurd fills
sources_read (source ∷ sources) antes (w ∷ ws) (fill, fills) =
    let more = sources_read sources antes ws fills in
    (more.0, rw (not_after w source fill, is_number w source fill, more.1) refl, more.2)

-- ---- numbers at places

-- each number at a place is one that a word can be
abbrev pub AreSmall : List Place → Type 0
AreSmall [] = Unit {0}
AreSmall (Literal text ∷ places) = AreSmall places
AreSmall (Number n ∷ places) = (n < 2 ^ 32) × AreSmall places

pub fills_small : (places : List Place) (words : List Text) → FillsAll places words → AreSmall places
fills_small [] words fills = tt
fills_small (place ∷ places) [] fills = absurd fills
fills_small (Literal text ∷ places) (w ∷ ws) (fill, fills) = fills_small places ws fills
fills_small (Number n ∷ places) (w ∷ ws) (fill, fills) = (number_small w n fill, fills_small places ws fills)
