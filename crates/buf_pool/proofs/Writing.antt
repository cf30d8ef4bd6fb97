-- Bytes that are zero until they are written.
use Rattle.std.proofs.Common.{◌≡◌, ◌≤◌, ◌<◌, ◌+◌, ◌-◌, ◌++◌, ◌⊎◌, ℕ, List, length, replicate, take, drop, sym, ap, ◌∙◌, arith, inl, inr}
use Rattle.std.proofs.Math.Seq.{drop-append-add}
use Rattle.std.proofs.lemmas.Bool.{cases_lt}
use Rattle.std.proofs.lemmas.List.{append_assoc, append-nil, replicate-append-replicate, take-append-le, drop-append-le, drop-replicate, length-append, length-take-le, length-drop, length-replicate, drop_all}

-- what is put in front of the zeros is put into all
pub overwritten : (a z from : List ℕ) (at : ℕ) → at + length from ≤ length a → (take at a ++ from ++ drop (at + length from) a) ++ z ≡ take at (a ++ z) ++ from ++ drop (at + length from) (a ++ z)
overwritten a z from at fits =
    append_assoc (take at a ++ from) (drop (at + length from) a) z
    ∙ ap (λ t. t ++ from ++ (drop (at + length from) a ++ z)) (sym (take-append-le at a z (omega (arith, fits))))
    ∙ ap (λ d. take at (a ++ z) ++ from ++ d) (sym (drop-append-le (at + length from) a z fits))

pub length-overwritten : (a from : List ℕ) (at : ℕ) → at + length from ≤ length a → length (take at a ++ from ++ drop (at + length from) a) ≡ length a
length-overwritten a from at fits = omega (arith, length-append (take at a ++ from) (drop (at + length from) a), length-append (take at a) from, length-take-le at a (omega (arith, fits)), length-drop (at + length from) a, fits)

-- the zeros behind what is written, where more is put than was written
behind : (w from : List ℕ) (at count m : ℕ) → at ≤ length w → length w ≤ at + length from → m ≡ at + length from → m ≤ count
    → (take at w ++ from ++ drop (at + length from) w) ++ replicate (count - m) 0 ≡ take at (w ++ replicate (count - length w) 0) ++ from ++ drop (at + length from) (w ++ replicate (count - length w) 0)
behind w from at count m within past is fits =
    let z = replicate (count - length w) 0 in
    let k = at + length from - length w in
    let gone : drop (at + length from) (w ++ z) ≡ replicate (count - m) 0 =
    ap (λ n. drop n (w ++ z)) (let e : at + length from ≡ length w + k = omega (arith, past) in e)
    ∙ drop-append-add w z k
    ∙ drop-replicate k (count - length w) 0
    ∙ ap (λ n. replicate n 0) (let e : count - length w - k ≡ count - m = omega (arith, is, past, fits) in e) in
    ap (λ d. (take at w ++ from ++ d) ++ replicate (count - m) 0) (drop_all (at + length from) w past)
    ∙ ap (λ y. y ++ replicate (count - m) 0) (append-nil (take at w ++ from))
    ∙ ap (λ d. take at w ++ from ++ d) (sym gone)
    ∙ ap (λ t. t ++ from ++ drop (at + length from) (w ++ z)) (sym (take-append-le at w z within))

-- bytes are put into those that are written, in front of zeros; m is how many are written then
put_in : (w from x : List ℕ) (count at m : ℕ) → at ≤ length w → length w ≤ count → at + length from ≤ count → x ≡ take at w ++ from ++ drop (at + length from) w → m ≡ length x
    → x ++ replicate (count - m) 0 ≡ take at (w ++ replicate (count - length w) 0) ++ from ++ drop (at + length from) (w ++ replicate (count - length w) 0)
put_in w from x count at m within most fits is all = by (cases_lt (length w) (at + length from))
  where
    by : (length w < at + length from) ⊎ (at + length from ≤ length w) → x ++ replicate (count - m) 0 ≡ take at (w ++ replicate (count - length w) 0) ++ from ++ drop (at + length from) (w ++ replicate (count - length w) 0)
    by (inr over) =
        let long : m ≡ length w = all ∙ (ap length is ∙ length-overwritten w from at over) in
        ap (λ y. y ++ replicate (count - m) 0) is ∙ (ap (λ k. (take at w ++ from ++ drop (at + length from) w) ++ replicate (count - k) 0) long ∙ overwritten w (replicate (count - length w) 0) from at over)
    by (inl past) =
        let below : length w ≤ at + length from = omega (arith, past) in
        let long : m ≡ at + length from = all ∙ (ap length is ∙ omega (arith, length-append (take at w ++ from) (drop (at + length from) w), length-append (take at w) from, length-take-le at w within, ap length (drop_all (at + length from) w below))) in
        ap (λ y. y ++ replicate (count - m) 0) is ∙ behind w from at count m within below long (omega (arith, long, fits))

-- Of bytes, l of which are written, as many are written as lie before `at`; then `from` is put in their place from there on. What a vector of m items then has is what is put there.
pub put_is : (w v from made x : List ℕ) (count at l m : ℕ) → length w ≡ l → l ≤ count → w ++ replicate (count - l) 0 ≡ v → at + length from ≤ count → made ≡ w ++ replicate (at - l) 0
    → x ≡ take at made ++ from ++ drop (at + length from) made → m ≡ length x → x ++ replicate (count - m) 0 ≡ take at v ++ from ++ drop (at + length from) v
put_is w v from made x count at l m known few whole fits is put all =
    let long : length made ≡ l + (at - l) = ap length is ∙ omega (arith, length-append w (replicate {A = ℕ} (at - l) 0), length-replicate {A = ℕ} (at - l) 0, known) in
    let same : made ++ replicate (count - length made) 0 ≡ v =
    ap (λ k. made ++ replicate (count - k) 0) long
    ∙ ap (λ y. y ++ replicate (count - (l + (at - l))) 0) is
    ∙ append_assoc w (replicate (at - l) 0) (replicate (count - (l + (at - l))) 0)
    ∙ ap (λ z. w ++ z) (replicate-append-replicate (at - l) (count - (l + (at - l))) 0)
    ∙ ap (λ k. w ++ replicate k 0) (let e : at - l + (count - (l + (at - l))) ≡ count - l = omega (arith, few, fits) in e)
    ∙ whole in
    put_in made from x count at m (omega (arith, long)) (omega (arith, long, few, fits)) fits put all ∙ ap (λ y. take at y ++ from ++ drop (at + length from) y) same
