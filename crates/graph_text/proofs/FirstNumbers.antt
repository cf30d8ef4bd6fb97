-- Numbers that come one after another, of which the first are kept.
use Rattle.std.proofs.Common.{◌≡◌, ◌∙◌, ℕ, zero, suc, true, false, ◌<◌, ◌≤◌, List, [], ◌∷◌, ◌++◌, Option, Some, None, Result, Ok, Err, take, length, refl, sym, ap, arith, append_assoc, append-nil, length-append}
use Rattle.std.specs.Prelude.{codes}
use Rattle.graph_text.specs.Answers.{Gives}
use Rattle.std.specs.Str.{bytes_eq}
use Rattle.std.proofs.lemmas.List.{take_all, take-append-le, length-take}
use Rattle.raid_text.specs.Text.{Text}
use Rattle.text_steps.specs.Steps.{◌>>=◌, number_in, numbers_of}
use Rattle.graph_text.specs.FormatLines.{sources_of}
use Rattle.graph_text.specs.Kept.{firsts, with_kept, with_kept_sources}

take-take-append : (k : ℕ) (a b : List ℕ) → take k (take k a ++ b) ≡ take k (a ++ b)
take-take-append zero a b = refl
take-take-append (suc k) [] b = refl
take-take-append (suc k) (x ∷ a) b = ap (λ (xs : List ℕ). x ∷ xs) (take-take-append k a b)

-- few numbers are kept whole
pub few_kept : (ns : List ℕ) → length ns ≤ 16385 → firsts ns ≡ ns
unfolding firsts
few_kept ns h = take_all 16385 ns h

pub kept_few : (ns : List ℕ) → length (firsts ns) ≤ 16385
unfolding firsts
kept_few ns = let e = length-take 16385 ns in omega arith

-- one more than were kept
pub more_kept : (kept : List ℕ) (n : ℕ) → length kept < 16385 → kept ++ n ∷ [] ≡ firsts (kept ++ n ∷ [])
more_kept kept n h = sym (few_kept (kept ++ n ∷ []) (let e = length-append kept (n ∷ []) in omega arith))

-- no more once as many are kept
pub none_kept : (kept : List ℕ) (n : ℕ) → length kept ≤ 16385 → 16385 ≤ length kept → kept ≡ firsts (kept ++ n ∷ [])
unfolding firsts
none_kept kept n few many = sym (take-append-le 16385 kept (n ∷ []) many ∙ take_all 16385 kept few)

kept_then : (kept : List ℕ) (n : ℕ) (ns : List ℕ) → firsts (firsts (kept ++ n ∷ []) ++ ns) ≡ firsts (kept ++ n ∷ ns)
unfolding firsts
kept_then kept n ns = take-take-append 16385 (kept ++ n ∷ []) ns ∙ ap (λ (xs : List ℕ). take 16385 xs) (append_assoc kept (n ∷ []) ns)

-- ---- numbers up to the line's end

pub number_kept : (kept : List ℕ) (word : Text) (words : List Text) (n : ℕ) → Ok n ≡ number_in word
    → with_kept (firsts (kept ++ n ∷ [])) (numbers_of words) ≡ with_kept kept (numbers_of (word ∷ words))
unfolding numbers_of
number_kept kept word words n h = rw (← h) (go (numbers_of words))
  where
    go : (read : Result (List ℕ) ℕ) → with_kept (firsts (kept ++ n ∷ [])) read ≡ with_kept kept (read >>= λ more. Ok (n ∷ more))
    go (Ok ns) = ap (λ (xs : List ℕ). Ok xs) (kept_then kept n ns)
    go (Err e) = refl

-- the refusal of one word is that of all
pub number_refused : (kept : List ℕ) (word : Text) (words : List Text) (code : ℕ) → Err code ≡ number_in word → with_kept kept (numbers_of (word ∷ words)) ≡ Err code
unfolding numbers_of
number_refused kept word words code h = rw (← h) refl

pub kept_end : (kept : List ℕ) → length kept ≤ 16385 → with_kept kept (numbers_of []) ≡ Ok kept
unfolding numbers_of
kept_end kept h = ap (λ (xs : List ℕ). Ok xs) (rw (append-nil kept) (few_kept kept h))

-- ---- sources

pub source_kept : (kept : List ℕ) (word : Text) (words : List Text) (n : ℕ) → bytes_eq word (codes "after") ≡ false → Ok n ≡ number_in word
    → with_kept_sources (firsts (kept ++ n ∷ [])) (sources_of words) ≡ with_kept_sources kept (sources_of (word ∷ words))
unfolding sources_of
source_kept kept word words n other h = rw (other, ← h) (go (sources_of words))
  where
    go : (read : Result (List ℕ × Option (List Text)) ℕ) → with_kept_sources (firsts (kept ++ n ∷ [])) read ≡ with_kept_sources kept (read >>= λ more. Ok (n ∷ more.0, more.1))
    go (Ok s) = ap (λ (xs : List ℕ). Ok (xs, s.1)) (kept_then kept n s.0)
    go (Err e) = refl

pub source_refused : (kept : List ℕ) (word : Text) (words : List Text) (code : ℕ) → bytes_eq word (codes "after") ≡ false → Err code ≡ number_in word → with_kept_sources kept (sources_of (word ∷ words)) ≡ Err code
unfolding sources_of
source_refused kept word words code other h = rw (other, ← h) refl

pub sources_end : (kept : List ℕ) → length kept ≤ 16385 → with_kept_sources kept (sources_of []) ≡ Ok (kept, None)
unfolding sources_of
sources_end kept h = ap (λ (xs : List ℕ). Ok (xs, None)) (rw (append-nil kept) (few_kept kept h))

pub sources_after : (kept : List ℕ) (word : Text) (words : List Text) → length kept ≤ 16385 → bytes_eq word (codes "after") ≡ true → with_kept_sources kept (sources_of (word ∷ words)) ≡ Ok (kept, Some words)
unfolding sources_of
sources_after kept word words h is = rw is (ap (λ (xs : List ℕ). Ok (xs, Some words)) (rw (append-nil kept) (few_kept kept h)))

-- ---- antecedents

-- a number and those up to the line's end
pub ante_kept : (kept : List ℕ) (n : ℕ) (read : Result (List ℕ) ℕ) → with_kept (firsts (kept ++ n ∷ [])) read ≡ with_kept kept (read >>= λ more. Ok (n ∷ more))
ante_kept kept n (Ok ns) = ap (λ (xs : List ℕ). Ok xs) (kept_then kept n ns)
ante_kept kept n (Err e) = refl

-- what was kept, seen from before the first number
pub antes_kept : (kept last : List ℕ) (n : ℕ) (r : Result (Unit {0}) ℕ) (read : Result (List ℕ) ℕ)
    → Gives (λ x. last) r (with_kept (firsts (kept ++ n ∷ [])) read)
    → Gives (λ x. last) r (with_kept kept (read >>= λ more. Ok (n ∷ more)))
antes_kept kept last n (Ok x) read h = sym (ante_kept kept n read) ∙ h
antes_kept kept last n (Err code) read h = sym (ante_kept kept n read) ∙ h
