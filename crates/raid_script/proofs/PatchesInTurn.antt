-- The patches of a line that are read one after another, as a loop does.
use Rattle.std.proofs.Common.{◌≡◌, ◌∙◌, ℕ, zero, suc, ◌+◌, ◌-◌, ◌<◌, List, [], ◌∷◌, ◌++◌, Result, Ok, Err, refl, sym, ap, arith, append_assoc, append-nil}
use Rattle.raid_text.specs.Text.{Text}
use Rattle.text_steps.specs.Steps.{◌>>=◌, at_end}
use Rattle.raid_script.specs.Answers.{behind}
use Rattle.raid_script.specs.Asked.{AskedPatch}
use Rattle.raid_script.specs.Format.{next_patch, patches_of}

regroup : (front : List AskedPatch) (p : AskedPatch) (read : Result (List AskedPatch) ℕ) → behind (front ++ p ∷ []) read ≡ behind front (read >>= λ more. Ok (p ∷ more))
regroup front p (Ok more) = ap (λ (ps : List AskedPatch). Ok ps) (simp append_assoc)
regroup front p (Err code) = refl

-- room for one more
room : (used : ℕ) → used < 8 → 8 - used ≡ suc (8 - (used + 1))
room used l = omega (arith, l)

pub one_more : (front : List AskedPatch) (used : ℕ) (word : Text) (words rest : List Text) (p : AskedPatch) → used < 8 → next_patch (word ∷ words) ≡ Ok (p, rest)
    → behind (front ++ p ∷ []) (patches_of (8 - (used + 1)) rest) ≡ behind front (patches_of (8 - used) (word ∷ words))
unfolding patches_of
one_more front used word words rest p l h =
    regroup front p (patches_of (8 - (used + 1)) rest) ∙ sym (ap (λ (n : ℕ). behind front (patches_of n (word ∷ words))) (room used l) ∙ rw h refl)

pub one_refused : (front : List AskedPatch) (used : ℕ) (word : Text) (words : List Text) (code : ℕ) → used < 8 → next_patch (word ∷ words) ≡ Err code
    → behind front (patches_of (8 - used) (word ∷ words)) ≡ Err code
unfolding patches_of
one_refused front used word words code l h = ap (λ (n : ℕ). behind front (patches_of n (word ∷ words))) (room used l) ∙ rw h refl

pub none_more : (front : List AskedPatch) (used : ℕ) (word : Text) (words : List Text) → used ≡ 8 → behind front (patches_of (8 - used) (word ∷ words)) ≡ Err 1
unfolding patches_of at_end
none_more front used word words all = ap (λ (n : ℕ). behind front (patches_of n (word ∷ words))) (let z : 8 - used ≡ 0 = omega (arith, all) in z)

pub are_done : (front : List AskedPatch) (n : ℕ) → behind front (patches_of n []) ≡ Ok front
unfolding patches_of at_end
are_done front zero = ap (λ (ps : List AskedPatch). Ok ps) (append-nil front)
are_done front (suc n) = ap (λ (ps : List AskedPatch). Ok ps) (append-nil front)
