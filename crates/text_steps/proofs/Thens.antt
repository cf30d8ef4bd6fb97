-- Steps that are taken one after the other.
use Rattle.std.proofs.Common.{◌≡◌, ◌∙◌, ℕ, Bool, true, false, List, Result, Ok, Err, refl, ap}
use Rattle.std.specs.Prelude.{if◌then◌else◌}
use Rattle.raid_text.specs.Text.{Text, Numbered, is_sound, words_of}
use Rattle.text_steps.specs.Steps.{◌>>=◌, at_line, only_if, words_in}

pub assoc : {A B C E : Type 0} (x : Result A E) (f : A → Result B E) (g : B → Result C E) → ((x >>= f) >>= g) ≡ (x >>= λ a. f a >>= g)
assoc (Ok x) f g = refl
assoc (Err e) f g = refl

pub then_same : {A B E : Type 0} (x : Result A E) (f g : A → Result B E) → ((a : A) → f a ≡ g a) → (x >>= f) ≡ (x >>= g)
then_same (Ok x) f g same = same x
then_same (Err e) f g same = refl

pub step_same : {A B E : Type 0} (x y : Result A E) (f g : A → Result B E) → x ≡ y → ((a : A) → f a ≡ g a) → (x >>= f) ≡ (y >>= g)
step_same x y f g same each = ap (λ r. r >>= f) same ∙ then_same y f g each

-- the same of a step whose value is seen another way
pub map_same : {A B C E : Type 0} (x : Result A E) (y : Result B E) (h : B → A) (f : A → Result C E) (g : B → Result C E) → x ≡ (y >>= λ b. Ok (h b)) → ((b : B) → f (h b) ≡ g b) → (x >>= f) ≡ (y >>= g)
map_same x y h f g same each = ap (λ r. r >>= f) same ∙ (assoc y (λ b. Ok (h b)) f ∙ then_same y (λ b. f (h b)) g each)

-- steps of one line
pub at_then : {A B : Type 0} (n : ℕ) (x : Result A ℕ) (f : A → Result B ℕ) → at_line n (x >>= f) ≡ (at_line n x >>= λ a. at_line n (f a))
at_then n (Ok x) f = refl
at_then n (Err e) f = refl

-- a line's words, where the line is sound
pub sound_then : {A : Type 0} (line : Numbered) (f : List Text → Result A ℕ) → (only_if (is_sound line.body) 1 >>= λ sound. f (words_of line.body)) ≡ (words_in line >>= f)
unfolding words_in
sound_then line f = go (is_sound line.body)
  where
    go : (b : Bool) → (only_if b 1 >>= λ sound. f (words_of line.body)) ≡ ((if b then Ok (words_of line.body) else Err 1) >>= f)
    go true = refl
    go false = refl
