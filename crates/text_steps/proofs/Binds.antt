-- Steps that gave a value.
use Rattle.std.proofs.Common.{◌≡◌, ℕ, Bool, true, false, Result, Ok, Err, refl}
use Rattle.text_steps.specs.Steps.{◌>>=◌, only_if}

-- both steps gave a value
pub bind_ok : {A B E : Type 0} (r : Result A E) (f : A → Result B E) (y : B) → (r >>= f) ≡ Ok y → (x : A) × (r ≡ Ok x) × (f x ≡ Ok y)
bind_ok (Ok x) f y h = (x, refl, h)
bind_ok (Err e) f y h = absurd (cc)

pub ok_same : {A E : Type 0} (x y : A) → ◌≡◌ {A = Result A E} (Ok x) (Ok y) → x ≡ y
ok_same x y h = cc

-- the test passed
pub only_ok : (b : Bool) (code : ℕ) (x : Unit {0}) → only_if b code ≡ Ok x → b ≡ true
only_ok true code x h = refl
only_ok false code x h = absurd (cc)
