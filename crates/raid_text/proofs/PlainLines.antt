-- Lines that end at the first byte that may not stand outside a comment.
use Rattle.std.proofs.Common.{◌≡◌, ◌∙◌, ℕ, ◌+◌, ◌-◌, ◌<◌, Bool, true, false, not, [], ◌∷◌, ◌++◌, length, refl, ap, arith, take, drop, zero, suc}
use Rattle.std.specs.Prelude.{slice_index}
use Rattle.std.specs.List.{position_or_len, list_all}
use Rattle.std.proofs.lemmas.List.{take_rest}
use Rattle.raid_text.specs.Text.{Text, raw_lines}
use Rattle.raid_text.specs.Steps.{may_stand}
use Rattle.raid_text.proofs.Again.{first_line}

-- each byte in front of that place may stand there
pub plain_front : (text : Text) → list_all may_stand (take (position_or_len (λ b. not (may_stand b)) text) text) ≡ true
plain_front [] = refl
plain_front (b ∷ bs) = go (may_stand b) refl (plain_front bs)
  where
    go : (v : Bool) → may_stand b ≡ v → list_all may_stand (take (position_or_len (λ b. not (may_stand b)) bs) bs) ≡ true → list_all may_stand (take (position_or_len (λ b. not (may_stand b)) (b ∷ bs)) (b ∷ bs)) ≡ true
    go true e more = let one : 1 + position_or_len (λ b. not (may_stand b)) bs ≡ suc (position_or_len (λ b. not (may_stand b)) bs) = omega arith in rw (e, one, e) more
    go false e more = rw e refl

pub plain_up_to : (text : Text) (i : ℕ) → i ≡ position_or_len (λ b. not (may_stand b)) text → list_all may_stand (take i text) ≡ true
plain_up_to text i e = rw e (plain_front text)

-- a byte stands between what is before it and what is behind it
parted : (text : Text) (i : ℕ) → i < length text → text ≡ take i text ++ slice_index text i ∷ drop (i + 1) text
parted [] i h = absurd (omega arith)
parted (b ∷ bs) zero h = refl
parted (b ∷ bs) (suc i) h =
    let one : suc i + 1 ≡ suc (i + 1) = omega arith in
    rw one (ap (λ (t : Text). b ∷ t) (parted bs i (omega arith)))

-- the line, as the code cuts it off
pub plain_line : (text : Text) (i : ℕ) → list_all may_stand (take i text) ≡ true → i < length text → slice_index text i ≡ 10
    → raw_lines text ≡ take i text ∷ raw_lines (take (length text - (i + 1)) (drop (i + 1) text))
plain_line text i plain within is =
    rw (take_rest text (i + 1))
    (ap raw_lines (parted text i within ∙ ap (λ (b : ℕ). take i text ++ b ∷ drop (i + 1) text) is) ∙ first_line (take i text) (drop (i + 1) text) plain)
