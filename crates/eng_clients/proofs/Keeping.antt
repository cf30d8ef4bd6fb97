-- Which clients may have something to do, as they are opened one after another.
use Rattle.std.proofs.Common.{◌≡◌, ◌≢◌, ◌≤◌, ℕ, List, [], ◌∷◌, ◌++◌, length, sym, ◌∙◌, subst, arith, inl, inr, refl}
use Rattle.std.specs.Int.{bit_at}
use Rattle.std.proofs.lemmas.Bool.{cases_lt, cases_eq}
use Rattle.std.proofs.lemmas.List.{length_push, get_or_append_left, get_or_push, get_or_past}
use Rattle.eng_clients.specs.Busy.{IsQuiet}
use Rattle.eng_clients.specs.Desk.{Desk, desk_at, no_desk}

-- no client past the last one has anything to do
quiet-past : (ds : List Desk) (k : ℕ) → length ds ≤ k → IsQuiet (desk_at ds k)
quiet-past ds k past = subst IsQuiet (sym (get_or_past ds k no_desk past)) (record { nothing = refl; replied = refl })

module _ (ds : List Desk) (d : Desk) where
  other : (k : ℕ) → k ≢ length ds → IsQuiet (desk_at ds k) → IsQuiet (desk_at (ds ++ d ∷ []) k)
  other k ne quiet = elim (cases_lt k (length ds)) [
    | inl in_ ↦ subst IsQuiet (sym (get_or_append_left ds (d ∷ []) no_desk k in_)) quiet
    | inr past ↦ quiet-past (ds ++ d ∷ []) k (let long = length_push ds d in omega (arith, past, ne))
  ]

  -- one client more, with or without a bit of its own
  pub quiet-more : (busy next n : ℕ) → length ds ≡ n → ((k : ℕ) → bit_at busy k ≡ 0 → IsQuiet (desk_at ds k)) → ((k : ℕ) → k ≢ n → bit_at next k ≡ bit_at busy k) → (bit_at next n ≡ 0 → IsQuiet d)
      → (k : ℕ) → bit_at next k ≡ 0 → IsQuiet (desk_at (ds ++ d ∷ []) k)
  quiet-more busy next n count kept others own k free = elim (cases_eq k n) [
    | inl e ↦ subst IsQuiet (sym (get_or_push ds d no_desk k (count ∙ sym e))) (own (subst (λ (i : ℕ). bit_at next i ≡ 0) e free))
    | inr ne ↦ other k (λ at. ne (at ∙ count)) (kept k (sym (others k ne) ∙ free))
  ]
