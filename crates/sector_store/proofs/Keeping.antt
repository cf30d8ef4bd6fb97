-- A sector that is kept at a place of its own.
use Rattle.std.proofs.Common.{◌≡◌, ◌<◌, ◌≤◌, ℕ, List, [], length, ap, subst, sym, ◌∙◌, arith, inl, inr}
use Rattle.std.specs.Prelude.{slice_set}
use Rattle.std.proofs.lemmas.Bool.{cases_eq}
use Rattle.std.proofs.lemmas.List.{get_or-set_same, get_or-set_other, length-set}
use Rattle.sector_store.specs.Places.{kept_at, AreWhole, Keeps}

module _ (old mid : List (List ℕ)) (place : ℕ) (sector : List ℕ) (whole : AreWhole mid) (long : length sector ≡ 512) (there : place < length mid) where
  set-whole : AreWhole (slice_set mid place sector)
  set-whole p lt = elim (cases_eq p place) [
    | inl is ↦ subst (λ (q : ℕ). length (kept_at (slice_set mid place sector) q) ≡ 512) (sym is) (ap length (get_or-set_same mid place sector [] there) ∙ long)
    | inr ne ↦ ap length (get_or-set_other mid place p sector [] ne) ∙ whole p (omega (arith, lt, length-set mid place sector))
  ]

  pub set-keeps : ((p : ℕ) → p < length old → kept_at mid p ≡ kept_at old p) → length old ≤ length mid → Keeps old sector (slice_set mid place sector) place
  set-keeps same longer = record {
    whole = set-whole;
    longer = omega (arith, longer, length-set mid place sector);
    there = omega (arith, there, length-set mid place sector);
    bytes = get_or-set_same mid place sector [] there;
    rest = λ p lt ne. get_or-set_other mid place p sector [] ne ∙ same p lt;
  }
