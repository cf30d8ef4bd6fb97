-- When another owner is in the way.
use Rattle.std.proofs.Common.{◌≡◌, ◌↔◌, ℕ, ◌<◌, true, false, List, [], ◌∷◌, length, get_or, Contains, Some, IsTrue, refl, sym, ◌∙◌, subst, inl, inr, arith}
use Rattle.std.proofs.lemmas.List.{get_or_default}
use Rattle.std.proofs.lemmas.List.Elements.{Contains-push, Contains-push_cases, Contains-get_or}
use Rattle.stripe_lock.specs.declared.mode.Mode.{Mode}
use Rattle.stripe_lock.specs.declared.holder.Holder.{Holder}
use Rattle.stripe_lock.specs.declared.row.Row.{Row}
use Rattle.stripe_lock.specs.Holder.{mode_in, IsInTheWay}
use Rattle.stripe_lock.specs.Rows.{mode_at, IsBarred}

pub one_of_one : (x y : ℕ) → Contains (x ∷ []) y → x ≡ y
one_of_one x y has = elim (Contains-push_cases [] x y has) [ inl none ↦ let within = none.1 in absurd (omega arith) | inr same ↦ same ]

pub has_itself : (x : ℕ) → Contains (x ∷ []) x
has_itself x = Contains-push [] x

pub way_bars : (rows : List Row) (owner stripe : ℕ) (mode : Mode) (holder : Holder) → ((o : ℕ) → mode_in holder o ≡ mode_at rows o stripe) → IsInTheWay holder owner mode → IsBarred rows owner (stripe ∷ []) mode
way_bars rows owner stripe mode holder is way = record {
  other = way.other;
  stripe = stripe;
  theirs = way.theirs;
  apart = way.apart;
  wanted = has_itself stripe;
  held = sym (is way.other) ∙ way.held;
  alone = way.alone;
}

pub bars_way : (rows : List Row) (owner stripe : ℕ) (mode : Mode) (holder : Holder) → ((o : ℕ) → mode_in holder o ≡ mode_at rows o stripe) → IsBarred rows owner (stripe ∷ []) mode → IsInTheWay holder owner mode
bars_way rows owner stripe mode holder is barred =
    let same = one_of_one stripe barred.stripe barred.wanted in
    record {
      other = barred.other;
      theirs = barred.theirs;
      apart = barred.apart;
      held = is barred.other ∙ subst (λ (s : ℕ). mode_at rows barred.other s ≡ Some barred.theirs) (sym same) barred.held;
      alone = barred.alone;
    }

pub barred_among : (rows : List Row) (owner stripe : ℕ) (stripes : List ℕ) (mode : Mode) → Contains stripes stripe → IsBarred rows owner (stripe ∷ []) mode → IsBarred rows owner stripes mode
barred_among rows owner stripe stripes mode has barred = record {
  other = barred.other;
  stripe = barred.stripe;
  theirs = barred.theirs;
  apart = barred.apart;
  wanted = subst (λ (s : ℕ). Contains stripes s) (one_of_one stripe barred.stripe barred.wanted) has;
  held = barred.held;
  alone = barred.alone;
}

pub barred_here : (rows : List Row) (owner : ℕ) (stripes : List ℕ) (mode : Mode) (k : ℕ) → k < length stripes → IsBarred rows owner (get_or stripes k 0 ∷ []) mode → IsTrue true ↔ IsBarred rows owner stripes mode
barred_here rows owner stripes mode k within barred = (λ t. barred_among rows owner (get_or stripes k 0) stripes mode (Contains-get_or stripes k 0 within) barred, λ b. refl)

pub not_barred : (rows : List Row) (owner : ℕ) (stripes : List ℕ) (mode : Mode) → ((k : ℕ) → k < length stripes → ¬ IsBarred rows owner (get_or stripes k 0 ∷ []) mode) → IsTrue false ↔ IsBarred rows owner stripes mode
not_barred rows owner stripes mode none = (
  λ t. absurd cc,
  λ barred.
      let k = barred.wanted.0 in
      let same = get_or_default stripes k 0 barred.stripe barred.wanted.1 ∙ barred.wanted.2 in
      absurd (none k barred.wanted.1 (record {
        other = barred.other;
        stripe = barred.stripe;
        theirs = barred.theirs;
        apart = barred.apart;
        wanted = subst (λ (s : ℕ). Contains (s ∷ []) barred.stripe) (sym same) (has_itself barred.stripe);
        held = barred.held;
        alone = barred.alone;
      })),
)
