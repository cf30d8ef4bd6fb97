-- The newest label of fronts is one of theirs, and none of theirs is newer.
use Rattle.std.proofs.Common.{◌≡◌, ◌∙◌, ap, sym, subst, ℕ, zero, suc, ◌<◌, ◌≤◌, Bool, true, false, List, refl, arith, inl, inr, Option, Some, None}
use Rattle.std.specs.Prelude.{if◌then◌else◌, nat_lt}
use Rattle.std.proofs.lemmas.Bool.{cases_order, ltb-true, ltb-false}
use Rattle.raid_label.specs.declared.label.Label.{Label}
use Rattle.top_open.specs.declared.fronts.Front.{Front}
use Rattle.top_open.specs.Labels.{label_at, newer, newest_below}

-- one of the labels
pub newest-one : (fronts : List Front) (n : ℕ) (l : Label) → newest_below fronts n ≡ Some l → (d : ℕ) × (label_at fronts d ≡ Some l)
unfolding newest_below
newest-one fronts zero l h = cc h
newest-one fronts (suc n) l h = go (λ e. newest-one fronts n l e) (newest_below fronts n) (label_at fronts n) refl refl h
  where
    go : (newest_below fronts n ≡ Some l → (d : ℕ) × (label_at fronts d ≡ Some l)) → (a b : Option Label) → newest_below fronts n ≡ a → label_at fronts n ≡ b → newer a b ≡ Some l → (d : ℕ) × (label_at fronts d ≡ Some l)
    go before a None x y h = before (x ∙ h)
    go before None (Some k) x y h = (n, y ∙ h)
    go before (Some best) (Some k) x y h = pick (nat_lt best.counter k.counter) h
      where
        pick : (b : Bool) → (if b then Some k else Some best) ≡ Some l → (d : ℕ) × (label_at fronts d ≡ Some l)
        pick true h = (n, y ∙ h)
        pick false h = before (x ∙ h)

-- there is one, and it isn't older than this one
abbrev IsAtLeast : Option Label → ℕ → Type 0
IsAtLeast o counter = (l : Label) × (o ≡ Some l) × (counter ≤ l.counter)

at-least : (a b : Option Label) (counter : ℕ) → IsAtLeast a counter → IsAtLeast (newer a b) counter
at-least a None counter h = h
at-least None (Some k) counter (l, is, le) = cc is
at-least (Some best) (Some k) counter (l, is, le) = go (nat_lt best.counter k.counter) refl
  where
    same : best ≡ l
    same = cc is

    go : (b : Bool) → nat_lt best.counter k.counter ≡ b → IsAtLeast (if b then Some k else Some best) counter
    go true e = (k, refl, omega (arith, le, ltb-true best.counter k.counter e, ap (λ (x : Label). x.counter) same))
    go false e = (best, refl, omega (arith, le, ap (λ (x : Label). x.counter) same))

at-least-it : (a : Option Label) (k : Label) → IsAtLeast (newer a (Some k)) k.counter
at-least-it None k = (k, refl, omega arith)
at-least-it (Some best) k = go (nat_lt best.counter k.counter) refl
  where
    go : (b : Bool) → nat_lt best.counter k.counter ≡ b → IsAtLeast (if b then Some k else Some best) k.counter
    go true e = (k, refl, omega arith)
    go false e = (best, refl, ltb-false best.counter k.counter e)

newest-at-least : (fronts : List Front) (n d : ℕ) (k : Label) → d < n → label_at fronts d ≡ Some k → IsAtLeast (newest_below fronts n) k.counter
unfolding newest_below
newest-at-least fronts zero d k lt at = absurd (omega arith)
newest-at-least fronts (suc n) d k lt at = elim (cases_order d n) [
  | inl same ↦ subst (λ (o : Option Label). IsAtLeast (newer (newest_below fronts n) o) k.counter) (sym (ap (label_at fronts) (sym same) ∙ at)) (at-least-it (newest_below fronts n) k)
  | inr order ↦ elim order [
    | inl less ↦ at-least (newest_below fronts n) (label_at fronts n) k.counter (newest-at-least fronts n d k less at)
    | inr more ↦ absurd (omega (arith, lt, more))
  ]
]

-- none of them is newer
pub newest-greatest : (fronts : List Front) (n d : ℕ) (l k : Label) → newest_below fronts n ≡ Some l → d < n → label_at fronts d ≡ Some k → k.counter ≤ l.counter
newest-greatest fronts n d l k h lt at =
    let most = newest-at-least fronts n d k lt at in
    let twice : Some most.0 ≡ Some l = sym most.1 ∙ h in
    let same : most.0 ≡ l = cc twice in
    omega (arith, most.2, ap (λ (x : Label). x.counter) same)
