-- What becomes of the owners of one stripe.
use Rattle.std.proofs.Common.{◌≡◌, ◌≢◌, ◌↔◌, ℕ, ◌<◌, ◌==◌, if◌then◌else◌, Bool, true, false, not, Option, None, Some, refl, sym, ap, ◌∙◌, subst, inl, inr, arith}
use Rattle.std.proofs.lemmas.Bool.{cases_Bool, cases_eq, eq-eqb, ne_eqb, eqb-true, not-true, not-false}
use Rattle.stripe_lock.specs.declared.mode.Mode.{Mode}
use Rattle.stripe_lock.specs.declared.mode.Mode.TheVariants.{Share, Exclude}
use Rattle.stripe_lock.specs.declared.holder.Holder.{Holder}
use Rattle.stripe_lock.specs.declared.holder.Holder.TheVariants.{Sharers, Excluder}
use Rattle.stripe_lock.specs.Holder.{is_in, bit_of, added, removed, mode_in, only, joined, left, is_held, IsInTheWay}
use Rattle.stripe_lock.proofs.Bits.{alone_own, alone_other, added_own, added_other, removed_own, removed_other, none_in, some_in}

pub sharer : (owners owner : ℕ) → is_in owners owner ≡ true → mode_in (Sharers owners) owner ≡ Some Share
sharer owners owner is = rw is

pub no_sharer : (owners owner : ℕ) → is_in owners owner ≡ false → mode_in (Sharers owners) owner ≡ None
no_sharer owners owner is = rw is

pub nobody_holds : (owner : ℕ) → mode_in (Sharers 0) owner ≡ None
nobody_holds owner = no_sharer 0 owner (none_in owner)

pub excluder : (one owner : ℕ) → one ≡ owner → mode_in (Excluder one) owner ≡ Some Exclude
excluder one owner is = rw (eq-eqb one owner is)

pub no_excluder : (one owner : ℕ) → one ≢ owner → mode_in (Excluder one) owner ≡ None
no_excluder one owner is = rw (ne_eqb one owner is)

-- what a mode says of the owner
pub shares : (owners owner : ℕ) (mode : Mode) → mode_in (Sharers owners) owner ≡ Some mode → (is_in owners owner ≡ true) × (mode ≡ Share)
shares owners owner mode is = elim (cases_Bool (is_in owners owner)) [
  | inl yes' ↦ let s = sharer owners owner yes' in (yes', cc)
  | inr no' ↦ let s = no_sharer owners owner no' in absurd cc
]

pub excludes : (one owner : ℕ) (mode : Mode) → mode_in (Excluder one) owner ≡ Some mode → (one ≡ owner) × (mode ≡ Exclude)
excludes one owner mode is = elim (cases_eq one owner) [
  | inl same ↦ let s = excluder one owner same in (same, cc)
  | inr apart ↦ let s = no_excluder one owner apart in absurd cc
]

pub only_own : (owner : ℕ) (mode : Mode) → owner < 32 → mode_in (only owner mode) owner ≡ Some mode
only_own owner Share low = sharer (bit_of owner) owner (alone_own owner low)
only_own owner Exclude low = excluder owner owner refl

pub only_other : (owner : ℕ) (mode : Mode) (i : ℕ) → i ≢ owner → mode_in (only owner mode) i ≡ None
only_other owner Share i apart = no_sharer (bit_of owner) i (alone_other owner i apart)
only_other owner Exclude i apart = no_excluder owner i (λ e. apart (sym e))

pub joined_own : (holder : Holder) (owner : ℕ) (mode : Mode) → owner < 32 → mode_in (joined holder owner mode) owner ≡ Some mode
joined_own (Sharers owners) owner Share low = sharer (added owners owner) owner (added_own owners owner low)
joined_own (Sharers owners) owner Exclude low = excluder owner owner refl
joined_own (Excluder one) owner mode low = only_own owner mode low

pub joined_other : (holder : Holder) (owner : ℕ) (mode : Mode) (i : ℕ) → ¬ IsInTheWay holder owner mode → i ≢ owner → mode_in (joined holder owner mode) i ≡ mode_in holder i
joined_other (Sharers owners) owner Share i free apart = let e = added_other owners owner i apart in ap (λ (b : Bool). let m : Option Mode = if b then Some Share else None in m) e
joined_other (Sharers owners) owner Exclude i free apart = elim (cases_Bool (is_in owners i)) [
  | inl held ↦ absurd (free (record { other = i; theirs = Share; apart = apart; held = sharer owners i held; alone = inl refl }))
  | inr none ↦ no_excluder owner i (λ e. apart (sym e)) ∙ sym (no_sharer owners i none)
]
joined_other (Excluder one) owner mode i free apart = elim (cases_eq one i) [
  | inl same ↦ absurd (free (record { other = i; theirs = Exclude; apart = apart; held = excluder one i same; alone = inr refl }))
  | inr other ↦ only_other owner mode i apart ∙ sym (no_excluder one i other)
]

pub left_own : (holder : Holder) (owner : ℕ) → owner < 32 → mode_in (left holder owner) owner ≡ None
left_own (Sharers owners) owner low = no_sharer (removed owners owner) owner (removed_own owners owner low)
left_own (Excluder one) owner low = elim (cases_eq one owner) [
  | inl same ↦ rw (eq-eqb one owner same) (nobody_holds owner)
  | inr apart ↦ let t = ne_eqb one owner apart in rw (t, t)
]

pub left_other : (holder : Holder) (owner i : ℕ) → i ≢ owner → mode_in (left holder owner) i ≡ mode_in holder i
left_other (Sharers owners) owner i apart = ap (λ (b : Bool). let m : Option Mode = if b then Some Share else None in m) (removed_other owners owner i apart)
left_other (Excluder one) owner i apart = elim (cases_eq one owner) [
  | inl same ↦ let other : one ≢ i = λ e. apart (sym e ∙ same) in rw (eq-eqb one owner same) (nobody_holds i ∙ sym (no_excluder one i other))
  | inr away ↦ rw (ne_eqb one owner away)
]

pub somebody : (holder : Holder) → is_held holder ≡ true → (owner : ℕ) × (mode : Mode) × (mode_in holder owner ≡ Some mode)
somebody (Sharers owners) is = elim (cases_eq owners 0) [
  | inl none ↦ let t = eq-eqb owners 0 none in let f = not-true (owners == 0) is in absurd cc
  | inr some ↦ let found = some_in owners (omega arith) in (found.0, Share, sharer owners found.0 found.1)
]
somebody (Excluder one) is = (one, Exclude, excluder one one refl)

pub no_one : (holder : Holder) → is_held holder ≡ false → (owner : ℕ) → mode_in holder owner ≡ None
no_one (Sharers owners) is owner = let none = eqb-true owners 0 (not-false (owners == 0) is) in subst (λ (n : ℕ). mode_in (Sharers n) owner ≡ None) (sym none) (nobody_holds owner)
no_one (Excluder one) is owner = absurd cc

pub both_share : (holder : Holder) (one other : ℕ) (mine theirs : Mode) → one ≢ other → mode_in holder one ≡ Some mine → mode_in holder other ≡ Some theirs → (mine ≡ Share) × (theirs ≡ Share)
both_share (Sharers owners) one other mine theirs apart first second = ((shares owners one mine first).1, (shares owners other theirs second).1)
both_share (Excluder it) one other mine theirs apart first second = absurd (apart (sym (excludes it one mine first).0 ∙ (excludes it other theirs second).0))

-- what is left of a set without the owner is in its way, where it is to be alone
pub way_of_sharers : (owners owner rest : ℕ) (mode : Mode) → mode ≡ Exclude → rest ≡ removed owners owner → is_in rest owner ≡ false → (not (rest == 0) ≡ true) ↔ IsInTheWay (Sharers owners) owner mode
way_of_sharers owners owner rest mode alone is own = (
  λ some. elim (cases_eq rest 0) [
    | inl none ↦ let t = eq-eqb rest 0 none in let f = not-true (rest == 0) some in absurd cc
    | inr more ↦
        let found = some_in rest (omega arith) in
        let away : found.0 ≢ owner = λ e. let h = subst (λ (n : ℕ). is_in rest n ≡ true) e found.1 in absurd cc in
        let same = removed_other owners owner found.0 away in
        let inside = subst (λ (n : ℕ). is_in n found.0 ≡ true) is found.1 in
        record { other = found.0; theirs = Share; apart = away; held = sharer owners found.0 (cc); alone = inl alone }
  ],
  λ way.
      let held = (shares owners way.other way.theirs way.held).0 in
      let same = removed_other owners owner way.other way.apart in
      let none = none_in way.other in
      elim (cases_eq rest 0) [
        | inl zero' ↦ let e = is in let gone = subst (λ (n : ℕ). is_in n way.other ≡ false) (sym zero' ∙ is) none in absurd cc
        | inr more ↦ ap not (ne_eqb rest 0 more)
      ],
)
