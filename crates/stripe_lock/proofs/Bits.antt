-- Sets of owners as numbers: one bit for each.
use Rattle.std.proofs.Common.{◌≡◌, ◌≢◌, ℕ, zero, suc, ◌+◌, ◌%◌, ◌/◌, ◌^◌, ◌<◌, ◌≤◌, ◌==◌, true, false, ap, ◌∙◌, inl, inr, arith}
use Rattle.std.specs.Int.{bit_at}
use Rattle.std.proofs.lemmas.Bool.{cases_lt, cases_eq, lt-ltb, le-ltb}
use Rattle.std.proofs.lemmas.Nat.Bits.{bit_at-zero, bit_at-lt, bit_at_lowest, bit_at-suc, bit_at_or, bit_at_xor, bit_at-pow_same, bit_at-pow_other, bit_at_above}
use Rattle.stripe_lock.specs.Holder.{is_in, bit_of, added, removed}

own_bit : (owner : ℕ) → owner < 32 → bit_at (bit_of owner) owner ≡ 1
unfolding bit_of
own_bit owner low = rw (lt-ltb owner 32 low) (bit_at-pow_same owner)

other_bit : (owner i : ℕ) → i ≢ owner → bit_at (bit_of owner) i ≡ 0
unfolding bit_of
other_bit owner i apart = elim (cases_lt owner 32) [
  | inl low ↦ rw (lt-ltb owner 32 low) (bit_at-pow_other owner i apart)
  | inr high ↦ rw (le-ltb owner 32 high) (bit_at-zero i)
]

past_bit : (owner i : ℕ) → 32 ≤ owner → bit_at (bit_of owner) i ≡ 0
unfolding bit_of
past_bit owner i high = rw (le-ltb owner 32 high) (bit_at-zero i)

added_past : (owners owner i : ℕ) → 32 ≤ owner → bit_at (added owners owner) i ≡ bit_at owners i
unfolding added
added_past owners owner i past = let o = past_bit owner i past in let m = bit_at_or owners (bit_of owner) i in omega arith

added_bit_own : (owners owner : ℕ) → owner < 32 → bit_at (added owners owner) owner ≡ 1
unfolding added
added_bit_own owners owner low = let o = own_bit owner low in let b = bit_at-lt owners owner in let m = bit_at_or owners (bit_of owner) owner in omega arith

added_bit_other : (owners owner i : ℕ) → i ≢ owner → bit_at (added owners owner) i ≡ bit_at owners i
unfolding added
added_bit_other owners owner i apart = let o = other_bit owner i apart in let m = bit_at_or owners (bit_of owner) i in omega arith

removed_bit : (owners owner i : ℕ) → bit_at (removed owners owner) i ≡ (bit_at (added owners owner) i + bit_at (bit_of owner) i) % 2
unfolding removed added
removed_bit owners owner i = bit_at_xor (added owners owner) (bit_of owner) i

removed_bit_own : (owners owner : ℕ) → owner < 32 → bit_at (removed owners owner) owner ≡ 0
removed_bit_own owners owner low = rw (removed_bit owners owner owner, added_bit_own owners owner low, own_bit owner low)

removed_bit_other : (owners owner i : ℕ) → i ≢ owner → bit_at (removed owners owner) i ≡ bit_at owners i
removed_bit_other owners owner i apart = let a = added_bit_other owners owner i apart in let o = other_bit owner i apart in let b = bit_at-lt owners i in let r = removed_bit owners owner i in omega arith

from_one : (owners owner : ℕ) → bit_at owners owner ≡ 1 → is_in owners owner ≡ true
unfolding is_in
from_one owners owner is = rw is

from_zero : (owners owner : ℕ) → bit_at owners owner ≡ 0 → is_in owners owner ≡ false
unfolding is_in
from_zero owners owner is = rw is

same_bit : (owners others owner : ℕ) → bit_at owners owner ≡ bit_at others owner → is_in owners owner ≡ is_in others owner
unfolding is_in
same_bit owners others owner is = ap (λ (b : ℕ). b == 1) is

pub alone_own : (owner : ℕ) → owner < 32 → is_in (bit_of owner) owner ≡ true
alone_own owner low = from_one (bit_of owner) owner (own_bit owner low)

pub alone_other : (owner i : ℕ) → i ≢ owner → is_in (bit_of owner) i ≡ false
alone_other owner i apart = from_zero (bit_of owner) i (other_bit owner i apart)

pub added_own : (owners owner : ℕ) → owner < 32 → is_in (added owners owner) owner ≡ true
added_own owners owner low = from_one (added owners owner) owner (added_bit_own owners owner low)

pub added_other : (owners owner i : ℕ) → i ≢ owner → is_in (added owners owner) i ≡ is_in owners i
added_other owners owner i apart = same_bit (added owners owner) owners i (added_bit_other owners owner i apart)

pub removed_own : (owners owner : ℕ) → owner < 32 → is_in (removed owners owner) owner ≡ false
removed_own owners owner low = from_zero (removed owners owner) owner (removed_bit_own owners owner low)

pub removed_other : (owners owner i : ℕ) → i ≢ owner → is_in (removed owners owner) i ≡ is_in owners i
removed_other owners owner i apart = same_bit (removed owners owner) owners i (removed_bit_other owners owner i apart)

pub none_in : (i : ℕ) → is_in 0 i ≡ false
none_in i = from_zero 0 i (bit_at-zero i)

-- the set has no bit for the owner, or it is cleared
pub removed_own_any : (owners owner : ℕ) → owners < 2 ^ 32 → is_in (removed owners owner) owner ≡ false
removed_own_any owners owner low = elim (cases_lt owner 32) [
  | inl inside ↦ removed_own owners owner inside
  | inr past ↦
      let none = past_bit owner owner past in
      let b : bit_at owners owner ≡ 0 = bit_at_above owners 32 owner low past in
      let a = added_past owners owner owner past in
      let r = removed_bit owners owner owner in
      from_zero (removed owners owner) owner (omega arith)
]

-- a number that isn't 0 has a bit that is 1
a_bit : (fuel n : ℕ) → n ≤ fuel → 0 < n → (i : ℕ) × (bit_at n i ≡ 1)
a_bit zero n few some = absurd (omega arith)
a_bit (suc fuel) n few some = elim (cases_eq (n % 2) 1) [
  | inl odd ↦ (0, bit_at_lowest n ∙ odd)
  | inr even ↦ let e : 0 < n / 2 = omega arith in let f : n / 2 ≤ fuel = omega arith in let rest = a_bit fuel (n / 2) f e in (suc rest.0, bit_at-suc n rest.0 ∙ rest.1)
]

pub some_in : (owners : ℕ) → 0 < owners → (i : ℕ) × (is_in owners i ≡ true)
some_in owners some = let found = a_bit owners owners (omega arith) some in (found.0, from_one owners found.0 found.1)
