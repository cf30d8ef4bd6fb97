-- Requests that may be asked of a disk, by a test that computes.
use Rattle.std.proofs.Common.{◌≡◌, ℕ, ◌+◌, ◌<◌, ◌≤◌, zero, suc, Bool, true, false, ◌&&◌, List, [], ◌∷◌, length, arith, nat_lt, nat_le}
use Rattle.std.proofs.lemmas.Bool.{and_parts, ltb-true, leb-true}
use Rattle.blk_plain.specs.declared.op.Op.{Op}
use Rattle.blk_plain.specs.declared.op.Op.TheVariants.{Write, Writes, Read, Rebuild, Sync}
use Rattle.sim_queue.specs.declared.request.Request.{Request}
use Rattle.sim_queue.specs.Replies.{AreWithin}
use Rattle.sim_queue.specs.Service.{IsAsked, IsTransfer, request_at, tick_at}

abbrev pub is_transfer : Op → Bool
is_transfer (Write span pattern) = nat_le (span.first + span.count) 262144
is_transfer (Read span) = nat_le (span.first + span.count) 262144
is_transfer (Writes patches) = false
is_transfer (Rebuild stripe) = false
is_transfer (Sync stripe) = false

abbrev pub are_asked : ℕ → List Request → Bool
are_asked low [] = true
are_asked low (r ∷ rs) = (nat_le low r.tick && nat_lt r.tick 4294967296) && (is_transfer r.op && are_asked r.tick rs)

transfer_by : (op : Op) → is_transfer op ≡ true → IsTransfer 262144 op
transfer_by (Write span pattern) h = leb-true (span.first + span.count) 262144 h
transfer_by (Read span) h = leb-true (span.first + span.count) 262144 h
transfer_by (Writes patches) h = cc
transfer_by (Rebuild stripe) h = cc
transfer_by (Sync stripe) h = cc

parts : (low : ℕ) (r : Request) (rs : List Request) → are_asked low (r ∷ rs) ≡ true → (low ≤ r.tick) × (r.tick < 4294967296) × IsTransfer 262144 r.op × (are_asked r.tick rs ≡ true)
parts low r rs h =
    let two = and_parts (nat_le low r.tick && nat_lt r.tick 4294967296) (is_transfer r.op && are_asked r.tick rs) h in
    let ticks = and_parts (nat_le low r.tick) (nat_lt r.tick 4294967296) two.0 in
    let rest = and_parts (is_transfer r.op) (are_asked r.tick rs) two.1 in
    (leb-true low r.tick ticks.0, ltb-true r.tick 4294967296 ticks.1, transfer_by r.op rest.0, rest.1)

at : (low : ℕ) (rs : List Request) (j : ℕ) → are_asked low rs ≡ true → j < length rs → (low ≤ tick_at rs j) × (tick_at rs j < 4294967296) × IsTransfer 262144 (request_at rs j).op
unfolding request_at
at low [] j h within = absurd (omega arith)
at low (r ∷ rs) zero h within = let p = parts low r rs h in (p.0, p.1, p.2)
at low (r ∷ rs) (suc j) h within = let p = parts low r rs h in let q = at r.tick rs j p.3 (omega arith) in let a = p.0 in let b = q.0 in (omega arith, q.1, q.2)

up : (low : ℕ) (rs : List Request) (i j : ℕ) → are_asked low rs ≡ true → i ≤ j → j < length rs → tick_at rs i ≤ tick_at rs j
unfolding request_at
up low [] i j h less within = absurd (omega arith)
up low (r ∷ rs) zero zero h less within = omega arith
up low (r ∷ rs) zero (suc j) h less within = (at r.tick rs j (parts low r rs h).3 (omega arith)).0
up low (r ∷ rs) (suc i) zero h less within = absurd (omega arith)
up low (r ∷ rs) (suc i) (suc j) h less within = up r.tick rs i j (parts low r rs h).3 (omega arith) (omega arith)

pub asked_by_test : (rs : List Request) → length rs ≤ 4096 → are_asked 0 rs ≡ true → IsAsked rs
asked_by_test rs few h = record {
  few = few;
  soon = λ j within. (at 0 rs j h within).1;
  within = λ j within. (at 0 rs j h within).2;
  ascending = λ i j less within. up 0 rs i j h less within;
}

-- and the same of the sectors alone
abbrev pub is_within : ℕ → Op → Bool
is_within n (Write span pattern) = nat_le (span.first + span.count) n
is_within n (Read span) = nat_le (span.first + span.count) n
is_within n (Writes patches) = false
is_within n (Rebuild stripe) = false
is_within n (Sync stripe) = false

abbrev pub are_within : ℕ → List Request → Bool
are_within n [] = true
are_within n (r ∷ rs) = is_within n r.op && are_within n rs

one_within : (n : ℕ) (op : Op) → is_within n op ≡ true → IsTransfer n op
one_within n (Write span pattern) h = leb-true (span.first + span.count) n h
one_within n (Read span) h = leb-true (span.first + span.count) n h
one_within n (Writes patches) h = cc
one_within n (Rebuild stripe) h = cc
one_within n (Sync stripe) h = cc

pub within_by_test : (n : ℕ) (rs : List Request) → are_within n rs ≡ true → AreWithin n rs
unfolding request_at
within_by_test n [] h j within = absurd (omega arith)
within_by_test n (r ∷ rs) h zero within = one_within n r.op (and_parts (is_within n r.op) (are_within n rs) h).0
within_by_test n (r ∷ rs) h (suc j) within = within_by_test n rs (and_parts (is_within n r.op) (are_within n rs) h).1 j (omega arith)
