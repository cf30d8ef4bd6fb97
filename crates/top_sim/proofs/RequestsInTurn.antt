-- The requests of the lines so far.
use Rattle.std.proofs.Common.{◌≡◌, inl, inr, ℕ, ◌+◌, ◌^◌, ◌<◌, ◌≤◌, List, [], ◌∷◌, ◌++◌, length}
use Rattle.std.proofs.Common.{refl, sym, ap, subst, arith, length-append}
use Rattle.std.proofs.Math.Seq.{get_or-append_seam}
use Rattle.std.proofs.Math.ListN.{get_or-append}
use Rattle.std.proofs.lemmas.Bool.{cases_eq}
use Rattle.blk_plain.specs.declared.op.Op.{Op}
use Rattle.blk_plain.specs.declared.op.Op.TheVariants.{Write, Writes, Read, Rebuild, Sync}
use Rattle.sim_queue.specs.declared.request.Request.{Request}
use Rattle.sim_queue.specs.Replies.{AreWithin}
use Rattle.sim_queue.specs.Service.{IsAsked, IsTransfer, request_at, tick_at}

-- They may be asked of a disk of so many sectors, and none arrives behind the tick `low`.
pub record AreFrom (sectors low : ℕ) (requests : List Request) : Type 0 where
  pub few : length requests ≤ 4096
  pub soon : (j : ℕ) → j < length requests → tick_at requests j < 2 ^ 32
  pub within : (j : ℕ) → j < length requests → IsTransfer sectors (request_at requests j).op
  pub ascending : (i j : ℕ) → i ≤ j → j < length requests
      → tick_at requests i ≤ tick_at requests j
  pub to : (j : ℕ) → j < length requests → tick_at requests j ≤ low

pub no_request : (sectors : ℕ) → AreFrom sectors 0 []
no_request sectors = record {
  few = omega arith;
  soon = λ j h. absurd (omega arith);
  within = λ j h. absurd (omega arith);
  ascending = λ i j up h. absurd (omega arith);
  to = λ j h. absurd (omega arith);
}

-- within the disk is within the greatest disk
wider : (sectors : ℕ) (op : Op) → sectors ≤ 262144 → IsTransfer sectors op → IsTransfer 262144 op
wider sectors (Write span pattern) most h = omega arith
wider sectors (Read span) most h = omega arith
wider sectors (Writes patches) most h = absurd h
wider sectors (Rebuild stripe) most h = absurd h
wider sectors (Sync stripe) most h = absurd h

-- the requests where one stands behind the others
module _ (requests : List Request) (r : Request) where
  before : (j : ℕ) → j < length requests
      → request_at (requests ++ r ∷ []) j ≡ request_at requests j
  unfolding request_at
  before j h = get_or-append requests (r ∷ []) _ j h

  last : request_at (requests ++ r ∷ []) (length requests) ≡ r
  unfolding request_at
  last = get_or-append_seam requests r [] _

  many : length (requests ++ r ∷ []) ≡ length requests + 1
  many = simp length-append refl

  -- what holds of each of the others and of it
  each : (P : Request → Type 0)
      → ((j : ℕ) → j < length requests → P (request_at requests j)) → P r
      → (j : ℕ) → j < length (requests ++ r ∷ []) → P (request_at (requests ++ r ∷ []) j)
  each P others own j h = elim (cases_eq j (length requests)) [
    | inl same ↦ subst (λ (k : ℕ). P (request_at (requests ++ r ∷ []) k)) (sym same)
        (subst P (sym last) own)
    | inr other ↦
        let less : j < length requests = let m = many in omega (arith, m, h, other) in
        subst P (sym (before j less)) (others j less)
  ]

pub one_more : (sectors low : ℕ) (requests : List Request) (r : Request)
    → length requests < 4096 → low ≤ r.tick → r.tick < 2 ^ 32 → IsTransfer sectors r.op
    → AreFrom sectors low requests → AreFrom sectors r.tick (requests ++ r ∷ [])
one_more sectors low requests r few up soon within so_far = record {
  few = let m = many requests r in omega (arith, m, few);
  soon = each requests r (λ x. x.tick < 2 ^ 32) so_far.soon soon;
  within = each requests r (λ x. IsTransfer sectors x.op) so_far.within within;
  ascending = ascending;
  to = to;
}
  where
    to : (j : ℕ) → j < length (requests ++ r ∷ []) → tick_at (requests ++ r ∷ []) j ≤ r.tick
    to = each requests r (λ x. x.tick ≤ r.tick)
        (λ j h. let t = so_far.to j h in omega (arith, t, up)) (omega arith)

    ascending : (i j : ℕ) → i ≤ j → j < length (requests ++ r ∷ [])
        → tick_at (requests ++ r ∷ []) i ≤ tick_at (requests ++ r ∷ []) j
    ascending i j less h = elim (cases_eq j (length requests)) [
      | inl same ↦
          let own = ap (λ (x : Request). x.tick) (last requests r) in
          subst (λ (k : ℕ). tick_at (requests ++ r ∷ []) i ≤ tick_at (requests ++ r ∷ []) k)
          (sym same) (let t = to i (let m = many requests r in omega (arith, m, less, h)) in
          subst (λ (t : ℕ). tick_at (requests ++ r ∷ []) i ≤ t) (sym own) t)
      | inr other ↦
          let m = many requests r in
          let at_j : j < length requests = omega (arith, m, h, other) in
          let at_i : i < length requests = omega (arith, less, at_j) in
          let x = ap (λ (x : Request). x.tick) (before requests r i at_i) in
          let y = ap (λ (x : Request). x.tick) (before requests r j at_j) in
          let t = so_far.ascending i j less at_j in
          rw (x, y) t
    ]

pub are_asked : (sectors low : ℕ) (requests : List Request) → sectors ≤ 262144
    → AreFrom sectors low requests → IsAsked requests
are_asked sectors low requests most so_far = record {
  few = so_far.few;
  soon = so_far.soon;
  within = λ j h. wider sectors (request_at requests j).op most (so_far.within j h);
  ascending = so_far.ascending;
}

pub are_within : (sectors low : ℕ) (requests : List Request)
    → AreFrom sectors low requests → AreWithin sectors requests
are_within sectors low requests so_far = so_far.within
