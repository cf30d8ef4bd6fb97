use Rattle.std.proofs.Common.{◌≡◌, ℕ, ◌⊎◌, take}
use Rattle.std.specs.Prelude.{Contains}
use Rattle.std.specs.Int.{bit_at}
use Rattle.graph_check.specs.Following.{IsSeen}
use Rattle.graph_check.proofs.tables.masks.mark_each.Given as goal

-- the nodes so far
abbrev pub invariant-loop-a : goal.invariant-loop-a
invariant-loop-a l = record {
  kept : (j k : ℕ) → IsSeen l.fn.masks j k → IsSeen l.masks j k;
  listed : (j k : ℕ) → Contains (take l.a-index l.antes) k → bit_at l.mask j ≡ 1 → IsSeen l.masks j k;
  only : (j k : ℕ) → IsSeen l.masks j k → IsSeen l.fn.masks j k ⊎ ((bit_at l.mask j ≡ 1) × Contains (take l.a-index l.antes) k);
}
