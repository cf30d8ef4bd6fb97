use Rattle.std.proofs.Common.{◌≡◌, ◌≤◌, ◌*◌, ℕ, take}
use Rattle.std.specs.Prelude.{sum_by}
use Rattle.raid_script.proofs.sums.sum_bytes.Given as goal

-- the sum so far
abbrev pub invariant-loop-byte : goal.invariant-loop-byte
invariant-loop-byte l = record {
  sum : l.total ≡ sum_by (λ (byte : ℕ). byte) (take l.byte-index l.bytes);
  small : l.total ≤ 255 * l.byte-index;
}
