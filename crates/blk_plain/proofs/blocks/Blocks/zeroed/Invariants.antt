use Rattle.std.proofs.Common.{◌≡◌, ◌≤◌, vec_len, vec_capacity}
use Rattle.blk_plain.specs.Plain.{zero_blocks}
use Rattle.blk_plain.proofs.blocks.Blocks.zeroed.Given as goal

abbrev pub invariant-loop : goal.invariant-loop
invariant-loop l = record {
  items : l.sectors.items ≡ zero_blocks l.counter;
  len : vec_len l.sectors ≡ l.counter;
  room : l.count ≤ vec_capacity l.sectors;
}
