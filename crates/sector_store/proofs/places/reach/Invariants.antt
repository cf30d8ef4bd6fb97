use Rattle.std.proofs.Common.{◌≡◌, ◌<◌, ◌≤◌, ◌+◌, ◌-◌, ℕ, length, vec_len, vec_capacity}
use Rattle.sector_store.specs.Places.{kept_at, AreWhole}
use Rattle.sector_store.proofs.places.reach.Given as goal

-- zeros so far stand behind what there was
abbrev pub invariant-loop : goal.invariant-loop
invariant-loop l = record {
  whole : AreWhole l.kept.items;
  old : (p : ℕ) → p < length l.fn.kept.items → kept_at l.kept.items p ≡ kept_at l.fn.kept.items p;
  long : length l.fn.kept.items ≤ length l.kept.items;
  count : vec_len l.kept ≡ l.counter;
  most : length l.kept.items ≤ length l.fn.kept.items + (l.count - length l.fn.kept.items);
  room : vec_capacity l.fn.kept ≤ vec_capacity l.kept;
  fits : l.count ≤ vec_capacity l.kept;
}
