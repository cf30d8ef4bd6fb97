use Rattle.std.proofs.Common.{◌≡◌, ◌≤◌, ◌*◌, List, ℕ, Bool, length, take, drop}
use Rattle.raid_bay.specs.Sink.{Puts}
use Rattle.raid_script.specs.Replies.{row_sectors, row_text}
use Rattle.raid_script.specs.Steps.{place_text}
use Rattle.raid_script.proofs.Printed.{from_place}
use Rattle.raid_script.proofs.replies.put_row.Given as goal

-- whatever comes of the items that are left comes of all of them
abbrev pub invariant-loop-i : goal.invariant-loop-i
invariant-loop-i g l = record {
  rest : g.K.Sink.tells → (b : Bool) (new : List ℕ) → Puts b (g.K.Sink.output l.out) (from_place (place_text l.client l.items.items l.replies (drop (512 * l.from) l.sectors)) l.i (length l.items.items)) new → Puts b (g.K.Sink.output l.fn.out) (row_text l.client l.items.items l.replies (drop (512 * l.from) l.sectors)) new;
  later : g.K.Sink.faults l.fn.out ≤ g.K.Sink.faults l.out;
  place : l.at ≡ row_sectors (take l.i l.items.items);
}
