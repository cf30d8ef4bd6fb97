use Rattle.std.proofs.Common.{◌≡◌, ◌*◌, map}
use Rattle.raid_script.specs.Asked.{seen}
use Rattle.raid_script.specs.DrawnParts.{after, row_from}
use Rattle.raid_script.proofs.drawn.row_from.Given as goal

abbrev pub invariant-loop-i : goal.invariant-loop-i
invariant-loop-i l = record {
  items : map seen l.items.items ≡ row_from l.client l.wide l._i l.fn.words;
  rest : l.words ≡ after (3 * l._i) l.fn.words;
}
