use Rattle.std.proofs.Common.{◌≡◌, ◌*◌, map}
use Rattle.raid_script.specs.Asked.{seen}
use Rattle.raid_script.specs.DrawnParts.{after, rows_from, seeded}
use Rattle.raid_script.proofs.drawn.generate.Given as goal

abbrev pub invariant-loop-client : goal.invariant-loop-client
invariant-loop-client l = record {
  rows : map (λ items. map seen items.items) l.rows.items ≡ rows_from l.client l.wide l.ops (seeded l.seed);
  rest : l.words ≡ after (3 * (l.client * l.ops)) (seeded l.seed);
}
