use Rattle.std.proofs.Common.{◌≡◌, [], map}
use Rattle.raid_script.specs.Asked.{by_first, seen}
use Rattle.raid_script.proofs.script.Script.empty.Given as goal

-- so many clients so far
abbrev pub invariant-loop : goal.invariant-loop
invariant-loop l = map (λ items. map seen items.items) l.clients.items ≡ by_first l.counter []
