use Rattle.std.proofs.Common.{◌≡◌, ◌++◌, map, take, drop}
use Rattle.eng_clients.specs.Gathered.{turned}
use Rattle.eng_clients.proofs.gather.turn.Given as goal

-- the sources so far count the other way if they have the number
abbrev pub invariant-loop-source : goal.invariant-loop-source
invariant-loop-source l = l.sources ≡ map (turned l.at) (take l.source-index l.fn.sources) ++ drop l.source-index l.fn.sources
