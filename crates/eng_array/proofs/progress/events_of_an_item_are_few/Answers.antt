use Rattle.eng_array.proofs.Chained.{chain-left, chain-few}
use Rattle.eng_array.proofs.progress.events_of_an_item_are_few.Goals as goal

pub returns-clause-left : goal.returns-clause-left
returns-clause-left g c = λ old new events m item index chain steady inside few. chain-left g.L.Layout g.D.Disk m item index old events new chain steady inside few

pub returns-clause-few : goal.returns-clause-few
returns-clause-few g c = λ old new events m item index deaths chain steady inside few home die. chain-few g.L.Layout g.D.Disk m item index old events new chain steady inside few deaths home die
