use Rattle.eng_array.proofs.Chains.{goes-append, goes-same, goes-leads, goes-told, goes-untold, goes-later, goes-devices}
use Rattle.eng_array.proofs.tickets.chains_are_runs.Goals as goal

pub returns-clause-append : goal.returns-clause-append
returns-clause-append g c = λ first mid last events more a b. goes-append g.L.Layout g.D.Disk first mid last events more a b

pub returns-clause-same : goal.returns-clause-same
returns-clause-same g c = λ old new events h. goes-same g.L.Layout g.D.Disk old new events h

pub returns-clause-leads : goal.returns-clause-leads
returns-clause-leads g c = λ old new events w h s. goes-leads g.L.Layout g.D.Disk old new events h w s

pub returns-clause-told : goal.returns-clause-told
returns-clause-told g c = λ old new events h on. goes-told g.L.Layout g.D.Disk old new events h on

pub returns-clause-untold : goal.returns-clause-untold
returns-clause-untold g c = λ old new events h off. goes-untold g.L.Layout g.D.Disk old new events h off

pub returns-clause-later : goal.returns-clause-later
returns-clause-later g c = λ old new events d h. goes-later g.L.Layout g.D.Disk old new events h d

pub returns-clause-devices : goal.returns-clause-devices
returns-clause-devices g c = λ old new events h. goes-devices g.L.Layout g.D.Disk old new events h
