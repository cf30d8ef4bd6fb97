use Rattle.eng_array.proofs.Chains.{goes-told, goes-later}
use Rattle.eng_crew.proofs.Following.{after-continues}
use Rattle.eng_crew.proofs.laws.what_follows_continues.Goals as goal

pub returns-clause-worlds : goal.returns-clause-worlds
returns-clause-worlds g c = λ old new w after shows. after-continues g.L.Layout g.D.Disk old.array new.array after w shows

pub returns-clause-trace : goal.returns-clause-trace
returns-clause-trace g c = λ old new after on. goes-told g.L.Layout g.D.Disk old.array new.array after.events after.goes on

pub returns-clause-devices : goal.returns-clause-devices
returns-clause-devices g c = λ old new d after. goes-later g.L.Layout g.D.Disk old.array new.array after.events after.goes d
