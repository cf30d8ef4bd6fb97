use Rattle.eng_array.proofs.SteadyBegin.{all-asked, item-room, begin-steady}
use Rattle.eng_array.proofs.HappeningCalls.{begin-happens, begin-jobs}
use Rattle.eng_array.proofs.calls.Core.begin.Goals as goal

pub begin-requires-clause-asked : goal.begin-requires-clause-asked
begin-requires-clause-asked g c = all-asked g.L.Layout g.D.Disk c.args.self.now.array c.requires.steady

pub begin-requires-clause-room : goal.begin-requires-clause-room
begin-requires-clause-room g c = item-room g.L.Layout g.D.Disk c.args.self.now.array c.requires.steady c.args.client c.requires.can

pub returns-clause-steady : goal.returns-clause-steady
returns-clause-steady g c =
    let b = c.begin.ensures.begun in
    begin-steady g.L.Layout g.D.Disk c.args.self.now.array c.requires.steady c.args.client c.requires.can b.0 b.1 c.begin.new.array b.3 b.4 c.begin.ensures.sound c.begin.ensures.step

pub returns-clause-happens : goal.returns-clause-happens
returns-clause-happens g c =
    let b = c.begin.ensures.begun in
    begin-happens g.L.Layout g.D.Disk c.args.self.now.array c.begin.new.array c.requires.steady (returns-clause-steady g c) c.args.client c.requires.can b.0 b.1 b.3 b.4 c.begin.ensures.step

pub returns-clause-keeps : goal.returns-clause-keeps
returns-clause-keeps g c =
    let b = c.begin.ensures.begun in
    begin-jobs g.L.Layout g.D.Disk c.args.self.now.array c.begin.new.array c.requires.steady (returns-clause-steady g c) c.args.client c.requires.can b.0 b.1 b.3 b.4 c.begin.ensures.step c.begin.ensures.stays
