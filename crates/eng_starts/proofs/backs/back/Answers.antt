use Rattle.eng_starts.proofs.Backed.{backed}
use Rattle.eng_starts.proofs.EventsStay.{back-stays}
use Rattle.eng_starts.proofs.backs.back.Goals as goal

pub returns-clause-step : goal.returns-clause-step
returns-clause-step g c = (backed g.L.Layout g.D.Disk c.args.array.now c.back_item.new.array c.args.client c.requires.sound c.requires.stands c.requires.can c.back_item.ensures).step

pub returns-clause-sound : goal.returns-clause-sound
returns-clause-sound g c = (backed g.L.Layout g.D.Disk c.args.array.now c.back_item.new.array c.args.client c.requires.sound c.requires.stands c.requires.can c.back_item.ensures).sound

pub returns-clause-stands : goal.returns-clause-stands
returns-clause-stands g c = (backed g.L.Layout g.D.Disk c.args.array.now c.back_item.new.array c.args.client c.requires.sound c.requires.stands c.requires.can c.back_item.ensures).stands

pub returns-clause-trace : goal.returns-clause-trace
returns-clause-trace g c = (backed g.L.Layout g.D.Disk c.args.array.now c.back_item.new.array c.args.client c.requires.sound c.requires.stands c.requires.can c.back_item.ensures).log

pub returns-clause-stays : goal.returns-clause-stays
returns-clause-stays g c = λ job out. back-stays g.L.Layout g.D.Disk c.args.array.now c.args.client _ c.back_item.new.array c.requires.sound c.requires.can c.requires.stands c.back_item.ensures job out
