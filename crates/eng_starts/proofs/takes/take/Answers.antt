use Rattle.eng_starts.proofs.Turned.{turned-follows, turned-sound, turned-stands, turned-log}
use Rattle.eng_starts.proofs.EventsStay.{take-stays}
use Rattle.eng_starts.proofs.takes.take.Goals as goal

pub returns-clause-step : goal.returns-clause-step
returns-clause-step g c = turned-follows g.L.Layout g.D.Disk c.args.array.now c.take_item.new.array c.args.client c.requires.sound c.requires.stands c.requires.can c.take_item.ensures

pub returns-clause-sound : goal.returns-clause-sound
returns-clause-sound g c = turned-sound g.L.Layout g.D.Disk c.args.array.now c.take_item.new.array c.args.client c.requires.sound c.requires.stands c.requires.can c.take_item.ensures

pub returns-clause-stands : goal.returns-clause-stands
returns-clause-stands g c = turned-stands g.L.Layout g.D.Disk c.args.array.now c.take_item.new.array c.args.client c.requires.sound c.requires.stands c.requires.can c.take_item.ensures

pub returns-clause-trace : goal.returns-clause-trace
returns-clause-trace g c = turned-log g.L.Layout g.D.Disk c.args.array.now c.take_item.new.array c.args.client c.requires.sound c.requires.stands c.requires.can c.take_item.ensures

pub returns-clause-stays : goal.returns-clause-stays
returns-clause-stays g c = λ job out. take-stays g.L.Layout g.D.Disk c.args.array.now c.args.client _ c.take_item.new.array c.requires.sound c.requires.can c.take_item.ensures job out
