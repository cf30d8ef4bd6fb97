use Rattle.std.proofs.Common.{ap}
use Rattle.eng_state.specs.declared.array.Array.{Array}
use Rattle.eng_starts.proofs.Beginnings.{spread-sound, spread-follows}
use Rattle.eng_starts.proofs.rebuild.spread.Goals as goal

pub returns-clause-step : goal.returns-clause-step
returns-clause-step g c = spread-follows g.L.Layout g.D.Disk c.args.array.now c.start_spreading.new.array c.args.column c.requires.sound c.requires.can c.start_spreading.ensures

pub returns-clause-sound : goal.returns-clause-sound
returns-clause-sound g c = spread-sound g.L.Layout g.D.Disk c.args.array.now c.start_spreading.new.array c.args.column c.requires.sound c.requires.can c.start_spreading.ensures

pub returns-clause-trace : goal.returns-clause-trace
returns-clause-trace g c = ap (λ (s : Array g.row.L.Denot g.row.D.Denot). s.log) c.start_spreading.ensures.is
