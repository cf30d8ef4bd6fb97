use Rattle.std.proofs.Common.{ap, ◌∙◌}
use Rattle.eng_state.specs.declared.array.Array.{Array}
use Rattle.eng_world.specs.declared.item.Traced.TheVariants as event
use Rattle.eng_log.specs.Log.{noted}
use Rattle.eng_starts.proofs.Beginnings.{fill-sound, fill-follows, fill-added}
use Rattle.eng_starts.proofs.rebuild.fill.Goals as goal

pub returns-clause-step : goal.returns-clause-step
returns-clause-step g c = fill-follows g.L.Layout g.D.Disk c.args.array.now c.start_filling.new.array c.args.column c.args.device c.args.count c.requires.sound c.requires.can c.start_filling.ensures

pub returns-clause-sound : goal.returns-clause-sound
returns-clause-sound g c = fill-sound g.L.Layout g.D.Disk c.args.array.now c.start_filling.new.array c.args.column c.args.device c.args.count c.requires.sound c.requires.can c.start_filling.ensures

pub returns-clause-trace : goal.returns-clause-trace
returns-clause-trace g c = ap (λ (s : Array g.row.L.Denot g.row.D.Denot). s.log) c.start_filling.ensures.is ∙ ap (λ n. noted c.args.array.now.log (event.Fill c.args.column c.args.device n)) (fill-added g.L.Layout g.D.Disk c.args.array.now c.start_filling.new.array c.args.column c.args.device c.args.count c.requires.sound c.requires.can c.start_filling.ensures)
