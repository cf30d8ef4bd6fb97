use Rattle.std.proofs.Common.{ap, ◌∙◌}
use Rattle.eng_state.specs.declared.array.Array.{Array}
use Rattle.eng_world.specs.declared.item.Traced.TheVariants as event
use Rattle.eng_log.specs.Log.{noted}
use Rattle.eng_starts.proofs.Beginnings.{resume-sound, resume-follows, resume-added}
use Rattle.eng_starts.proofs.rebuild.resume.Goals as goal

pub returns-clause-step : goal.returns-clause-step
returns-clause-step g c = resume-follows g.L.Layout g.D.Disk c.args.array.now c.start_resuming.new.array c.args.column c.args.count c.requires.sound c.requires.can c.start_resuming.ensures

pub returns-clause-sound : goal.returns-clause-sound
returns-clause-sound g c = resume-sound g.L.Layout g.D.Disk c.args.array.now c.start_resuming.new.array c.args.column c.args.count c.requires.sound c.requires.can c.start_resuming.ensures

pub returns-clause-trace : goal.returns-clause-trace
returns-clause-trace g c = ap (λ (s : Array g.row.L.Denot g.row.D.Denot). s.log) c.start_resuming.ensures.is ∙ ap (λ n. noted c.args.array.now.log (event.Resume c.args.column n)) (resume-added g.L.Layout g.D.Disk c.args.array.now c.start_resuming.new.array c.args.column c.args.count c.requires.sound c.requires.can c.start_resuming.ensures)
