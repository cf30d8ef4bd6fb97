use Rattle.std.proofs.Common.{sym, subst}
use Rattle.eng_world.specs.declared.item.Traced.TheVariants as event
use Rattle.eng_log.specs.Log.{noted}
use Rattle.eng_state.specs.Sound.{IsSound}
use Rattle.eng_state.specs.Steps.{Follows}
use Rattle.eng_fails.proofs.Failing.{fail-follows, sound-with}
use Rattle.eng_state.specs.Out.{IsOut}
use Rattle.eng_state.specs.declared.array.Array.{Array}
use Rattle.eng_fails.proofs.FailStays.{failing-stays}
use Rattle.eng_fails.proofs.fails.fail.Goals as goal

pub returns-clause-step : goal.returns-clause-step
returns-clause-step g c = λ alive.
    subst (Follows g.L.Layout g.D.Disk c.args.array.now (event.Fail c.args.column)) (sym c.note.ensures)
    (fail-follows g.L.Layout g.D.Disk c.args.array.now c.args.column c.fail_column.new.array c.requires.sound c.fail_column.ensures c.requires.not_lost c.requires.column alive)

pub returns-clause-sound : goal.returns-clause-sound
returns-clause-sound g c =
    subst (IsSound g.L.Layout g.D.Disk) (sym c.note.ensures)
    (sound-with g.L.Layout g.D.Disk c.args.array.now c.args.column c.fail_column.new.array c.requires.sound c.fail_column.ensures (noted c.fail_column.new.array.log (event.Fail c.args.column)))

pub returns-clause-stays : goal.returns-clause-stays
returns-clause-stays g c = λ job out. subst (λ (s : Array g.row.L.Denot g.row.D.Denot). IsOut g.D.Disk g.L.Layout s job) (sym c.note.ensures) (failing-stays g.L.Layout g.D.Disk c.args.array.now c.args.column c.fail_column.new.array c.fail_column.ensures job out)
