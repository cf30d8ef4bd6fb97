use Rattle.std.proofs.Common.{sym, subst}
use Rattle.eng_world.specs.declared.item.Reply.TheVariants as reply
use Rattle.eng_state.specs.Sound.{IsSound}
use Rattle.eng_starts.proofs.Beginning.{replied-sound}
use Rattle.eng_starts.proofs.begins.begin_fail.Goals as goal

pub fail_column-requires-clause-sound : goal.fail_column-requires-clause-sound
fail_column-requires-clause-sound g c =
    subst (IsSound g.L.Layout g.D.Disk) (sym c.reply_at_once.ensures)
    (replied-sound g.L.Layout g.D.Disk c.args.array.now c.args.client c.requires.sound c.requires.nothing c.requires.left c.args.array.now.log reply.Okay)
