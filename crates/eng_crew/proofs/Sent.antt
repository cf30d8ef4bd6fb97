-- A pass of the crew may go to another thread, and its turn may be shared, where layout and disks may go.
use denote.RattleType.{RattleType}
use denote.Param.Send.{IsSend, IsSync}
use Rattle.std.specs.Prelude.{None}
use Rattle.std.specs.contracts.alloc.Global as global
use Rattle.std.specs.contracts.boxed.Box as boxed
use Rattle.std.specs.contracts.option.Option as option
use Rattle.std.proofs.Crossing.{Box-send}
use Rattle.std.specs.contracts.impls.GlobalAllocator.TheImpl.{ghosts}
use Rattle.blk_disk.specs.declared.disk.Disk.{Ghosts as DiskGhosts}
use Rattle.lay_core.specs.declared.layout.Layout.{Ghosts as LayoutGhosts}
use Rattle.eng_job.specs.contracts.job.Job as job
use Rattle.eng_array.specs.contracts.calls.Core as core
use Rattle.eng_array.proofs.Sent.{core_send}
use Rattle.eng_turn.specs.declared.rule.TurnRule.{Ghosts as TurnGhosts}
use Rattle.eng_turn.specs.contracts.turn.Pass as pass
use Rattle.eng_turn.specs.contracts.turn.Turn as turn
use Rattle.eng_turn.proofs.Sent.{pass_send, turn_sync}
use Rattle.eng_crew.specs.contracts.rule.CrewRule as rule
use Rattle.eng_crew.specs.Laws.{BoxFits, BoxTurns, BoxAfter, box_comes, box_goes, box_itself, box_later, box_step}

-- the core in its box, which is what threads take turns at
abbrev pub box_row : RattleType → RattleType → RattleType
box_row L D = boxed.the_row (core.the_row L D) global.the_row ghosts

box_send : (L D : RattleType) → IsSend L → IsSend D → IsSend (box_row L D)
box_send L D l d = Box-send (core.the_row L D) (core_send L D l d)

pub pass-goes : (L D : RattleType) → IsSend L → IsSend D → IsSend (pass.the_row (rule.the_row L D) (box_row L D) (option.the_row (job.the_row D)))
pass-goes L D l d = pass_send (rule.the_row L D) (box_row L D) (option.the_row (job.the_row D)) (box_send L D l d)

abbrev pub rule_of : (L D : RattleType) → LayoutGhosts L.Denot → DiskGhosts D.Denot → TurnGhosts (rule.the_row L D).Denot (box_row L D).Denot (option.the_row (job.the_row D)).Denot
rule_of L D lay disk = record {
  empty = None;
  fits = BoxFits lay disk;
  step = BoxTurns lay disk;
  after = BoxAfter lay disk;
  empty_comes = box_comes lay disk;
  empty_goes = box_goes lay disk;
  after_itself = box_itself lay disk;
  after_later = box_later lay disk;
  after_step = box_step lay disk;
}

pub turn-goes : (L D : RattleType) (lay : LayoutGhosts L.Denot) (disk : DiskGhosts D.Denot) → IsSend L → IsSend D → IsSync (turn.the_row (rule.the_row L D) (box_row L D) (option.the_row (job.the_row D)) (rule_of L D lay disk))
turn-goes L D lay disk l d = turn_sync (rule.the_row L D) (box_row L D) (option.the_row (job.the_row D)) (rule_of L D lay disk) (box_send L D l d)
