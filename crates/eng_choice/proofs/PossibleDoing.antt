-- An event is possible in the worlds that a core shows exactly where it can be done.
use Rattle.std.proofs.Common.{sym, ◌∙◌}
use Rattle.blk_disk.specs.declared.disk.Disk.{Ghosts as DiskGhosts}
use Rattle.lay_core.specs.declared.layout.Layout.{Ghosts as LayoutGhosts}
use Rattle.eng_world.specs.declared.item.Event.{Event}
use Rattle.eng_world.specs.declared.item.Event.TheVariants as may
use Rattle.eng_world.specs.World.{World}
use Rattle.eng_world.specs.Step.{Possible}
use Rattle.eng_state.specs.declared.array.Array.{Array}
use Rattle.eng_state.specs.Doing.{CanDo}
use Rattle.eng_state.specs.Serves.{Stands}
use Rattle.eng_state.specs.Shows.{Shows}
use Rattle.eng_state.specs.Sound.{IsSound}
use Rattle.eng_state.specs.Steps.{graphs_of}
use Rattle.eng_choice.proofs.Possible as parts
use Rattle.eng_choice.proofs.PossibleTake as taking

module _ {L D : Type 0} (lay : LayoutGhosts L) (disk : DiskGhosts D) (core : Array L D) (w : World) (sound : IsSound lay disk core) (stands : Stands lay core) (s : Shows disk core w) where
  pub possible-can : (e : Event) → Possible (lay.shape core.layout) (graphs_of core.graphs.items) e w → CanDo lay core e
  possible-can (may.Begin c) h = parts.begin-can lay disk core w sound s (sym s.lost ∙ h.0) c h.1
  possible-can (may.Take c) h = taking.take-can lay disk core w sound stands s (sym s.lost ∙ h.0) c h.1.0 h.1.1 h.1.2 h.1.3
  possible-can (may.Fire c n) h = parts.fire-can lay disk core w sound s (sym s.lost ∙ h.0) c n h.1
  possible-can (may.Skip c n) h = parts.skip-can lay disk core w sound s (sym s.lost ∙ h.0) c n h.1
  possible-can (may.Back c) h = parts.back-can lay disk core w sound s (sym s.lost ∙ h.0) c h.1

  pub can-possible : (e : Event) → CanDo lay core e → Possible (lay.shape core.layout) (graphs_of core.graphs.items) e w
  can-possible (may.Begin c) h = (s.lost ∙ h.not_lost, parts.can-begin lay disk core w sound s h.not_lost c h)
  can-possible (may.Take c) h = (s.lost ∙ h.not_lost, taking.can-take-some lay disk core w sound stands s h.not_lost c h)
  can-possible (may.Fire c n) h = (s.lost ∙ h.not_lost, parts.can-fire lay disk core w sound s h.not_lost c n h)
  can-possible (may.Skip c n) h = (s.lost ∙ h.not_lost, parts.can-skip lay disk core w sound s h.not_lost c n h)
  can-possible (may.Back c) h = (s.lost ∙ h.not_lost, parts.can-back lay disk core w sound s h.not_lost c h)
