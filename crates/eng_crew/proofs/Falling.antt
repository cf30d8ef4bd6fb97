-- Less is left after each event of the crew.
use Rattle.std.proofs.Common.{◌≤◌, ℕ, arith}
use Rattle.blk_disk.specs.declared.disk.Disk.{Ghosts as DiskGhosts}
use Rattle.lay_core.specs.declared.layout.Layout.{Ghosts as LayoutGhosts}
use Rattle.eng_world.specs.declared.item.Traced.{Traced}
use Rattle.eng_rest.specs.Left.{IsOwn}
use Rattle.eng_state.specs.declared.array.Array.{Array}
use Rattle.eng_array.specs.Progress.{left_of, Falls}
use Rattle.eng_array.specs.Steady.{IsSteady}
use Rattle.eng_array.specs.Tickets.{Happens, IsEndOf}
use Rattle.eng_array.proofs.Lefts.{follows-falls}
use Rattle.eng_crew.specs.Laws.{end_own}

module _ {L D : Type 0} (lay : LayoutGhosts L) (disk : DiskGhosts D) where
  pub happens-falls : (e : Traced) (v w : Array L D) → IsOwn e → IsSteady lay disk v → Happens lay disk e v w → Falls v w
  happens-falls e v w own steady h = follows-falls lay disk v w e own steady h.sound h.leads

  pub end-left : (v w : Array L D) (e : Traced) (c n : ℕ) → IsEndOf e c n → IsSteady lay disk v → Happens lay disk e v w → left_of w ≤ left_of v
  end-left v w e c n is steady does = let less = happens-falls e v w (end_own e c n is) steady does in omega arith
