-- A call that came back, whatever sectors it was told and however it was answered.
use Rattle.std.specs.Prelude.{ℕ, List}
use Rattle.blk_plain.specs.declared.op.Outcome.{Outcome}
use Rattle.blk_disk.specs.declared.disk.Disk.{Ghosts as DiskGhosts}
use Rattle.lay_core.specs.declared.layout.Layout.{Ghosts as LayoutGhosts}
use Rattle.eng_state.specs.declared.array.Array.{Array}
use Rattle.eng_state.specs.Bad.{CallBack, EndsBad}

module _ {L D : Type 0} (lay : LayoutGhosts L) (disk : DiskGhosts D) where
  -- node n of client c is out, a call that came back with this device and these bytes
  pub record CallCameBack (core : Array L D) (c n : ℕ) (after : D) (now : List ℕ) : Type 0 where
    pub first : ℕ
    pub count : ℕ
    pub outcome : Outcome
    pub back : CallBack lay disk core c n after first now count outcome

  -- and it ends bad
  pub record CallCameBad (core : Array L D) (c n : ℕ) (after : D) (now : List ℕ) : Type 0 where
    pub came : CallCameBack core c n after now
    pub ends : EndsBad lay disk core c n after came.first now came.count came.outcome came.back
