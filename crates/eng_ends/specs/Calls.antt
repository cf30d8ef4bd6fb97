-- A read or a write that came back good, with what comes home with it.
use Rattle.std.specs.Prelude.{◌≡◌, ℕ, false}
use Rattle.blk_plain.specs.declared.op.Outcome.TheVariants.{Good}
use Rattle.blk_disk.specs.declared.disk.Disk.{Ghosts as DiskGhosts}
use Rattle.lay_core.specs.declared.layout.Layout.{Ghosts as LayoutGhosts}
use Rattle.eng_parts.specs.Shelf.{has_failed}
use Rattle.eng_state.specs.declared.array.Array.{Array}
use Rattle.eng_state.specs.declared.coming.Coming.{Coming}
use Rattle.eng_state.specs.Back.{ReadBack, WriteBack}

module _ {L D : Type 0} (lay : LayoutGhosts L) (disk : DiskGhosts D) where
  -- node n of client c is out, a read of so many sectors from the first, and this came back with it
  pub record ReadCame (core : Array L D) (c n : ℕ) (coming : Coming D) : Type 0 where
    pub first : ℕ
    pub count : ℕ
    pub back : ReadBack lay disk core c n coming.disk first coming.buffer count Good

  -- the same of a write, whose device hasn't failed since
  pub record WriteCame (core : Array L D) (c n : ℕ) (coming : Coming D) : Type 0 where
    pub first : ℕ
    pub count : ℕ
    pub back : WriteBack lay disk core c n coming.disk first coming.buffer count Good
    pub sane : has_failed core.devices back.at.device ≡ false
