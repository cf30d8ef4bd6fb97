-- The tests' arrays can be marked.
use Rattle.std.proofs.Common.{List, Option, arith}
use Rattle.blk_disk.specs.declared.disk.Disk.{Ghosts}
use Rattle.lay_core.specs.Layout.{Shape}
use Rattle.eng_cols.specs.declared.column.Column.{Column}
use Rattle.raid_map.specs.Marking.{CanBeMarked}
use Rattle.top_acts.specs.Begun.{CanAct}
use Rattle.top_acts.proofs.Having.{has_live}

pub can_mark : {D : Type 0} (g : Ghosts D) (y : Shape) (columns : List Column) (ds : List (Option D)) → CanAct g y columns ds → CanBeMarked g columns ds
can_mark g y columns ds act = record {
  sized = λ c d on. let s = act.array.there c d (has_live y columns c d on) in omega (arith, s);
  apart = act.labels.have.apart;
}
