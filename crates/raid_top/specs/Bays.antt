-- A bay before a call and after it, as it is spoken of.
use Rattle.blk_disk.specs.Disk.{Rose}
use Rattle.raid_bay.specs.declared.bay.Bay.{Ghosts}
use Rattle.top_fetch.specs.Told.{Told}

abbrev pub told_of : {B D : Type 0} → Ghosts B D → (old new : B) → Told D
told_of g old new = record {
  tells = g.tells;
  rose = Rose (g.faults old) (g.faults new);
  texts = g.text_of old;
  home = g.home old;
  after = g.home new;
}
