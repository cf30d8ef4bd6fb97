-- What follows as an operation that was undone goes back.
use Rattle.std.proofs.Common.{◌≡◌, ℕ, Option, Some, None}
use Rattle.blk_plain.specs.declared.op.Op.{Op}
use Rattle.blk_disk.specs.declared.disk.Disk.{Ghosts as DiskGhosts}
use Rattle.lay_core.specs.declared.layout.Layout.{Ghosts as LayoutGhosts}
use Rattle.eng_world.specs.declared.item.Traced.TheVariants as event
use Rattle.eng_state.specs.declared.array.Array.{Array}
use Rattle.eng_clients.specs.Desk.{desk_at}
use Rattle.eng_log.specs.Log.{noted}
use Rattle.eng_state.specs.Moves.{id_of}
use Rattle.eng_state.specs.Serves.{Serves, Stands, CanBack}
use Rattle.eng_state.specs.Sound.{IsSound}
use Rattle.eng_state.specs.Steps.{Follows}
use Rattle.eng_state.specs.Taken.{BackAs, IsBack}
use Rattle.eng_starts.proofs.Backing.{anew-follows, anew-sound, anew-stands}
use Rattle.eng_starts.proofs.GivingUp.{up-follows, up-sound, up-stands}

-- what the public call promises
pub record Promised {L D : Type 0} (lay : LayoutGhosts L) (disk : DiskGhosts D) (old : Array L D) (c : ℕ) (new : Array L D) : Type 0 where
  pub step : Follows lay disk old (event.Back (id_of old.clients c)) new
  pub sound : IsSound lay disk new
  pub stands : Stands lay new
  pub log : new.log ≡ noted old.log (event.Back (id_of old.clients c))

module _ {L D : Type 0} (lay : LayoutGhosts L) (disk : DiskGhosts D) (old new : Array L D) (c : ℕ) (sound : IsSound lay disk old) (stands : Stands lay old) (can : CanBack lay old c) where
  by-file : (op : Op) (file : Option ℕ) → Serves old.graphs.items (lay.shape old.layout) (desk_at old.clients c) op file → BackAs lay old c op file (event.Back (id_of old.clients c)) new → Promised lay disk old c new
  by-file op None serves f = record {
    step = anew-follows lay disk old new c op sound stands can serves f;
    sound = anew-sound lay disk old new c op sound stands can serves f;
    stands = anew-stands lay disk old new c op sound stands can serves f;
    log = f.log;
  }
  by-file op (Some n) serves f = record {
    step = up-follows lay disk old new c op n f.0 sound stands can serves f.1 f.2;
    sound = up-sound lay disk old new c op n f.0 sound stands can serves f.1 f.2;
    stands = up-stands lay disk old new c op n f.0 sound stands can serves f.1 f.2;
    log = f.2.log;
  }

  pub backed : IsBack lay old c (event.Back (id_of old.clients c)) new → Promised lay disk old c new
  backed b = by-file b.op b.file b.serves b.became
