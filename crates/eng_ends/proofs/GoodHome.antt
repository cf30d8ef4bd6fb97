-- What has come home is home too once its good end is traced.
use Rattle.std.proofs.Common.{◌≡◌, ◌∙◌, ℕ, Option, sym, subst, ap, refl}
use Rattle.blk_plain.specs.declared.op.OpId.{OpId}
use Rattle.blk_disk.specs.declared.disk.Disk.{Ghosts as DiskGhosts}
use Rattle.lay_core.specs.declared.layout.Layout.{Ghosts as LayoutGhosts}
use Rattle.eng_world.specs.declared.item.Traced.TheVariants as event
use Rattle.eng_clients.specs.Desk.{desk_at, spot_at}
use Rattle.eng_log.specs.Log.{noted}
use Rattle.eng_state.specs.declared.array.Array.{Array}
use Rattle.eng_state.specs.EndsNode.{EndsNode}
use Rattle.eng_state.specs.GoesOn.{GoesOn}
use Rattle.eng_state.specs.Homes.{slots_home}
use Rattle.eng_state.specs.Moves.{id_of}
use Rattle.eng_state.specs.Out.{OthersStay}
use Rattle.eng_state.specs.Sound.{IsSound}
use Rattle.eng_state.specs.Steps.{Follows}
use Rattle.eng_state.proofs.GoingOn.{goes-logged}

module _ {L D : Type 0} (lay : LayoutGhosts L) (disk : DiskGhosts D) (old mid new : Array L D) (c n : ℕ) (id : OpId) (device : Option D) where
  -- with its end traced
  abbrev traced : OpId → Array L D
  traced name = record mid { log = noted mid.log (event.Good name n) }

  abbrev now : Array L D
  now = traced (id_of old.clients c)

  pub home-noted : new ≡ traced id → id ≡ id_of old.clients c → Follows lay disk old (event.Good (id_of old.clients c) n) now → IsSound lay disk now → GoesOn old mid → mid.devices.slots ≡ slots_home device (spot_at (desk_at old.clients c) n) old.devices → OthersStay disk lay c n old now → EndsNode lay disk old c n (event.Good (id_of old.clients c) n) device new
  home-noted is named step sound goes devices stays =
      subst (λ (s : Array L D). EndsNode lay disk old c n (event.Good (id_of old.clients c) n) device s) (sym (is ∙ ap traced named)) (record {
        step = step;
        sound = sound;
        goes = goes-logged old mid now now.log refl goes;
        devices = devices;
        stays = stays;
      })
