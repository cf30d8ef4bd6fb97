-- What follows as an operation is taken, or its graph refused.
use Rattle.std.proofs.Common.{◌≡◌, ℕ, inl, inr}
use Rattle.blk_disk.specs.declared.disk.Disk.{Ghosts as DiskGhosts}
use Rattle.lay_core.specs.declared.layout.Layout.{Ghosts as LayoutGhosts}
use Rattle.eng_world.specs.declared.item.Traced.TheVariants as event
use Rattle.eng_state.specs.declared.array.Array.{Array}
use Rattle.eng_log.specs.Log.{noted}
use Rattle.eng_state.specs.Moves.{id_of}
use Rattle.eng_state.specs.Serves.{Stands, CanTake}
use Rattle.eng_state.specs.Sound.{IsSound}
use Rattle.eng_state.specs.Steps.{Follows}
use Rattle.eng_state.specs.Taken.{IsTaken}
use Rattle.eng_starts.proofs.Taking.{take-follows, take-sound, take-stands}
use Rattle.eng_starts.proofs.Refusing.{refuse-follows, refuse-sound, refuse-stands}

module _ {L D : Type 0} (lay : LayoutGhosts L) (disk : DiskGhosts D) (old new : Array L D) (c : ℕ) (sound : IsSound lay disk old) (stands : Stands lay old) (can : CanTake lay old c) (t : IsTaken lay old c (event.Take (id_of old.clients c)) new) where
  pub turned-follows : Follows lay disk old (event.Take (id_of old.clients c)) new
  turned-follows = elim t.became [
    | inl f ↦ take-follows lay disk old new c t.op t.file sound stands can t.serves f
    | inr f ↦ refuse-follows lay disk old new c t.op t.file f.0 sound stands can t.serves f.1
  ]

  pub turned-sound : IsSound lay disk new
  turned-sound = elim t.became [
    | inl f ↦ take-sound lay disk old new c t.op t.file sound stands can t.serves f
    | inr f ↦ refuse-sound lay disk old new c t.op t.file f.0 sound stands can t.serves f.1
  ]

  pub turned-stands : Stands lay new
  turned-stands = elim t.became [
    | inl f ↦ take-stands lay disk old new c t.op t.file sound stands can t.serves f
    | inr f ↦ refuse-stands lay disk old new c t.op t.file f.0 sound stands can t.serves f.1
  ]

  pub turned-log : new.log ≡ noted old.log (event.Take (id_of old.clients c))
  turned-log = elim t.became [ inl f ↦ f.log | inr f ↦ f.1.log ]
