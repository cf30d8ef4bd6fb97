-- A look for an event goes before the event.
use Rattle.std.proofs.Common.{ℕ, subst}
use Rattle.blk_disk.specs.declared.disk.Disk.{Ghosts as DiskGhosts}
use Rattle.lay_core.specs.declared.layout.Layout.{Ghosts as LayoutGhosts}
use Rattle.eng_job.specs.declared.job.Job.{Job}
use Rattle.eng_world.specs.declared.item.Traced.{Traced}
use Rattle.eng_state.specs.declared.array.Array.{Array}
use Rattle.eng_array.specs.Tickets.{Happens, KeepsJobs, Lends, Quiet}
use Rattle.eng_choice.proofs.Picking.{shows-moved}

module _ {L D : Type 0} (lay : LayoutGhosts L) (disk : DiskGhosts D) (old new : Array L D) where
  -- ## A core of which another client is tried first

  module _ (next : ℕ) where
    abbrev moved : Array L D
    moved = record old { next = next }

    moved-happens : (e : Traced) → Happens lay disk e moved new → Happens lay disk e old new
    moved-happens e h = record {
      sound = h.sound;
      same = record { layout = h.same.layout; shape = h.same.shape; graphs = h.same.graphs; keeps = h.same.keeps; spare = h.same.spare; slots = h.same.slots; regions = h.same.regions };
      items = h.items;
      others = h.others;
      told = h.told;
      untold = h.untold;
      leads = λ w shows. h.leads w (shows-moved lay disk old next w shows);
      devices = h.devices;
      blame = h.blame;
    }

    moved-keeps : KeepsJobs lay disk moved new → KeepsJobs lay disk old new
    moved-keeps k = record { jobs = k.jobs; nodes = k.nodes }

    moved-lends : (job : Job D) → Lends lay disk job moved new → Lends lay disk job old new
    moved-lends job k = record { is_out = k.is_out; jobs = k.jobs; nodes = k.nodes }

  module _ (mid : Array L D) (q : Quiet lay disk old mid) where
    pub quiet-happens : (e : Traced) → Happens lay disk e mid new → Happens lay disk e old new
    quiet-happens e h = moved-happens mid.next e (subst (λ (m : Array L D). Happens lay disk e m new) q.is h)

    pub quiet-keeps : KeepsJobs lay disk mid new → KeepsJobs lay disk old new
    quiet-keeps k = moved-keeps mid.next (subst (λ (m : Array L D). KeepsJobs lay disk m new) q.is k)

    pub quiet-lends : (job : Job D) → Lends lay disk job mid new → Lends lay disk job old new
    quiet-lends job k = moved-lends mid.next job (subst (λ (m : Array L D). Lends lay disk job m new) q.is k)
