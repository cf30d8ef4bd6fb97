-- Each event that starts something keeps what is out as it left.
use Rattle.std.proofs.Common.{◌≡◌, ◌≢◌, ℕ, ◌<◌, List, length, subst, sym, ap, ◌∙◌, inl, inr, refl, Option, Some, None}
use Rattle.std.specs.Prelude.{slice_set}
use Rattle.std.proofs.lemmas.List.{get_or-set_other}
use Rattle.blk_plain.specs.declared.op.Op.{Op}
use Rattle.blk_disk.specs.declared.disk.Disk.{Ghosts as DiskGhosts}
use Rattle.buf_pool.specs.Pool as pool
use Rattle.lay_core.specs.declared.layout.Layout.{Ghosts as LayoutGhosts}
use Rattle.graph_mean.specs.declared.step.Status.TheVariants as status
use Rattle.eng_one.specs.Control.{mark_of}
use Rattle.eng_world.specs.declared.item.Item.{Item}
use Rattle.eng_world.specs.declared.item.Item.TheVariants as item
use Rattle.eng_world.specs.declared.item.Reply.{Reply}
use Rattle.eng_world.specs.declared.item.Reply.TheVariants as reply
use Rattle.eng_world.specs.declared.item.Traced.{Traced}
use Rattle.eng_clients.specs.declared.stage.Stage.TheVariants.{Nothing, Waits, Runs}
use Rattle.eng_state.specs.declared.array.Array.{Array}
use Rattle.eng_clients.specs.Desk.{Desk, desk_at, with_skipped}
use Rattle.eng_state.specs.Sound.{IsSound, IsOutOf}
use Rattle.eng_state.specs.Out.{IsOut}
use Rattle.eng_state.specs.Can.{CanSkip}
use Rattle.eng_state.specs.Beginning.{CanBegin, BegunAs, waiting, replied}
use Rattle.eng_state.specs.Serves.{Stands, CanTake, CanBack}
use Rattle.eng_state.specs.Taken.{Taken, IsTaken, BackAs, IsBack}
use Rattle.eng_state.proofs.OutStays.{StaysAt, one-desk}
use Rattle.eng_state.proofs.Ripe.{runs-below, runs-well}
use Rattle.eng_state.proofs.Asking.{waits-below}
use Rattle.eng_state.proofs.CalmStays.{KeepsOut, clients-stay, calm-set, pool-stays, lease-stays}
use Rattle.eng_fails.proofs.FailStays.{failing-stays}
use Rattle.eng_starts.proofs.Beginning as beginning

module _ {L D : Type 0} (lay : LayoutGhosts L) (disk : DiskGhosts D) (old : Array L D) where
  -- ## A node is passed over

  module _ (c n : ℕ) (sound : IsSound lay disk old) (can : CanSkip lay old c n) where
    still : (m : ℕ) → IsOutOf (desk_at old.clients c) m → StaysAt (desk_at old.clients c) (with_skipped (desk_at old.clients c) n) m
    still m out = record {
      out = record { runs = out.runs; mark = get_or-set_other (desk_at old.clients c).run.marks n m status.Skipped status.Idle ne ∙ out.mark };
      graph = refl;
      lease = refl;
      spots = refl;
    }
      where
        ne : m ≢ n
        ne is = let z : status.Idle ≡ status.Out = sym can.ready.idle ∙ subst (λ (j : ℕ). mark_of (desk_at old.clients c).run j ≡ status.Out) is out.mark in let u : ⊥ = cc in u

    pub skip-stays : KeepsOut lay disk old (record old { clients = slice_set old.clients c (with_skipped (desk_at old.clients c) n) })
    skip-stays = clients-stay lay disk old (slice_set old.clients c (with_skipped (desk_at old.clients c) n)) (one-desk old.clients c (with_skipped (desk_at old.clients c) n) still (runs-below lay disk old c sound can.runs))

  -- ## A client that has no node out

  module _ (c : ℕ) (sound : IsSound lay disk old) (can : CanBegin old c) where
    calm : (n : ℕ) → IsOutOf (desk_at old.clients c) n → ⊥
    calm n out = let z : Nothing ≡ Runs = sym can.nothing ∙ out.runs in let u : ⊥ = cc in u

    below : c < length old.clients
    below = beginning.below lay disk old c sound can.nothing (beginning.item-left lay disk old c sound can)

    replied-stays : (r : Reply) → KeepsOut lay disk old (replied old c r)
    replied-stays r = clients-stay lay disk old (replied old c r).clients (calm-set lay disk old c _ calm below)

    pub begin-stays : (i : Item) (new : Array L D) → BegunAs lay i old c new → KeepsOut lay disk old new
    begin-stays (item.Run op graph) new (inl w) job o = subst (λ (s : Array L D). IsOut disk lay s job) (sym w.1) (clients-stay lay disk old (waiting old c).clients (calm-set lay disk old c _ calm below) job o)
    begin-stays (item.Run op graph) new (inr r) job o = subst (λ (s : Array L D). IsOut disk lay s job) (sym r.2) (replied-stays r.0 job o)
    begin-stays (item.Fail column) new (inl dead) job o = subst (λ (s : Array L D). IsOut disk lay s job) (sym dead.1) (replied-stays reply.Okay job o)
    begin-stays (item.Fail column) new (inr fails) job o = failing-stays lay disk (replied old c reply.Okay) column new fails.1 job (replied-stays reply.Okay job o)

  -- ## Take and back

  module _ (c : ℕ) (event : Traced) (new : Array L D) (sound : IsSound lay disk old) where
    module _ (can : CanTake lay old c) where
      waits : (n : ℕ) → IsOutOf (desk_at old.clients c) n → ⊥
      waits n out = let z : Waits ≡ Runs = sym can.waits ∙ out.runs in let u : ⊥ = cc in u

      taken : (op : Op) (file : Option ℕ) → Taken lay old c op file event new → KeepsOut lay disk old new
      taken op file f =
          lease-stays lay disk old c sound new f.rest _ f.clients (waits-below lay disk old c sound can) waits f.lease (f.filled.alone.unit ∙ f.leases.unit)
          (λ k ne runs. (f.apart (desk_at old.clients k).lease (runs-well lay disk old k sound runs).lease).1)
          (λ k none. f.filled.alone.others k none ∙ f.leases.others k none)

      pub take-stays : IsTaken lay old c event new → KeepsOut lay disk old new
      take-stays t = elim t.became [
        | inl f ↦ taken t.op t.file f
        | inr f ↦ pool-stays lay disk old c sound new f.1.rest _ f.1.clients (waits-below lay disk old c sound can) waits f.1.pool
      ]

    module _ (can : CanBack lay old c) (stands : Stands lay old) (b : IsBack lay old c event new) where
      quiet : (n : ℕ) → IsOutOf (desk_at old.clients c) n → ⊥
      quiet n out = ((stands.serves c).runs can.runs b.op b.file b.serves).undone can.undone n out.mark

      apart : (k : ℕ) → k ≢ c → pool.AreApart (desk_at old.clients k).lease (desk_at old.clients c).lease
      apart k ne = sound.well.apart k c ne

      back-as : (file : Option ℕ) → BackAs lay old c b.op file event new → KeepsOut lay disk old new
      back-as None f =
          let lease : f.plan.lease ≡ (desk_at old.clients c).lease = ap (λ (d : Desk). d.lease) f.replanned.rest in
          lease-stays lay disk old c sound new f.rest _ f.clients (runs-below lay disk old c sound can.runs) quiet f.plan.lease f.filled.alone.unit
          (λ k ne runs. subst (λ (l : List ℕ). pool.AreApart (desk_at old.clients k).lease l) (sym lease) (apart k ne))
          f.filled.alone.others
      back-as (Some n) (device, by, f) = lease-stays lay disk old c sound new f.rest _ f.clients (runs-below lay disk old c sound can.runs) quiet (desk_at old.clients c).lease f.pool.unit (λ k ne runs. apart k ne) f.pool.others

      pub back-stays : KeepsOut lay disk old new
      back-stays = back-as b.file b.became
