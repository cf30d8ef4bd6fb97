-- What is out stays as it left, where one client changes that has no node out.
use Rattle.std.proofs.Common.{◌≡◌, ◌≢◌, ℕ, ◌<◌, List, length, get_or, subst, sym, ap, refl}
use Rattle.std.specs.Prelude.{Contains, slice_set}
use Rattle.blk_disk.specs.declared.disk.Disk.{Ghosts as DiskGhosts}
use Rattle.buf_pool.specs.Pool as pool
use Rattle.lay_core.specs.declared.layout.Layout.{Ghosts as LayoutGhosts}
use Rattle.eng_job.specs.declared.job.Job.{Job}
use Rattle.eng_world.specs.declared.item.Reply.{Reply}
use Rattle.eng_clients.specs.declared.stage.Stage.TheVariants.{Runs}
use Rattle.eng_state.specs.declared.array.Array.{Array}
use Rattle.eng_parts.specs.Shelf.{Shelved, IsAway}
use Rattle.eng_clients.specs.Desk.{Desk, desk_at}
use Rattle.eng_state.specs.Sound.{IsSound, IsOutOf}
use Rattle.eng_state.specs.Out.{IsOut}
use Rattle.eng_state.specs.Moves.{Released}
use Rattle.eng_state.specs.Taken.{SameRest}
use Rattle.eng_state.proofs.OutStays.{StaysAt, one-desk, seat-kept, out-stays, seats-stay}

-- what is out in one core is so in the other
abbrev pub KeepsOut : {L D : Type 0} → LayoutGhosts L → DiskGhosts D → Array L D → Array L D → Type 0
KeepsOut {L} {D} lay disk old new = (job : Job D) → IsOut disk lay old job → IsOut disk lay new job

module _ {L D : Type 0} (lay : LayoutGhosts L) (disk : DiskGhosts D) (old : Array L D) where
  -- where clients alone change
  pub clients-stay : (desks : List Desk) → ((k n : ℕ) → IsOutOf (desk_at old.clients k) n → StaysAt (desk_at old.clients k) (desk_at desks k) n) → KeepsOut lay disk old (record old { clients = desks })
  clients-stay desks stays = out-stays lay disk old (record old { clients = desks }) refl refl (λ k x h. h) stays (λ k n out b leaves. seat-kept old.pool old.pool (desk_at old.clients k).lease b refl)

  -- ## A client that has no node out

  -- it may become any other
  pub calm-set : (c : ℕ) (d : Desk) → ((n : ℕ) → IsOutOf (desk_at old.clients c) n → ⊥) → c < length old.clients → (k n : ℕ) → IsOutOf (desk_at old.clients k) n → StaysAt (desk_at old.clients k) (desk_at (slice_set old.clients c d) k) n
  calm-set c d calm below = one-desk old.clients c d (λ n out. absurd (calm n out)) below

  module _ (c : ℕ) (sound : IsSound lay disk old) (new : Array L D) (rest : SameRest lay old new) (now : Desk) (clients : new.clients ≡ slice_set old.clients c now) (below : c < length old.clients) (calm : (n : ℕ) → IsOutOf (desk_at old.clients c) n → ⊥) where
    desks-stay : (k n : ℕ) → IsOutOf (desk_at old.clients k) n → StaysAt (desk_at old.clients k) (desk_at new.clients k) n
    desks-stay k n out = subst (λ (l : List Desk). StaysAt (desk_at old.clients k) (desk_at l k) n) (sym clients) (calm-set c now calm below k n out)

    away-stays : (k : ℕ) (x : D) → IsAway old.devices k x → IsAway new.devices k x
    away-stays k x h = subst (λ (s : Shelved D). IsAway s k x) (sym rest.devices) h

    -- where the pool is as it was
    pub pool-stays : new.pool ≡ old.pool → KeepsOut lay disk old new
    pool-stays same = out-stays lay disk old new (ap lay.shape rest.layout) (ap (λ (p : pool.PoolView). p.unit) same) away-stays desks-stay
        (λ k n out b leaves. seat-kept old.pool new.pool (desk_at old.clients k).lease b (ap (λ (p : pool.PoolView). pool.seat_at p.seats (get_or (desk_at old.clients k).lease b 0)) same))

    -- where the seats of one lease alone have changed
    pub lease-stays : (lease : List ℕ) → new.pool.unit ≡ old.pool.unit → ((k : ℕ) → k ≢ c → (desk_at old.clients k).stage ≡ Runs → pool.AreApart (desk_at old.clients k).lease lease) → ((k : ℕ) → ¬ Contains lease k → pool.seat_at new.pool.seats k ≡ pool.seat_at old.pool.seats k) → KeepsOut lay disk old new
    lease-stays lease unit apart others = out-stays lay disk old new (ap lay.shape rest.layout) unit away-stays desks-stay (seats-stay lay disk old sound new.pool c lease calm apart others)

  -- a client's stripes and buffers are given back, and its item is replied, after the last of its nodes has ended
  pub released-stays : (c : ℕ) (sound : IsSound lay disk old) (r : Reply) (new : Array L D) → Released old c r new → c < length old.clients → ((n : ℕ) → IsOutOf (desk_at old.clients c) n → ⊥) → KeepsOut lay disk old new
  released-stays c sound r new f below calm =
      lease-stays c sound new (record { layout = f.layout; cols = f.cols; devices = f.devices; lists = f.lists; graphs = f.graphs; lost = f.lost; spare = f.spare }) _ f.clients below calm (desk_at old.clients c).lease f.pool.unit (λ k ne runs. sound.well.apart k c ne) f.pool.others
