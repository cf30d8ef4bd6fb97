-- What is out stays as it left while another node ends.
use Rattle.std.proofs.Common.{◌≡◌, ◌≢◌, ℕ, ◌<◌, List, length, get_or, subst, sym, ap, ◌∙◌, arith, inl, inr, refl, Option, Some, None}
use Rattle.std.specs.Prelude.{slice_set}
use Rattle.std.proofs.lemmas.Bool.{cases_eq}
use Rattle.std.proofs.lemmas.List.{get_or-set_other}
use Rattle.blk_plain.specs.declared.op.Outcome.{Outcome}
use Rattle.blk_disk.specs.declared.disk.Disk.{Ghosts as DiskGhosts}
use Rattle.lay_core.specs.declared.layout.Layout.{Ghosts as LayoutGhosts}
use Rattle.graph_mean.specs.declared.step.Status.TheVariants as status
use Rattle.graph_mean.specs.Graph.{kind_at, vertex_at}
use Rattle.eng_one.specs.Control.{mark_for}
use Rattle.eng_cols.specs.declared.spot.Spot.{Spot}
use Rattle.eng_world.specs.Nodes.{MakesOrUses}
use Rattle.eng_job.specs.declared.job.Job.{Job}
use Rattle.eng_state.specs.declared.array.Array.{Array}
use Rattle.eng_parts.specs.Shelf.{Shelved, IsAway, seen_at}
use Rattle.eng_clients.specs.Desk.{Desk, desk_at, spot_at, with_ended}
use Rattle.eng_state.specs.Sound.{IsSound, IsOutOf}
use Rattle.eng_state.specs.Out.{IsOut}
use Rattle.eng_state.specs.Moves.{NodeEnded, DeviceCame, IsTaken}
use Rattle.eng_clients.proofs.SeatsApart.{seats-differ}
use Rattle.eng_state.proofs.Homing.{home-else}
use Rattle.eng_state.proofs.OutStays.{StaysAt, same-desk, KeepsSeat, seat-kept, job-stays, leaves-takes, leaves-leased}
use Rattle.eng_state.proofs.Putting.{out-below}
use Rattle.eng_state.proofs.Ripe.{runs-below, runs-well, takes-leased}
use Rattle.eng_state.proofs.Shown.{desk-set, desk-else}
use Rattle.eng_state.proofs.StaysOut.{Leaves}

module _ {L D : Type 0} (lay : LayoutGhosts L) (disk : DiskGhosts D) (old new : Array L D) (c n : ℕ) (outcome : Outcome) (sound : IsSound lay disk old) (out : IsOutOf (desk_at old.clients c) n) (f : NodeEnded disk old c n outcome new) where
  abbrev d : Desk
  d = desk_at old.clients c

  -- a node of the client's that isn't the one that ended
  still : (m : ℕ) → m ≢ n → IsOutOf d m → StaysAt d (with_ended d n outcome) m
  still m ne o = record {
    out = record { runs = o.runs; mark = get_or-set_other d.run.marks n m (mark_for outcome) status.Idle ne ∙ o.mark };
    graph = refl;
    lease = refl;
    spots = refl;
  }

  module _ (k m : ℕ) (other : (k ≡ c) × (m ≡ n) → ⊥) (theirs : IsOutOf (desk_at old.clients k) m) where
    abbrev e : Desk
    e = desk_at old.clients k

    desk-stays : StaysAt e (desk_at new.clients k) m
    desk-stays = subst (λ (l : List Desk). StaysAt e (desk_at l k) m) (sym f.clients) (elim (cases_eq k c) [
      | inl is ↦
          let here = still m (λ same. other (is, same)) (subst (λ (j : ℕ). IsOutOf (desk_at old.clients j) m) is theirs) in
          subst (λ (j : ℕ). StaysAt (desk_at old.clients j) (desk_at (slice_set old.clients c (with_ended d n outcome)) j) m) (sym is)
          (subst (λ (a : Desk). StaysAt d a m) (sym (desk-set old.clients c (with_ended d n outcome) (runs-below lay disk old c sound out.runs))) here)
      | inr ne ↦ subst (λ (a : Desk). StaysAt e a m) (sym (desk-else old.clients c k (with_ended d n outcome) ne)) (same-desk e m theirs)
    ])

    -- its device isn't the one that came home
    away-by : (o : Option Spot) → spot_at d n ≡ o → DeviceCame disk o old.devices new.devices → (here : Spot) (x : D) → spot_at e m ≡ Some here → IsAway old.devices here.device x → IsAway new.devices here.device x
    away-by None is came here x spot h = ap (λ (s : Shelved D). seen_at s here.device) came ∙ h
    away-by (Some at) is came here x spot h = ap (λ (s : Shelved D). seen_at s here.device) came.4 ∙ (home-else old.devices at.device came.0 here.device ne ∙ h)
      where
        ne : here.device ≢ at.device
        ne same =
            let one = sound.devices.one k c m n at.device (record { out = theirs; at = here; spot = spot; is = same }) (record { out = out; at = at; spot = is; is = refl }) in
            other (one.0, one.1)

    -- nor its buffers
    seat-stays : (b : ℕ) → Leaves (kind_at e.run.graph m) (vertex_at e.run.graph m).sources b → KeepsSeat old.pool new.pool e.lease b
    seat-stays b leaves = seat-kept old.pool new.pool e.lease b (f.pool.others (get_or e.lease b 0) apart)
      where
        mine : (a : ℕ) → MakesOrUses d.run.graph n a → a < length d.lease
        mine a takes =
            let w = runs-well lay disk old c sound out.runs in
            let marks = out-below d.run.marks n out.mark in let many = w.marks in
            takes-leased (lay.shape old.layout) old.graphs.items old.pool d w n (omega (arith, marks, many)) a takes

        apart : IsTaken d n (get_or e.lease b 0) → ⊥
        apart (a, takes, seat) =
            let in_lease = leaves-leased lay disk old sound k m theirs b leaves in
            elim (cases_eq k c) [
              | inl is ↦
                  let w = runs-well lay disk old k sound theirs.runs in
                  let lease = subst (λ (j : ℕ). get_or (desk_at old.clients j).lease a 0 ≡ get_or e.lease b 0) (sym is) seat in
                  let same = seats-differ old.pool e.lease w.lease a b (subst (λ (j : ℕ). a < length (desk_at old.clients j).lease) (sym is) (mine a takes)) in_lease lease in
                  let here : MakesOrUses (desk_at old.clients k).run.graph n b = subst (λ (i : ℕ). MakesOrUses (desk_at old.clients k).run.graph n i) same (subst (λ (j : ℕ). MakesOrUses (desk_at old.clients j).run.graph n a) (sym is) takes) in
                  other (is, sound.seats.one k m n b theirs (subst (λ (j : ℕ). IsOutOf (desk_at old.clients j) n) (sym is) out) (leaves-takes e.run.graph m (kind_at e.run.graph m) refl b leaves) here)
              | inr ne ↦ sound.well.apart k c ne b a in_lease (mine a takes) (sym seat)
            ]

  pub end-stays : (job : Job D) → ((job.client ≡ c) × (job.node ≡ n) → ⊥) → IsOut disk lay old job → IsOut disk lay new job
  end-stays job other o =
      job-stays lay disk old new (ap lay.shape f.layout) f.pool.unit job o
      (away-by job.client job.node other o.is.out (spot_at d n) refl f.devices)
      (desk-stays job.client job.node other o.is.out)
      (seat-stays job.client job.node other o.is.out)
