-- What is out stays as it left while another node is fired.
use Rattle.std.proofs.Common.{◌≡◌, ℕ, ◌<◌, List, length, get_or, subst, sym, ap, ◌∙◌, arith, inl, inr, refl, Option, Some, None}
use Rattle.std.specs.Prelude.{slice_set}
use Rattle.std.proofs.lemmas.Bool.{cases_eq}
use Rattle.blk_disk.specs.declared.disk.Disk.{Ghosts as DiskGhosts}
use Rattle.lay_core.specs.Layout.{Shape}
use Rattle.lay_core.specs.declared.layout.Layout.{Ghosts as LayoutGhosts}
use Rattle.graph_mean.specs.declared.step.Status.TheVariants as status
use Rattle.graph_mean.specs.Graph.{View, kind_at, vertex_at}
use Rattle.eng_one.specs.Control.{mark_of}
use Rattle.eng_cols.specs.declared.spot.Spot.{Spot}
use Rattle.eng_job.specs.declared.job.Job.{Job}
use Rattle.eng_state.specs.declared.array.Array.{Array}
use Rattle.eng_parts.specs.Shelf.{Shelved, IsAway, seen_at}
use Rattle.eng_clients.specs.Desk.{Desk, desk_at, spot_at, with_fired}
use Rattle.eng_state.specs.Sound.{IsSound, IsOutOf, RunsWell}
use Rattle.eng_state.specs.Can.{CanFire, place_now}
use Rattle.eng_state.specs.Moves.{Fired, DeviceLeft}
use Rattle.eng_state.specs.Out.{IsOut, IsOutIn, IsJobOf, IsWork}
use Rattle.eng_state.proofs.Leaving.{left-else}
use Rattle.eng_state.proofs.FiringSound.{home-away}
use Rattle.eng_state.proofs.Marking as marking
use Rattle.eng_state.proofs.Running.{runs_below}
use Rattle.eng_state.proofs.StaysOut.{work-stays}

away-left : {D : Type 0} → (old new : Shelved D) (o : Option Spot) → DeviceLeft o old new → (k : ℕ) (x : D) → IsAway old k x → IsAway new k x
away-left old new None e k x h = ap (λ s. seen_at s k) e ∙ h
away-left {D} old new (Some at) e k x h = ap (λ (s : Shelved D). seen_at s k) e.2 ∙ elim (cases_eq k at.device) [
  | inl is ↦ absurd (home-away (seen_at old k) e.0 x (ap (seen_at old) is ∙ e.1) h)
  | inr ne ↦ left-else old at.device e.0 k ne ∙ h
]

module _ {L D : Type 0} (lay : LayoutGhosts L) (disk : DiskGhosts D) (old new : Array L D) (c n : ℕ) (sound : IsSound lay disk old) (can : CanFire lay old c n) (f : Fired lay old c n new) where
  abbrev y : Shape
  y = lay.shape old.layout

  abbrev d : Desk
  d = desk_at old.clients c

  abbrev place : Option Spot
  place = place_now lay old c n

  abbrev after : List Desk
  after = slice_set old.clients c (with_fired d n place)

  below17 : c < 17
  below17 = runs_below y old.graphs.items old.pool old.clients c sound.well can.runs

  below : c < length old.clients
  below = let all = sound.well.all in let h = below17 in omega (arith, all, h)

  well : RunsWell y old.graphs.items old.pool d
  well = (sound.well.each c below17).runs can.runs

  marks : n < length d.run.marks
  marks = let e = well.marks in let h = can.ready.below in omega (arith, e, h)

  spots : n < length d.spots
  spots = let e = (sound.well.each c below17).spots in let h = can.ready.below in let few = well.few in omega (arith, e, h, few)

  not-it : (k m : ℕ) → IsOutOf (desk_at old.clients k) m → (k ≡ c) × (m ≡ n) → ⊥
  not-it k m out e =
      let o : mark_of d.run n ≡ status.Out = subst (λ (j : ℕ). mark_of (desk_at old.clients j).run n ≡ status.Out) e.0 (subst (λ (i : ℕ). mark_of (desk_at old.clients k).run i ≡ status.Out) e.1 out.mark) in
      let z : status.Idle ≡ status.Out = sym can.ready.idle ∙ o in let u : ⊥ = cc in u

  job-stays : (job : Job D) → IsJobOf disk y old.devices old.pool (desk_at old.clients job.client) job.node job.work job.sources.items → IsJobOf disk y new.devices new.pool (desk_at after job.client) job.node job.work job.sources.items
  job-stays job h =
      let e : Desk = desk_at old.clients job.client in
      let e2 : Desk = desk_at after job.client in
      let graph : e2.run.graph ≡ e.run.graph = marking.same old.clients c n place below can.runs marks spots can.ready.idle (λ q. q.run.graph) refl job.client in
      let lease : e2.lease ≡ e.lease = marking.same old.clients c n place below can.runs marks spots can.ready.idle (λ q. q.lease) refl job.client in
      let spot : spot_at e2 job.node ≡ spot_at e job.node = marking.spot-other old.clients c n place below can.runs marks spots can.ready.idle job.client job.node (not-it job.client job.node h.out) in
      let work = work-stays disk y old.devices new.devices old.pool new.pool e.run.graph e.lease f.pool.unit (spot_at e job.node) (kind_at e.run.graph job.node) (vertex_at e.run.graph job.node).sources job.work job.sources.items
      (λ here x is away. away-left old.devices new.devices place f.devices here.device x away)
      (λ b leaves out. ((f.pool.out (get_or e.lease b 0)).1 (inl out), f.pool.bytes (get_or e.lease b 0)))
      h.work in
      record {
        out = marking.still-out old.clients c n place below can.runs marks spots can.ready.idle job.client job.node h.out;
        work = subst (λ (g : View). IsWork disk y new.devices new.pool g e2.lease (spot_at e2 job.node) (kind_at g job.node) (vertex_at g job.node).sources job.work job.sources.items) (sym graph)
            (subst (λ (l : List ℕ). IsWork disk y new.devices new.pool e.run.graph l (spot_at e2 job.node) (kind_at e.run.graph job.node) (vertex_at e.run.graph job.node).sources job.work job.sources.items) (sym lease)
            (subst (λ (o : Option Spot). IsWork disk y new.devices new.pool e.run.graph e.lease o (kind_at e.run.graph job.node) (vertex_at e.run.graph job.node).sources job.work job.sources.items) (sym spot) work));
      }

  pub fire-stays : (job : Job D) → IsOut disk lay old job → IsOut disk lay new job
  fire-stays job o =
      subst (λ (v : Shape). IsOutIn disk v new.clients new.devices new.pool job) (sym (ap lay.shape f.layout))
      (subst (λ (l : List Desk). IsOutIn disk y l new.devices new.pool job) (sym f.clients) (record { is = job-stays job o.is; room = o.room }))
