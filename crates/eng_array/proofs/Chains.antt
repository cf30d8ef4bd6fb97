-- A chain of cores is a run of worlds, from whichever world the first core shows.
use Rattle.std.proofs.Common.{◌≡◌, ◌<◌, ◌≤◌, ℕ, List, [], ◌∷◌, ◌++◌, true, false, refl, sym, ◌∙◌, ap, subst}
use Rattle.std.specs.Prelude.{reverse}
use Rattle.std.proofs.lemmas.Grind.{reverse_onto}
use Rattle.std.proofs.lemmas.List.{append_assoc, append-nil}
use Rattle.blk_disk.specs.declared.disk.Disk.{Ghosts as DiskGhosts}
use Rattle.blk_disk.proofs.DeviceLaws.{changes-refl, changes-then}
use Rattle.lay_core.specs.Layout.{Shape}
use Rattle.lay_core.specs.declared.layout.Layout.{Ghosts as LayoutGhosts}
use Rattle.eng_world.specs.declared.item.Traced.{Traced}
use Rattle.eng_world.specs.World.{World}
use Rattle.eng_world.specs.Planning.{Graphs}
use Rattle.eng_world.specs.Step.{Step, EventsLead}
use Rattle.eng_state.specs.declared.array.Array.{Array}
use Rattle.eng_state.specs.Shows.{Shows}
use Rattle.eng_array.specs.Tickets.{Goes, Same, keeps_trace, traced, shape_of, graphs_of, items_of, size_at, faults_at, devices_of, DevicesGoOn}
use Rattle.eng_array.proofs.DevicesOn.{devices-later}

module _ {L D : Type 0} (lay : LayoutGhosts L) (disk : DiskGhosts D) where
  -- one chain behind another
  pub goes-append : (first mid last : Array L D) (events more : List Traced) → Goes lay disk first events mid → Goes lay disk mid more last → Goes lay disk first (more ++ events) last
  goes-append first mid last events [] g h = subst (λ (c : Array L D). Goes lay disk first events c) (sym h) g
  goes-append first mid last events (e ∷ more) g h = (h.0, goes-append first mid h.0 events more g h.1, h.2)

  pub same-same : (core : Array L D) → Same lay disk core core
  same-same core = record { layout = refl; shape = refl; graphs = refl; keeps = refl; spare = refl; slots = refl; regions = refl }

  pub goes-same : (old new : Array L D) (events : List Traced) → Goes lay disk old events new → Same lay disk old new
  goes-same old new [] g = subst (λ (c : Array L D). Same lay disk old c) (sym g) (same-same old)
  goes-same old new (e ∷ events) g =
      let before = goes-same old g.0 events g.1 in
      let last = g.2.same in
      record {
        layout = last.layout ∙ before.layout;
        shape = last.shape ∙ before.shape;
        graphs = last.graphs ∙ before.graphs;
        keeps = last.keeps ∙ before.keeps;
        spare = last.spare ∙ before.spare;
        slots = last.slots ∙ before.slots;
        regions = last.regions ∙ before.regions;
      }

  -- each client that was handed in keeps its items
  pub goes-items : (old new : Array L D) (events : List Traced) → Goes lay disk old events new → (c : ℕ) → c < 16 → items_of new c ≡ items_of old c
  goes-items old new [] g c less = ap (λ (core : Array L D). items_of core c) g
  goes-items old new (e ∷ events) g c less = g.2.others c less ∙ goes-items old g.0 events g.1 c less

  pub goes-leads : (old new : Array L D) (events : List Traced) → Goes lay disk old events new → (w : World) → Shows disk old w → (x : World) × Shows disk new x × EventsLead (shape_of lay disk old) (graphs_of old) w events x
  goes-leads old new [] g w f = (w, subst (λ (c : Array L D). Shows disk c w) (sym g) f, refl)
  goes-leads old new (e ∷ events) g w f =
      let mid = goes-leads old g.0 events g.1 w f in
      let last = g.2.leads mid.0 mid.1 in
      let same = goes-same old g.0 events g.1 in
      (last.0, last.1, (mid.0, mid.2, subst (λ (y : Shape). Step y (graphs_of old) e mid.0 last.0) same.shape (subst (λ (gs : Graphs). Step (shape_of lay disk g.0) gs e mid.0 last.0) same.graphs last.2)))

  -- each device goes on
  pub goes-devices : (old new : Array L D) (events : List Traced) → Goes lay disk old events new → DevicesGoOn disk (devices_of old) (devices_of new)
  goes-devices old new [] g = subst (λ (c : Array L D). DevicesGoOn disk (devices_of old) (devices_of c)) (sym g) (changes-refl disk (λ d n. Unit {0}) (devices_of old))
  goes-devices old new (e ∷ events) g = changes-then disk (λ d n. Unit {0}) (devices_of old) (devices_of g.0) (devices_of new) (goes-devices old g.0 events g.1) g.2.devices

  pub goes-later : (old new : Array L D) (events : List Traced) → Goes lay disk old events new → (d : ℕ) → (size_at lay disk new d ≡ size_at lay disk old d) × (faults_at lay disk old d ≤ faults_at lay disk new d)
  goes-later old new events g d = devices-later disk old.devices.slots new.devices.slots (goes-devices old new events g) d

  -- the trace is the chain's events, where it is kept
  pub goes-told : (old new : Array L D) (events : List Traced) → Goes lay disk old events new → keeps_trace old ≡ true → traced new ≡ traced old ++ reverse events
  goes-told old new [] g on = ap traced g ∙ sym (append-nil (traced old))
  goes-told old new (e ∷ events) g on =
      g.2.told ((goes-same old g.0 events g.1).keeps ∙ on) ∙ (ap (λ (l : List Traced). l ++ e ∷ []) (goes-told old g.0 events g.1 on) ∙ (append_assoc (traced old) (reverse events) (e ∷ []) ∙ ap (λ l. traced old ++ l) (sym (reverse_onto events e []))))

  -- and else it stays
  pub goes-untold : (old new : Array L D) (events : List Traced) → Goes lay disk old events new → keeps_trace old ≡ false → traced new ≡ traced old
  goes-untold old new [] g off = ap traced g
  goes-untold old new (e ∷ events) g off = g.2.untold ((goes-same old g.0 events g.1).keeps ∙ off) ∙ goes-untold old g.0 events g.1 off
