-- What a device has failed by, along a chain of events.
use Rattle.std.proofs.Common.{◌≡◌, ◌≤◌, inl, inr, ℕ, List, [], ◌∷◌, true, false, slice_get, refl, sym, ◌∙◌, ap, subst, arith}
use Rattle.std.specs.Prelude.{Contains}
use Rattle.std.proofs.lemmas.Bool.{cases_Bool}
use Rattle.blk_disk.specs.Disk.{Rose}
use Rattle.blk_disk.specs.declared.disk.Disk.{Ghosts as DiskGhosts}
use Rattle.lay_core.specs.Layout.{Shape}
use Rattle.lay_core.specs.declared.layout.Layout.{Ghosts as LayoutGhosts}
use Rattle.eng_world.specs.declared.item.Item.{Item}
use Rattle.eng_world.specs.declared.item.Item.TheVariants as item
use Rattle.eng_world.specs.declared.item.Reply.{Reply}
use Rattle.eng_world.specs.declared.item.Traced.{Traced}
use Rattle.eng_world.specs.World.{World}
use Rattle.eng_world.specs.Planning.{Graphs}
use Rattle.eng_world.specs.Continuing.{Continues}
use Rattle.eng_world.specs.Step.{Step, EventsLead}
use Rattle.eng_world.proofs.Caused.{tail-has, head-has, front-get, item-still}
use Rattle.eng_world.proofs.Continuing.{step-continues}
use Rattle.eng_state.specs.declared.array.Array.{Array}
use Rattle.eng_array.specs.Blamed.{IsBlamed, rose, asked, outside}
use Rattle.eng_state.specs.Shows.{Shows}
use Rattle.eng_array.specs.Tickets.{Happens, Goes, shape_of, graphs_of, failed_at, faults_at}
use Rattle.eng_array.proofs.Causing.{had-on, run-had, FailsBy, by_node, by_item, by_call, step-fails}
use Rattle.eng_array.proofs.Chains.{goes-same, goes-later}
use Rattle.eng_array.proofs.DevicesOn.{devices-later}

-- a count that rose and goes on has risen
rose-further : (a b c : ℕ) → Rose a b → b ≤ c → Rose a c
rose-further a b c r l = omega (arith, r, l)

rose-before : (a b c : ℕ) → a ≤ b → Rose b c → Rose a c
rose-before a b c l r = omega (arith, l, r)

module _ {L D : Type 0} (lay : LayoutGhosts L) (disk : DiskGhosts D) (old new : Array L D) where
  -- in each world that the last core shows
  pub blamed-shown : (events : List Traced) (w x z : World) (d : ℕ) → Shows disk new x → Shows disk new z → IsBlamed lay disk old new events w x d → IsBlamed lay disk old new events w z d
  blamed-shown events w x z d s t (rose r) = rose r
  blamed-shown events w x z d s t (asked id column has it reply had) = asked id column has
      (ap (λ (l : List Item). slice_get l id.index) ((t.clients id.client).items ∙ sym (s.clients id.client).items) ∙ it)
      (ap (λ (l : List Reply). slice_get l id.index) ((t.clients id.client).replies ∙ sym (s.clients id.client).replies) ∙ reply)
      had
  blamed-shown events w x z d s t (outside column has had) = outside column has had

  -- after one event more
  pub blamed-on : (mid : Array L D) (e : Traced) (events : List Traced) (w m x : World) (d : ℕ) → Happens lay disk e mid new → Continues m x → IsBlamed lay disk old mid events w m d → IsBlamed lay disk old new (e ∷ events) w x d
  blamed-on mid e events w m x d h go (rose r) = rose (rose-further (faults_at lay disk old d) (faults_at lay disk mid d) (faults_at lay disk new d) r (devices-later disk mid.devices.slots new.devices.slots h.devices d).1)
  blamed-on mid e events w m x d h go (asked id column has it reply had) = asked id column (tail-has e events _ has) (item-still m x go id (item.Fail column) it)
      (let more = go.replies id.client in ap (λ (l : List Reply). slice_get l id.index) more.1 ∙ front-get (m.clients id.client).replies more.0 id.index _ reply)
      (had-on w events e column d had)
  blamed-on mid e events w m x d h go (outside column has had) = outside column (tail-has e events _ has) (had-on w events e column d had)

  -- what the last event of a chain marks as failed
  pub blamed-last : (mid : Array L D) (e : Traced) (events : List Traced) (w m x : World) (d : ℕ) → Happens lay disk e mid new → Step (shape_of lay disk mid) (graphs_of mid) e m x → EventsLead (shape_of lay disk old) (graphs_of old) w events m
      → faults_at lay disk old d ≤ faults_at lay disk mid d → failed_at mid d ≡ false → failed_at new d ≡ true → FailsBy e m x d → IsBlamed lay disk old new (e ∷ events) w x d
  blamed-last mid e events w m x d h step run later before after (by_node bad) = rose (rose-before (faults_at lay disk old d) (faults_at lay disk mid d) (faults_at lay disk new d) later (h.blame bad d before after))
  blamed-last mid e events w m x d h step run later before after (by_item id column is it reply has) =
      asked id column (subst (Contains (e ∷ events)) is (head-has e events)) (item-still m x (step-continues (shape_of lay disk mid) (graphs_of mid) e m x step) id (item.Fail column) it) reply
      (had-on w events e column d (run-had (shape_of lay disk old) (graphs_of old) w events m run column d has))
  blamed-last mid e events w m x d h step run later before after (by_call column is has) =
      outside column (subst (Contains (e ∷ events)) is (head-has e events)) (had-on w events e column d (run-had (shape_of lay disk old) (graphs_of old) w events m run column d has))

module _ {L D : Type 0} (lay : LayoutGhosts L) (disk : DiskGhosts D) where
  -- a chain is a run of worlds, by which each device that has failed has failed by something
  pub goes-blames : (old new : Array L D) (events : List Traced) → Goes lay disk old events new → (w : World) → Shows disk old w
      → (x : World) × Shows disk new x × EventsLead (shape_of lay disk old) (graphs_of old) w events x × ((d : ℕ) → failed_at old d ≡ false → failed_at new d ≡ true → IsBlamed lay disk old new events w x d)
  goes-blames old new [] g w s = (
    w,
    subst (λ (c : Array L D). Shows disk c w) (sym g) s,
    refl,
    λ d before after. absurd (let z : true ≡ false = sym after ∙ (ap (λ (c : Array L D). failed_at c d) g ∙ before) in let u : ⊥ = cc in u),
  )
  goes-blames old new (e ∷ events) g w s =
      let mid = goes-blames old g.0 events g.1 w s in
      let last = g.2.leads mid.0 mid.1 in
      let same = goes-same lay disk old g.0 events g.1 in (
        last.0,
        last.1,
        (mid.0, mid.2, subst (λ (y : Shape). Step y (graphs_of old) e mid.0 last.0) same.shape (subst (λ (gs : Graphs). Step (shape_of lay disk g.0) gs e mid.0 last.0) same.graphs last.2)),
        λ d before after. elim (cases_Bool (failed_at g.0 d)) [
          | inl was ↦ blamed-on lay disk old new g.0 e events w mid.0 last.0 d g.2 (step-continues (shape_of lay disk g.0) (graphs_of g.0) e mid.0 last.0 last.2) (mid.3 d before was)
          | inr still ↦ blamed-last lay disk old new g.0 e events w mid.0 last.0 d g.2 last.2 mid.2 (goes-later lay disk old g.0 events g.1 d).1 still after
              (step-fails (shape_of lay disk g.0) (graphs_of g.0) mid.0 last.0 d (mid.1.failed d ∙ still) (last.1.failed d ∙ after) e last.2)
        ],
      )

  pub blamed-in : (old new : Array L D) (events : List Traced) → Goes lay disk old events new → (w x : World) → Shows disk old w → Shows disk new x → (d : ℕ) → failed_at old d ≡ false → failed_at new d ≡ true → IsBlamed lay disk old new events w x d
  blamed-in old new events g w x s t d before after =
      let l = goes-blames old new events g w s in
      blamed-shown lay disk old new events w l.0 x d l.1 t (l.3 d before after)
