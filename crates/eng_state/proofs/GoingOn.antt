-- What the end of a node leaves of the core, whichever node it is.
use Rattle.std.proofs.Common.{◌≡◌, ℕ, ◌<◌, List, length, subst, sym, ap, ◌∙◌, inl, inr, refl}
use Rattle.std.specs.Prelude.{slice_set, get_or, false}
use Rattle.std.proofs.lemmas.List.{length-set}
use Rattle.std.proofs.lemmas.Bool.{cases_eq}
use Rattle.blk_plain.specs.declared.op.Outcome.{Outcome}
use Rattle.blk_disk.specs.declared.disk.Disk.{Ghosts as DiskGhosts}
use Rattle.lay_core.specs.Layout.{Shape}
use Rattle.lay_core.specs.declared.layout.Layout.{Ghosts as LayoutGhosts}
use Rattle.eng_cols.specs.Cols.{ColumnState}
use Rattle.eng_world.specs.declared.item.Reply.{Reply}
use Rattle.eng_clients.specs.declared.stage.Stage.{Stage}
use Rattle.eng_clients.specs.declared.stage.Stage.TheVariants.{Nothing, Waits, Runs}
use Rattle.eng_state.specs.declared.array.Array.{Array}
use Rattle.eng_cols.specs.declared.spot.Spot.{Spot}
use Rattle.eng_state.specs.Bad.{FailedIfAlive, struck_lost}
use Rattle.eng_clients.specs.Desk.{Desk, desk_at, with_ended, with_reply}
use Rattle.eng_state.specs.Failing.{suffered_in, FailedBy}
use Rattle.buf_pool.specs.Pool.{PoolView, seat_at, put}
use Rattle.eng_state.specs.GoesOn.{ServesOn, GoesOn}
use Rattle.eng_state.specs.Moves.{CameHome}
use Rattle.eng_log.specs.Log.{Logged}
use Rattle.eng_state.specs.Sound.{IsSound, IsOutOf}
use Rattle.eng_state.proofs.Ripe.{runs-below}
use Rattle.eng_state.proofs.Shown.{desk-set, desk-else}
use Rattle.eng_state.specs.Restored.{StripeEnds}

-- ## A desk

pub serves-same : (d : Desk) → ServesOn d d
serves-same d = record { items = refl; ran = λ h. h; replies = λ h. refl; map = λ h. refl; lease = λ h. refl; graph = λ h. refl }

pub serves-further : (a b e : Desk) → ServesOn a b → ServesOn b e → ServesOn a e
serves-further a b e f g = record {
  items = g.items ∙ f.items;
  ran = λ h. f.ran (g.ran h);
  replies = λ h. g.replies h ∙ f.replies (g.ran h);
  map = λ h. g.map h ∙ f.map (g.ran h);
  lease = λ h. g.lease h ∙ f.lease (g.ran h);
  graph = λ h. g.graph h ∙ f.graph (g.ran h);
}

pub serves-ended : (d : Desk) (n : ℕ) (o : Outcome) → ServesOn d (with_ended d n o)
serves-ended d n o = record { items = refl; ran = λ h. h; replies = λ h. refl; map = λ h. refl; lease = λ h. refl; graph = λ h. refl }

not-runs : Nothing ≡ Runs → ⊥
not-runs h = let u : ⊥ = cc in u

pub serves-replied : (d e : Desk) (r : Reply) → e.items ≡ d.items → ServesOn d (with_reply e r)
serves-replied d e r items = record { items = items; ran = λ h. absurd (not-runs h); replies = λ h. absurd (not-runs h); map = λ h. absurd (not-runs h); lease = λ h. absurd (not-runs h); graph = λ h. absurd (not-runs h) }

pub serves-suffered : (y : Shape) (cols : List ColumnState) (k : ℕ) (d : Desk) (t : Stage) → ServesOn d (suffered_in t y cols k d)
serves-suffered y cols k d Nothing = serves-same d
serves-suffered y cols k d Waits = serves-same d
serves-suffered y cols k d Runs = record { items = refl; ran = λ h. h; replies = λ h. refl; map = λ h. refl; lease = λ h. refl; graph = λ h. refl }

-- ## A core

-- a buffer that comes home has its seat already
pub put-seats : (old new : PoolView) (k : ℕ) (bytes : List ℕ) → new ≡ put old k bytes → length new.seats ≡ length old.seats
put-seats old new k bytes is = ap (λ (p : PoolView). length p.seats) is ∙ length-set old.seats k (record (seat_at old.seats k) { out = false; bytes = bytes })

pub came-seats : {L D : Type 0} {old new : Array L D} {c n b : ℕ} {at : Spot} {disk : D} {bytes : List ℕ} {outcome : Outcome} → CameHome old c n b at disk bytes outcome new → length new.pool.seats ≡ length old.pool.seats
came-seats {L} {D} {old} {new} {c} {n} {b} {at} {disk} {bytes} h = put-seats old.pool new.pool (get_or (desk_at old.clients c).lease b 0) bytes h.pool

pub same-seats : {old new : PoolView} → new ≡ old → length new.seats ≡ length old.seats
same-seats is = ap (λ (p : PoolView). length p.seats) is

module _ {L D : Type 0} where
  pub goes-same : (s : Array L D) → GoesOn s s
  goes-same s = record { layout = refl; graphs = refl; spare = refl; there = refl; desks = λ k. serves-same (desk_at s.clients k) }

  pub goes-further : (a b e : Array L D) → GoesOn a b → GoesOn b e → GoesOn a e
  goes-further a b e f g = record {
    layout = g.layout ∙ f.layout;
    graphs = g.graphs ∙ f.graphs;
    spare = g.spare ∙ f.spare;
    there = g.there ∙ f.there;
    desks = λ k. serves-further (desk_at a.clients k) (desk_at b.clients k) (desk_at e.clients k) (f.desks k) (g.desks k);
  }

  -- the log is another
  pub goes-logged : (old mid new : Array L D) (log : Logged) → new ≡ record mid { log = log } → GoesOn old mid → GoesOn old new
  goes-logged old mid new log is g = subst (λ (s : Array L D). GoesOn old s) (sym is) (record { layout = g.layout; graphs = g.graphs; spare = g.spare; there = g.there; desks = g.desks })

  -- one client is
  pub goes-one : (old new : Array L D) (c : ℕ) (d : Desk) → c < length old.clients → ServesOn (desk_at old.clients c) d → new.clients ≡ slice_set old.clients c d → new.layout ≡ old.layout → new.graphs ≡ old.graphs → new.spare ≡ old.spare → length new.pool.seats ≡ length old.pool.seats → GoesOn old new
  goes-one old new c d below s clients layout graphs spare there = record {
    layout = layout;
    graphs = graphs;
    spare = spare;
    there = there;
    desks = λ k. subst (λ (l : List Desk). ServesOn (desk_at old.clients k) (desk_at l k)) (sym clients) (elim (cases_eq k c) [
      | inl here ↦ subst (λ (j : ℕ). ServesOn (desk_at old.clients j) (desk_at (slice_set old.clients c d) j)) (sym here) (subst (λ (e : Desk). ServesOn (desk_at old.clients c) e) (sym (desk-set old.clients c d below)) s)
      | inr ne ↦ subst (λ (e : Desk). ServesOn (desk_at old.clients k) e) (sym (desk-else old.clients c k d ne)) (serves-same (desk_at old.clients k))
    ]);
  }

  module _ (lay : LayoutGhosts L) (disk : DiskGhosts D) (old new : Array L D) (c n : ℕ) (sound : IsSound lay disk old) (out : IsOutOf (desk_at old.clients c) n) where
    -- a node has ended
    pub goes-ended : (o : Outcome) → new.clients ≡ slice_set old.clients c (with_ended (desk_at old.clients c) n o) → new.layout ≡ old.layout → new.graphs ≡ old.graphs → new.spare ≡ old.spare → length new.pool.seats ≡ length old.pool.seats → GoesOn old new
    goes-ended o clients layout graphs spare there = goes-one old new c (with_ended (desk_at old.clients c) n o) (runs-below lay disk old c sound out.runs) (serves-ended (desk_at old.clients c) n o) clients layout graphs spare there

    -- a terminator has
    pub goes-terminated : (o : Outcome) (r : Reply) → new.clients ≡ slice_set old.clients c (with_reply (with_ended (desk_at old.clients c) n o) r) → new.layout ≡ old.layout → new.graphs ≡ old.graphs → new.spare ≡ old.spare → length new.pool.seats ≡ length old.pool.seats → GoesOn old new
    goes-terminated o r clients layout graphs spare there = goes-one old new c (with_reply (with_ended (desk_at old.clients c) n o) r) (runs-below lay disk old c sound out.runs) (serves-replied (desk_at old.clients c) (with_ended (desk_at old.clients c) n o) r refl) clients layout graphs spare there

  -- a column has failed, or was dead
  pub goes-failed : (lay : LayoutGhosts L) (old new : Array L D) (k : ℕ) → FailedBy lay old k new → GoesOn old new
  goes-failed lay old new k f = record {
    layout = ap (λ (s : Array L D). s.layout) f.is;
    graphs = ap (λ (s : Array L D). s.graphs) f.is;
    spare = ap (λ (s : Array L D). s.spare) f.is;
    there = ap (λ (s : Array L D). length s.pool.seats) f.is;
    desks = λ c. subst (λ (e : Desk). ServesOn (desk_at old.clients c) e) (sym (f.desks.each c)) (serves-suffered (lay.shape old.layout) old.cols.states k (desk_at old.clients c) (desk_at old.clients c).stage);
  }

  pub goes-if-alive : (lay : LayoutGhosts L) (old new : Array L D) (k : ℕ) → FailedIfAlive lay old k new → GoesOn old new
  goes-if-alive lay old new k (inl dead) = subst (λ (s : Array L D). GoesOn old s) (sym dead.1) (goes-same old)
  goes-if-alive lay old new k (inr failed) = goes-failed lay old new k failed.1

  -- a device has failed and its column is dead
  pub goes-struck : (old new : Array L D) (at : Spot) → new ≡ struck_lost old at → GoesOn old new
  goes-struck old new at is = subst (λ (s : Array L D). GoesOn old s) (sym is) (record { layout = refl; graphs = refl; spare = refl; there = refl; desks = λ k. serves-same (desk_at old.clients k) })

  -- a stripe is done, or not
  pub goes-stripe : (y : Shape) (old new : Array L D) (c : ℕ) → StripeEnds y old c new → GoesOn old new
  goes-stripe y old new c (inl done) = subst (λ (s : Array L D). GoesOn old s) (sym done.1.rest) (record { layout = refl; graphs = refl; spare = refl; there = refl; desks = λ k. serves-same (desk_at old.clients k) })
  goes-stripe y old new c (inr none) = subst (λ (s : Array L D). GoesOn old s) (sym none.1) (goes-same old)

  pub stripe-clients : (y : Shape) (old new : Array L D) (c : ℕ) → StripeEnds y old c new → new.clients ≡ old.clients
  stripe-clients y old new c (inl done) = ap (λ (s : Array L D). s.clients) done.1.rest
  stripe-clients y old new c (inr none) = ap (λ (s : Array L D). s.clients) none.1
